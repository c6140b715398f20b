-- What is read under one step, and what is not.
use Rattle.std.proofs.Common.{rules}
use Rattle.std.proofs.Common.{◌≡◌, inl, inr, false, ℕ, ◌+◌, true, List, Option, Some, None}
use Rattle.std.proofs.Common.{Result, Ok, Err, refl, sym, ap, ◌∙◌, subst, arith, IfSome, Bool}
use Rattle.cbor4ii_rw.specs.View.{View}
use Rattle.cbor4ii_rw.specs.Reader.{ReaderFails, StepsIn, KeepsAllButBudget, step_back}
use Rattle.cbor4ii_rw.specs.declared.error.DecodeError.{DecodeError}
use Rattle.cbor4ii.specs.declared.serde.de.accessor.Left.{Left}
use Rattle.cbor4ii.specs.Accessing.{OpensParts, left_after}
use Rattle.cbor4ii.specs.Stepped.{Stepped, RejectsStepped, stepped_format}
use Rattle.cbor4ii_items.specs.InputError.{InputError, input_error_of}
use Rattle.cbor4ii_items.specs.Decoding.{Sound, Complete, Rejects, Format, Decodes}
use Rattle.cbor4ii_items.specs.Budget.{CostFits}
use Rattle.cbor4ii_items.specs.Decoding.{DecodesIf}
use Rattle.cbor4ii_items.specs.Lengths.{length_format}
use Rattle.cbor4ii_items.specs.Moves.{Moves}
use Rattle.cbor4ii_items.specs.Laws.Answering.{if_some}
use Rattle.cbor4ii_items.specs.Laws.UnderStep.{step_again, fits_step, fits_inside, stepped_at}
use Rattle.cbor4ii_items.specs.Laws.UnderStep.{exact_step, moves_stepped}
use Rattle.cbor4ii_items.specs.Laws.Calls.{rejects_as, ok as all_ok, of_exact, decodes_exactly}
use Rattle.cbor4ii_rw.specs.declared.error.DecodeError.TheVariants.{DepthOverflow}
use denote.Ref.{Bor}

-- the reader failed under the step that was taken, and the step is given back
pub breaks_stepped : {a b c d : View} → StepsIn a.budget b.budget true → KeepsAllButBudget a b
    → ReaderFails b c → d.budget ≡ step_back c.budget → KeepsAllButBudget c d → ReaderFails a d
breaks_stepped {a = a} {b = b} {d = d} takes i k gives o = search (rules, step_again)

-- an error under the step that was taken
pub complete_stepped : {V E : Type 0} (reads : List ℕ → V → ℕ → ℕ → Type 0) {a b : View}
    {e : DecodeError E} → StepsIn a.budget b.budget true → KeepsAllButBudget a b →
    Complete reads b e
    → Complete (Stepped reads) a e
complete_stepped reads {a = a} {b = b} {e = e} takes inward w = record {
  at = λ xs known. if_some (input_error_of e)
      (λ none v n c read fits. none v n read.0 read.1 (fits_inside a.budget b.budget read.0 takes
      (subst (λ k. CostFits k a.budget) read.2 fits))) (w.at xs (inward.known ∙ known));
}

-- a reading under the step that was taken
pub sound_stepped : {V : Type 0} (reads : List ℕ → V → ℕ → ℕ → Type 0) {a b c d : View} {v : V}
    → StepsIn a.budget b.budget true → KeepsAllButBudget a b → KeepsAllButBudget c d
    → Sound reads b c v → Sound (Stepped reads) a d v
sound_stepped reads {a = a} {b = b} takes inward outward w = record {
  at = λ xs known.
      let t = w.at xs (inward.known ∙ known) in
      record {
        count = t.count;
        cost = 1 + t.cost;
        read = (t.cost, t.read, refl);
        fits = fits_step a.budget b.budget t.cost takes t.fits;
        left = outward.known ∙ t.left;
      };
}

pub rejects_stepped : {E : Type 0} (name : List ℕ)
    (rejects : List ℕ → Option ℕ → InputError → List ℕ → Type 0) {a b c d : View} {e :
    DecodeError E}
    → StepsIn a.budget b.budget true → KeepsAllButBudget a b → KeepsAllButBudget c d
    → Rejects rejects b c e → Rejects (RejectsStepped name rejects) a d e
rejects_stepped name rejects {a = a} {b = b} {c = c} {d = d} {e = e} takes inward outward s =
    record {
      at = λ xs known.
          let h = stepped_at a.budget b.budget takes in
          subst (λ left. IfSome (input_error_of e)
          (λ z. (ys : List ℕ) × (left ≡ Some ys) × RejectsStepped name rejects xs a.budget z ys))
          (sym outward.known)
          (rejects_as (input_error_of e) c.known (rejects xs b.budget)
          (RejectsStepped name rejects xs a.budget)
          (λ z ys t. inr (h.0, subst (λ k. rejects xs k z ys) h.1 t))
          (s.at xs (inward.known ∙ known)));
    }

none_left : (old new : Option ℕ) → StepsIn old new false → old ≡ Some 0
none_left None new h = absurd h
none_left (Some left) new h = ap Some h.0

pub rejects_no_step : {E : Type 0} (name : Bor (List ℕ))
    (rejects : List ℕ → Option ℕ → InputError → List ℕ → Type 0) {a b : View}
    → StepsIn a.budget b.budget false → KeepsAllButBudget a b
    → Rejects {E = E} (RejectsStepped name.now rejects) a b (DepthOverflow name)
rejects_no_step name rejects {a = a} {b = b} h k = search (rules, inl, none_left)

pub over_none : (budget : Option ℕ) (c : ℕ) → budget ≡ Some 0 → CostFits (1 + c) budget → ⊥
over_none None c e fits = cc
over_none (Some left) c e fits = let z : left ≡ 0 = cc in omega (arith, z, fits)

pub complete_no_step : {V E : Type 0} (reads : List ℕ → V → ℕ → ℕ → Type 0) (name : Bor (List ℕ))
    (a b : View) → StepsIn a.budget b.budget false
    → Complete {E = E} (Stepped reads) a (DepthOverflow name)
complete_no_step reads name a b h = search (rules, over_none, none_left)

module _ {V E : Type 0} (s : Format V) where
  pub no_step_left : (name : Bor (List ℕ)) {a b : View}
      → Moves {V = V} {E = E} a b (Err (DepthOverflow name)) → StepsIn a.budget b.budget false
      → KeepsAllButBudget a b
      → Decodes {E = E} (stepped_format name.now s) a b (Err (DepthOverflow name))
  no_step_left name {a = a} {b = b} moves takes inward = search (rules, complete_no_step, rejects_no_step)

  pub under_if : {exact : Bool} (name : List ℕ) {a b c d : View} → StepsIn a.budget b.budget true
      → KeepsAllButBudget a b → KeepsAllButBudget c d → (r : Result V (DecodeError E))
      → d.budget ≡ step_back c.budget → DecodesIf exact s b c r
      → DecodesIf exact (stepped_format name s) a d r
  under_if name {a = a} {b = b} {c = c} {d = d} takes inward outward (Ok v) gives t =
      search (rules, of_exact, all_ok, moves_stepped, sound_stepped)
  under_if name {a = a} {b = b} {c = c} {d = d} takes inward outward (Err e) gives t = record {
    moves = moves_stepped (Err e) a b c d takes inward t.moves gives outward;
    progress = λ some. tt;
    memory = t.memory;
    sound = tt;
    complete = λ is sure. complete_stepped s.reads takes inward
        (t.complete is (exact_step s.owned a b inward sure));
    rejects = λ is sure. rejects_stepped name s.rejects takes inward outward
        (t.rejects is (exact_step s.owned a b inward sure));
    begins = rejects_stepped name s.begins takes inward outward t.begins;
  }

  pub under : (name : List ℕ) {a b c d : View} → StepsIn a.budget b.budget true
      → KeepsAllButBudget a b → KeepsAllButBudget c d → (r : Result V (DecodeError E))
      → d.budget ≡ step_back c.budget → Decodes s b c r → Decodes (stepped_format name s) a d r
  under name takes inward outward r gives t =
      decodes_exactly (under_if name takes inward outward r gives (of_exact t))

-- the head of an array or a map, after a step that was taken
pub parts_opened : {E : Type 0} (name : List ℕ) (major : ℕ) {a b c : View} {count : Option ℕ}
    {left : Left} → StepsIn a.budget b.budget true → KeepsAllButBudget a b
    → Decodes {E = E} (length_format name major) b c (Ok count) → left ≡ left_after count
    → OpensParts major a c left
parts_opened name major {b = b} {count = count} takes inward d begun = search rules
