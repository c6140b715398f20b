-- A sequence under its step.
use Rattle.std.proofs.Common.{◌≡◌, ℕ, ◌+◌, List, Option, Some, Result, Ok, Err, true, false, refl}
use Rattle.std.proofs.Common.{sym, ◌∙◌, subst, arith, IfSome, rules}
use Rattle.std.specs.declared.alloc.Global.{Global}
use Rattle.std.specs.declared.vec.Vec.{Vec}
use Rattle.cbor4ii_rw.specs.View.{View}
use Rattle.cbor4ii_rw.specs.Reader.{KeepsAllButBudget, StepsIn, step_back}
use Rattle.cbor4ii_rw.specs.declared.error.DecodeError.{DecodeError}
use Rattle.cbor4ii_rw.specs.declared.error.DecodeError.TheVariants.{DepthOverflow}
use denote.Ref.{Bor}
use Rattle.cbor4ii_items.specs.InputError.{InputError, input_error_of}
use Rattle.cbor4ii_items.specs.Moves.{Moves}
use Rattle.cbor4ii_items.specs.Decoding.{RejectsAt, Format, Decodes}
use Rattle.cbor4ii_items.specs.Budget.{CostFits}
use Rattle.cbor4ii_items.specs.Sequences.{RejectsInside, RejectsSequence, no_step, under_step}
use Rattle.cbor4ii_items.specs.Sequences.{inside_format, sequence_format}
use Rattle.cbor4ii_items.specs.Laws.Answering.{if_some}
use Rattle.cbor4ii_items.specs.Laws.Calls.{rejects_as}
use Rattle.cbor4ii_items.specs.Laws.UnderStep.{exact_step, fits_inside, fits_step, moves_stepped}
use Rattle.cbor4ii_items.specs.Laws.UnderStep.{no_step as none_left, stepped_at}

module _ {P : Type 0} (major : ℕ) (s : Format P) where
  -- no step is left
  pub no_step_left : {E : Type 0} (name : Bor (List ℕ)) {a b : View}
      → Moves {V = Vec P Global} {E = E} a b (Err (DepthOverflow name))
      → StepsIn a.budget b.budget false → KeepsAllButBudget a b
      → Decodes {E = E} (sequence_format name.now major s) a b (Err (DepthOverflow name))
  no_step_left name {a = a} {b = b} moves takes inward = search (rules, none_left, no_step)

  module _ (name : List ℕ) {a b c d : View} (takes : StepsIn a.budget b.budget true)
      (inward : KeepsAllButBudget a b) (outward : KeepsAllButBudget c d) where
    rejects_under : (rejects : RejectsAt) (o : Option InputError) (xs : List ℕ)
        → IfSome o (λ z. (ys : List ℕ) × (c.known ≡ Some ys)
        × RejectsInside name major s.reads rejects s.never_empty xs b.budget z ys)
        → IfSome o (λ z. (ys : List ℕ) × (d.known ≡ Some ys)
        × RejectsSequence name major s.reads rejects s.never_empty xs a.budget z ys)
    rejects_under rejects o xs h =
        let e = stepped_at a.budget b.budget takes in
        subst (λ left. IfSome o (λ z. (ys : List ℕ) × (left ≡ Some ys)
        × RejectsSequence name major s.reads rejects s.never_empty xs a.budget z ys))
        (sym outward.known)
        (rejects_as o c.known (RejectsInside name major s.reads rejects s.never_empty xs b.budget)
        (RejectsSequence name major s.reads rejects s.never_empty xs a.budget)
        (λ z ys t. under_step e.0
        (subst (λ k. RejectsInside name major s.reads rejects s.never_empty xs k z ys) e.1 t)) h)

    pub under : {E : Type 0} (r : Result (Vec P Global) (DecodeError E))
        → d.budget ≡ step_back c.budget → Decodes (inside_format name major s) b c r
        → Decodes (sequence_format name major s) a d r
    under (Ok v) gives t = record {
      moves = moves_stepped (Ok v) a b c d takes inward t.moves gives outward;
      progress = λ some. omega (arith, t.progress refl, inward.bound, outward.bound);
      memory = tt;
      sound = record {
        at = λ xs known. let u = t.sound.at xs (inward.known ∙ known) in record {
          count = u.count;
          cost = 1 + u.cost;
          read = (u.cost, u.read, refl);
          fits = fits_step a.budget b.budget u.cost takes u.fits;
          left = outward.known ∙ u.left;
        };
      };
      complete = λ exact. tt;
      rejects = λ exact. tt;
      begins = tt;
    }
    under (Err e) gives t = record {
      moves = moves_stepped (Err e) a b c d takes inward t.moves gives outward;
      progress = λ some. tt;
      memory = λ out. refl;
      sound = tt;
      complete = λ exact. record {
        at = λ xs known. if_some (input_error_of e) (λ none v n c read fits. none v n read.0 read.1
            (fits_inside a.budget b.budget read.0 takes
            (subst (λ k. CostFits k a.budget) read.2 fits)))
            ((t.complete (exact_step s.owned a b inward exact)).at xs (inward.known ∙ known));
      };
      rejects = λ exact. record {
        at = λ xs known. rejects_under s.rejects (input_error_of e) xs
            ((t.rejects (exact_step s.owned a b inward exact)).at xs (inward.known ∙ known));
      };
      begins = record {
        at = λ xs known. rejects_under s.begins (input_error_of e) xs
            (t.begins.at xs (inward.known ∙ known));
      };
    }
