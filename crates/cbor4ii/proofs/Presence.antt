-- Whether a value comes, and that value.
use Rattle.std.proofs.Common.{rules}
use Rattle.std.proofs.Common.{◌≡◌, ◌≢◌, ◌⊎◌, inl, ℕ, ◌≤◌, List, [], ◌∷◌, length, take, Option}
use Rattle.std.proofs.Common.{Some, None, Bool, true, false, refl, sym, ap, ◌∙◌, subst, arith}
use Rattle.std.specs.Prelude.{codes}
use denote.Ref.{Bor}
use Rattle.cbor4ii_rw.specs.View.{View}
use Rattle.cbor4ii_rw.specs.Reader.{Advances, StepsIn, KeepsAllButBudget}
use Rattle.cbor4ii_rw.specs.declared.error.DecodeError.{DecodeError}
use Rattle.cbor4ii_rw.specs.declared.error.DecodeError.TheVariants.{DepthOverflow}
use Rattle.cbor4ii_items.specs.InputError.{InputError, depth_overflow}
use Rattle.cbor4ii_items.specs.Next.{RejectsNext}
use Rattle.cbor4ii_items.specs.Decoding.{Reads, Sound, NoneRead, Complete, Rejects}
use Rattle.cbor4ii_items.specs.Budget.{CostFits}
use Rattle.cbor4ii_items.specs.Containers.{BeginsNull}
use Rattle.cbor4ii_items.specs.Laws.Answering.{complete_as}
use Rattle.cbor4ii_items.specs.Laws.UnderStep.{no_step}
use Rattle.cbor4ii_items.specs.Laws.Containers.{not_null}
use Rattle.cbor4ii.specs.Accessing.{Closes}
use Rattle.cbor4ii.specs.Optional.{ReadsPresence, RejectsPresence, ReadsComing, ReadsComingValue}
use Rattle.cbor4ii.specs.Optional.{steps_of_some}
use Rattle.cbor4ii.proofs.Steps.{over_none}
use Rattle.cbor4ii.proofs.Looking.{Saw, taken_sound, seen_sound, begins_null}
use Rattle.cbor4ii.proofs.Stopped.{stopped_as, sound_after}
use Rattle.cbor4ii.proofs.Forms.{sound_by}

-- ---- whether it comes

pub null_coming : {a m c : View} {b : ℕ} → Saw a m b → (b ≡ 0xf6) ⊎ (b ≡ 0xf7) → Advances 1 m c
    → Sound ReadsComing a c false
null_coming {b = b} s is adv = taken_sound s adv (λ xs e. (begins_null xs b e is, refl, refl))

pub value_coming : {a m : View} {b : ℕ} → Saw a m b → b ≢ 0xf6 → b ≢ 0xf7
    → Sound ReadsComing a m true
value_coming {b = b} s p q = seen_sound s (λ xs e some. (not_null xs b e p q, some, refl, refl))

-- where a value comes, none does not
pub no_null : true ≡ false → ⊥
no_null e = cc

-- ---- no step is left

none_present : (xs : List ℕ) (b : ℕ) (budget : Option ℕ) → take 1 xs ≡ b ∷ [] → b ≢ 0xf6 → b ≢ 0xf7
    → budget ≡ Some 0 → NoneRead ReadsPresence xs budget
none_present xs b budget e p q zero None n c r fits = not_null xs b e p q r.0
none_present xs b budget e p q zero (Some v) n c r fits =
    over_none budget r.2.0 zero (subst (λ k. CostFits k budget) r.2.2 fits)

pub no_step_complete : {E : Type 0} {name : Bor (List ℕ)} {a m : View} {b : ℕ} (left : Option ℕ)
    → Saw a m b → b ≢ 0xf6 → b ≢ 0xf7 → StepsIn m.budget left false
    → Complete {E = E} ReadsPresence a (DepthOverflow name)
no_step_complete {a = a} {m = m} {b = b} left s p q none = search (rules, none_present, no_step)

rejects_there : (name : Bor (List ℕ)) (xs : List ℕ) (budget : Option ℕ) → name.now ≡ codes "option"
    → 1 ≤ length xs → (BeginsNull xs → ⊥) → budget ≡ Some 0
    → RejectsPresence xs budget (depth_overflow name.now) xs
rejects_there name [] budget named some null zero = absurd (omega (arith, some))
rejects_there name (x ∷ xs) budget named some null zero =
    (null, inl (zero, ap depth_overflow named, refl))

pub no_step_rejects : {E : Type 0} {name : Bor (List ℕ)} {a m n : View} {b : ℕ}
    → name.now ≡ codes "option" → Saw a m b → b ≢ 0xf6 → b ≢ 0xf7
    → StepsIn m.budget n.budget false → KeepsAllButBudget m n
    → Rejects {E = E} RejectsPresence a n (DepthOverflow name)
no_step_rejects {name = name} {a = a} {m = m} {n = n} {b = b} named s p q none k = record {
  at = λ xs known. (let f = s.first xs known in (
    xs,
    k.known ∙ f.0,
    rejects_there name xs a.budget named f.2 (not_null xs b f.1 p q)
        (sym s.budget ∙ (no_step m.budget n.budget none).0),
  ));
}

-- ---- no byte is left

end_at : (xs : List ℕ) (budget : Option ℕ) (z : InputError) (ys : List ℕ)
    → RejectsNext (codes "option") xs budget z ys → RejectsPresence xs budget z ys
end_at [] budget z ys h = (h.1, h.2)
end_at (x ∷ xs) budget z ys h = let no = h.0 in cc

pub presence_ended : {E : Type 0} {a m : View} {e : DecodeError E}
    → Rejects (RejectsNext (codes "option")) a m e → Rejects RejectsPresence a m e
presence_ended s = stopped_as (RejectsNext (codes "option")) RejectsPresence end_at s

-- ---- the value

none_value : {V : Type 0} (reads : Reads V) (xs : List ℕ) (budget : Option ℕ)
    → NoneRead reads xs budget → NoneRead (ReadsComingValue true reads) xs budget
none_value reads xs budget none None n c r fits = r
none_value reads xs budget none (Some v) n c r fits = none v n c r fits

pub value_complete : {V E : Type 0} (reads : Reads V) {some : Bool} {a : View} {e : DecodeError E}
    → some ≡ true → Complete reads a e → Complete (ReadsComingValue some reads) a e
value_complete reads is s =
    rw is (complete_as reads (ReadsComingValue true reads) (none_value reads) s)

pub no_value_comes : {Q : Type 0} {some : Bool} → some ≡ true → some ≡ false → Q
no_value_comes is none = let no : true ≡ false = sym is ∙ none in cc

-- where no value comes no step is given back
pub unmoved : {some : Bool} {a b : View} → some ≡ false → Closes (steps_of_some some) a b → b ≡ a
unmoved {a = a} {b = b} none z = search rules

-- the step is given back, and what was taken stays taken
pub value_sound : {V : Type 0} (reads : Reads V) {some : Bool} {a b d : View} {v : V} → some ≡ true
    → KeepsAllButBudget b d → Sound reads a b v → Sound (ReadsComingValue some reads) a d (Some v)
value_sound reads is k s = rw is (sound_by (sound_after reads k s) (λ xs n c r. r))
