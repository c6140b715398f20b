-- Which form a variant has, and what is read of its content.
use Rattle.std.proofs.Common.{◌≡◌, ◌≢◌, ℕ, ◌/◌, List, [], ◌∷◌, take, Option, Bool, true, false}
use Rattle.std.proofs.Common.{Result, Ok, Err, refl, ap, ◌∙◌, IfOk, IfErr, IsTrue, rules}
use Rattle.std.specs.Prelude.{codes}
use denote.Ref.{Bor}
use Rattle.cbor4ii_rw.specs.View.{View}
use Rattle.cbor4ii_rw.specs.Reader.{Advances, KeepsAllButBudget, step_back}
use Rattle.cbor4ii_rw.specs.declared.error.DecodeError.{DecodeError}
use Rattle.cbor4ii_rw.specs.declared.error.DecodeError.TheVariants.{Mismatch}
use Rattle.cbor4ii_items.specs.Moves.{Moves}
use Rattle.cbor4ii_items.specs.InputError.{InputError, mismatch}
use Rattle.cbor4ii_items.specs.Next.{ReadsNext, RejectsNext}
use Rattle.cbor4ii_items.specs.Decoding.{Reads, RejectsAt, Sound, NoneRead, Complete, Rejects}
use Rattle.cbor4ii_items.specs.Laws.Answering.{complete_as}
use Rattle.cbor4ii_items.specs.Laws.Steps.{moves_err}
use Rattle.cbor4ii.specs.declared.serde.de.error.DecodeError.{DecodeError as Typed}
use Rattle.cbor4ii.specs.Accessing.{Finishes}
use Rattle.cbor4ii.specs.Typed.{as_core, answer_of, rejects_if_known}
use Rattle.cbor4ii.specs.Variants.{IsForm, ReadsForm, RejectsForm, ReadsContent, RejectsContent}
use Rattle.cbor4ii.proofs.Looking.{Saw, taken_sound, seen_sound, none_begins}
use Rattle.cbor4ii.proofs.Stopped.{sound_after, stopped_as, stopped_after}
use Rattle.cbor4ii.proofs.Beginnings.{said_left}

-- ---- the form

pub entry_sound : {a m c : View} {b : ℕ} → Saw a m b → b ≡ 0xa1 → Advances 1 m c
    → Sound ReadsForm a c (true, b)
entry_sound s is adv = taken_sound s adv (λ xs e. (e, (is, refl), refl))

pub name_sound : {a m : View} {b : ℕ} → Saw a m b → b / 32 ≡ 3 → Sound ReadsForm a m (false, b)
name_sound s is = seen_sound s (λ xs e some. (e, (is, refl), refl))

other_first : (b : ℕ) (content : Bool) (first n : ℕ) → b ≡ first → b ≢ 0xa1 → b / 32 ≢ 3
    → IsForm content first n → ⊥
other_first b true first n f p q r = p (f ∙ r.0)
other_first b false first n f p q r = q (ap (λ k. k / 32) f ∙ r.0)

one_first : (xs : List ℕ) (b first : ℕ) → take 1 xs ≡ b ∷ [] → take 1 xs ≡ first ∷ [] → b ≡ first
one_first xs b first e f = cc

pub other_complete : {E : Type 0} {name : Bor (List ℕ)} {a m : View} {b : ℕ} → Saw a m b → b ≢ 0xa1
    → b / 32 ≢ 3 → Complete {E = E} ReadsForm a (Mismatch name b)
other_complete {b = b} s p q = search (rules, other_first, one_first)

rejects_first : (xs : List ℕ) (b : ℕ) (budget : Option ℕ) → take 1 xs ≡ b ∷ [] → b ≢ 0xa1 →
    b / 32 ≢ 3
    → RejectsForm xs budget (mismatch (codes "enum") b) xs
rejects_first [] b budget e p q = cc
rejects_first (x ∷ xs) b budget e p q = let f : x ≡ b = cc in rw f (p, q, refl, refl)

pub other_rejects : {E : Type 0} {name : Bor (List ℕ)} {a m : View} {b : ℕ} → name.now ≡
    codes "enum"
    → Saw a m b → b ≢ 0xa1 → b / 32 ≢ 3 → Rejects {E = E} RejectsForm a m (Mismatch name b)
other_rejects {a = a} {b = b} named s p q = record {
  at = λ xs known.
      (let f = s.first xs known in (xs, f.0, rw named (rejects_first xs b a.budget f.1 p q)));
}

no_form : (xs : List ℕ) (budget : Option ℕ) → NoneRead ReadsNext xs budget
    → NoneRead ReadsForm xs budget
no_form xs budget none form n c r fits = none_begins xs form.1 budget none r.0

pub form_missing : {E : Type 0} {a : View} {e : DecodeError E} → Complete ReadsNext a e
    → Complete ReadsForm a e
form_missing s = complete_as ReadsNext ReadsForm no_form s

end_at : (xs : List ℕ) (budget : Option ℕ) (z : InputError) (ys : List ℕ)
    → RejectsNext (codes "enum") xs budget z ys → RejectsForm xs budget z ys
end_at [] budget z ys h = (h.1, h.2)
end_at (x ∷ xs) budget z ys h = let no = h.0 in cc

pub form_ended : {E : Type 0} {a m : View} {e : DecodeError E}
    → Rejects (RejectsNext (codes "enum")) a m e → Rejects RejectsForm a m e
form_ended s = stopped_as (RejectsNext (codes "enum")) RejectsForm end_at s

-- ---- the content

-- an error, after which a step is given back
pub given_back : {V W E : Type 0} {a b d : View} {e : DecodeError E} → Moves {V = V} a b (Err e)
    → d.budget ≡ step_back b.budget → KeepsAllButBudget b d → Finishes {V = W} 1 a d (Err e)
given_back {b = b} moves budget others = search (rules, moves_err)

pub content_complete : {V E : Type 0} (reads : Reads V) {content : Bool} {a : View}
    {e : DecodeError E} → content ≡ true → Complete reads a e
    → Complete (ReadsContent content reads) a e
content_complete reads is s = rw is s

pub content_rejects : {E : Type 0} (rejects : RejectsAt) {content : Bool} (first : ℕ) {a b d : View}
    {e : DecodeError E} → content ≡ true → KeepsAllButBudget b d → Rejects rejects a b e
    → Rejects (RejectsContent (content, first) rejects) a d e
content_rejects rejects first is k s = rw is (stopped_after rejects k s)

-- the content is read, and the step is given back
pub content_ok : {V E : Type 0} (reads : Reads V) {content : Bool} (r : Result V (Typed E))
    (a b d : View) → content ≡ true → KeepsAllButBudget b d → IfOk r (Sound reads a b)
    → IfOk r (Sound (ReadsContent content reads) a d)
content_ok reads r a b d is k s =
    rw is (elim r as (λ t. IfOk t (Sound reads a b) → IfOk t (Sound reads a d)) [
      | Ok v ↦ (λ w. sound_after reads k w)
      | Err e ↦ (λ w. tt)
    ] s)

pub content_err : {V E : Type 0} (reads : Reads V) {content : Bool} (r : Result V (Typed E))
    (a : View) → content ≡ true → IfErr r (λ e. Complete reads a (as_core e))
    → IfErr r (λ e. Complete (ReadsContent content reads) a (as_core e))
content_err reads r a is s = rw is s

pub content_rejected : {V E : Type 0} (rejects : RejectsAt) {content : Bool} (first : ℕ)
    (r : Result V (Typed E)) (a b d : View) → content ≡ true → KeepsAllButBudget b d
    → IfErr r (λ e. Rejects rejects a b (as_core e))
    → IfErr r (λ e. Rejects (RejectsContent (content, first) rejects) a d (as_core e))
content_rejected rejects first (Ok v) a b d is k s = tt
content_rejected rejects first (Err e) a b d is k s = content_rejects rejects first is k s

pub content_said : {V E : Type 0} (exact : Bool) (rejects : RejectsAt) {content : Bool} (first : ℕ)
    (r : Result V (Typed E)) (a b d : View) → content ≡ true → KeepsAllButBudget b d
    → Moves a b (answer_of r) → (IsTrue exact → IfErr r (λ e. Rejects rejects a b (as_core e)))
    → IfErr r (λ e. Rejects (RejectsContent (content, first) (rejects_if_known exact rejects)) a d
    (as_core e))
content_said exact rejects first (Ok v) a b d is k m s = tt
content_said exact rejects first (Err e) a b d is k m s =
    content_rejects (rejects_if_known exact rejects) first is k (said_left exact rejects m s)
