-- The unit.
use Rattle.std.proofs.Common.{rules}
use Rattle.std.proofs.Common.{◌≡◌, ◌≢◌, ℕ, List, [], ◌∷◌, take, drop, Option, refl, sym, ap, ◌∙◌}
use Rattle.std.specs.Prelude.{codes}
use denote.Ref.{Bor}
use Rattle.cbor4ii_rw.specs.View.{View}
use Rattle.cbor4ii_rw.specs.Reader.{Advances}
use Rattle.cbor4ii_rw.specs.declared.error.DecodeError.{DecodeError}
use Rattle.cbor4ii_rw.specs.declared.error.DecodeError.TheVariants.{Mismatch}
use Rattle.cbor4ii_items.specs.InputError.{InputError, mismatch}
use Rattle.cbor4ii_items.specs.Next.{ReadsNext, RejectsNext}
use Rattle.cbor4ii_items.specs.Decoding.{NoneRead, Sound, Complete, Rejects}
use Rattle.cbor4ii_items.specs.Laws.Answering.{complete_as}
use Rattle.cbor4ii_items.specs.Laws.Answering.{whatever_error}
use Rattle.cbor4ii.specs.Tuples.{ReadsUnit, RejectsUnit}
use Rattle.cbor4ii.proofs.Looking.{Saw, taken_sound, none_begins}
use Rattle.cbor4ii.proofs.Stopped.{stopped_as}

pub unit_sound : {a m c : View} {b : ℕ} → Saw a m b → b ≡ 0x80 → Advances 1 m c
    → Sound ReadsUnit a c tt
unit_sound s is adv = taken_sound s adv (λ xs e. (e ∙ ap (λ z. z ∷ []) is, refl, refl))

pub unit_other : {E : Type 0} {a m : View} {b : ℕ} {e : DecodeError E} → Saw a m b → b ≢ 0x80
    → Complete ReadsUnit a e
unit_other {b = b} {e = e} s not = search (rules, whatever_error)

other_at : (b : ℕ) (xs : List ℕ) (budget : Option ℕ) → take 1 xs ≡ b ∷ [] → b ≢ 0x80
    → RejectsUnit xs budget (mismatch (codes "unit") b) (drop 1 xs)
other_at b [] budget e not = let no : [] ≡ b ∷ [] = e in cc
other_at b (x ∷ xs) budget e not =
    let is : x ≡ b = cc in ((λ f. not (sym is ∙ f)), ap (mismatch (codes "unit")) (sym is), refl)

pub unit_mismatch : {E : Type 0} {a m c : View} {b : ℕ} {name : Bor (List ℕ)} → Saw a m b → b ≢ 0x80
    → Advances 1 m c → name.now ≡ codes "unit" → Rejects {E = E} RejectsUnit a c (Mismatch name b)
unit_mismatch {a = a} {b = b} s not adv named = record {
  at = λ xs known. (let f = s.first xs known in
      (drop 1 xs, adv.known xs f.0, rw named (other_at b xs a.budget f.1 not)));
}

no_unit : (xs : List ℕ) (budget : Option ℕ) → NoneRead ReadsNext xs budget
    → NoneRead ReadsUnit xs budget
no_unit xs budget none v n c r fits = none_begins xs 0x80 budget none r.0

pub unit_missing : {E : Type 0} {a : View} {e : DecodeError E} → Complete ReadsNext a e
    → Complete ReadsUnit a e
unit_missing s = complete_as ReadsNext ReadsUnit no_unit s

end_at : (xs : List ℕ) (budget : Option ℕ) (z : InputError) (ys : List ℕ)
    → RejectsNext (codes "unit") xs budget z ys → RejectsUnit xs budget z ys
end_at [] budget z ys h = (h.1, h.2)
end_at (x ∷ xs) budget z ys h = let no = h.0 in cc

pub unit_ended : {E : Type 0} {a m : View} {e : DecodeError E}
    → Rejects (RejectsNext (codes "unit")) a m e → Rejects RejectsUnit a m e
unit_ended s = stopped_as (RejectsNext (codes "unit")) RejectsUnit end_at s
