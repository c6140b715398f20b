-- Breaks: what is left to do at one, and what is answered.
use Rattle.std.proofs.Common.{rules}
use Rattle.std.proofs.Common.{◌≡◌, ◌≢◌, ℕ, List, [], ◌∷◌, drop, take, Option, Result, Ok, Err, Bool}
use Rattle.std.proofs.Common.{true, false, refl, sym, ap, ◌∙◌, IfOk, IfErr, ne_eqb, eq-eqb}
use Rattle.std.specs.Prelude.{codes}
use Rattle.cbor4ii_rw.specs.View.{View}
use Rattle.cbor4ii_rw.specs.declared.error.DecodeError.{DecodeError}
use Rattle.cbor4ii_items.specs.Head.{break}
use Rattle.cbor4ii_items.specs.Reading.{Runs, byte_at}
use Rattle.cbor4ii_items.specs.Decoding.{Sound, Complete, Rejects, Decodes}
use Rattle.cbor4ii_items.specs.InputError.{is_out_of_memory}
use Rattle.cbor4ii_items.specs.Laws.Calls.{no_memory}
use Rattle.cbor4ii_items.specs.ReadStrings.{break_at}
use Rattle.cbor4ii_items.specs.Laws.ProgramEnds.{break_yes, break_no, break_rejected}
use Rattle.cbor4ii_items.specs.Strings.{ReadsBreak, RejectsBreak, break_format}
use Rattle.cbor4ii_items.specs.Laws.Strings.{break_again}
use Rattle.cbor4ii_items.specs.Laws.Answering.{Found, fits_zero, sound_by, complete_by, rejects_by}
use Rattle.cbor4ii_items.specs.Laws.Outcome.{same_value}

broken : (b : ℕ) (xs ys : List ℕ) → b ≡ break → byte_at (codes "break") 1 xs ≡ Ok (b, ys)
    → break_at xs ≡ Ok (true, ys)
broken b [] ys is e = cc
broken b (x ∷ xs) ys is e = search (rules, same_value, eq-eqb)

pub runs_break : {E : Type 0} {b : ℕ} {a c : View} → b ≡ break
    → Runs {E = E} (byte_at (codes "break") 1) a c (Ok b) → Runs {E = E} break_at a c (Ok true)
runs_break {b = b} is p = search (rules, broken)

-- ---- what is answered

break_found : (budget : Option ℕ) (v : Bool) (xs ys : List ℕ) → break_at xs ≡ Ok (v, ys)
    → Found ReadsBreak budget xs v ys
break_found budget true xs ys e = search (rules, break_yes, fits_zero)
break_found budget false xs ys e = search (rules, break_no, fits_zero)

pub stays : (xs : List ℕ) → xs ≢ [] → (take 1 xs ≡ break ∷ [] → ⊥) → break_at xs ≡ Ok (false, xs)
stays [] some other = absurd (some refl)
stays (b ∷ bs) some other = search (rules, ne_eqb)

break_read : (xs : List ℕ) (v : Bool) (n c : ℕ) → ReadsBreak xs v n c
    → break_at xs ≡ Ok (v, drop n xs)
break_read xs true n c h = break_again xs h.0 ∙ ap (λ j. Ok (true, drop j xs)) (sym h.1)
break_read xs false n c h = stays xs h.0 h.1 ∙ ap (λ j. Ok (false, drop j xs)) (sym h.2)

pub break_sound : {E : Type 0} {a b : View} (r : Result Bool (DecodeError E)) → Runs break_at a b r
    → IfOk r (Sound ReadsBreak a b)
break_sound {a = a} (Ok v) p =
    sound_by ReadsBreak (λ xs ys e seen. break_found a.budget v xs ys e) p
break_sound (Err e) p = tt

pub break_complete : {E : Type 0} {a b : View} (r : Result Bool (DecodeError E))
    → Runs break_at a b r → IfErr r (Complete ReadsBreak a)
break_complete (Ok v) p = tt
break_complete (Err e) p = complete_by ReadsBreak (λ xs v n c h fits. break_read xs v n c h) p

pub break_rejects : {E : Type 0} {a b : View} (r : Result Bool (DecodeError E)) →
    Runs break_at a b r
    → IfErr r (Rejects RejectsBreak a b)
break_rejects (Ok v) p = tt
break_rejects (Err e) p = rejects_by RejectsBreak (λ xs z ys f seen. break_rejected xs ys z f) p

pub break_decodes : {E : Type 0} {a b : View} (r : Result Bool (DecodeError E))
    → Runs break_at a b r → IfErr r (λ e. is_out_of_memory e ≡ false) → Decodes break_format a b r
break_decodes r p memory = search (rules, no_memory, break_sound, break_complete, break_rejects)
