-- A value of one type, read as that of another.
use Rattle.std.proofs.Common.{◌≡◌, ℕ, List, drop, Bool, Option, Result, Ok, Err, IsTrue, refl}
use Rattle.std.proofs.Common.{sym, subst}
use Rattle.cbor4ii_rw.specs.View.{View}
use Rattle.cbor4ii_rw.specs.declared.error.DecodeError.{DecodeError}
use Rattle.cbor4ii_items.specs.Budget.{CostFits}
use Rattle.cbor4ii_items.specs.Decoding.{Reads, Sound, NoneRead, Format, DecodesIf}
use Rattle.cbor4ii_items.specs.InputError.{InputError}
use Rattle.cbor4ii_items.specs.Laws.Answering.{Found}
use Rattle.cbor4ii_items.specs.Laws.Calls.{RejectsAsPart, err_after, ok, of_exact}
use Rattle.cbor4ii_items.specs.Laws.Running.{kept_alike}

-- where each reading of the first is one of the second
pub sound_by : {V W : Type 0} {f : Reads V} {g : Reads W} {a b : View} {v : V} {w : W}
    → Sound f a b v → ((xs : List ℕ) (n c : ℕ) → f xs v n c → g xs w n c) → Sound g a b w
sound_by s means = record {
  at = λ xs known. (let p = s.at xs known in record {
    count = p.count;
    cost = p.cost;
    read = means xs p.count p.cost p.read;
    fits = p.fits;
    left = p.left;
  });
}

pub sound_as : {V W : Type 0} (reads : Reads V) (form : W → V) {a b : View} {v : V} {w : W}
    → form w ≡ v → Sound reads a b v → Sound (λ xs (w : W) n c. reads xs (form w) n c) a b w
sound_as reads form is s = sound_by s (λ xs n c r. subst (λ z. reads xs z n c) (sym is) r)

-- a part that stands where the whole does
pub found_here : {V : Type 0} {reads : Reads V} {budget : Option ℕ} {xs : List ℕ} {v : V} (n c : ℕ)
    → reads xs v n c → CostFits c budget → Found reads budget xs v (drop n xs)
found_here n c read fits =
    record { count = n; cost = c; read = read; fits = fits; left = refl }

pub err_here : {U V E : Type 0} (part : Format U) (whole : Format V) {a b : View} {exact : Bool}
    {e : DecodeError E} → ((xs : List ℕ) → RejectsAsPart exact part whole xs xs a.budget)
    → (IsTrue whole.owned → IsTrue part.owned)
    → (IsTrue part.takes_memory → IsTrue whole.takes_memory)
    → DecodesIf exact part a b (Err e) → DecodesIf exact whole a b (Err e)
err_here part whole {a = a} means owned memory d =
    err_after part whole (kept_alike a) (λ xs known. (xs, known, means xs)) owned memory d

-- what is read of one type is read of the other in this form, and what is rejected is so of both
pub record ReadAs {U V : Type 0} (s : Format U) (t : Format V) (form : U → V) : Type 0 where
  pub reads : (xs : List ℕ) (u : U) (n c : ℕ) → s.reads xs u n c → t.reads xs (form u) n c
  pub none : (xs : List ℕ) (budget : Option ℕ) → NoneRead s.reads xs budget
      → NoneRead t.reads xs budget
  pub rejects : (xs : List ℕ) (budget : Option ℕ) (z : InputError) (ys : List ℕ)
      → s.rejects xs budget z ys → t.rejects xs budget z ys
  pub begins : (xs : List ℕ) (budget : Option ℕ) (z : InputError) (ys : List ℕ)
      → s.begins xs budget z ys → t.begins xs budget z ys
  pub some : IsTrue t.never_empty → IsTrue s.never_empty
  pub owned : IsTrue t.owned → IsTrue s.owned
  pub memory : IsTrue s.takes_memory → IsTrue t.takes_memory

-- an answer whose value is in this form
abbrev pub in_form : {U V E : Type 0} → (U → V) → Result U (DecodeError E)
    → Result V (DecodeError E)
in_form form (Ok u) = Ok (form u)
in_form form (Err e) = Err e

pub as_read : {U V E : Type 0} {s : Format U} {t : Format V} {form : U → V} {exact : Bool}
    {a b : View} → ReadAs s t form → (r : Result U (DecodeError E)) → DecodesIf exact s a b r
    → DecodesIf exact t a b (in_form form r)
as_read {t = t} m (Ok u) d =
    of_exact (ok t d.moves.by (λ some. d.progress (m.some some))
    (sound_by d.sound (λ xs n c r. m.reads xs u n c r)))
as_read {s = s} {t = t} {a = a} m (Err e) d =
    err_here s t (λ xs. record {
      none = λ is. m.none xs a.budget;
      rejects = m.rejects xs a.budget;
      begins = m.begins xs a.budget;
    }) m.owned m.memory d
