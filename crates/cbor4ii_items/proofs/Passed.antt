-- What a `?` passes on: the error that a call answered.
use Rattle.std.proofs.Common.{◌≡◌, ℕ, List, ◌++◌, Bool, Result, Ok, Err, subst, sym}
use Rattle.std.specs.Prelude.{IsErrAnd}
use Rattle.cbor4ii_rw.specs.View.{View}
use Rattle.cbor4ii_rw.specs.Writer.{Output}
use Rattle.cbor4ii_rw.specs.declared.error.DecodeError.{DecodeError}
use Rattle.cbor4ii_items.specs.Reading.{Reading, Runs, ◌>=>◌}
use Rattle.cbor4ii_items.specs.Writing.{Writes}
use Rattle.cbor4ii_items.specs.Decoding.{Format, Decodes, format_by}
use Rattle.cbor4ii_items.specs.Laws.Calls.{by_err}
use Rattle.cbor4ii_items.specs.Laws.Running.{runs_err}
use Rattle.cbor4ii_items.specs.Laws.Written.{writes_err}

-- what holds of the error holds of the answer
passed : {V E : Type 0} (P : Result V E → Type 0) {e : E} (r : Result V E)
    → IsErrAnd r (λ y. y ≡ e) → P (Err e) → P r
passed P (Ok v) h d = absurd h
passed P (Err y) h d = subst (λ z. P (Err z)) (sym h) d

pub decodes_passed : {V E : Type 0} {s : Format V} {a b : View} {e : DecodeError E}
    (r : Result V (DecodeError E)) → IsErrAnd r (λ y. y ≡ e) → Decodes s a b (Err e)
    → Decodes s a b r
decodes_passed {s = s} {a = a} {b = b} = passed (Decodes s a b)

pub run_passed : {V E : Type 0} {f : Reading V} {a b : View} {e : DecodeError E}
    (r : Result V (DecodeError E)) → IsErrAnd r (λ y. y ≡ e) → Runs f a b (Err e) → Runs f a b r
run_passed {f = f} {a = a} {b = b} = passed (Runs f a b)

-- of two programs the first answered it
pub runs_passed : {U V E : Type 0} {f : Reading U} (g : U → Reading V) {a b : View}
    {e : DecodeError E} (r : Result V (DecodeError E)) → IsErrAnd r (λ y. y ≡ e)
    → Runs {V = U} f a b (Err e) → Runs (f >=> g) a b r
runs_passed g r h d = run_passed r h (runs_err g d)

-- of two parts the first failed to be written
pub writes_passed : {T U E : Type 0} {whole : Bool} {xs : List ℕ} (ys : List ℕ) {a b : Output}
    {e : E} (r : Result U E) → IsErrAnd r (λ y. y ≡ e) → Writes {T = T} whole xs a b (Err e)
    → Writes whole (xs ++ ys) a b r
writes_passed {whole = whole} {xs = xs} ys {a = a} {b = b} r h d =
    passed (Writes whole (xs ++ ys) a b) r h (writes_err ys d)

-- of a type that is read as its part, the part's call answered it
pub by_passed : {U V E : Type 0} (part : V → U) (s : Format U) {a b : View} {e : DecodeError E}
    (r : Result V (DecodeError E)) → IsErrAnd r (λ y. y ≡ e) → Decodes s a b (Err e)
    → Decodes (format_by part s) a b r
by_passed part s r h d = decodes_passed r h (by_err part s d)
