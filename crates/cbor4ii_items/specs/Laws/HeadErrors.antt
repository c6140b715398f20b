-- A head that is rejected has one error: that of the program.
use Rattle.std.proofs.Common.{◌≡◌, ◌≢◌, ℕ, zero, suc, ◌+◌, ◌*◌, ◌/◌, ◌%◌, ◌<◌, ◌≤◌, inl, inr, List}
use Rattle.std.proofs.Common.{[], ◌∷◌, length, take, Result, Err, Bool, true, false, refl}
use Rattle.std.proofs.Common.{sym, ap, ap₂, ◌∙◌, arith, ltb, le-leb, eqb, eq-eqb, eqb-true}
use Rattle.std.proofs.Common.{ltb-true, ltb-false, cond, ne_eqb, rules}
use Rattle.std.proofs.Math.Nat.{pow-le-pow_right}
use Rattle.cbor4ii_rw.specs.declared.error.Len.TheVariants.{Small}
use Rattle.cbor4ii_items.specs.Head.{Width, in_first, one as w_one, two, four, eight, byte_count}
use Rattle.cbor4ii_items.specs.Head.{HeadFits, additional, indefinite_head}
use Rattle.cbor4ii_items.specs.InputError.{InputError, mismatch, eof}
use Rattle.cbor4ii_items.specs.Reading.{give, reject}
use Rattle.cbor4ii_items.specs.Heads.{Begins, RejectsHead}
use Rattle.cbor4ii_items.specs.ReadHead.{head_at, argument_at, number_on, argument_size}
use Rattle.cbor4ii_items.specs.ReadHead.{allowed_info, length_at}
use Rattle.cbor4ii_items.specs.OneError.{OneError}
use Rattle.cbor4ii_items.specs.Lengths.{RejectsLength}
use Rattle.cbor4ii_items.specs.Numbers.{RejectsArgument}
use Rattle.cbor4ii_items.specs.Laws.Heads.{additional-lt, allowed_parts, two_parts, wide_of}
use Rattle.cbor4ii_items.specs.Laws.Outcome.{same_input_error}

-- the outcome with another error that is the same, and other bytes left that are
pub err_as : {V : Type 0} {e f : InputError} {x y : List ℕ}
    (outcome : Result (V × List ℕ) (InputError × List ℕ)) → outcome ≡ Err (e, x) → f ≡ e → y ≡ x
    → outcome ≡ Err (f, y)
err_as outcome h p q = h ∙ ap₂ (λ (z : InputError) (ys : List ℕ). Err (z, ys)) (sym p) (sym q)

-- ---- numbers

-- with too few bytes no number is read, and nothing is left
pub number_short : (name : List ℕ) (expect k high : ℕ) (bs : List ℕ) → length bs < k
    → number_on name expect k high bs ≡ Err (eof name (Small expect), [])
number_short name expect zero high bs short = absurd (omega (arith, short))
number_short name expect (suc k) high [] short = refl
number_short name expect (suc k) high (b ∷ bs) short =
    number_short name expect k (high * 256 + b) bs (omega (arith, short))

-- ---- what no head begins with

module _ (name : List ℕ) (major width b : ℕ) (bs : List ℕ)
    (none : (wide : Width) → Begins major width b wide → ⊥) where
  argument_refused : (s t : Bool) → b / 32 ≡ major → ltb (b % 32) 24 ≡ s
      → allowed_info width (b % 32) ≡ t
      → cond s (give (b % 32))
      (cond t (number_on name (argument_size (b % 32)) (argument_size (b % 32)) 0)
      (reject (mismatch name b))) bs ≡ Err (mismatch name b, bs)
  argument_refused true t m es et =
      let small : b % 32 < 24 = ltb-true (b % 32) 24 es in
      absurd (none in_first (record {
        argument = b % 32;
        fits = omega (arith, small);
        allowed = omega arith;
        is = two_parts b major m;
      }))
  argument_refused false true m es et =
      let a = allowed_parts width (b % 32) et in
      let w = wide_of (b % 32) (ltb-false (b % 32) 24 es) a.0 in
      absurd (none w.wide (record {
        argument = 0;
        fits = w.fits 0 (pow-le-pow_right {n = 256} (omega arith)
            {i = 0} {j = argument_size (b % 32)} (omega arith));
        allowed = omega (arith, w.count, a.1);
        is = two_parts b major m ∙ ap (λ j. 32 * major + j) (sym (w.info 0));
      }))
  argument_refused false false m es et = refl

  head_refused : (s : Bool) → eqb (b / 32) major ≡ s
      → cond s (argument_at name width b) (reject (mismatch name b)) bs ≡ Err (mismatch name b, bs)
  head_refused true e = search (rules, argument_refused, eqb-true)
  head_refused false e = refl

-- ---- heads that are cut

-- the bytes of an argument are too few
argument_short : (wide : Width) (name : List ℕ) (width b n : ℕ) (bs : List ℕ)
    → b % 32 ≡ additional wide n → HeadFits wide n → byte_count wide ≤ width
    → length bs < byte_count wide
    → argument_at name width b bs ≡ Err (eof name (Small (byte_count wide)), [])
argument_short in_first name width b n bs e fits le short = absurd (omega (arith, short))
argument_short w_one name width b n bs e fits le short = search (rules, le-leb, number_short)
argument_short two name width b n bs e fits le short = search (rules, le-leb, number_short)
argument_short four name width b n bs e fits le short = search (rules, le-leb, number_short)
argument_short eight name width b n bs e fits le short = search (rules, le-leb, number_short)

short_errs : (name : List ℕ) (major width b : ℕ) (bs : List ℕ) (wide : Width)
    → Begins major width b wide → length bs < byte_count wide
    → head_at name major width (b ∷ bs) ≡ Err (eof name (Small (byte_count wide)), [])
short_errs name major width b bs wide h short =
    search (rules, additional-lt, eq-eqb, argument_short)

-- ---- heads

-- the program gives the head's error
pub head_errs : (name : List ℕ) (major width : ℕ) (xs : List ℕ) (e : InputError) (x : List ℕ)
    → RejectsHead name major width xs e x → head_at name major width xs ≡ Err (e, x)
head_errs name major width [] e x s = err_as (head_at name major width []) refl s.0 s.1
head_errs name major width (b ∷ bs) e x (inl s) = search (rules, err_as, head_refused)
head_errs name major width (b ∷ bs) e x (inr s) = search (rules, err_as, short_errs)

pub head_error : (name : List ℕ) (major width : ℕ) (xs : List ℕ) (e f : InputError) (x y : List ℕ)
    → RejectsHead name major width xs e x → RejectsHead name major width xs f y
    → (e ≡ f) × (x ≡ y)
head_error name major width xs e f x y s t = search (rules, same_input_error, head_errs)

pub argument_error : (name : List ℕ) (major width : ℕ)
    → OneError (RejectsArgument name major width)
argument_error name major width xs budget e f x y s t = head_error name major width xs e f x y s t

-- ---- lengths

length_byte_errs : (name : List ℕ) (major b : ℕ) (bs : List ℕ) (e : InputError) (x : List ℕ)
    → b ≢ indefinite_head major → head_at name major 8 (b ∷ bs) ≡ Err (e, x)
    → length_at name major (b ∷ bs) ≡ Err (e, x)
length_byte_errs name major b bs e x other h = search (rules, ne_eqb)

pub length_errs : (name : List ℕ) (major : ℕ) (xs : List ℕ) (e : InputError) (x : List ℕ)
    → (take 1 xs ≡ indefinite_head major ∷ [] → ⊥) → RejectsHead name major 8 xs e x
    → length_at name major xs ≡ Err (e, x)
length_errs name major [] e x other s = err_as (length_at name major []) refl s.0 s.1
length_errs name major (b ∷ bs) e x other s = search (rules, length_byte_errs, head_errs)

pub length_error : (name : List ℕ) (major : ℕ) → OneError (RejectsLength name major)
length_error name major xs budget e f x y s t = head_error name major 8 xs e f x y s.1 t.1
