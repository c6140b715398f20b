-- A number that is rejected has one error: that of the program.
use Rattle.std.proofs.Common.{◌≡◌, ◌≢◌, ℕ, ◌/◌, ◌^◌, ◌<◌, ◌≤◌, ◌⊎◌, inl, inr, List, []}
use Rattle.std.proofs.Common.{length, drop, Some, Ok, Err, true, false, refl, sym, ap, ◌∙◌}
use Rattle.std.proofs.Common.{arith, ltb, lt-ltb, le-ltb, eqb, ne_eqb, rules}
use Rattle.std.specs.Prelude.{codes}
use Rattle.std.proofs.lemmas.List.{length-drop}
use Rattle.cbor4ii_rw.specs.declared.error.Len.TheVariants.{Small}
use Rattle.cbor4ii_items.specs.Heads.{ReadsHead}
use Rattle.cbor4ii_items.specs.InputError.{InputError, mismatch, eof}
use Rattle.cbor4ii_items.specs.InputError.{length_overflow, cast_overflow, len_of}
use Rattle.cbor4ii_items.specs.Reading.{reject, go_on, ◌>=>◌}
use Rattle.cbor4ii_items.specs.ReadHead.{head_at}
use Rattle.cbor4ii_items.specs.ReadNumber.{below, head_below_at, as_positive, as_negative}
use Rattle.cbor4ii_items.specs.ReadNumber.{signed_by, signed_at, magnitude_by, magnitude_at}
use Rattle.cbor4ii_items.specs.ReadNumber.{unsigned_bignum_at, u128_by, u128_at}
use Rattle.cbor4ii_items.specs.ReadNumber.{small_magnitude_at, signed_bignum_at, i128_by, i128_at}
use Rattle.cbor4ii_items.specs.Numbers.{RejectsHalf, head_rejected, argument_too_great}
use Rattle.cbor4ii_items.specs.Numbers.{RejectsSigned, no_signed_byte, no_signed_head}
use Rattle.cbor4ii_items.specs.Numbers.{positive_rejected, negative_rejected, RejectsMagnitude}
use Rattle.cbor4ii_items.specs.Numbers.{length_rejected, length_indefinite, length_too_great}
use Rattle.cbor4ii_items.specs.Numbers.{content_cut, ReadsBignum, RejectsU128, no_u128_byte}
use Rattle.cbor4ii_items.specs.Numbers.{u128_head_rejected, u128_tag_rejected, other_u128_tag}
use Rattle.cbor4ii_items.specs.Numbers.{u128_bytes_rejected, RejectsI128, no_i128_byte}
use Rattle.cbor4ii_items.specs.Numbers.{i128_head_rejected, i128_negative_rejected}
use Rattle.cbor4ii_items.specs.Numbers.{i128_tag_rejected, other_i128_tag, i128_bytes_rejected}
use Rattle.cbor4ii_items.specs.Numbers.{i128_negative_bytes_rejected, i128_too_great}
use Rattle.cbor4ii_items.specs.OneError.{OneError}
use Rattle.cbor4ii_items.specs.Laws.Bignums.{magnitude_again, u128_unsigned}
use Rattle.cbor4ii_items.specs.Laws.Bignums.{i128_positive_by, i128_negative_by}
use Rattle.cbor4ii_items.specs.Laws.HeadErrors.{err_as, head_errs, length_errs, number_short}
use Rattle.cbor4ii_items.specs.Laws.Heads.{head_read}
use Rattle.cbor4ii_items.specs.Laws.Outcome.{same_input_error}
use Rattle.cbor4ii_items.specs.Laws.Prefixes.{drop_more}
use Rattle.cbor4ii_items.specs.Laws.Signed.{starts, peek_first, signed_positive_by}
use Rattle.cbor4ii_items.specs.Laws.Signed.{signed_negative_by}
use Rattle.cbor4ii_items.specs.Laws.Strings.{length_known, length_indefinite as no_length}

-- ---- signed integers of at most eight bytes

below_errs : (name : List ℕ) (limit v : ℕ) (ys : List ℕ) → limit ≤ v
    → below name limit v ys ≡ Err (cast_overflow name, ys)
below_errs name limit v ys most =
    let t : ltb v limit ≡ false = le-ltb v limit most in rw t refl

half_errs : (name : List ℕ) (major width limit : ℕ) (xs : List ℕ) (e : InputError) (x : List ℕ)
    → major < 8 → RejectsHalf name major width limit xs e x
    → head_below_at name major width limit xs ≡ Err (e, x)
half_errs name major width limit xs e x m (head_rejected s) =
    ap (λ z. go_on z (below name limit)) (head_errs name major width xs e x s)
half_errs name major width limit xs e x m (argument_too_great v n h most f g) =
    search (rules, err_as, head_read, below_errs)

signed_other_by : (name plus minus : List ℕ) (width limit b : ℕ) → 2 ≤ b / 32
    → signed_by name plus minus width limit b ≡ reject (mismatch name b)
signed_other_by name plus minus width limit b some = search (rules, ne_eqb)

module _ (name plus minus : List ℕ) (width limit : ℕ) where
  pub signed_errs : (xs : List ℕ) (e : InputError) (x : List ℕ)
      → RejectsSigned name plus minus width limit xs e x
      → signed_at name plus minus width limit xs ≡ Err (e, x)
  signed_errs xs e x (no_signed_byte is f g) = search (rules, err_as)
  signed_errs xs e x (no_signed_head b bs is some f g) =
      search (rules, err_as, peek_first, signed_other_by)
  signed_errs xs e x (positive_rejected b bs is type s) =
      ap (λ z. go_on z (signed_by name plus minus width limit)) (peek_first name b bs xs is)
      ∙ (ap (λ p. p xs) (signed_positive_by name plus minus width limit b type)
      ∙ ap (λ z. go_on z as_positive) (half_errs plus 0 width limit xs e x (omega arith) s))
  signed_errs xs e x (negative_rejected b bs is type s) =
      ap (λ z. go_on z (signed_by name plus minus width limit)) (peek_first name b bs xs is)
      ∙ (ap (λ p. p xs) (signed_negative_by name plus minus width limit b type)
      ∙ ap (λ z. go_on z as_negative) (half_errs minus 1 width limit xs e x (omega arith) s))

  pub signed_error : OneError (λ xs budget. RejectsSigned name plus minus width limit xs)
  signed_error xs budget e f x y s t =
      same_input_error (signed_at name plus minus width limit xs) (signed_errs xs e x s)
      (signed_errs xs f y t)

-- ---- bignums of at most sixteen bytes

magnitude_errs : (name xs : List ℕ) (e : InputError) (x : List ℕ) → RejectsMagnitude name xs e x
    → magnitude_at name xs ≡ Err (e, x)
magnitude_errs name xs e x (length_rejected other s) =
    ap (λ z. go_on z (magnitude_by name)) (length_errs name 2 xs e x other s)
magnitude_errs name xs e x (length_indefinite is f) = search (rules, err_as, no_length)
magnitude_errs name xs e x (length_too_great count before h most f g) =
    let t : ltb 16 count ≡ true = lt-ltb 16 count most in
    let a : magnitude_by name (Some count) (drop before xs)
    ≡ Err (length_overflow name (len_of count), drop before xs) = rw t refl in
    err_as (magnitude_at name xs)
    (ap (λ z. go_on z (magnitude_by name)) (length_known name 2 xs count before (omega arith) h)
    ∙ a) f g
magnitude_errs name xs e x (content_cut count before h least short f g) =
    let t : ltb 16 count ≡ false = le-ltb 16 count least in
    let r = head_read name 2 8 xs count before (omega arith) h in
    let few : length (drop before xs) < count =
    omega (arith, short, length-drop before xs, r.1) in
    let a : magnitude_by name (Some count) (drop before xs) ≡ Err (eof name (Small count), []) =
    rw t (number_short name count count 0 (drop before xs) few) in
    err_as (magnitude_at name xs)
    (ap (λ z. go_on z (magnitude_by name)) (length_known name 2 xs count before (omega arith) h)
    ∙ a) f g

-- a bignum's number after its tag
number_after : (tag : ℕ) (name xs : List ℕ) (v n : ℕ) (g : ReadsBignum tag xs v n)
    → magnitude_at name (drop g.before xs) ≡ Ok (v, drop n xs)
number_after tag name xs v n g =
    (magnitude_again name (drop g.before xs) v g.size g.magnitude).answer
    ∙ ap (λ (zs : List ℕ). Ok (v, zs))
    (drop_more g.size g.before xs ∙ ap (λ j. drop j xs) (sym g.total))

-- ---- u128

u128_other_by : (b : ℕ) → b / 32 ≢ 0
    → u128_by b ≡ (head_at (codes "u128") 6 1 >=> unsigned_bignum_at)
u128_other_by b other = let t : eqb (b / 32) 0 ≡ false = ne_eqb (b / 32) 0 other in rw t refl

-- the tag of a bignum begins the bytes
u128_tagged : (xs : List ℕ) (tag before : ℕ) → ReadsHead 6 1 xs tag before
    → u128_at xs ≡ unsigned_bignum_at tag (drop before xs)
u128_tagged xs tag before h = search (rules, starts, peek_first, u128_other_by, head_read)

u128_other_tag : (tag : ℕ) (ys : List ℕ) → tag ≢ 2
    → unsigned_bignum_at tag ys ≡ Err (mismatch (codes "u128::tag") tag, ys)
u128_other_tag tag ys other = let t : eqb tag 2 ≡ false = ne_eqb tag 2 other in rw t refl

pub u128_errs : (xs : List ℕ) (e : InputError) (x : List ℕ) → RejectsU128 xs e x
    → u128_at xs ≡ Err (e, x)
u128_errs xs e x (no_u128_byte is f g) = err_as (u128_at xs) (ap u128_at is) f g
u128_errs xs e x (u128_head_rejected b bs is type s) =
    search (rules, peek_first, u128_unsigned, head_errs)
u128_errs xs e x (u128_tag_rejected b bs is other s) =
    search (rules, peek_first, u128_other_by, head_errs)
u128_errs xs e x (other_u128_tag tag before h other f g) =
    search (rules, err_as, u128_tagged, u128_other_tag)
u128_errs xs e x (u128_bytes_rejected before h s) =
    u128_tagged xs 2 before h ∙ magnitude_errs (codes "u128::bytes") (drop before xs) e x s

pub u128_error : OneError (λ xs budget. RejectsU128 xs)
u128_error xs budget e f x y s t =
    same_input_error (u128_at xs) (u128_errs xs e x s) (u128_errs xs f y t)

-- ---- i128

i128_other_by : (b : ℕ) → 2 ≤ b / 32
    → i128_by b ≡ (head_at (codes "i128") 6 1 >=> signed_bignum_at)
i128_other_by b some = search (rules, ne_eqb)

i128_tagged : (xs : List ℕ) (tag before : ℕ) → ReadsHead 6 1 xs tag before
    → i128_at xs ≡ signed_bignum_at tag (drop before xs)
i128_tagged xs tag before h = search (rules, starts, peek_first, i128_other_by, head_read)

i128_other_tag : (tag : ℕ) (ys : List ℕ) → tag ≢ 2 → tag ≢ 3
    → signed_bignum_at tag ys ≡ Err (mismatch (codes "i128::tag") tag, ys)
i128_other_tag tag ys p q = search (rules, ne_eqb)

small_errs : (name xs : List ℕ) (e : InputError) (x : List ℕ) → RejectsMagnitude name xs e x
    → small_magnitude_at name xs ≡ Err (e, x)
small_errs name xs e x s =
    ap (λ z. go_on z (below (codes "i128") (2 ^ 127))) (magnitude_errs name xs e x s)

small_too_great : (name xs : List ℕ) (v : ℕ) (ys : List ℕ) → magnitude_at name xs ≡ Ok (v, ys)
    → 2 ^ 127 ≤ v → small_magnitude_at name xs ≡ Err (cast_overflow (codes "i128"), ys)
small_too_great name xs v ys h most = search (rules, below_errs)

bignum_too_great : (tag : ℕ) (xs : List ℕ) (v n : ℕ) → (tag ≡ 2) ⊎ (tag ≡ 3)
    → (g : ReadsBignum tag xs v n) → 2 ^ 127 ≤ v
    → signed_bignum_at tag (drop g.before xs) ≡ Err (cast_overflow (codes "i128"), drop n xs)
bignum_too_great tag xs v n (inl is) g most =
    ap (λ k. signed_bignum_at k (drop g.before xs)) is ∙ ap (λ z. go_on z as_positive)
    (small_too_great (codes "+i128::bytes") (drop g.before xs) v (drop n xs)
    (number_after tag (codes "+i128::bytes") xs v n g) most)
bignum_too_great tag xs v n (inr is) g most =
    ap (λ k. signed_bignum_at k (drop g.before xs)) is ∙ ap (λ z. go_on z as_negative)
    (small_too_great (codes "-i128::bytes") (drop g.before xs) v (drop n xs)
    (number_after tag (codes "-i128::bytes") xs v n g) most)

pub i128_errs : (xs : List ℕ) (e : InputError) (x : List ℕ) → RejectsI128 xs e x
    → i128_at xs ≡ Err (e, x)
i128_errs xs e x (no_i128_byte is f g) = err_as (i128_at xs) (ap i128_at is) f g
i128_errs xs e x (i128_head_rejected b bs is type s) =
    search (rules, peek_first, i128_positive_by, head_errs)
i128_errs xs e x (i128_negative_rejected b bs is type s) =
    search (rules, peek_first, i128_negative_by, head_errs)
i128_errs xs e x (i128_tag_rejected b bs is some s) =
    search (rules, peek_first, i128_other_by, head_errs)
i128_errs xs e x (other_i128_tag tag before h p q f g) =
    err_as (i128_at xs) (i128_tagged xs tag before h ∙ i128_other_tag tag (drop before xs) p q) f g
i128_errs xs e x (i128_bytes_rejected before h s) =
    i128_tagged xs 2 before h ∙ ap (λ z. go_on z as_positive)
    (small_errs (codes "+i128::bytes") (drop before xs) e x s)
i128_errs xs e x (i128_negative_bytes_rejected before h s) =
    i128_tagged xs 3 before h ∙ ap (λ z. go_on z as_negative)
    (small_errs (codes "-i128::bytes") (drop before xs) e x s)
i128_errs xs e x (i128_too_great tag v n is g most f l) =
    err_as (i128_at xs)
    (i128_tagged xs tag g.before g.tagged ∙ bignum_too_great tag xs v n is g most) f l

pub i128_error : OneError (λ xs budget. RejectsI128 xs)
i128_error xs budget e f x y s t =
    same_input_error (i128_at xs) (i128_errs xs e x s) (i128_errs xs f y t)
