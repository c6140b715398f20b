-- Numbers, read from the beginning of bytes.
use Rattle.std.specs.Prelude.{ℕ, ◌/◌, ◌^◌, ◌==◌, List, Option, Some, None, nat_lt, if◌then◌else◌, ℤ}
use Rattle.std.specs.Prelude.{pos, negsuc, codes}
use Rattle.cbor4ii_rw.specs.declared.error.Len.TheVariants.{Indefinite}
use Rattle.cbor4ii_items.specs.InputError.{mismatch, require_length, length_overflow, cast_overflow}
use Rattle.cbor4ii_items.specs.InputError.{len_of}
use Rattle.cbor4ii_items.specs.Reading.{Reading, give, reject, peek_at, ◌>=>◌}
use Rattle.cbor4ii_items.specs.ReadHead.{head_at, length_at, number_on}

-- a number below the limit
abbrev pub below : List ℕ → ℕ → ℕ → Reading ℕ
below name limit v = if nat_lt v limit then give v else reject (cast_overflow name)

abbrev pub head_below_at : List ℕ → ℕ → ℕ → ℕ → Reading ℕ
head_below_at name major width limit = head_at name major width >=> below name limit

-- a number from 0 on, and -1 - v
abbrev pub as_positive : ℕ → Reading ℤ
as_positive v = give (pos v)

abbrev pub as_negative : ℕ → Reading ℤ
as_negative v = give (negsuc v)

-- a signed integer that begins with b
abbrev pub signed_by : List ℕ → List ℕ → List ℕ → ℕ → ℕ → ℕ → Reading ℤ
signed_by name plus minus width limit b =
    if (b / 32) == 0 then head_below_at plus 0 width limit >=> as_positive
    else (if (b / 32) == 1 then head_below_at minus 1 width limit >=> as_negative
    else reject (mismatch name b))

abbrev pub signed_at : List ℕ → List ℕ → List ℕ → ℕ → ℕ → Reading ℤ
signed_at name plus minus width limit = peek_at name 1 >=> signed_by name plus minus width limit

-- a byte string of this length, as a number
abbrev pub magnitude_by : List ℕ → Option ℕ → Reading ℕ
magnitude_by name None = reject (require_length name Indefinite)
magnitude_by name (Some count) =
    if nat_lt 16 count then reject (length_overflow name (len_of count)) else number_on name count
    count 0

abbrev pub magnitude_at : List ℕ → Reading ℕ
magnitude_at name = length_at name 2 >=> magnitude_by name

abbrev pub unsigned_bignum_at : ℕ → Reading ℕ
unsigned_bignum_at tag =
    if tag == 2 then magnitude_at (codes "u128::bytes") else reject
    (mismatch (codes "u128::tag") tag)

abbrev pub u128_by : ℕ → Reading ℕ
u128_by b =
    if (b / 32) == 0 then head_at (codes "u64") 0 8 else
    (head_at (codes "u128") 6 1 >=> unsigned_bignum_at)

abbrev pub u128_at : Reading ℕ
u128_at = peek_at (codes "u128") 1 >=> u128_by

abbrev pub small_magnitude_at : List ℕ → Reading ℕ
small_magnitude_at name = magnitude_at name >=> below (codes "i128") (2 ^ 127)

abbrev pub signed_bignum_at : ℕ → Reading ℤ
signed_bignum_at tag =
    if tag == 2 then small_magnitude_at (codes "+i128::bytes") >=> as_positive
    else (if tag == 3 then small_magnitude_at (codes "-i128::bytes") >=> as_negative
    else reject (mismatch (codes "i128::tag") tag))

abbrev pub i128_by : ℕ → Reading ℤ
i128_by b =
    if (b / 32) == 0 then head_at (codes "u64") 0 8 >=> as_positive
    else (if (b / 32) == 1 then head_at (codes "i128") 1 8 >=> as_negative
    else (head_at (codes "i128") 6 1 >=> signed_bignum_at))

abbrev pub i128_at : Reading ℤ
i128_at = peek_at (codes "i128") 1 >=> i128_by
