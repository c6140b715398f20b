-- Heads, read from the beginning of bytes one byte at a time.
use Rattle.std.specs.Prelude.{ℕ, zero, suc, ◌+◌, ◌*◌, ◌/◌, ◌%◌, ◌==◌, List, Bool, false, Option}
use Rattle.std.specs.Prelude.{Some, None, nat_lt, nat_le, if◌then◌else◌}
use Rattle.cbor4ii_items.specs.Head.{indefinite_head}
use Rattle.cbor4ii_items.specs.InputError.{mismatch}
use Rattle.cbor4ii_items.specs.Reading.{Reading, give, reject, byte_at, ◌>=>◌}

-- k bytes, most significant first, after a number
abbrev pub number_on : List ℕ → ℕ → ℕ → ℕ → Reading ℕ
number_on name expect zero high = give high
number_on name expect (suc k) high =
    byte_at name expect >=> λ b. number_on name expect k (high * 256 + b)

-- in how many bytes the argument follows, by an additional information of 24 to 27
abbrev pub argument_size : ℕ → ℕ
argument_size info = if info == 24 then 1 else
    (if info == 25 then 2 else (if info == 26 then 4 else 8))

abbrev pub allowed_info : ℕ → ℕ → Bool
allowed_info width info = if nat_lt info 28 then nat_le (argument_size info) width else false

-- the argument of a head that begins with b
abbrev pub argument_at : List ℕ → ℕ → ℕ → Reading ℕ
argument_at name width b =
    if nat_lt (b % 32) 24 then give (b % 32)
    else (if allowed_info width (b % 32) then number_on name (argument_size (b % 32))
    (argument_size (b % 32)) 0
    else reject (mismatch name b))

-- the argument of a head of this major type that begins with b
abbrev pub head_by : List ℕ → ℕ → ℕ → ℕ → Reading ℕ
head_by name major width b =
    if (b / 32) == major then argument_at name width b else reject (mismatch name b)

-- a head of this major type, of at most so many bytes of argument
abbrev pub head_at : List ℕ → ℕ → ℕ → Reading ℕ
head_at name major width = byte_at name 1 >=> head_by name major width

-- a length: none where it is indefinite
abbrev pub length_by : List ℕ → ℕ → ℕ → Reading (Option ℕ)
length_by name major b =
    if b == indefinite_head major then give None else (head_by name major 8 b >=> λ n. give
    (Some n))

abbrev pub length_at : List ℕ → ℕ → Reading (Option ℕ)
length_at name major = byte_at name 1 >=> length_by name major
