-- What the initial byte of an encoded data item says, as the jump table of RFC 8949 appendix B
-- does. The reserved additional information, and what this codec does not read of major type 7,
-- have rows of their own.
use Rattle.std.specs.Prelude.{ℕ, zero, suc, ◌/◌, ◌%◌, ◌==◌, nat_lt, if◌then◌else◌}
use Rattle.cbor4ii_items.specs.Head.{Width, in_first, one, two, four, eight}

-- Integers are of major type 0 or 1, strings of 2 or 3 (section 3.1).
pub data Sign : Type 0 where
  unsigned negative : Sign

abbrev pub sign_major : Sign → ℕ
sign_major unsigned = 0
sign_major negative = 1

pub data Kind : Type 0 where
  byte_string text_string : Kind

abbrev pub kind_major : Kind → ℕ
kind_major byte_string = 2
kind_major text_string = 3

-- The simple values that have a byte of their own (section 3.3, table 4).
pub data Simple : Type 0 where
  simple_false simple_true simple_null simple_undefined : Simple

-- the byte of a simple value that has a meaning (section 3.3)
abbrev pub simple_byte : Simple → ℕ
simple_byte simple_false = 0xf4
simple_byte simple_true = 0xf5
simple_byte simple_null = 0xf6
simple_byte simple_undefined = 0xf7

-- The floats of IEEE 754: 16, 32 and 64 bits (section 3.3).
pub data Precision : Type 0 where
  half single double : Precision

abbrev pub precision_byte : Precision → ℕ
precision_byte half = 0xf9
precision_byte single = 0xfa
precision_byte double = 0xfb

abbrev pub precision_bytes : Precision → ℕ
precision_bytes half = 2
precision_bytes single = 4
precision_bytes double = 8

-- the additional information of major types 0 to 6 (section 3): a width, 31, or a reserved 28 to 30
pub data Info : Type 0 where
  wide : Width → Info
  indefinite_ended reserved : Info

abbrev pub info_of : ℕ → Info
info_of i =
    if nat_lt i 24 then wide in_first
    else (if i == 24 then wide one
    else (if i == 25 then wide two
    else (if i == 26 then wide four
    else (if i == 27 then wide eight
    else (if i == 31 then indefinite_ended else reserved)))))

pub data Initial : Type 0 where
  starts_int : Sign → Width → Initial
  bad_int : Sign → Initial
  starts_string : Kind → Width → Initial
  starts_chunks : Kind → Initial
  bad_string : Kind → Initial
  starts_array : Width → Initial
  starts_indefinite_array bad_array : Initial
  starts_map : Width → Initial
  starts_indefinite_map bad_map : Initial
  starts_tag : Width → Initial
  bad_tag : Initial
  starts_simple : Simple → Initial
  starts_bits : Precision → Initial
  other_simple : Initial

abbrev pub int_by_info : Sign → Info → Initial
int_by_info s (wide w) = starts_int s w
int_by_info s _ = bad_int s

abbrev pub string_by_info : Kind → Info → Initial
string_by_info k (wide w) = starts_string k w
string_by_info k indefinite_ended = starts_chunks k
string_by_info k reserved = bad_string k

abbrev pub array_by_info : Info → Initial
array_by_info (wide w) = starts_array w
array_by_info indefinite_ended = starts_indefinite_array
array_by_info reserved = bad_array

abbrev pub map_by_info : Info → Initial
map_by_info (wide w) = starts_map w
map_by_info indefinite_ended = starts_indefinite_map
map_by_info reserved = bad_map

abbrev pub tag_by_info : Info → Initial
tag_by_info (wide w) = starts_tag w
tag_by_info _ = bad_tag

-- The other simple values and a break that stands where an item should are `other_simple`.
-- What an item of major type 7 is, by its additional information (section 3.3).
abbrev pub simple_by_info : ℕ → Initial
simple_by_info i =
    if i == 20 then starts_simple simple_false
    else (if i == 21 then starts_simple simple_true
    else (if i == 22 then starts_simple simple_null
    else (if i == 23 then starts_simple simple_undefined
    else (if i == 25 then starts_bits half
    else (if i == 26 then starts_bits single
    else (if i == 27 then starts_bits double else other_simple))))))

abbrev pub by_major : ℕ → ℕ → Initial
by_major zero i = int_by_info unsigned (info_of i)
by_major (suc zero) i = int_by_info negative (info_of i)
by_major (suc (suc zero)) i = string_by_info byte_string (info_of i)
by_major (suc (suc (suc zero))) i = string_by_info text_string (info_of i)
by_major (suc (suc (suc (suc zero)))) i = array_by_info (info_of i)
by_major (suc (suc (suc (suc (suc zero))))) i = map_by_info (info_of i)
by_major (suc (suc (suc (suc (suc (suc zero)))))) i = tag_by_info (info_of i)
by_major _ i = simple_by_info i

unfoldable pub initial : ℕ → Initial
initial b = by_major (b / 32) (b % 32)
