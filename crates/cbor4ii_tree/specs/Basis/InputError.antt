-- Why bytes are rejected: each with the name of what was being read, and its fields.
use Rattle.std.specs.Prelude.{ℕ, List, ◌⊎◌, codes}
pub use Rattle.cbor4ii_rw.specs.declared.error.Len.{Len}
pub use Rattle.cbor4ii_rw.specs.declared.error.Len.TheVariants.{Indefinite, Small, Big}
pub use Rattle.cbor4ii_items.specs.InputError.{InputError, eof, mismatch, unsupported}
pub use Rattle.cbor4ii_items.specs.InputError.{require_length}
pub use Rattle.cbor4ii_items.specs.InputError.{require_borrowed, require_utf8, length_overflow}
pub use Rattle.cbor4ii_items.specs.InputError.{cast_overflow, depth_overflow, len_of}
use Rattle.cbor4ii_items.specs.Initial.{Sign, unsigned, negative, Kind, byte_string, text_string}
use Rattle.cbor4ii_items.specs.Initial.{Precision, half, single, double}

-- An error that no further bytes and no larger budget mend.
abbrev pub IsFinal : InputError → Type 0
IsFinal (mismatch name found) = Unit {0}
IsFinal (unsupported name found) = Unit {0}
IsFinal (require_length name found) = Unit {0}
IsFinal (require_utf8 name) = Unit {0}
IsFinal _ = ⊥

abbrev pub IsEof : InputError → Type 0
IsEof (eof name expect) = Unit {0}
IsEof _ = ⊥

abbrev pub IsDepthOverflow : InputError → Type 0
IsDepthOverflow (depth_overflow name) = Unit {0}
IsDepthOverflow _ = ⊥

-- The errors that skipping and reading a value give.
abbrev pub MayReject : InputError → Type 0
MayReject e = IsEof e ⊎ (IsDepthOverflow e ⊎ IsFinal e)

-- the names of what is read: that of an integer in errors, by its sign
abbrev pub sign_name : Sign → List ℕ
sign_name unsigned = codes "u64"
sign_name negative = codes "-u64"

abbrev pub kind_name : Kind → List ℕ
kind_name byte_string = codes "bytes"
kind_name text_string = codes "str"

abbrev pub precision_name : Precision → List ℕ
precision_name half = codes "f16"
precision_name single = codes "f32"
precision_name double = codes "f64"

abbrev pub array_name : List ℕ
array_name = codes "array"

abbrev pub map_name : List ℕ
map_name = codes "map"

abbrev pub tag_name : List ℕ
tag_name = codes "tag"

abbrev pub break_name : List ℕ
break_name = codes "break"

abbrev pub value_name : List ℕ
value_name = codes "value"

abbrev pub ignored_any : List ℕ
ignored_any = codes "ignored-any"
