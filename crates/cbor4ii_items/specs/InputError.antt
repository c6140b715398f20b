-- Why bytes are rejected: what an error says of them.
use Rattle.std.specs.Prelude.{ℕ, List, Option, Some, None, Bool, true, false, nat_lt, if◌then◌else◌}
use Rattle.cbor4ii_rw.specs.declared.error.Len.{Len}
use Rattle.cbor4ii_rw.specs.declared.error.Len.TheVariants.{Small, Big}
use Rattle.cbor4ii_rw.specs.declared.error.ArithmeticOverflow.{ArithmeticOverflow as Overflows}
use Rattle.cbor4ii_rw.specs.declared.error.DecodeError.{DecodeError}
use Rattle.cbor4ii_rw.specs.declared.error.DecodeError.TheVariants.{Read, Mismatch, Unsupported}
use Rattle.cbor4ii_rw.specs.declared.error.DecodeError.TheVariants.{Eof, RequireLength}
use Rattle.cbor4ii_rw.specs.declared.error.DecodeError.TheVariants.{RequireBorrowed, RequireUtf8}
use Rattle.cbor4ii_rw.specs.declared.error.DecodeError.TheVariants.{LengthOverflow, CastOverflow}
use Rattle.cbor4ii_rw.specs.declared.error.DecodeError.TheVariants.{ArithmeticOverflow}
use Rattle.cbor4ii_rw.specs.declared.error.DecodeError.TheVariants.{DepthOverflow, Custom}
use Rattle.cbor4ii_rw.specs.declared.error.DecodeError.TheVariants.{OutOfMemory, NotCanonical}

-- the errors that speak of the bytes, each with the name of what was read
pub data InputError : Type 0 where
  mismatch : List ℕ → ℕ → InputError
  unsupported : List ℕ → ℕ → InputError
  eof : List ℕ → Len → InputError
  require_length : List ℕ → Len → InputError
  require_borrowed : List ℕ → InputError
  require_utf8 : List ℕ → InputError
  length_overflow : List ℕ → Len → InputError
  cast_overflow : List ℕ → InputError
  arithmetic_overflow : List ℕ → Overflows → InputError
  depth_overflow : List ℕ → InputError
  custom : List ℕ → ℕ → InputError
  not_canonical : List ℕ → InputError

-- what an error says of the bytes: nothing where the reader failed, or where there was no memory
abbrev pub input_error_of : {E : Type 0} → DecodeError E → Option InputError
input_error_of (Read e) = None
input_error_of (Mismatch name found) = Some (mismatch name.now found)
input_error_of (Unsupported name found) = Some (unsupported name.now found)
input_error_of (Eof name expect) = Some (eof name.now expect)
input_error_of (RequireLength name found) = Some (require_length name.now found)
input_error_of (RequireBorrowed name) = Some (require_borrowed name.now)
input_error_of (RequireUtf8 name) = Some (require_utf8 name.now)
input_error_of (LengthOverflow name found) = Some (length_overflow name.now found)
input_error_of (CastOverflow name) = Some (cast_overflow name.now)
input_error_of (ArithmeticOverflow name ty) = Some (arithmetic_overflow name.now ty)
input_error_of (DepthOverflow name) = Some (depth_overflow name.now)
input_error_of (Custom name num) = Some (custom name.now num)
input_error_of OutOfMemory = None
input_error_of (NotCanonical name) = Some (not_canonical name.now)

-- the reader failed
abbrev pub is_read : {E : Type 0} → DecodeError E → Bool
is_read (Read e) = true
is_read _ = false

-- a growth was refused
abbrev pub is_out_of_memory : {E : Type 0} → DecodeError E → Bool
is_out_of_memory OutOfMemory = true
is_out_of_memory _ = false

-- no step was left
abbrev pub is_depth_overflow : {E : Type 0} → DecodeError E → Bool
is_depth_overflow (DepthOverflow name) = true
is_depth_overflow _ = false

-- a count in an error
abbrev pub len_of : ℕ → Len
len_of n = if nat_lt n 65536 then Small n else Big
