-- What an error of reading says, read off its variant.
use Rattle.std.specs.Prelude.{ℕ, List, Option, Some, None, Bool, true, false}
use Rattle.std.specs.Borrow.{Bor}
use Rattle.cbor4ii_rw.specs.declared.error.DecodeError.{DecodeError}
use Rattle.cbor4ii_rw.specs.declared.error.DecodeError.TheVariants.{Read, Mismatch, Unsupported}
use Rattle.cbor4ii_rw.specs.declared.error.DecodeError.TheVariants.{Eof, RequireLength}
use Rattle.cbor4ii_rw.specs.declared.error.DecodeError.TheVariants.{RequireBorrowed, RequireUtf8}
use Rattle.cbor4ii_rw.specs.declared.error.DecodeError.TheVariants.{LengthOverflow, CastOverflow}
use Rattle.cbor4ii_rw.specs.declared.error.DecodeError.TheVariants.{ArithmeticOverflow}
use Rattle.cbor4ii_rw.specs.declared.error.DecodeError.TheVariants.{DepthOverflow, Custom}
use Rattle.cbor4ii_rw.specs.declared.error.DecodeError.TheVariants.{OutOfMemory, NotCanonical}

-- the input ended too early
abbrev pub is_eof : {E : Type 0} → DecodeError E → Bool
is_eof (Eof name expect) = true
is_eof _ = false

-- the name of what was read
abbrev pub name_of : {E : Type 0} → DecodeError E → Option (Bor (List ℕ))
name_of (Read e) = None
name_of (Mismatch name found) = Some name
name_of (Unsupported name found) = Some name
name_of (Eof name expect) = Some name
name_of (RequireLength name found) = Some name
name_of (RequireBorrowed name) = Some name
name_of (RequireUtf8 name) = Some name
name_of (LengthOverflow name found) = Some name
name_of (CastOverflow name) = Some name
name_of (ArithmeticOverflow name ty) = Some name
name_of (DepthOverflow name) = Some name
name_of (Custom name num) = Some name
name_of OutOfMemory = None
name_of (NotCanonical name) = Some name

-- the byte that was found in the place of another
abbrev pub byte_of : {E : Type 0} → DecodeError E → Option ℕ
byte_of (Mismatch name found) = Some found
byte_of (Unsupported name found) = Some found
byte_of _ = None
