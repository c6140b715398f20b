-- What an error of the codec is called.
use Rattle.std.specs.Prelude.{ℕ, Result, is_ok, if◌then◌else◌}
use Rattle.cbor4ii_items.specs.InputError.{InputError, mismatch, unsupported, eof, require_length}
use Rattle.cbor4ii_items.specs.InputError.{require_borrowed, require_utf8, length_overflow}
use Rattle.cbor4ii_items.specs.InputError.{cast_overflow, arithmetic_overflow, depth_overflow}
use Rattle.cbor4ii_items.specs.InputError.{custom}
use Rattle.cbor4ii_items.specs.InputError.{not_canonical}
use Rattle.cbor4ii_rw.specs.declared.error.DecodeError.{DecodeError}
use Rattle.cbor4ii_rw.specs.declared.error.DecodeError.TheVariants.{Read, Mismatch, Unsupported}
use Rattle.cbor4ii_rw.specs.declared.error.DecodeError.TheVariants.{Eof, RequireLength}
use Rattle.cbor4ii_rw.specs.declared.error.DecodeError.TheVariants.{RequireBorrowed, RequireUtf8}
use Rattle.cbor4ii_rw.specs.declared.error.DecodeError.TheVariants.{LengthOverflow, CastOverflow}
use Rattle.cbor4ii_rw.specs.declared.error.DecodeError.TheVariants.{ArithmeticOverflow}
use Rattle.cbor4ii_rw.specs.declared.error.DecodeError.TheVariants.{DepthOverflow, Custom}
use Rattle.cbor4ii_rw.specs.declared.error.DecodeError.TheVariants.{OutOfMemory, NotCanonical}
use Rattle.cbor4ii_tool.specs.declared.fault.Fault.{Fault}
use Rattle.cbor4ii_tool.specs.declared.fault.Kind.{Kind}
use Rattle.cbor4ii_tool.specs.declared.fault.Kind.TheVariants as kind

-- the kind of the same name as an error
abbrev pub kind_of : {E : Type 0} → DecodeError E → Kind
kind_of (Read error) = kind.Read
kind_of (Mismatch name found) = kind.Mismatch
kind_of (Unsupported name found) = kind.Unsupported
kind_of (Eof name expect) = kind.Eof
kind_of (RequireLength name found) = kind.RequireLength
kind_of (RequireBorrowed name) = kind.RequireBorrowed
kind_of (RequireUtf8 name) = kind.RequireUtf8
kind_of (LengthOverflow name found) = kind.LengthOverflow
kind_of (CastOverflow name) = kind.CastOverflow
kind_of (ArithmeticOverflow name ty) = kind.ArithmeticOverflow
kind_of (DepthOverflow name) = kind.DepthOverflow
kind_of (Custom name num) = kind.Custom
kind_of OutOfMemory = kind.OutOfMemory
kind_of (NotCanonical name) = kind.NotCanonical

-- the kind of the same name, of what an error says of the bytes
abbrev pub kind_of_input_error : InputError → Kind
kind_of_input_error (mismatch name found) = kind.Mismatch
kind_of_input_error (unsupported name found) = kind.Unsupported
kind_of_input_error (eof name expect) = kind.Eof
kind_of_input_error (require_length name found) = kind.RequireLength
kind_of_input_error (require_borrowed name) = kind.RequireBorrowed
kind_of_input_error (require_utf8 name) = kind.RequireUtf8
kind_of_input_error (length_overflow name found) = kind.LengthOverflow
kind_of_input_error (cast_overflow name) = kind.CastOverflow
kind_of_input_error (arithmetic_overflow name ty) = kind.ArithmeticOverflow
kind_of_input_error (depth_overflow name) = kind.DepthOverflow
kind_of_input_error (custom name num) = kind.Custom
kind_of_input_error (not_canonical name) = kind.NotCanonical

-- what a run answers: nothing, or where it stopped and why
abbrev pub Outcome : Type 0
Outcome = Result (Unit {0}) Fault

-- the exit status: 0 after a run without a fault, 1 after one with
abbrev pub status_of : Outcome → ℕ
status_of outcome = if is_ok outcome then 0 else 1
