-- When a store rejects bytes.
use Rattle.std.specs.Prelude.{◌≡◌, ◌≤◌, ◌⊎◌, ℕ, List, [], Some, Err}
use Rattle.std.specs.declared.string.ParseError.{Infallible}
use Rattle.cbor4ii_rw.specs.Input.{limit}
use Rattle.cbor4ii_rw.specs.declared.error.DecodeError.{DecodeError}
use Rattle.cbor4ii_rw.specs.declared.error.DecodeError.TheVariants.{OutOfMemory}
use Rattle.cbor4ii_rw.specs.declared.error.WholeError.{WholeError}
use Rattle.cbor4ii_rw.specs.declared.error.WholeError.TheVariants.{Decode}
use Rattle.cbor4ii_items.specs.Whole.{DecodesWhole}
use Rattle.cbor4ii_items.specs.Decoding.{Format}
use Rattle.cbor4ii_tree.specs.Basis.Canonical.{canonical_encoding, canonical_cost}
use Rattle.cbor4ii_tree.specs.Calls.CanonicalShape.{IsDecoded}
use Rattle.cbor4ii_tree.specs.Basis.Encodings.{DecodesTo}
use Rattle.cbor4ii_tree.specs.Basis.View.{view}
use Rattle.cbor4ii_tree.specs.declared.value.Value.{Value}

-- the bytes are an encoding of the value, in 256 steps
abbrev pub IsEncoding : List ℕ → Value → Type 0
IsEncoding bytes v = DecodesTo bytes (Some limit) (view v) []

-- the bytes are the canonical encoding of a value that reading gives, in 256 steps
abbrev pub IsCanonicalEncoding : List ℕ → Value → Type 0
IsCanonicalEncoding bytes v =
    IsDecoded (view v) × (canonical_cost (view v) ≤ limit) × (bytes ≡ canonical_encoding (view v))

-- Which error it is, with which fields, is what `decode_whole` says.
-- Why the bytes are rejected: memory was refused, or they are of no value.
pub record NotStored {V : Type 0} (format : Format V) (Is : List ℕ → Value → Type 0)
    (bytes : List ℕ) (error : WholeError (DecodeError Infallible)) : Type 0 where
  pub only : (error ≡ Decode OutOfMemory) ⊎ ((v : Value) → Is bytes v → ⊥)
  pub whole : DecodesWhole {E = Infallible} format bytes (Err error)
