-- What values are written as.
use Rattle.std.specs.Prelude.{ℕ, List}
use Rattle.cbor4ii_items.specs.SequenceBytes.{pair_bytes}
use Rattle.cbor4ii_tree.specs.{Basis.Canonical.canonical_encoding, Basis.View.view}
use Rattle.cbor4ii_tree.specs.declared.value.Value.{Value}

-- the canonical encoding of a value
abbrev pub value_bytes : Value → List ℕ
value_bytes v = canonical_encoding (view v)

-- a key's canonical encoding, and its value's after it
abbrev pub value_pair_bytes : Value × Value → List ℕ
value_pair_bytes = pair_bytes value_bytes value_bytes
