-- Inputs that are read as one item, in the words of encodings.
use Rattle.std.proofs.Common.{rules, ◌≡◌, ℕ, ◌≤◌, List, [], take, length, Some, arith}
use Rattle.std.proofs.lemmas.List.{take_all, append-nil}
use Rattle.std.specs.Prelude.{◌↔◌}
use Rattle.cbor4ii_rw.specs.Input.{limit}
use Rattle.cbor4ii_items.specs.Whole.{IsWhole}
use Rattle.cbor4ii_tree.specs.Basis.Encodings.{DecodesTo}
use Rattle.cbor4ii_tree.specs.Calls.CanonicalShape.{DecodesCanonically}
use Rattle.cbor4ii_tree.specs.{Calls.Promises.value_format, Calls.Canonically.canonical_format}
use Rattle.cbor4ii_tree.specs.{Basis.View.view, declared.value.Value.Value}
use Rattle.cbor4ii_tree.specs.declared.decode_canonical.Canonical.{Canonical}

at_most : (n : ℕ) → n ≤ n
at_most n = omega (arith)

all : (xs : List ℕ) → take (length xs) xs ≡ xs
all xs = take_all (length xs) xs (at_most (length xs))

-- the whole input is an encoding of the value
pub value_is_whole : (xs : List ℕ) (v : Value) → IsWhole value_format.reads xs v
    ↔ DecodesTo xs (Some limit) (view v) []
value_is_whole xs v = search (rules, append-nil, all, at_most)

-- the whole input is the canonical encoding of the value
pub canonical_is_whole : (xs : List ℕ) (v : Canonical) → IsWhole canonical_format.reads xs v
    ↔ DecodesCanonically xs (Some limit) (view v.0) []
canonical_is_whole xs v = search (rules, append-nil, all, at_most)
