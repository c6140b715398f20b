-- Facts of known bytes.
use Rattle.std.proofs.Common.{rules, ◌≡◌, ℕ, List, Some, subst}
use Rattle.cbor4ii_rw.specs.View.{IfKnown}

pub some_inner : (bytes xs : List ℕ) → Some bytes ≡ Some xs → bytes ≡ xs
some_inner bytes xs is = search (is, rules)

-- known bytes are what the `Some` holds
pub known_some : (P : List ℕ → Type 0) (bytes : List ℕ) → P bytes → IfKnown (Some bytes) P
known_some P bytes p xs is = subst P (some_inner bytes xs is) p
