-- What reading the next value of a sequence (RFC 8742) promises of an input that is cut.
use Rattle.std.specs.Prelude.{◌≤◌, ℕ, List, length, Option, Result}
use Rattle.cbor4ii_rw.specs.View.{View, IfKnown}
use Rattle.cbor4ii_rw.specs.declared.error.DecodeError.{DecodeError}
use Rattle.cbor4ii_items.specs.Budget.{CostFits}
use Rattle.cbor4ii_items.specs.Head.{IsBytes}
use Rattle.cbor4ii_tree.specs.Basis.Encodings.{Encodes, IsProperPrefix}
use Rattle.cbor4ii_tree.specs.Basis.Headline.{Answered}
use Rattle.cbor4ii_tree.specs.Basis.InputError.{IsEof}
use Rattle.cbor4ii_tree.specs.Basis.Item.{Item}
use Rattle.cbor4ii_tree.specs.declared.value.Value.{Value}

-- bytes that are some, and not all, of an encoding that fits are an end of the input
abbrev pub CutIsEof : {E : Type 0} → View → Result (Option Value) (DecodeError E) → Type 0
CutIsEof old answer = IfKnown old.known (λ xs. (encoding : List ℕ) (v : Item) (steps : ℕ) →
    IsBytes xs → 1 ≤ length xs → Encodes encoding v steps → CostFits steps old.budget →
    IsProperPrefix xs encoding → Answered (λ _. ⊥) IsEof answer)
