-- What is read of an item that is skipped.
use Rattle.std.specs.Prelude.{ℕ, List}
use Rattle.cbor4ii_items.specs.Decoding.{Format, leaf_format}
use Rattle.cbor4ii_tree.specs.Calls.Ignored.{ReadsTree}
use Rattle.cbor4ii_tree.specs.Calls.SkippingRejects.{SkippingRejects}

-- an item of which nothing is kept
abbrev pub ReadsSkipped : List ℕ → Unit {0} → ℕ → ℕ → Type 0
ReadsSkipped xs v n c = ReadsTree xs n c

abbrev pub skipped_format : Format (Unit {0})
skipped_format = leaf_format ReadsSkipped SkippingRejects
