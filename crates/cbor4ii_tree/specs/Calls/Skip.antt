-- Skipping an item, as a program on lists.
use Rattle.cbor4ii_tree.specs.{Basis.Cost.Budget, Calls.ItemAt.item_at, Calls.Parse.Parser}
use Rattle.cbor4ii_tree.specs.{Calls.SkippingRejects.skipping_profile, Basis.Tree.Tree}

-- the tree at the beginning of the input, and the rest
abbrev pub skip : Budget → Parser Tree
skip = item_at skipping_profile
