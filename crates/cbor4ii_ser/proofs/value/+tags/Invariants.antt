use Rattle.std.proofs.Common.{◌≡◌, take, false}
use Rattle.cbor4ii_tree.specs.Basis.View.{items_view, pairs_view}
use Rattle.cbor4ii_ser.specs.Values.{some_holds_tag, pairs_hold_tag}
use Rattle.cbor4ii_ser.proofs.value.+tags.Given as goal

-- none of those so far holds a tag
abbrev pub invariant-some_holds_tag-loop-item : goal.invariant-some_holds_tag-loop-item
invariant-some_holds_tag-loop-item l =
    some_holds_tag (items_view (take l.item-index l.items)) ≡ false

abbrev pub invariant-pairs_hold_tag-loop-pair : goal.invariant-pairs_hold_tag-loop-pair
invariant-pairs_hold_tag-loop-pair l =
    pairs_hold_tag (pairs_view (take l.pair-index l.pairs)) ≡ false
