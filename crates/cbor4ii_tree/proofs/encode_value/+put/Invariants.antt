use Rattle.std.proofs.Common.{◌≡◌, take}
use Rattle.cbor4ii_rw.specs.Writer.{Appends}
use Rattle.cbor4ii_items.specs.SequenceBytes.{items_bytes}
use Rattle.cbor4ii_tree.specs.{Calls.Encoding.{value_bytes, value_pair_bytes}, Basis.Item.AreItems}
use Rattle.cbor4ii_tree.specs.{Basis.Item.AreItemPairs, Basis.View.{items_view, pairs_view}}
use Rattle.cbor4ii_tree.proofs.encode_value.+put.Given as goal

-- so many were written, one after another
abbrev pub invariant-put_items-loop-item : goal.invariant-put_items-loop-item
invariant-put_items-loop-item g l = record {
  appends : Appends (items_bytes value_bytes (take l.item-index l.items))
      (g.W.Write.view l.fn.writer).written (g.W.Write.view l.writer).written;
  counts : (g.W.Write.view l.writer).failures ≡ (g.W.Write.view l.fn.writer).failures;
  items : AreItems (items_view (take l.item-index l.items));
}

abbrev pub invariant-put_pairs-loop-pair : goal.invariant-put_pairs-loop-pair
invariant-put_pairs-loop-pair g l = record {
  appends : Appends (items_bytes value_pair_bytes (take l.pair-index l.pairs))
      (g.W.Write.view l.fn.writer).written (g.W.Write.view l.writer).written;
  counts : (g.W.Write.view l.writer).failures ≡ (g.W.Write.view l.fn.writer).failures;
  pairs : AreItemPairs (pairs_view (take l.pair-index l.pairs));
}
