use Rattle.std.proofs.Common.{◌≡◌, take}
use Rattle.cbor4ii_rw.specs.Writer.{Appends}
use Rattle.cbor4ii_items.specs.SequenceBytes.{items_bytes}
use Rattle.cbor4ii_items.proofs.sequences.encode.push_items.Given as goal

-- so many were written, one after another
abbrev pub invariant-loop-item : goal.invariant-loop-item
invariant-loop-item g l = record {
  appends : Appends (items_bytes g.T.Encode.bytes (take l.item-index l.items))
      (g.W.Write.view l.fn.writer).written (g.W.Write.view l.writer).written;
  counts : (g.W.Write.view l.writer).failures ≡ (g.W.Write.view l.fn.writer).failures;
}
