use Rattle.std.proofs.Common.{◌≡◌, take}
use Rattle.cbor4ii_rw.specs.Writer.{Appends}
use Rattle.cbor4ii_items.specs.SequenceBytes.{items_bytes, pair_bytes}
use Rattle.cbor4ii_items.proofs.sequences.encode.push_pairs.Given as goal

-- so many were written, one after another
abbrev pub invariant-loop-pair : goal.invariant-loop-pair
invariant-loop-pair g l = record {
  appends : Appends
      (items_bytes (pair_bytes g.K.Encode.bytes g.V.Encode.bytes) (take l.pair-index l.pairs))
      (g.W.Write.view l.fn.writer).written (g.W.Write.view l.writer).written;
  counts : (g.W.Write.view l.writer).failures ≡ (g.W.Write.view l.fn.writer).failures;
}
