use Rattle.std.proofs.Common.{◌≡◌, drop}
use Rattle.cbor4ii_tree.specs.Basis.View.{pairs_view}
use Rattle.cbor4ii_examples.specs.Shape.{frame_fields, nothing_framed, frame_pairs_at}
use Rattle.cbor4ii_examples.proofs.shape.+shapes.Given as goal

abbrev pub invariant-frame_in-loop-pair : goal.invariant-frame_in-loop-pair
invariant-frame_in-loop-pair l =
    frame_pairs_at (pairs_view l.pairs) nothing_framed
    ≡ frame_pairs_at (pairs_view (drop l.pair-index l.pairs)) (frame_fields l.frame)
