use Rattle.std.proofs.Common.{arith}
use Rattle.std.proofs.lemmas.Grind.{common_steps}
use Rattle.cbor4ii_rw.proofs.segment_reader.SegmentReader.remaining.Goals as goal

pub loop-segments-init : goal.loop-segments-init
loop-segments-init c = grind (arith, common_steps)

pub loop-segments-preserved : goal.loop-segments-preserved
loop-segments-preserved c = grind (arith, common_steps)

pub returns : goal.returns
returns c = grind (arith, common_steps)
