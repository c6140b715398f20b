use Rattle.std.proofs.Common.{arith}
use Rattle.std.proofs.lemmas.Grind.{common_steps}
use Rattle.cbor4ii_rw.proofs.segment_reader.SegmentReader.pass_empty.Goals as goal

pub loop-first-preserved : goal.loop-first-preserved
loop-first-preserved c = grind (arith, common_steps)
