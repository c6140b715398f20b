use Rattle.cbor4ii_tree.proofs.reading.Laws.{skips_what_reads}
use Rattle.cbor4ii_tree.proofs.laws.skipping_takes_what_reading_takes.Goals as goal

pub returns : goal.returns
returns c = skips_what_reads
