use Rattle.cbor4ii_tree.proofs.reading.Laws.{reads_back, reads_back_tagged}
use Rattle.cbor4ii_tree.proofs.laws.canonical_encoding_reads_back.Goals as goal

pub returns-clause-same_value : goal.returns-clause-same_value
returns-clause-same_value c = reads_back

pub returns-clause-tagged : goal.returns-clause-tagged
returns-clause-tagged c = reads_back_tagged
