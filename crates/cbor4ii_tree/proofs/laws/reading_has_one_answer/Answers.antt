use Rattle.cbor4ii_tree.proofs.reading.Answer as lemmas
use Rattle.cbor4ii_tree.proofs.laws.reading_has_one_answer.Goals as goal

pub returns : goal.returns
returns c = record {
  at_most_one = lemmas.one_reading;
  some = lemmas.some_reading;
  computes = lemmas.read_from_Reads;
  computes_error = lemmas.read_from_Rejects;
  means = lemmas.Reads_from_read;
  means_error = lemmas.Rejects_from_read;
}
