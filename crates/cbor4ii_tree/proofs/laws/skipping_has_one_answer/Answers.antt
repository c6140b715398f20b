use Rattle.cbor4ii_tree.proofs.skipping.Answer as lemmas
use Rattle.cbor4ii_tree.proofs.laws.skipping_has_one_answer.Goals as goal

pub returns : goal.returns
returns c = record {
  at_most_one = lemmas.one_skipping;
  some = lemmas.some_skipping;
  computes = lemmas.skip_from_Skips;
  computes_error = lemmas.skip_from_Rejects;
  means = lemmas.Skips_from_skip;
  means_error = lemmas.Rejects_from_skip;
}
