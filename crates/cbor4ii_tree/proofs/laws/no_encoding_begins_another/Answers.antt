use Rattle.std.proofs.Common.{rules}
use Rattle.cbor4ii_tree.proofs.{reading.Laws.one_encoded, skipping.Answer.prefix_free}
use Rattle.cbor4ii_tree.specs.Laws.Ignoring.{one_encoding}
use Rattle.cbor4ii_tree.proofs.laws.no_encoding_begins_another.Goals as goal

pub returns : goal.returns
returns c = search (rules, prefix_free, one_encoding, one_encoded)
