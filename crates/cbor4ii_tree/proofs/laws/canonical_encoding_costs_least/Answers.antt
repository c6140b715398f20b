use Rattle.std.proofs.Common.{rules}
use Rattle.cbor4ii_tree.proofs.encodings.CanonicalShape.{canonical_encodes}
use Rattle.cbor4ii_tree.proofs.reading.Laws.{canonical_costs_least, encoded_has_bignums}
use Rattle.cbor4ii_tree.proofs.laws.canonical_encoding_costs_least.Goals as goal

pub returns : goal.returns
returns c = search (rules, canonical_encodes, canonical_costs_least, encoded_has_bignums)
