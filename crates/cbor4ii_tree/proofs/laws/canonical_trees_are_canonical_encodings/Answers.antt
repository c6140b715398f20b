use Rattle.std.proofs.Common.{rules}
use Rattle.cbor4ii_tree.proofs.encodings.CanonicalShape.{shape_iff_canonical}
use Rattle.cbor4ii_tree.proofs.encodings.CanonicalShape.{reads_canonically_iff, equal_iff_bytes}
use Rattle.cbor4ii_tree.proofs.laws.canonical_trees_are_canonical_encodings.Goals as goal

pub returns : goal.returns
returns c = search (rules, shape_iff_canonical, reads_canonically_iff, equal_iff_bytes)
