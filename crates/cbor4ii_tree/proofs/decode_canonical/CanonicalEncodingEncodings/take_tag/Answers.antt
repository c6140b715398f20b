use Rattle.std.proofs.Common.{rules}
use Rattle.cbor4ii_tree.proofs.{canonical.Once.tag_shortest, values.Sequences.gives_none}
use Rattle.cbor4ii_tree.proofs.decode_canonical.CanonicalEncodingEncodings.take_tag.Goals as goal

pub returns : goal.returns
returns g c = search (rules, gives_none, tag_shortest)
