use Rattle.cbor4ii_tree.specs.Basis.View.{view}
use Rattle.cbor4ii_tree.proofs.encodings.CanonicalShape.{canonical_encodes}
use Rattle.cbor4ii_tree.proofs.reading.Laws.{reads_back_tagged}
use Rattle.cbor4ii_tree.proofs.encode_value.ValueEncode.encode.Goals as goal

pub returns-in-Some-clause-encodes : goal.returns-in-Some-clause-encodes
returns-in-Some-clause-encodes g c = canonical_encodes (view c.args.self.now) c.in-Some.ensures.item

pub returns-in-Some-clause-reads_back : goal.returns-in-Some-clause-reads_back
returns-in-Some-clause-reads_back g c = λ budget more.
    reads_back_tagged (view c.args.self.now) budget more c.in-Some.ensures.item
