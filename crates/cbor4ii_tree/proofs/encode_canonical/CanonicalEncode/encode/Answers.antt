use Rattle.std.proofs.Common.{rules}
use Rattle.std.proofs.{Common.refl, lemmas.Result.on_ok_weaker}
use Rattle.cbor4ii_tree.specs.{Basis.Canonical.{canonical_encoding, canonical_cost}}
use Rattle.cbor4ii_tree.specs.{Basis.View.view}
use Rattle.cbor4ii_tree.proofs.encodings.CanonicalShape.{written_canonically}
use Rattle.cbor4ii_tree.proofs.encode_canonical.CanonicalEncode.encode.Goals as goal

pub returns-clause-encodes : goal.returns-clause-encodes
returns-clause-encodes g c = search (rules, on_ok_weaker, written_canonically)

pub returns-clause-reads_back : goal.returns-clause-reads_back
returns-clause-reads_back g c =
    let v = view c.args.self.now.0 in
    on_ok_weaker c.encode.result (λ is budget more fits. record {
      encoding = canonical_encoding v;
      steps = canonical_cost v;
      encodes = written_canonically v is;
      fits = fits;
      begins = refl;
    }) c.encode.ensures.item
