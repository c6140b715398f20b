use Rattle.std.proofs.Common.{arith, refl}
use Rattle.cbor4ii_rw.proofs.StreamLemmas.{drops_left}
use Rattle.cbor4ii_rw.proofs.io_reader.IoReaderSource.advance.Goals as goal

pub returns : goal.returns
returns g c = record {
  known = drops_left c.args.n _ _ c.args.self.now.tally _ refl refl refl (omega (arith, c.requires))
      (omega (arith, c.requires));
  bound = omega (arith, c.requires);
  advanceable = omega (arith, c.requires);
  budget = refl;
  failures = refl;
  taken = refl;
  zero_copy = λ lent. lent;
  remembers = λ is. is;
  ends_at = refl;
}
