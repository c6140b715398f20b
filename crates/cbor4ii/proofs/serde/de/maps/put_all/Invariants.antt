use Rattle.std.proofs.Common.{◌≡◌}
use Rattle.cbor4ii.specs.Built.{built_pairs}
use Rattle.cbor4ii.proofs.serde.de.maps.put_all.Given as goal

abbrev pub invariant-loop-key : goal.invariant-loop-key
invariant-loop-key g l = l.map.entries ≡ built_pairs g.K.Ord.cmp l.yielded
