use Rattle.cbor4ii.specs.FieldKey.{same_name}
use Rattle.cbor4ii.proofs.Labels.{OtherKeys}
use Rattle.cbor4ii.proofs.serde.de.names.place.Given as goal

abbrev pub invariant-loop-at : goal.invariant-loop-at
invariant-loop-at l = OtherKeys same_name l.name l.names l.at
