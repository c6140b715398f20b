use Rattle.cbor4ii.specs.Keys.{integer_name, label_of}
use Rattle.cbor4ii.proofs.Labels.{OtherKeys}
use Rattle.cbor4ii.proofs.serde.de.keys.integer_place.Given as goal

abbrev pub invariant-loop-at : goal.invariant-loop-at
invariant-loop-at l = OtherKeys integer_name (label_of l.key) l.keys l.at
