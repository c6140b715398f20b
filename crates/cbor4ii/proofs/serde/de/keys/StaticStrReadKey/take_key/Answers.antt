use Rattle.std.proofs.Common.{rules}
use Rattle.cbor4ii.proofs.KeyMemory.{wants_anywhere}
use Rattle.cbor4ii.proofs.Labels.{labels_of_names}
use Rattle.cbor4ii.proofs.serde.de.keys.StaticStrReadKey.take_key.Goals as goal

pub returns-clause-which : goal.returns-clause-which
returns-clause-which g c = search (rules, labels_of_names)

pub returns-clause-memory : goal.returns-clause-memory
returns-clause-memory g c = search (rules, wants_anywhere)
