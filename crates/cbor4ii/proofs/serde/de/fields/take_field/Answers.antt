use Rattle.std.proofs.Common.{rules}
use Rattle.cbor4ii.specs.FieldKey.{labels_by}
use Rattle.cbor4ii.specs.Typed.{not_exact}
use Rattle.cbor4ii.proofs.Filling.{entry_alters, entry_rejected}
use Rattle.cbor4ii.proofs.KeyMemory.{wants_after, wants_more}
use Rattle.cbor4ii.proofs.Names.{key_taken}
use Rattle.cbor4ii.proofs.serde.de.fields.take_field.Goals as goal

pub returns-in-Some-clause-alters : goal.returns-in-Some-clause-alters
returns-in-Some-clause-alters g c = search (rules, entry_alters, key_taken)

pub returns-in-None-clause-alters : goal.returns-in-None-clause-alters
returns-in-None-clause-alters g c =
    entry_rejected g.K.ReadKey.key (g.V.Places.fields (labels_by g.K.ReadKey.label c.args.keys.now))
    c.in-None.ensures.which

pub returns-in-Some-clause-memory : goal.returns-in-Some-clause-memory
returns-in-Some-clause-memory g c = search (rules, wants_after)

pub returns-in-None-clause-memory : goal.returns-in-None-clause-memory
returns-in-None-clause-memory g c = search (rules, wants_more, not_exact)
