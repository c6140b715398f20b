use Rattle.std.proofs.Common.{Ok, Err, rules}
use Rattle.cbor4ii.specs.TypedParts.{part_of, part_lawful}
use Rattle.cbor4ii.proofs.Entries.{entry_read, entry_none, no_key_left, no_value_left}
use Rattle.cbor4ii.proofs.Going.{may_have_gone_on, same_left, same_ended, tried_left, less_fuel}
use Rattle.cbor4ii.proofs.Promised.{tell}
use Rattle.cbor4ii.proofs.serde.de.accessor.Accessor.next_entry.Goals as goal

pub returns-in-Ok-clause-decodes : goal.returns-in-Ok-clause-decodes
returns-in-Ok-clause-decodes g c =
    entry_read (part_of g.K.Typed.promise) (part_of g.V.Typed.promise) _
    (rw c.in-Ok-Some.field-0-is at c.in-Ok-Some.ensures.decodes)
    (tell g.V.Typed.promise (Ok _) c.in-Ok.ensures)

pub returns-in-Err-deserialize-clause-decodes : goal.returns-in-Err-deserialize-clause-decodes
returns-in-Err-deserialize-clause-decodes g c =
    no_value_left (part_of g.K.Typed.promise) (part_of g.V.Typed.promise) _
    (rw c.in-Ok-Some.field-0-is at c.in-Ok-Some.ensures.decodes) (part_lawful g.K.Typed.promise)
    (tell g.V.Typed.promise (Err _) c.in-Err-deserialize.ensures)

pub returns-in-Ok-None-clause-decodes : goal.returns-in-Ok-None-clause-decodes
returns-in-Ok-None-clause-decodes g c =
    entry_none (part_of g.K.Typed.promise) (part_of g.V.Typed.promise) _
    (rw c.in-Ok-None.field-0-is at c.in-Ok-None.ensures.decodes)

pub returns-in-Err-clause-decodes : goal.returns-in-Err-clause-decodes
returns-in-Err-clause-decodes g c =
    no_key_left (part_of g.K.Typed.promise) (part_of g.V.Typed.promise) _ _ c.in-Err.ensures.decodes

pub returns-in-Ok-clause-goes_on : goal.returns-in-Ok-clause-goes_on
returns-in-Ok-clause-goes_on g c = search (rules, same_left, less_fuel)

pub returns-in-Err-deserialize-clause-goes_on : goal.returns-in-Err-deserialize-clause-goes_on
returns-in-Err-deserialize-clause-goes_on g c = search (rules, tried_left, may_have_gone_on)

pub returns-in-Ok-None-clause-goes_on : goal.returns-in-Ok-None-clause-goes_on
returns-in-Ok-None-clause-goes_on g c = search (rules, same_ended)

pub returns-in-Err-clause-goes_on : goal.returns-in-Err-clause-goes_on
returns-in-Err-clause-goes_on g c = search rules
