use Rattle.cbor4ii.specs.Typed.{answer_of}
use Rattle.cbor4ii.proofs.Tags.{tagged_after, untagged}
use Rattle.cbor4ii.proofs.serde.de.tagged.tagged_value.Goals as goal

pub returns-in-Ok : goal.returns-in-Ok
returns-in-Ok g c =
    tagged_after _ g.V.Typed.promise (answer_of c.deserialize.result) c.in-Ok.ensures
    c.deserialize.ensures

pub returns-in-Err : goal.returns-in-Err
returns-in-Err g c = untagged _ g.V.Typed.promise c.in-Err.ensures
