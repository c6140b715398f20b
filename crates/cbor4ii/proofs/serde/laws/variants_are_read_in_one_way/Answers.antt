use Rattle.cbor4ii.specs.Laws.Variants.{variant_laws}
use Rattle.cbor4ii.proofs.serde.laws.variants_are_read_in_one_way.Goals as goal

pub returns : goal.returns
returns g c =
    variant_laws g.V.EnumValues.units g.V.EnumValues.contents g.V.EnumValues.same
    g.V.EnumValues.unit_one g.V.EnumValues.content_laws
