use Rattle.cbor4ii.proofs.VariantsBack.{unit_back, variant_back}
use Rattle.cbor4ii.proofs.serde.laws.variants_are_read_back.Goals as goal

pub returns-clause-unit : goal.returns-clause-unit
returns-clause-unit g c name v is stands =
    unit_back g.V.EnumValues.units g.V.EnumValues.contents name v is stands

pub returns-clause-content : goal.returns-clause-content
returns-clause-content g c name v content cost is back =
    variant_back g.V.EnumValues.units g.V.EnumValues.contents name v is content cost back
