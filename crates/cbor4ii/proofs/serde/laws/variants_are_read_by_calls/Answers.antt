use Rattle.cbor4ii.proofs.VariantsRead.{unit_read, content_read}
use Rattle.cbor4ii.proofs.serde.laws.variants_are_read_by_calls.Goals as goal

pub returns-clause-unit : goal.returns-clause-unit
returns-clause-unit g k text name v form a b c d opened is read stands keeps =
    unit_read g.V.EnumValues.units g.V.EnumValues.contents text opened is read stands keeps

pub returns-clause-content : goal.returns-clause-content
returns-clause-content g k text name v form a b c d opened is kept read content =
    content_read g.V.EnumValues.units g.V.EnumValues.contents text opened is kept read content
