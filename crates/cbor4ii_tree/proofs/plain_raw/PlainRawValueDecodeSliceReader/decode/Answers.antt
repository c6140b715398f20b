use Rattle.cbor4ii_tree.proofs.PlainRaws.{not_decoded}
use Rattle.cbor4ii_tree.proofs.plain_raw.PlainRawValueDecodeSliceReader.decode.Goals as goal

pub returns-in_err-_value-clause-decodes : goal.returns-in_err-_value-clause-decodes
returns-in_err-_value-clause-decodes c =
    not_decoded _ _ c.in_err-_value.field-0.0 c.in_err-_value.ensures.decodes
    c.from_residual.result c.from_residual.ensures.1
