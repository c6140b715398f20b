use Rattle.cbor4ii_tree.proofs.PlainRaws.{rejected}
use Rattle.cbor4ii_tree.proofs.plain_raw.PlainRawValue.new.Goals as goal

pub returns-in_err-_value-clause-whole : goal.returns-in_err-_value-clause-whole
returns-in_err-_value-clause-whole c =
    rejected c.args.bytes.now c.in_err-_value.field-0.0 c.in_err-_value.ensures
    c.from_residual.result c.from_residual.ensures.1
