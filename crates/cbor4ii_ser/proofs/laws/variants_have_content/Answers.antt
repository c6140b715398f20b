use Rattle.std.proofs.Common.{rules}
use Rattle.cbor4ii_ser.specs.Laws.Joining.{followed_both}
use Rattle.cbor4ii_ser.proofs.laws.variants_have_content.Goals as goal

pub returns-clause-tuple : goal.returns-clause-tuple
returns-clause-tuple c name ps = search (rules, followed_both)

pub returns-clause-fields : goal.returns-clause-fields
returns-clause-fields c name fields = search (rules, followed_both)
