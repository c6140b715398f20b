use Rattle.std.proofs.Common.{rules}
use Rattle.cbor4ii.specs.Laws.EnumsOnce.{otherwise_once, cases_by_once, enum_once}
use Rattle.cbor4ii.specs.Laws.StructsOnce.{made_from_once}
use Rattle.cbor4ii.proofs.serde.laws.enums_are_rejected_once.Goals as goal

pub returns : goal.returns
returns g c = search (rules, otherwise_once, cases_by_once, made_from_once, enum_once)
