use Rattle.std.proofs.Common.{rules}
use Rattle.cbor4ii_items.specs.Laws.Steps.{moves_err}
use Rattle.cbor4ii.proofs.serde.de.enum_accessor.EnumAccessor.tuple_variant.Goals as goal

pub returns-in-Err : goal.returns-in-Err
returns-in-Err g c = search (rules, moves_err)
