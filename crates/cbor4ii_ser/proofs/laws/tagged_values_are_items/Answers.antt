use Rattle.std.proofs.Common.{rules}
use Rattle.cbor4ii_ser.specs.Tagged.{tagged_is_item}
use Rattle.cbor4ii_ser.proofs.laws.tagged_values_are_items.Goals as goal

pub returns : goal.returns
returns g c form number v small one = search (rules, tagged_is_item)
