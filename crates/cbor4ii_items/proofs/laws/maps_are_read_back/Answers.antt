use Rattle.std.proofs.Common.{rules}
use Rattle.cbor4ii_items.specs.Laws.PartsBack.{pair_back, sequence_back}
use Rattle.cbor4ii_items.proofs.laws.maps_are_read_back.Goals as goal

pub returns : goal.returns
returns g c v key_cost value_cost h keys values = search (rules, sequence_back, pair_back)
