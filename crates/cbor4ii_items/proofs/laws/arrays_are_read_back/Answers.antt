use Rattle.std.proofs.Common.{rules}
use Rattle.cbor4ii_items.specs.Laws.PartsBack.{sequence_back}
use Rattle.cbor4ii_items.proofs.laws.arrays_are_read_back.Goals as goal

pub returns : goal.returns
returns g c v cost h back = search (rules, sequence_back)
