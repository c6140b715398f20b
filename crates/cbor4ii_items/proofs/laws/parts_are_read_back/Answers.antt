use Rattle.std.proofs.Common.{rules}
use Rattle.cbor4ii_items.specs.Laws.PartsBack.{tag_back, none_back, some_back}
use Rattle.cbor4ii_items.proofs.laws.parts_are_read_back.Goals as goal

pub returns : goal.returns
returns g c = search (rules, tag_back, none_back, some_back)
