use Rattle.std.proofs.Common.{rules}
use Rattle.cbor4ii_items.specs.Laws.ContainersApart.{option_apart, tag_apart, maybe_apart}
use Rattle.cbor4ii_items.proofs.laws.rejected_parts_are_not_read.Goals as goal

pub returns : goal.returns
returns g c = search (rules, option_apart, tag_apart, maybe_apart)
