use Rattle.std.proofs.Common.{rules}
use Rattle.cbor4ii_items.proofs.Leaves.{decodes_of_runs}
use Rattle.cbor4ii_items.proofs.MaybeParts.{few_leaf}
use Rattle.cbor4ii_items.proofs.maybe.take_maybe_head.Goals as goal

pub returns : goal.returns
returns g c = search (rules, decodes_of_runs, few_leaf)
