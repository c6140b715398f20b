use Rattle.std.proofs.Common.{rules}
use Rattle.cbor4ii.specs.Laws.ItemsOnce.{raw_once, boxed_raw_once, plain_raw_once}
use Rattle.cbor4ii.specs.Laws.StructsOnce.{skipped_once}
use Rattle.cbor4ii.proofs.serde.laws.raw_items_are_rejected_once.Goals as goal

pub returns : goal.returns
returns c = search (rules, raw_once, skipped_once, boxed_raw_once, plain_raw_once)
