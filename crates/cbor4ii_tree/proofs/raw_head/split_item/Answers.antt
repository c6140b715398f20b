use Rattle.std.proofs.Common.{refl, arith}
use Rattle.cbor4ii_tree.proofs.raw_items.SplitItems.{item_missed, item_shortens, item_taken}
use Rattle.cbor4ii_tree.proofs.raw_head.split_item.Goals as goal

pub returns-in-Ok : goal.returns-in-Ok
returns-in-Ok c = record {
  splits = item_taken _ _ c.args.input.now _ c.with_limit-reader.ensures.known
      c.with_limit-reader.ensures.budget refl (omega arith) _ _
      c.in-Ok.ensures.captures c.remaining.ensures.known;
  progress = item_shortens _ _ c.args.input.now _ c.with_limit-reader.ensures.known
      c.with_limit-reader.ensures.budget refl (omega arith) _ _
      c.in-Ok.ensures.captures c.remaining.ensures.known;
}

pub returns-in-Err : goal.returns-in-Err
returns-in-Err c = record {
  splits = item_missed _ _ c.args.input.now _ c.with_limit-reader.ensures.known
      c.with_limit-reader.ensures.budget refl (omega arith) _
      c.in-Err.ensures.captures;
  progress = tt;
}
