use Rattle.std.proofs.Common.{arith}
use Rattle.cbor4ii_tree.proofs.raw_items.Keys.{count_finds, count_goes_on}
use Rattle.cbor4ii_tree.proofs.raw_parts.find_by_place.Goals as goal

pub loop-preserved : goal.loop-preserved
loop-preserved c = λ ts p.
    count_goes_on _ _ _ _ _ _ c.loop.invariant c.next.ensures.steps ts p _
    c.in_ok-next.was c.loop-test.true

pub returns : goal.returns
returns c = λ ts p.
    count_finds _ _ _ _ _ _ c.loop.invariant c.next-2.ensures.steps ts p (omega arith)
