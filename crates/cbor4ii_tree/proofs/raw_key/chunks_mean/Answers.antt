use Rattle.std.proofs.Common.{◌∙◌, rules}
use Rattle.cbor4ii_tree.proofs.raw_items.Keys.{chunk_differs, chunk_goes_on, chunks_end}
use Rattle.cbor4ii_tree.proofs.raw_items.Keys.{chunks_stop}
use Rattle.cbor4ii_tree.proofs.raw_key.chunks_mean.Goals as goal

pub returns-in-None : goal.returns-in-None
returns-in-None c = λ ts l e.
    chunk_differs ts _ _ _ (c.loop-content.invariant ts l e) _ c.split_chunk.ensures.item
    c.split_chunk.ensures.ended (c.in-Some.content, c.in-Some.after) c.in-Some.is c.in-None.ensures

pub loop-content-preserved : goal.loop-content-preserved
loop-content-preserved c = search (rules, chunk_goes_on)

pub returns-then-begins_with_break : goal.returns-then-begins_with_break
returns-then-begins_with_break c = λ ts l e.
    c.is_empty.ensures ∙ chunks_end ts _ _ _ (c.loop-content.invariant ts l e) _
    c.split_chunk.ensures.item c.split_chunk.ensures.ended
    (c.begins_with_break.ensures.0 c.if-begins_with_break.true)

pub returns-else-begins_with_break : goal.returns-else-begins_with_break
returns-else-begins_with_break c = search (rules, chunks_stop)
