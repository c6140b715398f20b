use Rattle.std.proofs.Common.{[]}
use Rattle.cbor4ii_items.specs.Reading.{Reaches}
use Rattle.cbor4ii_items.specs.ReadStrings.{chunks_at}
use Rattle.cbor4ii_items.proofs.strings.chunks.take_chunks.Given as goal

-- some chunks were taken, and the others and the break are left to read
abbrev pub invariant-loop-content : goal.invariant-loop-content
invariant-loop-content g l =
    let budget = (g.S.Source.view l.fn.reader).budget in
    Reaches (chunks_at l.name l.major budget []) (chunks_at l.name l.major budget l.content.items)
    (g.S.Source.view l.fn.reader) (g.S.Source.view l.reader)

abbrev pub decreases-loop-content : goal.decreases-loop-content
decreases-loop-content g l = (g.S.Source.view l.reader).bound
