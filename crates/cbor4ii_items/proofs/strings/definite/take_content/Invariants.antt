use Rattle.cbor4ii_items.specs.Reading.{Reaches}
use Rattle.cbor4ii_items.specs.ReadStrings.{content_on}
use Rattle.cbor4ii_items.proofs.strings.definite.take_content.Given as goal

-- some bytes were taken, and the others are missing
abbrev pub invariant-loop-missing : goal.invariant-loop-missing
invariant-loop-missing g l =
    Reaches (content_on l.name l.count l.fn.content.items)
    (content_on l.name l.missing l.content.items) (g.S.Source.view l.fn.reader)
    (g.S.Source.view l.reader)

abbrev pub decreases-loop-missing : goal.decreases-loop-missing
decreases-loop-missing g l = l.missing
