use Rattle.std.proofs.Common.{◌-◌}
use Rattle.cbor4ii_items.specs.Lent.{Stays}
use Rattle.cbor4ii.specs.Typed.{input}
use Rattle.cbor4ii.proofs.serde.de.names.take_name_narrowly.Given as goal

-- nothing was taken yet
abbrev pub invariant-loop-want : goal.invariant-loop-want
invariant-loop-want g l = Stays (input g.S.Source.view l.fn.de) (input g.S.Source.view l.de)

-- a look wants more bytes than the one before
abbrev pub decreases-loop-want : goal.decreases-loop-want
decreases-loop-want g l = 257 - l.want
