use Rattle.std.proofs.Common.{rules}
use Rattle.std.proofs.lemmas.Int.{to_z-of_z}
use Rattle.cbor4ii_items.specs.Laws.Written.{writes_as, writes_once_as}
use Rattle.cbor4ii_items.proofs.push.push_signed_integer.Goals as goal

pub returns-then-value-ge0-clause-writes : goal.returns-then-value-ge0-clause-writes
returns-then-value-ge0-clause-writes g c = search (rules, writes_as, to_z-of_z)

pub returns-else-value-ge0-clause-writes : goal.returns-else-value-ge0-clause-writes
returns-else-value-ge0-clause-writes g c = search (rules, writes_as, to_z-of_z)

pub returns-then-value-ge0-clause-whole : goal.returns-then-value-ge0-clause-whole
returns-then-value-ge0-clause-whole g c small = search (rules, to_z-of_z, writes_once_as)

pub returns-else-value-ge0-clause-whole : goal.returns-else-value-ge0-clause-whole
returns-else-value-ge0-clause-whole g c small = search (rules, to_z-of_z, writes_once_as)
