use Rattle.std.proofs.Common.{take_at, rules}
use Rattle.cbor4ii_tree.proofs.raw_items.Keys.{differ}
use Rattle.cbor4ii_tree.proofs.raw_key.strip.Goals as goal

pub returns-else-eq : goal.returns-else-eq
returns-else-eq c = search (rules, differ, take_at)
