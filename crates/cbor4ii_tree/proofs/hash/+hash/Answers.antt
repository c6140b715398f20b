use Rattle.std.proofs.Common.{rules}
use Rattle.cbor4ii_tree.specs.{Calls.Hashing.{inner_writes, pairs_writes}}
use Rattle.cbor4ii_tree.proofs.values.Encoding.{view-Map}
use Rattle.cbor4ii_tree.proofs.hash.+hash.Goals as goal

pub hash_inside-returns-in-Map : goal.hash_inside-returns-in-Map
hash_inside-returns-in-Map g t c = search (rules, pairs_writes, inner_writes, view-Map)
