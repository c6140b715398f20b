use Rattle.std.proofs.Common.{rules}
use Rattle.cbor4ii_tree.proofs.values.Encoding.{view-Map}
use Rattle.cbor4ii_tree.proofs.value.Value.has_equal_keys.Goals as goal

pub returns-in-Map : goal.returns-in-Map
returns-in-Map c = search (rules, view-Map)
