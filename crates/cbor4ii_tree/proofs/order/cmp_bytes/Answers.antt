use Rattle.std.proofs.Common.{rules}
use Rattle.cbor4ii_tree.proofs.encodings.Order.{compares_bytes}
use Rattle.cbor4ii_tree.proofs.order.cmp_bytes.Goals as goal

pub returns : goal.returns
returns c = search (rules, compares_bytes)
