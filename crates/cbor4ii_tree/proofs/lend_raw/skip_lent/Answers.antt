use Rattle.std.proofs.Common.{rules}
use Rattle.cbor4ii_tree.proofs.raw_items.Captured.{lent_rejects}
use Rattle.cbor4ii_tree.proofs.lend_raw.skip_lent.Goals as goal

pub returns-in-Err-clause-rejects : goal.returns-in-Err-clause-rejects
returns-in-Err-clause-rejects g c = search (rules, lent_rejects)
