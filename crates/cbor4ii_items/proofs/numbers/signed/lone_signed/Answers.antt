use Rattle.std.proofs.Common.{rules}
use Rattle.cbor4ii_items.proofs.Leaves.{decodes_of_runs}
use Rattle.cbor4ii_items.proofs.SignedLeaf.{signed_leaf}
use Rattle.cbor4ii_items.proofs.numbers.signed.lone_signed.Goals as goal

pub returns-clause-decodes : goal.returns-clause-decodes
returns-clause-decodes g c = search (rules, decodes_of_runs, signed_leaf)
