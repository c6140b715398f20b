use Rattle.std.proofs.Common.{rules}
use Rattle.cbor4ii_items.proofs.Leaves.{decodes_of_runs}
use Rattle.cbor4ii_items.proofs.Arguments.{argument_leaf}
use Rattle.cbor4ii_items.proofs.head.lone_head.Goals as goal

pub returns-clause-decodes : goal.returns-clause-decodes
returns-clause-decodes g c = search (rules, decodes_of_runs, argument_leaf)
