use Rattle.std.proofs.Common.{rules}
use Rattle.cbor4ii_items.proofs.Leaves.{decodes_of_runs}
use Rattle.cbor4ii_items.proofs.FloatLeaf.{float_leaf}
use Rattle.cbor4ii_items.proofs.floats.lone_float.Goals as goal

pub returns-clause-decodes : goal.returns-clause-decodes
returns-clause-decodes g c = search (rules, decodes_of_runs, float_leaf)
