use Rattle.std.proofs.Common.{rules}
use Rattle.cbor4ii_items.proofs.Leaves.{decodes_of_runs}
use Rattle.cbor4ii_items.proofs.Marked.{bool_leaf}
use Rattle.cbor4ii_items.proofs.simple.BoolDecode.decode.Goals as goal

pub returns : goal.returns
returns g c = search (rules, decodes_of_runs, bool_leaf)
