use Rattle.cbor4ii_items.proofs.Leaves.{decodes_of_runs}
use Rattle.cbor4ii_items.proofs.Lengths.{length_leaf, runs_same}
use Rattle.cbor4ii_items.proofs.head.lone_length.Goals as goal

pub returns : goal.returns
returns g c =
    let same = c.usize_length.ensures in
    decodes_of_runs (length_leaf c.args.name.now _ c.requires) c.usize_length.result
    (runs_same same c.length.ensures.runs) (rw same c.length.ensures.memory)
    (rw same c.length.ensures.progress)
