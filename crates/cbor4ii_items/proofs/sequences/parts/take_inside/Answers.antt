use Rattle.std.proofs.Common.{Ok, Err}
use Rattle.cbor4ii_items.proofs.Passed.{decodes_passed}
use Rattle.cbor4ii_items.specs.Laws.Calls.{part_then, of_exact, decodes_exactly}
use Rattle.cbor4ii_items.specs.Laws.SequenceHeads.{head_err, counts, opens}
use Rattle.cbor4ii_items.specs.Sequences.{count_format, indefinite_format, inside_format, in_vector}
use Rattle.cbor4ii_items.proofs.Leaves.{decodes_of_runs}
use Rattle.cbor4ii_items.proofs.Lengths.{length_leaf}
use Rattle.cbor4ii_items.proofs.sequences.parts.take_inside.Goals as goal

pub returns-in_err-count : goal.returns-in_err-count
returns-in_err-count g c =
    decodes_passed _ c.from_residual.ensures.1 (decodes_exactly (head_err in_vector c.args.name.now
    c.args.major g.Q.Sequence.part c.requires (of_exact (decodes_of_runs (length_leaf
    c.args.name.now _ c.requires) (Err _) c.in_err-count.ensures.runs c.in_err-count.ensures.memory
    tt))))

pub returns-in-Some : goal.returns-in-Some
returns-in-Some g c =
    let s = g.Q.Sequence.part in
    decodes_exactly (part_then (count_format s _) (inside_format c.args.name.now c.args.major s)
    c.take_definite.result (counts in_vector c.args.name.now c.args.major s c.requires c.in-Some.is
    (decodes_of_runs (length_leaf c.args.name.now _ c.requires) (Ok _) c.in_ok-count.ensures.runs
    tt c.in_ok-count.ensures.progress)) (of_exact c.take_definite.ensures))

pub returns-in-None : goal.returns-in-None
returns-in-None g c =
    let s = g.Q.Sequence.part in
    decodes_exactly (part_then (indefinite_format c.args.name.now s)
    (inside_format c.args.name.now c.args.major s) c.take_indefinite.result
    (opens in_vector c.args.name.now c.args.major s c.requires c.in-None.is
    (decodes_of_runs (length_leaf c.args.name.now _ c.requires) (Ok _) c.in_ok-count.ensures.runs
    tt c.in_ok-count.ensures.progress)) (of_exact c.take_indefinite.ensures))
