use Rattle.std.proofs.Common.{rules}
use Rattle.cbor4ii_ser.specs.Laws.Pieces.{wrote_then, wrote_rejected}
use Rattle.cbor4ii_ser.proofs.text.Tuple2Text.write_to.Goals as goal

pub returns-in_err-write_to-clause-wrote : goal.returns-in_err-write_to-clause-wrote
returns-in_err-write_to-clause-wrote g c = search (rules, wrote_rejected)

pub returns-clause-wrote : goal.returns-clause-wrote
returns-clause-wrote g c = search (rules, wrote_then)

pub returns-in_err-write_to-clause-same_reference :
    goal.returns-in_err-write_to-clause-same_reference
returns-in_err-write_to-clause-same_reference g c = c.in_err-write_to.ensures.same_reference

pub returns-clause-done : goal.returns-clause-done
returns-clause-done g c = rw c.in_ok-write_to.ensures.done c.write_to-2.ensures.done

pub returns-clause-blames : goal.returns-clause-blames
returns-clause-blames g c = rw c.in_ok-write_to.ensures.done c.write_to-2.ensures.blames
