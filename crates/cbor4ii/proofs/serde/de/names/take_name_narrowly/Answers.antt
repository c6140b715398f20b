use Rattle.std.proofs.Common.{Err, rules}
use Rattle.cbor4ii.specs.Answered.{typed_value_or_error}
use Rattle.cbor4ii.specs.Typed.{answer_of}
use Rattle.cbor4ii_items.specs.Laws.Contents.{stays_then}
use Rattle.cbor4ii.proofs.Names.{then_takes, stays_takes}
use Rattle.cbor4ii.proofs.serde.de.names.take_name_narrowly.Goals as goal

pub returns-in-Some-Whole : goal.returns-in-Some-Whole
returns-in-Some-Whole g c =
    stays_takes c.loop-want.invariant (rw c.in-Some-Whole.field-0-is at c.in-Some-Whole.ensures)

pub returns-in-Some-Cut-2 : goal.returns-in-Some-Cut-2
returns-in-Some-Cut-2 g c =
    then_takes c.args.names.now _ (answer_of (typed_value_or_error c.take_any_name.result _))
    (stays_then c.loop-want.invariant (rw c.in-Some-Cut.field-0-is at c.in-Some-Cut.ensures))
    c.take_any_name.ensures

pub returns-in-Some-Other : goal.returns-in-Some-Other
returns-in-Some-Other g c =
    then_takes c.args.names.now _
    (answer_of (typed_value_or_error c.take_any_name-in-Some-Other.result _))
    (stays_then c.loop-want.invariant (rw c.in-Some-Other.field-0-is at c.in-Some-Other.ensures))
    c.take_any_name-in-Some-Other.ensures

pub returns-in-None : goal.returns-in-None
returns-in-None g c =
    then_takes c.args.names.now _ (Err _) c.loop-want.invariant c.in-None.ensures.0

pub loop-want-preserved : goal.loop-want-preserved
loop-want-preserved g c =
    stays_then c.loop-want.invariant (rw c.in-Some-Cut.field-0-is at c.in-Some-Cut.ensures)

pub returns : goal.returns
returns g c = search (rules, then_takes)
