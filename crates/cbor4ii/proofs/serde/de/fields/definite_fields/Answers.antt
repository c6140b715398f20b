use Rattle.std.proofs.Common.{arith, refl, [], rules}
use Rattle.cbor4ii_items.specs.Laws.Running.{kept_alike}
use Rattle.cbor4ii_items.specs.Laws.SequenceParts.{no_part, count_err}
use Rattle.cbor4ii_items.specs.Sequences.{in_list}
use Rattle.cbor4ii.specs.FieldKey.{labels_by}
use Rattle.cbor4ii.specs.Structs.{field_pair, field_pair_lawful}
use Rattle.cbor4ii.proofs.Filling.{definite_more, definite_done}
use Rattle.cbor4ii.proofs.KeyMemory.{wants_after}
use Rattle.cbor4ii.proofs.serde.de.fields.definite_fields.Goals as goal

pub returns-in_err-take_field-clause-alters : goal.returns-in_err-take_field-clause-alters
returns-in_err-take_field-clause-alters g c =
    let fields = g.V.Places.fields (labels_by g.K.ReadKey.label c.args.keys.now) in
    rw c.from_residual.ensures (count_err in_list (field_pair g.K.ReadKey.key fields)
    (field_pair_lawful g.K.ReadKey.key fields)
    c.loop-i.invariant.begun c.loop-i-test.true c.in_err-take_field.ensures.alters)

pub loop-i-init : goal.loop-i-init
loop-i-init g c = record {
  changes = [];
  begun = record {
    kept = kept_alike _;
    count = refl;
    parts = no_part
        (field_pair g.K.ReadKey.key (g.V.Places.fields (labels_by g.K.ReadKey.label
        c.args.keys.now))).reads refl refl;
  };
  is = refl;
}

pub loop-i-preserved : goal.loop-i-preserved
loop-i-preserved g c =
    definite_more g.K.ReadKey.key (g.V.Places.fields (labels_by g.K.ReadKey.label c.args.keys.now))
    c.loop-i.invariant c.in_ok-take_field.ensures.alters

pub returns-clause-alters : goal.returns-clause-alters
returns-clause-alters g c =
    definite_done g.K.ReadKey.key (g.V.Places.fields (labels_by g.K.ReadKey.label c.args.keys.now))
    c.loop-i.invariant (omega (arith, c.loop-i-test.false, c.loop-i.auto.i-end))

pub returns-in_err-take_field-clause-memory : goal.returns-in_err-take_field-clause-memory
returns-in_err-take_field-clause-memory g c = search (rules, wants_after)
