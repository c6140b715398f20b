use Rattle.std.proofs.Common.{refl, inl, [], Err, rules}
use Rattle.std.specs.Prelude.{codes}
use Rattle.cbor4ii_items.specs.Laws.Answering.{fits_zero}
use Rattle.cbor4ii_items.specs.Laws.Running.{kept_alike}
use Rattle.cbor4ii_items.specs.Laws.SequenceParts.{stands, indefinite_err, place_end, place_part}
use Rattle.cbor4ii_items.specs.Sequences.{in_list}
use Rattle.cbor4ii.specs.FieldKey.{labels_by}
use Rattle.cbor4ii.specs.Structs.{field_pair, field_pair_lawful}
use Rattle.cbor4ii.proofs.Filling.{unended_more, unended_done}
use Rattle.cbor4ii.proofs.KeyMemory.{wants_never, wants_after}
use Rattle.cbor4ii.proofs.serde.de.fields.indefinite_fields.Goals as goal

pub loop-alloc-init : goal.loop-alloc-init
loop-alloc-init g c =
    let here = g.S.Source.view c.args.de.now.reader in
    record {
      changes = [];
      opened = record {
        allowed = inl refl;
        parts = record {
          at = λ xs known. record {
            count = 0;
            cost = 0;
            read = (refl, refl);
            fits = fits_zero here.budget;
            left = known;
          };
        };
        kept = kept_alike here;
      };
      is = refl;
    }

pub returns-in_err-part-clause-alters : goal.returns-in_err-part-clause-alters
returns-in_err-part-clause-alters g c =
    let fields = g.V.Places.fields (labels_by g.K.ReadKey.label c.args.keys.now) in
    rw c.from_residual.ensures (indefinite_err in_list (codes "map") (field_pair g.K.ReadKey.key
    fields)
    (field_pair_lawful g.K.ReadKey.key fields) c.loop-alloc.invariant.opened
    (place_end (field_pair g.K.ReadKey.key fields) (codes "map")
    (field_pair_lawful g.K.ReadKey.key fields) (rw c.in_err-part.ensures at
    c.takes_break.ensures.runs)
    (rw c.in_err-part.ensures at c.takes_break.ensures.memory)))

pub returns-in_err-take_field-clause-alters : goal.returns-in_err-take_field-clause-alters
returns-in_err-take_field-clause-alters g c =
    let fields = g.V.Places.fields (labels_by g.K.ReadKey.label c.args.keys.now) in
    let taken = rw c.in_ok-part.ensures at c.takes_break.ensures.runs in
    rw c.from_residual-in_err-take_field.ensures (indefinite_err in_list (codes "map")
    (field_pair g.K.ReadKey.key fields) (field_pair_lawful g.K.ReadKey.key fields)
    c.loop-alloc.invariant.opened
    (place_part (field_pair g.K.ReadKey.key fields) (codes "map") refl (stands c.if-not-branch.true
    taken)
    c.in_err-take_field.ensures.alters))

pub loop-alloc-preserved : goal.loop-alloc-preserved
loop-alloc-preserved g c = search (rules, unended_more)

pub returns-clause-alters : goal.returns-clause-alters
returns-clause-alters g c =
    unended_done g.K.ReadKey.key (g.V.Places.fields (labels_by g.K.ReadKey.label c.args.keys.now))
    (codes "map") c.if-not-branch.false
    c.loop-alloc.invariant (rw c.in_ok-part.ensures at c.takes_break.ensures.runs)

pub loop-alloc-smaller : goal.loop-alloc-smaller
loop-alloc-smaller g c = search rules

pub returns-in_err-part-clause-memory : goal.returns-in_err-part-clause-memory
returns-in_err-part-clause-memory g c = search (rules, wants_never)

pub returns-in_err-take_field-clause-memory : goal.returns-in_err-take_field-clause-memory
returns-in_err-take_field-clause-memory g c =
    let taken = rw c.in_ok-part.ensures at c.takes_break.ensures.runs in
    rw c.from_residual-in_err-take_field.ensures (wants_after g.K.ReadKey.may_want
    {V = Unit {0}} _ _ _ (Err _) (g.K.ReadKey.wants_before _ _ c.loop-alloc.invariant.opened.kept)
    (wants_after g.K.ReadKey.may_want {V = Unit {0}} _ _ _ (Err _)
    (g.K.ReadKey.wants_before _ _ taken.moves.by) c.in_err-take_field.ensures.memory))
