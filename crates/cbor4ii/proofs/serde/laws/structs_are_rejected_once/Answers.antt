use Rattle.cbor4ii.specs.Presence.{made_struct}
use Rattle.cbor4ii.specs.Laws.StructsOnce.{skipped_once, no_more_once, fields_by_once}
use Rattle.cbor4ii.specs.Laws.StructsOnce.{made_struct_once, made_from_once}
use Rattle.cbor4ii.proofs.serde.laws.structs_are_rejected_once.Goals as goal

pub returns : goal.returns
returns g c = record {
  skipped = skipped_once c.skipping_has_one_answer.ensures.at_most_one;
  none = λ labels. no_more_once (skipped_once c.skipping_has_one_answer.ensures.at_most_one);
  more = fields_by_once g.P.Place.place g.P.Value.Typed.promise g.V.Places.fields
      (skipped_once c.skipping_has_one_answer.ensures.at_most_one);
  whole = λ kinds labels words is once. let fields = g.V.Places.fields labels in
      let value = g.K.Presences.made kinds words in
      made_from_once g.T.From.from_gives (made_struct g.A.ReadKey.key fields value)
      (made_struct_once g.A.ReadKey.key fields value is once (g.met.K.Presences.fate kinds words
      labels));
}
