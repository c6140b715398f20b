use Rattle.cbor4ii.specs.Cases.{fields_case}
use Rattle.cbor4ii.specs.FieldKey.{text_key}
use Rattle.cbor4ii.specs.Presence.{made_struct}
use Rattle.cbor4ii.specs.Laws.EnumsOnce.{unit_case_once, held_case_once, cases_by_once}
use Rattle.cbor4ii.specs.Laws.StructsOnce.{made_struct_once}
use Rattle.cbor4ii.proofs.serde.laws.variants_are_rejected_once.Goals as goal

pub returns : goal.returns
returns g c = record {
  unit = unit_case_once;
  held = held_case_once g.T.Typed.promise;
  fields = λ kinds own words cases is once others. let fields = g.V.Places.fields own in
      let value = g.K.Presences.made kinds words in
      cases_by_once (fields_case fields value) (g.D.Cases.cases cases)
      (held_case_once (made_struct text_key fields value)
      (made_struct_once text_key fields value is once (g.met.K.Presences.fate kinds words own)))
      others;
}
