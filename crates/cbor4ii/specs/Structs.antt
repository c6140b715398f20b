-- What a struct that is read from its fields promises, by what its fields do.
use Rattle.std.specs.Prelude.{List, [], ◌∷◌, ℕ, ◌&&◌, ◌||◌, Bool, true, false, IsTrue, refl, codes}
use denote.Ref.{Bor}
use Rattle.cbor4ii_items.specs.Decoding.{Format, IsLawful, format_by}
use Rattle.cbor4ii_items.specs.Sequences.{SamePair, in_list}
use Rattle.cbor4ii_items.specs.Laws.Containers.{both}
use Rattle.cbor4ii_items.specs.Laws.Formats.{lawful_by}
use Rattle.cbor4ii.specs.Fields.{ReadsNamed, RejectsNamed, NamedLaws, ReadsFields, RejectsFields}
use Rattle.cbor4ii.specs.FieldKey.{FieldKey}
use Rattle.cbor4ii.specs.Fields.{SameChange, keyed_pair_laws, named_part, keyed_pair, no_field}
use Rattle.cbor4ii.specs.Fields.{no_values, named_field, no_field_rejects, field_rejects}
use Rattle.cbor4ii.specs.Fields.{no_field_laws}
use Rattle.cbor4ii.specs.Fields.{field_laws, fields_laws}
use Rattle.cbor4ii.specs.Places.{Place}
use Rattle.cbor4ii.specs.Sequence.{sequence_of}
use Rattle.cbor4ii.specs.Typed.{Promise, format_of, typed_laws, lawful_as, rejects_as_promised}
use Rattle.cbor4ii.specs.Typed.{any_two}

-- the fields of a struct, one after another
pub record Fields (V : Type 0) : Type 1 where
  -- what follows a name, and how it is rejected: where acceptance is exact, and over any reader
  pub named : ReadsNamed V
  pub rejects : RejectsNamed
  pub begins : RejectsNamed
  pub same : V → V → Type 0
  -- the values of no pair
  pub first : V
  pub owned : Bool
  -- the value of a field takes memory
  pub takes_memory : Bool
  pub exact : Bool
  pub alike : same first first
  pub laws : IsTrue exact → NamedLaws same named

-- the fields of a struct, where none is left
abbrev pub no_more : Fields (Unit {0})
no_more = record {
  named = no_field;
  rejects = no_field_rejects;
  begins = no_field_rejects;
  same = any_two;
  first = no_values;
  owned = true;
  takes_memory = false;
  exact = true;
  alike = tt;
  laws = λ is. no_field_laws any_two;
}

-- a field of this name, whose values stand in this place, and others after it
abbrev pub placed_field : {T P V : Type 0} → Place T P → List ℕ → Promise T → Fields V
    → Fields (P × V)
placed_field place name p others = record {
  named = named_field place.put name p.format.reads others.named;
  rejects = field_rejects name p.format.rejects others.rejects;
  begins = field_rejects name (rejects_as_promised p) others.begins;
  same = SamePair (place.same p.format.same) others.same;
  first = (place.none, others.first);
  owned = p.format.owned && others.owned;
  takes_memory = p.format.takes_memory || others.takes_memory;
  exact = p.exact && others.exact;
  alike = (place.none_same p.format.same, others.alike);
  laws = λ is. (let h = both p.exact others.exact is in
      field_laws place name others.named (typed_laws p h.0) (others.laws h.1));
}

-- a field and others after it, none of which has a name
abbrev pub unnamed_field : {T P V : Type 0} → Place T P → Promise T → Fields V → Fields (P × V)
unnamed_field place p others = record {
  named = no_field;
  rejects = no_field_rejects;
  begins = no_field_rejects;
  same = SamePair (place.same p.format.same) others.same;
  first = (place.none, others.first);
  owned = p.format.owned && others.owned;
  takes_memory = p.format.takes_memory || others.takes_memory;
  exact = p.exact && others.exact;
  alike = (place.none_same p.format.same, others.alike);
  laws = λ is. no_field_laws (SamePair (place.same p.format.same) others.same);
}

-- fields by their names: of a type, and then others
abbrev pub fields_by : {T P V : Type 0} → Place T P → Promise T → (List (Bor (List ℕ)) → Fields V)
    → List (Bor (List ℕ)) → Fields (P × V)
fields_by place p others [] = unnamed_field place p (others [])
fields_by place p others (own ∷ trailing) = placed_field place own.now p (others trailing)

-- ---- how they are encoded

-- what follows a name, as what becomes of the values
abbrev pub after_name : {V : Type 0} → Fields V → List ℕ → Format (V → V)
after_name fields =
    named_part fields.named fields.rejects fields.begins (SameChange fields.same) fields.owned

-- a field's key, and what follows it
abbrev pub field_pair : {V : Type 0} → FieldKey → Fields V → Format (V → V)
field_pair key fields =
    keyed_pair key fields.named fields.rejects fields.begins (SameChange fields.same)
    fields.owned

pub field_pair_lawful : {V : Type 0} (key : FieldKey) (fields : Fields V) → IsTrue fields.exact
    → IsLawful (field_pair key fields)
field_pair_lawful key fields is =
    lawful_as (keyed_pair_laws key (SameChange fields.same) fields.named (fields.laws is))

-- a map of pairs of these fields, by their keys
abbrev pub field_pairs : {V : Type 0} → FieldKey → Fields V → Format (List (V → V))
field_pairs key fields = sequence_of in_list (codes "map") (codes "map") 5 (field_pair key fields)

abbrev pub fields_format : {V : Type 0} → FieldKey → Fields V → Format V
fields_format key fields =
    format_of (ReadsFields key fields.first fields.named) fields.same
    (RejectsFields key fields.named fields.rejects)
    (RejectsFields key fields.named fields.begins) fields.owned true

-- a struct that has these values of its fields
abbrev pub struct_of : {V W : Type 0} → (W → V) → FieldKey → Fields V → Promise W
struct_of values key fields = record {
  format = format_by values (fields_format key fields);
  exact = fields.exact;
  known = true;
  reports = λ _. refl;
  some = refl;
  lawful = λ is. lawful_by values (fields_format key fields)
      (lawful_as (fields_laws key fields.same fields.first fields.named fields.alike
      (fields.laws is)));
}
