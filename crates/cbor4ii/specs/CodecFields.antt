-- Structs in one word: how their fields are written and read, and that they are read back.
use Rattle.std.proofs.Common.{◌≡◌, ◌≢◌, ◌<◌, ◌≤◌, ◌+◌, ℕ, List, [], ◌∷◌, length, max, Option}
use Rattle.std.proofs.Common.{None, Some, Result, Ok, Bool, true, IsTrue, refl, sym, ap, subst, ltb}
use Rattle.std.proofs.Common.{ltb-true, arith, rules}
use Rattle.std.specs.Prelude.{◌&&◌, not, bytes_eq}
use Rattle.std.specs.List.{AllByRecursion}
use Rattle.std.specs.declared.alloc.Global.{Global}
use Rattle.std.proofs.lemmas.Slice.Eq.{bytes_eq-Decides}
use Rattle.cbor4ii_items.specs.Laws.Containers.{both}
use Rattle.cbor4ii_ser.specs.Item.{Encoding}
use Rattle.cbor4ii_ser.specs.Listed.{keyed_pairs, keyed_encoding, before}
use Rattle.cbor4ii_ser.specs.OneItem.{IsOneItem, IsOnePair, canonical}
use Rattle.cbor4ii_ser.specs.Laws.OneItem.{struct_is_item, pair_is_entry}
use Rattle.cbor4ii.specs.Codec.{Codec, Facts, no_facts, both_facts, Hold, first_hold, others_hold}
use Rattle.cbor4ii.specs.Codec.{made_back}
use Rattle.cbor4ii.specs.FieldKey.{FieldKey, IsLabel, text_key}
use Rattle.cbor4ii.specs.Fields.{ReadsFields, named_field}
use Rattle.cbor4ii.specs.Keys.{integer_key}
use Rattle.cbor4ii.specs.Laws.FieldsBack.{none_back, field_back, no_field_back}
use Rattle.cbor4ii.specs.Laws.StructsBack.{struct_back, pairs_count, no_dearer}
use Rattle.cbor4ii.specs.Made.{gives_ok, made_from}
use Rattle.cbor4ii.specs.Places.{Place, last_place, only_place}
use Rattle.cbor4ii.specs.Presence.{Shape, no_more_fields, shaped_field, or_words, or_value}
use Rattle.cbor4ii.specs.Presence.{or_none, once_or_words}
use Rattle.cbor4ii.specs.Presence.{both_or_words, struct_from}
use Rattle.cbor4ii.specs.declared.serde.de.place.Single.{Single}
use Rattle.cbor4ii.specs.ReadBack.{IsReadBack, NamedItems, FieldsBack}

-- ---- labels of fields

-- none of the labels is this one
abbrev pub is_apart : List ℕ → List (List ℕ) → Bool
is_apart name [] = true
is_apart name (other ∷ names) = not (bytes_eq other name) && is_apart name names

-- the label is one of a key, and none of the others
abbrev pub is_new : (List ℕ → Bool) → List ℕ → List (List ℕ) → Bool
is_new is_label label labels = is_label label && is_apart label labels

pub is_other : (other name : List ℕ) → IsTrue (not (bytes_eq other name)) → other ≢ name
is_other other name h e = let same = (bytes_eq-Decides other name).1 e in cc

-- ---- structs

-- how a struct's fields are written and read: values of type W, held as V while they are read
pub record FieldCodecs (V W : Type 0) : Type 1 where
  pub shape : Shape V W
  -- a name's label is its text
  pub labels : List (List ℕ)
  -- the items of the values that are written, with their labels, which are among those
  pub items : W → NamedItems
  pub few : (w : W) → length (items w) ≤ length labels
  pub others : (label : List ℕ) → IsTrue (is_apart label labels) → (w : W)
      → AllByRecursion (λ (part : List ℕ × Encoding). part.0 ≢ label) (items w)
  pub held : W → V
  pub stands : W → Type 0
  pub cost : W → ℕ
  pub made : (w : W) → shape.value (held w) ≡ Ok w
  -- what they stand on
  pub facts : Facts
  pub back : Hold facts → (alloc : Global) (w : W) → stands w
      → FieldsBack (IsLabel shape.key) shape.fields.named shape.fields.first (held w)
      (items w) (cost w)
  pub pairs : Hold facts → (w : W) → stands w
      → AllByRecursion (IsOnePair canonical) (keyed_pairs shape.key.item (items w))

-- the label is one of their keys, and of none of these fields
abbrev pub IsNew : {V W : Type 0} → FieldCodecs V W → List ℕ → Type 0
IsNew p label = IsTrue (is_new p.shape.key.is_label label p.labels)

-- where no field is left, of keys of this kind
abbrev pub no_fields_by : FieldKey → FieldCodecs (Unit {0}) (Unit {0})
no_fields_by key = record {
  shape = no_more_fields key;
  labels = [];
  items = λ w. [];
  few = λ w. omega arith;
  others = λ label h w. tt;
  held = λ w. w;
  stands = λ w. Unit {0};
  cost = λ w. 0;
  made = λ w. refl;
  facts = no_facts;
  back = λ hold alloc w h. none_back w;
  pairs = λ hold w h. tt;
}

-- no field, or the end of them, where keys are names
abbrev pub no_fields : FieldCodecs (Unit {0}) (Unit {0})
no_fields = no_fields_by text_key

-- no field, or the end of them, where keys are integers
abbrev pub no_keys : FieldCodecs (Unit {0}) (Unit {0})
no_keys = no_fields_by integer_key

module _ {T P V W : Type 0} (place : Place T P) (name : List ℕ) (c : Codec T)
    (others : FieldCodecs V W) (new : IsNew others name) where
  pub part_back : Hold (both_facts c.facts others.facts) → (alloc : Global) (w : T × W)
      → c.stands w.0 × others.stands w.1
      → FieldsBack (IsLabel others.shape.key)
      (named_field place.put name c.promise.format.reads others.shape.fields.named)
      (place.none, others.shape.fields.first) (place.put w.0 place.none, others.held w.1)
      ((name, c.encoding w.0) ∷ others.items w.1) (max (c.cost w.0) (others.cost w.1))
  part_back hold alloc w h = search (rules, field_back, others_hold, alloc, first_hold)

  pub part_pairs : Hold (both_facts c.facts others.facts) → (w : T × W)
      → c.stands w.0 × others.stands w.1
      → AllByRecursion (IsOnePair canonical)
      (keyed_pairs others.shape.key.item ((name, c.encoding w.0) ∷ others.items w.1))
  part_pairs hold w h = search (rules, pair_is_entry, first_hold, others_hold)

  -- a field of this name and of which this becomes, where a value that is there becomes itself
  abbrev pub with_field_by : (value : P → Result T (List ℕ))
      → ((v : T) → value (place.put v place.none) ≡ Ok v) → FieldCodecs (P × V) (T × W)
  with_field_by value made = record {
    shape = shaped_field place value name c.promise others.shape;
    labels = name ∷ others.labels;
    items = λ w. (name, c.encoding w.0) ∷ others.items w.1;
    few = λ w. omega (arith, others.few w.1);
    others = λ other h w.
        (let e = both (not (bytes_eq name other)) (is_apart other others.labels) h in
        (is_other name other e.0, others.others other e.1 w.1));
    held = λ w. (place.put w.0 place.none, others.held w.1);
    stands = λ w. c.stands w.0 × others.stands w.1;
    cost = λ w. max (c.cost w.0) (others.cost w.1);
    made = λ w. subst (λ (r : Result T (List ℕ)). both_or_words r
        (others.shape.value (others.held w.1))
        ≡ Ok (w.0, w.1)) (sym (made w.0)) (ap (both_or_words (Ok w.0)) (others.made w.1));
    facts = both_facts c.facts others.facts;
    back = part_back;
    pairs = part_pairs;
  }

-- a field that has to be there; else the struct is rejected in these words
abbrev pub with_field : {T V W : Type 0} (name words : List ℕ) (c : Codec T)
    (others : FieldCodecs V W)
    → IsNew others name → FieldCodecs (Option T × V) (T × W)
with_field name words c others new =
    with_field_by last_place name c others new (or_words words) (λ v. refl)

-- a field in whose place this value stands where it is missing
abbrev pub with_field_or : {T V W : Type 0} (name : List ℕ) (other : T) (c : Codec T)
    (others : FieldCodecs V W) → IsNew others name → FieldCodecs (Option T × V)
    (T × W)
with_field_or name other c others new =
    with_field_by last_place name c others new (or_value other) (λ v. refl)

-- a field that has to be there, and once; else the struct is rejected in these words
abbrev pub with_field_once : {T V W : Type 0} (name words : List ℕ) (c : Codec T)
    (others : FieldCodecs V W)
    → IsNew others name → FieldCodecs (Single T × V) (T × W)
with_field_once name words c others new =
    with_field_by only_place name c others new (once_or_words words (or_words words)) (λ v. refl)

-- a field that may come once, and in whose place this value stands where it is missing; where it
-- comes more than once, the struct is rejected in these words
abbrev pub with_field_once_or : {T V W : Type 0} (name words : List ℕ) (other : T) (c : Codec T)
    (others : FieldCodecs V W)
    → IsNew others name → FieldCodecs (Single T × V) (T × W)
with_field_once_or name words other c others new =
    with_field_by only_place name c others new (once_or_words words (or_value other)) (λ v. refl)

-- ---- a field that is left out where it is none

abbrev pub StandsHeld : {T : Type 0} → Codec T → Option T → Type 0
StandsHeld c None = Unit {0}
StandsHeld c (Some v) = c.stands v

abbrev pub held_cost : {T : Type 0} → Codec T → Option T → ℕ
held_cost c None = 0
held_cost c (Some v) = c.cost v

-- what stands in the place of a field that came so: never, or once
abbrev pub put_option : {T P : Type 0} → Place T P → Option T → P
put_option place None = place.none
put_option place (Some v) = place.put v place.none

pub last_option : {T : Type 0} (o : Option T) → or_none (put_option last_place o) ≡ Ok o
last_option None = refl
last_option (Some v) = refl

pub only_option : {T : Type 0} (words : List ℕ) (o : Option T)
    → once_or_words words or_none (put_option only_place o) ≡ Ok o
only_option words None = refl
only_option words (Some v) = refl

module _ {T P V W : Type 0} (place : Place T P) (name : List ℕ) (c : Codec T)
    (others : FieldCodecs V W) (new : IsNew others name) where
  pub optional_few : (w : Option T × W)
      → length (before name c.encoding w.0 (others.items w.1)) ≤ 1 + length others.labels
  optional_few (None, w) = omega (arith, others.few w)
  optional_few (Some v, w) = omega (arith, others.few w)

  pub optional_others : (other : List ℕ) → IsTrue (is_apart other (name ∷ others.labels))
      → (w : Option T × W) → AllByRecursion (λ (part : List ℕ × Encoding). part.0 ≢ other)
      (before name c.encoding w.0 (others.items w.1))
  optional_others other h (None, w) =
      others.others other (both (not (bytes_eq name other)) (is_apart other others.labels) h).1 w
  optional_others other h (Some v, w) = search (rules, is_other)

  pub optional_back : Hold (both_facts c.facts others.facts) → (alloc : Global)
      (w : Option T × W)
      → StandsHeld c w.0 × others.stands w.1
      → FieldsBack (IsLabel others.shape.key)
      (named_field place.put name c.promise.format.reads others.shape.fields.named)
      (place.none, others.shape.fields.first) (put_option place w.0, others.held w.1)
      (before name c.encoding w.0 (others.items w.1)) (max (held_cost c w.0) (others.cost w.1))
  optional_back hold alloc (None, w) h =
      search (rules, no_dearer, no_field_back, others_hold, alloc)
  optional_back hold alloc (Some v, w) h =
      part_back place name c others new hold alloc (v, w) h

  pub optional_pairs : Hold (both_facts c.facts others.facts) → (w : Option T × W)
      → StandsHeld c w.0 × others.stands w.1
      → AllByRecursion (IsOnePair canonical)
      (keyed_pairs others.shape.key.item (before name c.encoding w.0 (others.items w.1)))
  optional_pairs hold (None, w) h =
      others.pairs (others_hold c.facts others.facts hold) w h.1
  optional_pairs hold (Some v, w) h = part_pairs place name c others new hold (v, w) h

  -- a field that is left out where it is none, and of which this becomes: none where it is missing
  abbrev pub with_optional_field_by : (value : P → Result (Option T) (List ℕ))
      → ((o : Option T) → value (put_option place o) ≡ Ok o)
      → FieldCodecs (P × V) (Option T × W)
  with_optional_field_by value made = record {
    shape = shaped_field place value name c.promise others.shape;
    labels = name ∷ others.labels;
    items = λ w. before name c.encoding w.0 (others.items w.1);
    few = λ w. omega (arith, optional_few w);
    others = optional_others;
    held = λ w. (put_option place w.0, others.held w.1);
    stands = λ w. StandsHeld c w.0 × others.stands w.1;
    cost = λ w. max (held_cost c w.0) (others.cost w.1);
    made = λ w. subst (λ (r : Result (Option T) (List ℕ)). both_or_words r
        (others.shape.value (others.held w.1))
        ≡ Ok (w.0, w.1)) (sym (made w.0)) (ap (both_or_words (Ok w.0)) (others.made w.1));
    facts = both_facts c.facts others.facts;
    back = optional_back;
    pairs = optional_pairs;
  }

-- a field that is left out where it is none, and is none where it is missing
abbrev pub with_optional_field : {T V W : Type 0} (name : List ℕ) (c : Codec T)
    (others : FieldCodecs V W)
    → IsNew others name → FieldCodecs (Option T × V) (Option T × W)
with_optional_field name c others new =
    with_optional_field_by last_place name c others new or_none last_option

-- the same, of a field that may come once; where it comes more than once, the struct is rejected
-- in these words
abbrev pub with_optional_field_once : {T V W : Type 0} (name words : List ℕ) (c : Codec T)
    (others : FieldCodecs V W)
    → IsNew others name → FieldCodecs (Single T × V) (Option T × W)
with_optional_field_once name words c others new =
    with_optional_field_by only_place name c others new (once_or_words words or_none)
    (only_option words)

-- ---- whole structs

-- the map of a struct's fields
abbrev pub fields_item : {V W : Type 0} → FieldCodecs V W → W → Encoding
fields_item p w = keyed_encoding p.shape.key.item (p.items w)

-- the fields of a struct, fewer than 256
module _ {V W : Type 0} (p : FieldCodecs V W) (few : length p.labels < 256) where
  pub fields_are_back : Hold p.facts → (alloc : Global) (w : W) → p.stands w
      → IsReadBack (ReadsFields p.shape.key p.shape.fields.first p.shape.fields.named)
      (fields_item p w) (p.held w) (1 + p.cost w)
  fields_are_back hold alloc w h = search (rules, struct_back, alloc)

  pub fields_are_one : Hold p.facts → (w : W) → p.stands w
      → IsOneItem canonical (fields_item p w)
  fields_are_one hold w h = search (rules, struct_is_item, pairs_count)

  pub values_are_back : Hold p.facts → (alloc : Global) (w : W) → p.stands w
      → IsReadBack (struct_from p.shape).format.reads (fields_item p w) w (1 + p.cost w)
  values_are_back hold alloc w h =
      made_back (ReadsFields p.shape.key p.shape.fields.first p.shape.fields.named)
      (gives_ok p.shape.value) (fields_item p w) (p.held w) w (1 + p.cost w) (p.made w)
      (fields_are_back hold alloc w h)

  -- the values of the fields, as nested pairs
  abbrev pub values_codec : Codec W
  values_codec = record {
    promise = struct_from p.shape;
    encoding = fields_item p;
    stands = p.stands;
    cost = λ w. 1 + p.cost w;
    facts = p.facts;
    back = values_are_back;
    one = fields_are_one;
  }

pub struct_is_back : {R V W : Type 0} (values : R → W) (make : W → R)
    → ((r : R) → r ≡ make (values r)) → (p : FieldCodecs V W) → length p.labels < 256
    → Hold p.facts → (alloc : Global) (r : R) → p.stands (values r)
    → IsReadBack (made_from (λ (w : W) (r : R). r ≡ make w) (struct_from p.shape)).format.reads
    (fields_item p (values r)) r (1 + p.cost (values r))
struct_is_back {R = R} {W = W} values make whole p few hold alloc r h =
    search (rules, made_back, values_are_back, alloc)

-- a struct that has these values of its fields, fewer than 256
abbrev pub struct_codec : {R V W : Type 0} (values : R → W) (make : W → R)
    → ((r : R) → r ≡ make (values r)) → (p : FieldCodecs V W)
    → IsTrue (ltb (length p.labels) 256) → Codec R
struct_codec values make whole p few = record {
  promise = made_from (λ w r. r ≡ make w) (struct_from p.shape);
  encoding = λ r. fields_item p (values r);
  stands = λ r. p.stands (values r);
  cost = λ r. 1 + p.cost (values r);
  facts = p.facts;
  back = struct_is_back values make whole p (ltb-true (length p.labels) 256 few);
  one = λ hold r. fields_are_one p (ltb-true (length p.labels) 256 few) hold (values r);
}
