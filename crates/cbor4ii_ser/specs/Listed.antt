-- The pairs of a struct that is written from a list of its fields, some of them left out.
use Rattle.std.specs.Prelude.{◌≡◌, ◌++◌, ℕ, ℤ, pos, negsuc, List, [], ◌∷◌, Option, None, Some}
use Rattle.std.specs.Prelude.{refl}
use Rattle.cbor4ii_items.specs.Numbers.{shortest_head, signed_head}
use Rattle.cbor4ii_items.specs.Strings.{definite_string}
use Rattle.cbor4ii_ser.specs.Item.{Encoding, encoded, one_then, struct_encoding}

-- labels of keys, each with the item of its value; a name's label is its text
abbrev pub NamedItems : Type 0
NamedItems = List (List ℕ × Encoding)

-- the pairs of labelled items, in order, where this is the item of a key by its label
abbrev pub keyed_pairs : (List ℕ → List ℕ) → NamedItems → List Encoding
keyed_pairs key [] = []
keyed_pairs key (part ∷ parts) = one_then (encoded (key part.0)) part.1 ∷ keyed_pairs key parts

-- the item of a name: a text
abbrev pub name_item : List ℕ → List ℕ
name_item = definite_string 3

-- the label of an integer: its major type and its argument (RFC 8949 section 3.1)
abbrev pub integer_label : ℤ → List ℕ
integer_label (pos n) = 0 ∷ n ∷ []
integer_label (negsuc n) = 1 ∷ n ∷ []

-- the item of an integer: its shortest head
abbrev pub integer_item : List ℕ → List ℕ
integer_item [] = []
integer_item (major ∷ []) = []
integer_item (major ∷ argument ∷ others) = shortest_head major argument

pub integer_item_of : (v : ℤ) → integer_item (integer_label v) ≡ signed_head v
integer_item_of (pos n) = refl
integer_item_of (negsuc n) = refl

-- the fields of these names and items, in order
abbrev pub fields_of : NamedItems → List Encoding
fields_of = keyed_pairs name_item

-- a map of these pairs
abbrev pub keyed_encoding : (List ℕ → List ℕ) → NamedItems → Encoding
keyed_encoding key items = struct_encoding (keyed_pairs key items)

-- the item of a value, before others
abbrev pub always_before : {T : Type 0} → (T → Encoding) → T → List ℕ → NamedItems → NamedItems
always_before encoding v label others = (label, encoding v) ∷ others

-- the item of a value that is there, before others
abbrev pub before : {T : Type 0} → List ℕ → (T → Encoding) → Option T → NamedItems → NamedItems
before label encoding None others = others
before label encoding (Some v) others = (label, encoding v) ∷ others

-- what stands before others is the same before any
abbrev pub StandsBeforeOthers : {P : Type 0} → (P → List ℕ → NamedItems → NamedItems) → Type 0
StandsBeforeOthers {P} first = (v : P) (label : List ℕ) (others : NamedItems)
    → first v label others ≡ first v label [] ++ others

pub before_joins : {T : Type 0} (encoding : T → Encoding) (o : Option T) (label : List ℕ)
    (others : NamedItems)
    → before label encoding o others ≡ before label encoding o [] ++ others
before_joins encoding None label others = refl
before_joins encoding (Some v) label others = refl

-- ---- a list of fields

-- the end of a list
abbrev pub end_of_list : Unit {0}
end_of_list = tt

-- the labelled items of no field
abbrev pub no_named_items : {V : Type 0} → V → List (List ℕ) → NamedItems
no_named_items v labels = []

-- the items of a field and those after it, each under its label; one without a label is left out
infixr 5 ◌▹◌
abbrev pub ◌▹◌ : {P V : Type 0} → (P → List ℕ → NamedItems → NamedItems)
    → (V → List (List ℕ) → NamedItems) → P × V → List (List ℕ) → NamedItems
(first ▹ others) v [] = []
(first ▹ others) v (label ∷ labels) = first v.0 label (others v.1 labels)

-- the labels of these keys
abbrev pub labels_of : {K : Type 0} → (K → List ℕ) → List K → List (List ℕ)
labels_of label [] = []
labels_of label (key ∷ keys) = label key ∷ labels_of label keys
