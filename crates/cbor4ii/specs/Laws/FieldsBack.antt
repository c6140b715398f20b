-- The fields of a struct are read back after their names: none, and one before others.
use Rattle.std.proofs.Common.{rules}
use Rattle.std.proofs.Common.{◌≡◌, ◌≢◌, inl, inr, ℕ, List, [], ◌∷◌, max, map, refl, sym, ap, ◌∙◌}
use Rattle.std.specs.List.{AllByRecursion}
use Rattle.cbor4ii_items.specs.Decoding.{Reads}
use Rattle.cbor4ii_ser.specs.Item.{Encoding, encoded, rejected}
use Rattle.cbor4ii.specs.Fields.{ReadsNamed, named_field, no_field, no_values, after_changes}
use Rattle.cbor4ii.specs.Places.{Place}
use Rattle.cbor4ii.specs.ReadBack.{IsReadBack, NamedItems, ChangesBack, FieldsBack}

-- ---- a field before others

module _ {T P V : Type 0} (place : Place T P) (own : List ℕ) (reads : Reads T)
    (named : ReadsNamed V) where
  -- a change of the others
  abbrev changes_others : (V → V) → P × V → P × V
  changes_others change = λ (values : P × V). (values.0, change values.1)

  -- after another name an item is read as one of the others
  other_back : (name : List ℕ) (item : Encoding) (change : V → V) (cost : ℕ) → name ≢ own
      → IsReadBack (named name) item change cost
      → IsReadBack (named_field place.put own reads named name) item (changes_others change) cost
  other_back name (rejected bytes words) change cost other back = tt
  other_back name (encoded bytes) change cost other back =
      λ rest. inr (other, change, back rest, refl)

  others_back : (IsLabel : List ℕ → Type 0) (parts : NamedItems) (changes : List (V → V))
      (cost : ℕ)
      → AllByRecursion (λ (part : List ℕ × Encoding). part.0 ≢ own) parts
      → ChangesBack IsLabel named parts changes cost
      → ChangesBack IsLabel (named_field place.put own reads named) parts
      (map changes_others changes) cost
  others_back IsLabel [] [] cost other back = back
  others_back IsLabel (part ∷ parts) (change ∷ changes) cost other back = search (rules, other_back, (others_back IsLabel parts changes back.1 other.1 back.4))
  others_back IsLabel _ _ cost other back = absurd back

  -- the changes of the others leave the field
  changed_below : (o : P) (values : V) (changes : List (V → V))
      → after_changes (o, values) (map changes_others changes) ≡ (o, after_changes values changes)
  changed_below o values [] = refl
  changed_below o values (change ∷ changes) = changed_below o (change values) changes

  -- after its own name an item is read as the field
  own_back : (item : Encoding) (v : T) (cost : ℕ) → IsReadBack reads item v cost
      → IsReadBack (named_field place.put own reads named own) item
      (λ (values : P × V). (place.put v values.0, values.1)) cost
  own_back (rejected bytes words) v cost back = tt
  own_back (encoded bytes) v cost back = λ rest. inl (refl, v, back rest, refl)

  pub field_back : {IsLabel : List ℕ → Type 0} (first values : V) (parts : NamedItems)
      (cost : ℕ) (item : Encoding) (v : T)
      (own_cost : ℕ) → FieldsBack IsLabel named first values parts cost → IsLabel own
      → AllByRecursion (λ (part : List ℕ × Encoding). part.0 ≢ own) parts
      → IsReadBack reads item v own_cost
      → FieldsBack IsLabel (named_field place.put own reads named) (place.none, first)
      (place.put v place.none, values)
      ((own, item) ∷ parts) (max own_cost cost)
  field_back {IsLabel = L} first values parts cost item v own_cost others name apart back = record {
    changes = (λ (values : P × V).
        (place.put v values.0, values.1)) ∷ map changes_others others.changes;
    each = (
      own_cost,
      cost,
      name,
      own_back item v own_cost back,
      others_back L parts others.changes cost apart others.each,
      refl,
    );
    made =
        ap (λ (trailing : V). (place.put v place.none, trailing)) others.made
        ∙ sym (changed_below (place.put v place.none) first others.changes);
  }

  -- where no item has its name, the field stays as it was
  pub no_field_back : {IsLabel : List ℕ → Type 0} (first values : V) (parts : NamedItems)
      (cost : ℕ)
      → FieldsBack IsLabel named first values parts cost
      → AllByRecursion (λ (part : List ℕ × Encoding). part.0 ≢ own) parts
      → FieldsBack IsLabel (named_field place.put own reads named) (place.none, first)
      (place.none, values) parts cost
  no_field_back {IsLabel = IsLabel} first values parts cost others apart = search (rules, others_back, changed_below)

-- ---- no field

pub none_back : {IsLabel : List ℕ → Type 0} (values : Unit {0})
    → FieldsBack IsLabel no_field no_values values [] 0
none_back values = record { changes = []; each = refl; made = refl }
