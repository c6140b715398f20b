-- The fields of a struct are read back.
use Rattle.std.proofs.Common.{◌≡◌, ℕ, suc, ◌+◌, ◌<◌, ◌^◌, List, [], ◌∷◌, length, max, true, refl}
use Rattle.std.proofs.Common.{sym, ap, subst, arith, rules}
use Rattle.cbor4ii_items.specs.Sequences.{ReadsElements, ReadsSequence, ReadsPair}
use Rattle.cbor4ii_ser.specs.Item.{Encoding, encoded, rejected, one_then, parts}
use Rattle.cbor4ii_ser.specs.Listed.{keyed_pairs, keyed_encoding}
use Rattle.cbor4ii.specs.FieldKey.{FieldKey, IsLabel}
use Rattle.cbor4ii.specs.Fields.{ReadsNamed, ReadsByKey, ReadsFields, after_changes}
use Rattle.cbor4ii.specs.ReadBack.{IsReadBack, NamedItems, ChangesBack, FieldsBack}
use Rattle.cbor4ii.specs.Laws.Backs.{key_value_back, joined_back, definite_back}

-- ---- all fields

pub pairs_count : (item : List ℕ → List ℕ) (ps : NamedItems)
    → length (keyed_pairs item ps) ≡ length ps
pairs_count item [] = refl
pairs_count item (p ∷ ps) = ap suc (pairs_count item ps)

pub no_dearer : (cost : ℕ) → max 0 cost ≡ cost
no_dearer cost = omega arith

module _ {V : Type 0} (key : FieldKey) (named : ReadsNamed V) where
  as_entry : (label : List ℕ) (o : Encoding) (change : V → V) (cost : ℕ)
      → IsReadBack (ReadsPair key.reads (named label)) o (label, change) cost
      → IsReadBack (ReadsByKey key named) o change cost
  as_entry label (rejected bytes words) change cost back = tt
  as_entry label (encoded bytes) change cost back = λ rest. (label, back rest)

  entry_back : (label : List ℕ) (item : Encoding) (change : V → V) (cost : ℕ)
      → IsLabel key label → IsReadBack (named label) item change cost
      → IsReadBack (ReadsByKey key named) (one_then (encoded (key.item label)) item) change cost
  entry_back label item change cost is back =
      let entry = key_value_back key.reads (named label) (encoded (key.item label)) item
      (label, change) 0 cost (key.back label is) back in
      subst (λ c. IsReadBack (ReadsByKey key named) (one_then (encoded (key.item label)) item)
      change c) (no_dearer cost)
      (as_entry label (one_then (encoded (key.item label)) item) change (max 0 cost) entry)

  changes_back : (ps : NamedItems) (changes : List (V → V)) (cost : ℕ)
      → ChangesBack (IsLabel key) named ps changes cost
      → IsReadBack (ReadsElements (ReadsByKey key named)) (parts (keyed_pairs key.item ps))
      changes cost
  changes_back [] [] cost back = λ rest. (refl, back)
  changes_back (p ∷ ps) (change ∷ changes) cost back =
      subst (λ c. IsReadBack (ReadsElements (ReadsByKey key named))
      (parts (keyed_pairs key.item (p ∷ ps))) (change ∷ changes) c) (sym back.5)
      (joined_back (ReadsByKey key named) (one_then (encoded (key.item p.0)) p.1)
      (parts (keyed_pairs key.item ps)) change changes back.0 back.1
      (entry_back p.0 p.1 change back.0 back.2 back.3) (changes_back ps changes back.1 back.4))
  changes_back _ _ cost back = absurd back

  as_many : (ps : NamedItems) (changes : List (V → V)) (cost : ℕ)
      → ChangesBack (IsLabel key) named ps changes cost
      → length changes ≡ length (keyed_pairs key.item ps)
  as_many [] [] cost back = refl
  as_many (p ∷ ps) (change ∷ changes) cost back = ap suc (as_many ps changes back.1 back.4)
  as_many _ _ cost back = absurd back

  as_values : (o : Encoding) (first values : V) (changes : List (V → V)) (cost : ℕ)
      → values ≡ after_changes first changes
      → IsReadBack (ReadsSequence 5 (ReadsByKey key named) true) o changes cost
      → IsReadBack (ReadsFields key first named) o values cost
  as_values (rejected bytes words) first values changes cost made back = tt
  as_values (encoded bytes) first values changes cost made back =
      λ rest. (changes, back rest, made)

  pub struct_back : (first values : V) (ps : NamedItems) (cost : ℕ) → length ps < 2 ^ 64
      → FieldsBack (IsLabel key) named first values ps cost
      → IsReadBack (ReadsFields key first named) (keyed_encoding key.item ps) values (1 + cost)
  struct_back first values ps cost small back =
      search (rules, as_many, definite_back, pairs_count, changes_back, as_values)
