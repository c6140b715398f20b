-- Arrays of so many elements in one word: how their elements are written and read, and that they
-- are read back.
use Rattle.std.proofs.Common.{◌≡◌, ◌<◌, ◌^◌, ◌+◌, ℕ, List, [], ◌∷◌, length, max, IsTrue, refl, sym}
use Rattle.std.proofs.Common.{subst, ltb, ltb-true, arith, rules}
use Rattle.std.specs.List.{AllByRecursion}
use Rattle.std.specs.declared.alloc.Global.{Global}
use Rattle.cbor4ii_items.specs.Numbers.{shortest_head}
use Rattle.cbor4ii_ser.specs.Item.{Encoding, encoded, one_then, parts, tuple_encoding}
use Rattle.cbor4ii_ser.specs.OneItem.{IsOneItem, canonical}
use Rattle.cbor4ii_ser.specs.Laws.OneItem.{tuple_is_item}
use Rattle.cbor4ii.specs.Codec.{Codec, Facts, no_facts, both_facts, Hold, first_hold, others_hold}
use Rattle.cbor4ii.specs.Codec.{made_back}
use Rattle.cbor4ii.specs.Elements.{Elements, no_element, element_before, typed_elements}
use Rattle.cbor4ii.specs.Laws.Backs.{key_value_back, counted_back}
use Rattle.cbor4ii.specs.Made.{made_from}
use Rattle.cbor4ii.specs.ReadBack.{IsReadBack}

-- the elements of an array: how they are written and read, as values of type V
pub record ElementCodecs (V : Type 0) : Type 1 where
  pub elements : Elements V
  -- the items that are written
  pub items : V → List Encoding
  pub counts : (v : V) → length (items v) ≡ elements.count
  pub stands : V → Type 0
  pub cost : V → ℕ
  -- what they stand on
  pub facts : Facts
  pub back : Hold facts → (alloc : Global) (v : V) → stands v
      → IsReadBack elements.format.reads (parts (items v)) v (cost v)
  pub one : Hold facts → (v : V) → stands v → AllByRecursion (IsOneItem canonical) (items v)

-- how elements are written and read where none is left
abbrev pub no_elements : ElementCodecs (Unit {0})
no_elements = record {
  elements = no_element;
  items = λ v. [];
  counts = λ v. refl;
  stands = λ v. Unit {0};
  cost = λ v. 0;
  facts = no_facts;
  back = λ hold alloc v h rest. (refl, refl);
  one = λ hold v h. tt;
}

module _ {T V : Type 0} (c : Codec T) (others : ElementCodecs V) where
  pub elements_back : Hold (both_facts c.facts others.facts) → (alloc : Global) (v : T × V)
      → c.stands v.0 × others.stands v.1
      → IsReadBack (element_before c.promise others.elements).format.reads
      (one_then (c.encoding v.0) (parts (others.items v.1))) v (max (c.cost v.0) (others.cost v.1))
  elements_back hold alloc v h = search (rules, key_value_back, first_hold, alloc, others_hold)

  -- an element, and those after it
  abbrev pub with_element : ElementCodecs (T × V)
  with_element = record {
    elements = element_before c.promise others.elements;
    items = λ v. c.encoding v.0 ∷ others.items v.1;
    counts = λ v. omega (arith, others.counts v.1);
    stands = λ v. c.stands v.0 × others.stands v.1;
    cost = λ v. max (c.cost v.0) (others.cost v.1);
    facts = both_facts c.facts others.facts;
    back = elements_back;
    one = λ hold v h. (
      c.one (first_hold c.facts others.facts hold) v.0 h.0,
      others.one (others_hold c.facts others.facts hold) v.1 h.1,
    );
  }

-- ---- whole arrays

module _ {V : Type 0} (p : ElementCodecs V) (few : p.elements.count < 2 ^ 64) where
  pub array_is_back : Hold p.facts → (alloc : Global) (v : V) → p.stands v
      → IsReadBack (typed_elements p.elements).format.reads (tuple_encoding (p.items v)) v
      (1 + p.cost v)
  array_is_back hold alloc v h =
      subst (λ n. IsReadBack (typed_elements p.elements).format.reads
      (one_then (encoded (shortest_head 4 n)) (parts (p.items v))) v (1 + p.cost v))
      (sym (p.counts v))
      (counted_back p.elements.count p.elements.format.reads (parts (p.items v)) v (p.cost v) few
      (p.back hold alloc v h))

  pub array_is_one : Hold p.facts → (v : V) → p.stands v
      → IsOneItem canonical (tuple_encoding (p.items v))
  array_is_one hold v h =
      tuple_is_item canonical (p.items v) (omega (arith, p.counts v, few)) (p.one hold v h)

pub elements_are_back : {R V : Type 0} (values : R → V) (make : V → R)
    → ((r : R) → r ≡ make (values r)) → (p : ElementCodecs V)
    → p.elements.count < 2 ^ 64 → Hold p.facts → (alloc : Global) (r : R) → p.stands (values r)
    → IsReadBack
    (made_from (λ (v : V) (r : R). r ≡ make v) (typed_elements p.elements)).format.reads
    (tuple_encoding (p.items (values r))) r (1 + p.cost (values r))
elements_are_back {R = R} {V = V} values make whole p few hold alloc r h =
    search (rules, made_back, array_is_back, alloc)

-- a struct that is an array of these elements, which has these values of them
abbrev pub elements_codec : {R V : Type 0} (values : R → V) (make : V → R)
    → ((r : R) → r ≡ make (values r)) → (p : ElementCodecs V)
    → IsTrue (ltb p.elements.count (2 ^ 64)) → Codec R
elements_codec values make whole p few = record {
  promise = made_from (λ v r. r ≡ make v) (typed_elements p.elements);
  encoding = λ r. tuple_encoding (p.items (values r));
  stands = λ r. p.stands (values r);
  cost = λ r. 1 + p.cost (values r);
  facts = p.facts;
  back = elements_are_back values make whole p (ltb-true p.elements.count (2 ^ 64) few);
  one = λ hold r. array_is_one p (ltb-true p.elements.count (2 ^ 64) few) hold (values r);
}
