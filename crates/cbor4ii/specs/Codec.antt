-- How a type is written and read, in one word, and that what is written is one item and read back.
use Rattle.std.proofs.Common.{◌≡◌, ◌<◌, ◌≤◌, ◌^◌, ◌+◌, ℕ, List, [], ◌∷◌, length, max, Option, None}
use Rattle.std.proofs.Common.{Some, All, true, inl, refl, arith, encode_utf8, IsUtf8, rules}
use Rattle.std.specs.Prelude.{ℤ, string_bytes}
use Rattle.std.specs.Char.{IsScalar}
use Rattle.std.specs.Cmp.{IsTotalOrder}
use Rattle.std.specs.List.Sorted.{IsStrictlySortedBy}
use Rattle.std.specs.Map.{keys_of}
use Rattle.std.specs.declared.alloc.Global.{Global}
use Rattle.std.specs.declared.boxed.Box.{Box}
use Rattle.std.specs.declared.cmp.Ordering.{Ordering}
use Rattle.std.specs.declared.string.String.{String}
use Rattle.std.specs.declared.vec.Vec.{Vec}
use Rattle.std.proofs.lemmas.List.Elements.{All-nil, All-cons, All-head, All-tail}
use Rattle.std.proofs.lemmas.Str.{IsUtf8-encode, IsUtf8-string_bytes, length-encode}
use Rattle.std.proofs.lemmas.Str.{len_utf8_bounds}
use Rattle.cbor4ii_items.specs.Decoding.{Reads}
use Rattle.cbor4ii_items.specs.Numbers.{IsWithin, shortest_head, signed_head}
use Rattle.cbor4ii_items.specs.ReadBack.{ReadsBack, greatest_part_cost, pair_cost}
use Rattle.cbor4ii_items.specs.Sequences.{ReadsPair, ReadsSequence}
use Rattle.cbor4ii_items.specs.Strings.{ReadsAs, ReadsTextAs, definite_string, text_content}
use Rattle.cbor4ii_items.specs.Strings.{bytes_content}
use Rattle.cbor4ii_items.specs.Laws.LeavesBack.{text_back, string_back}
use Rattle.cbor4ii_items.specs.declared.types.Bytes.{Bytes}
use Rattle.cbor4ii_ser.specs.Item.{Encoding, encoded, option_encoding, array_encoding}
use Rattle.cbor4ii_ser.specs.Item.{map_encoding}
use Rattle.cbor4ii_ser.specs.Item.{tuple_encoding, pair_encoding}
use Rattle.cbor4ii_ser.specs.OneItem.{IsOneItem, canonical}
use Rattle.cbor4ii_ser.specs.Laws.OneItem.{unsigned_is_item, signed_is_item, within_greater}
use Rattle.cbor4ii_ser.specs.Laws.OneItem.{option_is_item, array_is_item, map_is_item}
use Rattle.cbor4ii_ser.specs.Laws.OneItem.{tuple_is_item, by_recursion, bytes_are_item}
use Rattle.cbor4ii.specs.Laws.Backs.{some_read_back, sequence_read_back, pair_read_back}
use Rattle.cbor4ii.specs.Laws.Backs.{read_back_by}
use Rattle.cbor4ii.specs.Laws.Backs.{triple_read_back, map_pairs_back, built_again, map_read_back}
use Rattle.cbor4ii.specs.Made.{ReadsMade, made_from}
use Rattle.cbor4ii.specs.ReadBack.{IsReadBack, BeginsOther}
use Rattle.cbor4ii.specs.Tuples.{ReadsUnit}
use Rattle.cbor4ii.specs.Typed.{Promise}
use Rattle.cbor4ii.specs.TypedParts.{typed_option, typed_vector, typed_box, typed_pair}
use Rattle.cbor4ii.specs.TypedParts.{typed_triple, typed_map}

-- ---- what a codec stands on

-- facts of the type parameters in a codec; there are none where it has no type parameter
pub data Facts : Type 1 where
  no_facts : Facts
  fact_before : Type 0 → Facts → Facts

abbrev pub both_facts : Facts → Facts → Facts
both_facts no_facts others = others
both_facts (fact_before fact facts) others = fact_before fact (both_facts facts others)

-- each of the facts holds
abbrev pub Hold : Facts → Type 0
Hold no_facts = Unit {0}
Hold (fact_before fact facts) = fact × Hold facts

pub first_hold : (facts others : Facts) → Hold (both_facts facts others) → Hold facts
first_hold no_facts others h = tt
first_hold (fact_before fact facts) others h = (h.0, first_hold facts others h.1)

pub others_hold : (facts others : Facts) → Hold (both_facts facts others) → Hold others
others_hold no_facts others h = h
others_hold (fact_before fact facts) others h = others_hold facts others h.1

pub both_hold : (facts others : Facts) → Hold facts → Hold others → Hold (both_facts facts others)
both_hold no_facts others h k = k
both_hold (fact_before fact facts) others h k = (h.0, both_hold facts others h.1 k)

-- ---- a codec

-- how a type is written and read
pub record Codec (T : Type 0) : Type 1 where
  pub promise : Promise T
  pub encoding : T → Encoding
  -- the value is one of the program's: a number in its range, a length below 2^64
  pub stands : T → Type 0
  -- the steps that reading its item takes
  pub cost : T → ℕ
  -- what it stands on
  pub facts : Facts
  -- its item is read back
  pub back : Hold facts → (alloc : Global) (v : T) → stands v
      → IsReadBack promise.format.reads (encoding v) v (cost v)
  -- its item is one, and canonical
  pub one : Hold facts → (v : T) → stands v → IsOneItem canonical (encoding v)

-- ---- what holds no other value

-- every value of the type is one of the program's
abbrev pub any_value : {T : Type 0} → T → Type 0
any_value v = Unit {0}

-- a type that is read without a step
abbrev pub leaf_codec : {T : Type 0} (promise : Promise T) (encoding : T → Encoding)
    (stands : T → Type 0)
    → ((v : T) → stands v → IsReadBack promise.format.reads (encoding v) v 0)
    → ((v : T) → stands v → IsOneItem canonical (encoding v)) → Codec T
leaf_codec promise encoding stands back one = record {
  promise = promise;
  encoding = encoding;
  stands = stands;
  cost = λ v. 0;
  facts = no_facts;
  back = λ hold alloc. back;
  one = λ hold. one;
}

pub unsigned_is_one : (limit : ℕ) → limit ≤ 2 ^ 64 → (v : ℕ) → v < limit
    → IsOneItem canonical (encoded (shortest_head 0 v))
unsigned_is_one limit le v h = unsigned_is_item canonical v (omega (arith, le, h))

pub signed_is_one : (limit : ℕ) → limit ≤ 2 ^ 64 → (v : ℤ) → IsWithin limit v
    → IsOneItem canonical (encoded (signed_head v))
signed_is_one limit le v h =
    signed_is_item canonical v (within_greater limit (2 ^ 64) v le h)

pub character_is_back : (v : ℕ) → IsScalar v
    → ReadsBack (ReadsTextAs encode_utf8) (definite_string 3 (encode_utf8 v)) v 0
character_is_back v h = search (rules, text_back, length-encode, len_utf8_bounds, IsUtf8-encode)

pub string_is_back : (v : String Global) → any_value v
    → IsReadBack (ReadsTextAs text_content) (encoded (definite_string 3 (string_bytes v))) v 0
string_is_back v any =
    text_back text_content v (omega (arith, v.bytes.ok.0, v.bytes.ok.1, v.bytes.small))
    (IsUtf8-string_bytes v)

pub unit_is_back : (v : Unit {0}) → any_value v
    → IsReadBack ReadsUnit (encoded (shortest_head 4 0)) v 0
unit_is_back v any = λ rest. (refl, refl, refl)

-- a text whose bytes may be any, of fewer than 2^64
abbrev pub IsText : List ℕ → Type 0
IsText text = (length text < 2 ^ 64) × IsUtf8 text

-- so few bytes that a head can count them
abbrev pub AreFew : List ℕ → Type 0
AreFew bytes = length bytes < 2 ^ 64

pub bytes_are_back : (v : Bytes (Vec ℕ Global)) → any_value v
    → IsReadBack (ReadsAs 2 bytes_content) (encoded (definite_string 2 v.0.items)) v 0
bytes_are_back v any =
    string_back bytes_content v (omega (arith, v.0.ok.0, v.0.ok.1, v.0.small)) 2

pub bytes_are_one : (v : Bytes (Vec ℕ Global)) → any_value v
    → IsOneItem canonical (encoded (definite_string 2 v.0.items))
bytes_are_one v any =
    bytes_are_item canonical v.0.items (omega (arith, v.0.ok.0, v.0.ok.1, v.0.small))

-- ---- containers

abbrev pub StandsSome : {T : Type 0} → Codec T → Option T → Type 0
StandsSome c None = Unit {0}
StandsSome c (Some v) = c.stands v × BeginsOther (c.encoding v)

abbrev pub some_cost : {T : Type 0} → Codec T → Option T → ℕ
some_cost c None = 0
some_cost c (Some v) = 1 + c.cost v

pub option_is_back : {T : Type 0} (c : Codec T) → Hold c.facts → (alloc : Global) (o : Option T)
    → StandsSome c o
    → IsReadBack (typed_option c.promise).format.reads (option_encoding c.encoding o) o
    (some_cost c o)
option_is_back c hold alloc None h = λ rest. (inl refl, refl, refl)
option_is_back c hold alloc (Some v) h =
    some_read_back c.promise.format.reads (c.encoding v) v (c.cost v) (c.back hold alloc v h.0) h.1

pub option_is_one : {T : Type 0} (c : Codec T) → Hold c.facts → (o : Option T) → StandsSome c o
    → IsOneItem canonical (option_encoding c.encoding o)
option_is_one c hold None h = option_is_item canonical c.encoding None (λ u e. cc)
option_is_one c hold (Some v) h = c.one hold v h.0

-- an option: a value whose item is null stands for none, so it is not one that is read back
abbrev pub option_codec : {T : Type 0} → Codec T → Codec (Option T)
option_codec c = record {
  promise = typed_option c.promise;
  encoding = option_encoding c.encoding;
  stands = StandsSome c;
  cost = some_cost c;
  facts = c.facts;
  back = option_is_back c;
  one = option_is_one c;
}

all_as : {T : Type 0} (P Q : T → Type 0) → ((v : T) → P v → Q v) → (vs : List T) → All P vs
    → All Q vs
all_as P Q to [] all = All-nil Q
all_as P Q to (v ∷ vs) all =
    All-cons Q v vs (to v (All-head P v vs all)) (all_as P Q to vs (All-tail P v vs all))

pub vector_is_back : {T : Type 0} (c : Codec T) → Hold c.facts → (alloc : Global)
    (v : Vec T Global)
    → All c.stands v.items
    → IsReadBack (typed_vector c.promise).format.reads (array_encoding c.encoding v.items) v
    (1 + greatest_part_cost c.cost v.items)
vector_is_back c hold alloc v all =
    sequence_read_back c.promise.format.reads c.encoding c.cost 4 true v.items
    (omega (arith, v.ok.0, v.ok.1, v.small)) (all_as c.stands
    (λ v. IsReadBack c.promise.format.reads (c.encoding v) v (c.cost v)) (c.back hold alloc)
    v.items all)

pub vector_is_one : {T : Type 0} (c : Codec T) → Hold c.facts → (v : Vec T Global)
    → All c.stands v.items
    → IsOneItem canonical (array_encoding c.encoding v.items)
vector_is_one {T = T} c hold v all = search (rules, array_is_item, by_recursion, all_as)

-- an array of values
abbrev pub vector_codec : {T : Type 0} → Codec T → Codec (Vec T Global)
vector_codec c = record {
  promise = typed_vector c.promise;
  encoding = λ v. array_encoding c.encoding v.items;
  stands = λ v. All c.stands v.items;
  cost = λ v. 1 + greatest_part_cost c.cost v.items;
  facts = c.facts;
  back = vector_is_back c;
  one = vector_is_one c;
}

abbrev pub box_codec : {T : Type 0} → Codec T → Codec (Box T Global)
box_codec c = record {
  promise = typed_box c.promise;
  encoding = λ b. c.encoding b.value;
  stands = λ b. c.stands b.value;
  cost = λ b. c.cost b.value;
  facts = c.facts;
  back = λ hold alloc b. c.back hold alloc b.value;
  one = λ hold b. c.one hold b.value;
}

abbrev pub pair_codec : {A B : Type 0} → Codec A → Codec B → Codec (A × B)
pair_codec a b = record {
  promise = typed_pair a.promise b.promise;
  encoding = λ p. tuple_encoding (a.encoding p.0 ∷ b.encoding p.1 ∷ []);
  stands = λ p. a.stands p.0 × b.stands p.1;
  cost = λ p. 1 + max (a.cost p.0) (b.cost p.1);
  facts = both_facts a.facts b.facts;
  back = λ hold alloc p h. pair_read_back a.promise.format.reads b.promise.format.reads
      (a.encoding p.0) (b.encoding p.1) p (a.cost p.0) (b.cost p.1)
      (a.back (first_hold a.facts b.facts hold) alloc p.0 h.0)
      (b.back (others_hold a.facts b.facts hold) alloc p.1 h.1);
  one = λ hold p h. tuple_is_item canonical (a.encoding p.0 ∷ b.encoding p.1 ∷ []) (omega arith) (
    a.one (first_hold a.facts b.facts hold) p.0 h.0,
    (b.one (others_hold a.facts b.facts hold) p.1 h.1, tt),
  );
}

pub second_of_three : (a b c : Facts) → Hold (both_facts a (both_facts b c)) → Hold b
second_of_three a b c hold = first_hold b c (others_hold a (both_facts b c) hold)

pub third_of_three : (a b c : Facts) → Hold (both_facts a (both_facts b c)) → Hold c
third_of_three a b c hold = others_hold b c (others_hold a (both_facts b c) hold)

abbrev pub triple_codec : {A B C : Type 0} → Codec A → Codec B → Codec C → Codec (A × B × C)
triple_codec a b c = record {
  promise = typed_triple a.promise b.promise c.promise;
  encoding = λ p. tuple_encoding (a.encoding p.0 ∷ b.encoding p.1 ∷ c.encoding p.2 ∷ []);
  stands = λ p. a.stands p.0 × b.stands p.1 × c.stands p.2;
  cost = λ p. 1 + max (a.cost p.0) (max (b.cost p.1) (c.cost p.2));
  facts = both_facts a.facts (both_facts b.facts c.facts);
  back = λ hold alloc p h. triple_read_back a.promise.format.reads b.promise.format.reads
      c.promise.format.reads (a.encoding p.0) (b.encoding p.1) (c.encoding p.2) p (a.cost p.0)
      (b.cost p.1)
      (c.cost p.2)
      (a.back (first_hold a.facts (both_facts b.facts c.facts) hold) alloc p.0 h.0)
      (b.back (second_of_three a.facts b.facts c.facts hold) alloc p.1 h.1)
      (c.back (third_of_three a.facts b.facts c.facts hold) alloc p.2 h.2);
  one = λ hold p h. tuple_is_item canonical (a.encoding p.0 ∷ b.encoding p.1 ∷ c.encoding p.2 ∷ [])
      (omega arith) (
        a.one (first_hold a.facts (both_facts b.facts c.facts) hold) p.0 h.0,
        (
          b.one (second_of_three a.facts b.facts c.facts hold) p.1 h.1,
          (c.one (third_of_three a.facts b.facts c.facts hold) p.2 h.2, tt),
        ),
      );
}

-- a map of the program: the order of its keys is total, they stand in it, and are fewer than 2^64
pub record StandsMap {K V : Type 0} (k : Codec K) (v : Codec V) (cmp : K → K → Ordering)
    (entries : List (K × V)) : Type 0 where
  pub total : IsTotalOrder cmp
  pub sorted : IsStrictlySortedBy cmp (keys_of entries)
  pub few : length entries < 2 ^ 64
  pub each : All (λ (e : K × V). k.stands e.0 × v.stands e.1) entries

module _ {K V M : Type 0} (entries : M → List (K × V)) (cmp : K → K → Ordering) (k : Codec K)
    (v : Codec V) where
  pub map_is_back : Hold (both_facts k.facts v.facts) → (alloc : Global) (m : M)
      → StandsMap k v cmp (entries m)
      → IsReadBack (typed_map entries cmp k.promise v.promise).format.reads
      (map_encoding k.encoding v.encoding (entries m)) m
      (1 + greatest_part_cost (pair_cost k.cost v.cost) (entries m))
  map_is_back hold alloc m h =
      let es = entries m in
      let key_hold = first_hold k.facts v.facts hold in
      let value_hold = others_hold k.facts v.facts hold in
      let Both : K × V → Type 0 = λ e. k.stands e.0 × v.stands e.1 in
      let keys = all_as Both (λ (e : K × V). IsReadBack k.promise.format.reads (k.encoding e.0) e.0
      (k.cost e.0)) (λ e s. k.back key_hold alloc e.0 s.0) es h.each in
      let values = all_as Both (λ (e : K × V). IsReadBack v.promise.format.reads
      (v.encoding e.1) e.1
      (v.cost e.1)) (λ e s. v.back value_hold alloc e.1 s.1) es h.each in
      let pairs = ReadsPair k.promise.format.reads v.promise.format.reads in
      let each = map_pairs_back k.promise.format.reads v.promise.format.reads k.encoding
      v.encoding k.cost
      v.cost es keys values in
      let read = sequence_read_back pairs (pair_encoding k.encoding v.encoding)
      (pair_cost k.cost v.cost) 5
      true es h.few each in
      map_read_back entries cmp (ReadsSequence 5 pairs true)
      (map_encoding k.encoding v.encoding es) m
      (1 + greatest_part_cost (pair_cost k.cost v.cost) es) (built_again cmp h.total es h.sorted)
      read

  pub map_is_one : Hold (both_facts k.facts v.facts) → (m : M) → StandsMap k v cmp (entries m)
      → IsOneItem canonical (map_encoding k.encoding v.encoding (entries m))
  map_is_one hold m h = search (rules, first_hold, others_hold, map_is_item, by_recursion, all_as)

  -- a map of keys to values
  abbrev pub map_codec : Codec M
  map_codec = record {
    promise = typed_map entries cmp k.promise v.promise;
    encoding = λ m. map_encoding k.encoding v.encoding (entries m);
    stands = λ m. StandsMap k v cmp (entries m);
    cost = λ m. 1 + greatest_part_cost (pair_cost k.cost v.cost) (entries m);
    facts = both_facts k.facts v.facts;
    back = map_is_back;
    one = map_is_one;
  }

-- ---- what is made of another value

pub made_back : {V W : Type 0} (reads : Reads V) (gives : V → W → Type 0) (encoding : Encoding)
    (v : V)
    (w : W) (cost : ℕ) → gives v w → IsReadBack reads encoding v cost
    → IsReadBack (ReadsMade reads gives) encoding w cost
made_back reads gives encoding v w cost made = search (rules, read_back_by)

-- a newtype and its like: `of` is the value that it holds
abbrev pub codec_of : {V W : Type 0} (of : W → V) (make : V → W) → ((w : W) → w ≡ make (of w))
    → Codec V → Codec W
codec_of of make whole c = record {
  promise = made_from (λ v w. w ≡ make v) c.promise;
  encoding = λ w. c.encoding (of w);
  stands = λ w. c.stands (of w);
  cost = λ w. c.cost (of w);
  facts = c.facts;
  back = λ hold alloc w h. made_back c.promise.format.reads (λ v w. w ≡ make v) (c.encoding (of w))
      (of w) w
      (c.cost (of w)) (whole w) (c.back hold alloc (of w) h);
  one = λ hold w. c.one hold (of w);
}
