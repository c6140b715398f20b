-- That a type is written and read as its codec says, and what of it is known where the type is a
-- type parameter.
use Rattle.std.proofs.Common.{◌≡◌, ◌∙◌, ℕ, List, [], ◌∷◌, drop, None, Some, Bool}
use Rattle.std.proofs.Common.{true, false, inl, inr, refl, ap, rules}
use Rattle.std.proofs.Math.Path.{fun_ext}
use Rattle.std.specs.Prelude.{◌&&◌, IsTrue}
use Rattle.std.specs.declared.alloc.Global.{Global}
use Rattle.std.specs.declared.cmp.Ordering.{Ordering}
use Rattle.cbor4ii_items.specs.Containers.{ReadsOption}
use Rattle.cbor4ii_items.specs.Decoding.{Reads}
use Rattle.cbor4ii_items.specs.Sequences.{ReadsElements, Unbroken, ReadsInside, ReadsSequence}
use Rattle.cbor4ii_items.specs.Sequences.{ReadsPair}
use Rattle.cbor4ii_ser.specs.Item.{Encoding, option_encoding, array_encoding}
use Rattle.cbor4ii_ser.specs.Item.{map_encoding, tuple_encoding}
use Rattle.cbor4ii_ser.specs.OneItem.{IsOneItem, canonical}
use Rattle.cbor4ii.specs.Codec.{Codec, no_facts, fact_before, Hold, both_hold}
use Rattle.cbor4ii.specs.Codec.{option_codec, box_codec, vector_codec, map_codec, pair_codec}
use Rattle.cbor4ii.specs.Codec.{triple_codec}
use Rattle.cbor4ii.specs.Laws.Backs.{read_back_by}
use Rattle.cbor4ii.specs.ReadBack.{IsReadBack}
use Rattle.cbor4ii.specs.Stepped.{Stepped}
use Rattle.cbor4ii.specs.Tuples.{ReadsAfter, ReadsTriple}
use Rattle.cbor4ii.specs.Typed.{Promise, not_exact}
use Rattle.cbor4ii.specs.TypedParts.{typed_option, typed_vector, typed_box, typed_pair}
use Rattle.cbor4ii.specs.TypedParts.{typed_triple, typed_map}

-- what the first reads, the second reads too, of as many bytes and at the same cost
abbrev pub AlsoReads : {V : Type 0} → Reads V → Reads V → Type 0
AlsoReads {V} first second =
    (xs : List ℕ) (v : V) (n c : ℕ) → first xs v n c → second xs v n c

-- A type that promises so, and is encoded so, is written and read as this codec says.
pub record AgreesWith {T : Type 0} (promise : Promise T) (encoding : T → Encoding) (c : Codec T)
    : Type 0 where
  -- what the codec stands on holds
  pub facts : Hold c.facts
  -- what is written is the codec's item
  pub written : (v : T) → encoding v ≡ c.encoding v
  -- what is read is what the codec reads
  pub read : AlsoReads promise.format.reads c.promise.format.reads
  pub reads : AlsoReads c.promise.format.reads promise.format.reads
  -- what is accepted is exact where the codec says so
  pub exact : promise.exact ≡ c.promise.exact
  -- and it is
  pub is : IsTrue promise.exact

-- a type whose promise and whose encoding are its codec's, where that stands on facts that hold
abbrev pub as_described : {T : Type 0} {c : Codec T} → Hold c.facts → IsTrue c.promise.exact
    → AgreesWith c.promise c.encoding c
as_described hold is = record {
  facts = hold;
  written = λ v. refl;
  read = λ xs v n k h. h;
  reads = λ xs v n k h. h;
  exact = refl;
  is = is;
}

-- ---- it is read back, and one item

module _ {T : Type 0} (promise : Promise T) (encoding : T → Encoding) (c : Codec T)
    (agrees : AgreesWith promise encoding c) where
  pub agreed_back : (alloc : Global) (v : T) → c.stands v
      → IsReadBack promise.format.reads (encoding v) v (c.cost v)
  agreed_back alloc v stands = search (rules, read_back_by, alloc)

  pub agreed_one : (v : T) → c.stands v → IsOneItem canonical (encoding v)
  agreed_one v stands = search rules

-- It is written and read as the type's own code writes and reads, and stands on that this is as the
-- type's codec says.
-- The codec of a type parameter.
abbrev pub its_codec : {T : Type 0} → Promise T → (T → Encoding) → Codec T → Codec T
its_codec promise encoding c = record {
  promise = promise;
  encoding = encoding;
  stands = c.stands;
  cost = c.cost;
  facts = fact_before (AgreesWith promise encoding c) no_facts;
  back = λ hold. agreed_back promise encoding c hold.0;
  one = λ hold. agreed_one promise encoding c hold.0;
}

-- ---- containers

module _ {T : Type 0} {first second : Reads T} (also : AlsoReads first second) where
  option_also : AlsoReads (ReadsOption (Stepped first)) (ReadsOption (Stepped second))
  option_also xs None n c r = r
  option_also xs (Some v) n c r = (r.0, r.1, (r.2.0, also xs v n r.2.0 r.2.1, r.2.2))

  pub elements_also : AlsoReads (ReadsElements first) (ReadsElements second)
  elements_also xs [] n c r = r
  elements_also xs (p ∷ ps) n c r = search (rules, (elements_also (drop r.0 xs) ps r.2 r.3 r.5))

  pub unbroken_also : AlsoReads (Unbroken first) (Unbroken second)
  unbroken_also xs v n c r = (r.0, also xs v n c r.1)

module _ {T : Type 0} {first second : Reads T} (also : AlsoReads first second) where
  inside_also : (major : ℕ) → AlsoReads (ReadsInside major first true)
      (ReadsInside major second true)
  inside_also major xs ps n c (inl r) = search (rules, inl, elements_also)
  inside_also major xs ps n c (inr r) = search (rules, inr, elements_also, unbroken_also)

  pub sequence_also : (major : ℕ) → AlsoReads (ReadsSequence major first true)
      (ReadsSequence major second true)
  sequence_also major xs ps n c r = (r.0, inside_also major xs ps n r.0 r.1, r.2)

  after_also : (count : ℕ) → AlsoReads (Stepped (ReadsAfter count first))
      (Stepped (ReadsAfter count second))
  after_also count xs v n c r = search rules

pub pair_also : {A B : Type 0} {a a' : Reads A} {b b' : Reads B} → AlsoReads a a' → AlsoReads b b'
    → AlsoReads (ReadsPair a b) (ReadsPair a' b')
pair_also left right xs p n c r = search rules

triple_also : {A B C : Type 0} {a a' : Reads A} {b b' : Reads B} {c c' : Reads C} → AlsoReads a a'
    → AlsoReads b b' → AlsoReads c c' → AlsoReads (ReadsTriple a b c) (ReadsTriple a' b' c')
triple_also left middle right xs t =
    pair_also left (pair_also middle right) xs (t.0, (t.1, t.2))

both_exact : {a b c d : Bool} → a ≡ c → b ≡ d → (a && b) ≡ (c && d)
both_exact {a = a} {d = d} p q = ap (λ y. a && y) q ∙ ap (λ x. x && d) p

pub both_are : {a b : Bool} → IsTrue a → IsTrue b → IsTrue (a && b)
both_are {a = true} {b = true} p q = refl
both_are {a = false} p q = not_exact p
both_are {a = true} {b = false} p q = not_exact q

module _ {T : Type 0} {promise : Promise T} {encoding : T → Encoding} {c : Codec T}
    (agrees : AgreesWith promise encoding c) where
  same_encoding : encoding ≡ c.encoding
  same_encoding = fun_ext agrees.written

  pub option_agrees : AgreesWith (typed_option promise) (option_encoding encoding) (option_codec c)
  option_agrees = search (rules, same_encoding, option_also)

  pub box_agrees : AgreesWith (typed_box promise) (λ b. encoding b.value) (box_codec c)
  box_agrees = search rules

  pub vector_agrees : AgreesWith (typed_vector promise) (λ v. array_encoding encoding v.items)
      (vector_codec c)
  vector_agrees = record {
    facts = agrees.facts;
    written = λ v. ap (λ (e : T → Encoding). array_encoding e v.items) same_encoding;
    read = λ xs v. sequence_also agrees.read 4 xs v.items;
    reads = λ xs v. sequence_also agrees.reads 4 xs v.items;
    exact = agrees.exact;
    is = agrees.is;
  }

module _ {A B : Type 0} {first : Promise A} {second : Promise B} {one : A → Encoding}
    {two : B → Encoding} {a : Codec A} {b : Codec B} (left : AgreesWith first one a)
    (right : AgreesWith second two b) where
  pub pair_agrees : AgreesWith (typed_pair first second)
      (λ p. tuple_encoding (one p.0 ∷ two p.1 ∷ [])) (pair_codec a b)
  pair_agrees = search (rules, both_hold, after_also, pair_also, both_exact, both_are)

  -- a map agrees with its codec, where its keys and its values agree with theirs
  pub map_agrees : {M : Type 0} (entries : M → List (A × B)) (cmp : A → A → Ordering)
      → AgreesWith (typed_map entries cmp first second) (λ m. map_encoding one two (entries m))
      (map_codec entries cmp a b)
  map_agrees entries cmp = record {
    facts = both_hold a.facts b.facts left.facts right.facts;
    written = λ m. ap (λ (e : A → Encoding). map_encoding e two (entries m))
        (same_encoding left)
        ∙ ap (λ (e : B → Encoding). map_encoding a.encoding e (entries m)) (same_encoding right);
    read = λ xs m n k r.
        (r.0, sequence_also (pair_also left.read right.read) 5 xs r.0 n k r.1, r.2);
    reads = λ xs m n k r.
        (r.0, sequence_also (pair_also left.reads right.reads) 5 xs r.0 n k r.1, r.2);
    exact = both_exact left.exact right.exact;
    is = both_are left.is right.is;
  }

module _ {A B C : Type 0} {first : Promise A} {second : Promise B} {third : Promise C}
    {one : A → Encoding} {two : B → Encoding} {three : C → Encoding} {a : Codec A} {b : Codec B}
    {c : Codec C} (left : AgreesWith first one a) (middle : AgreesWith second two b)
    (right : AgreesWith third three c) where
  pub triple_agrees : AgreesWith (typed_triple first second third)
      (λ p. tuple_encoding (one p.0 ∷ two p.1 ∷ three p.2 ∷ [])) (triple_codec a b c)
  triple_agrees = search (rules, both_hold, after_also, triple_also, both_exact, both_are)
