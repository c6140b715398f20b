-- Structs that are read from their named fields: maps from names to values, in any order.
use Rattle.std.proofs.Common.{◌≡◌, ◌≢◌, ◌⊎◌, inl, inr, ℕ, ◌≤◌, List, [], ◌∷◌, length, drop, Option}
use Rattle.std.proofs.Common.{Bool, true, false, Result, Ok, Err, sym, subst}
use Rattle.cbor4ii_rw.specs.View.{View}
use Rattle.std.specs.Prelude.{codes}
use Rattle.cbor4ii_rw.specs.declared.error.DecodeError.{DecodeError}
use Rattle.cbor4ii_items.specs.Decoding.{Reads, RejectsAt, Format, Decodes, DecodesIf}
use Rattle.cbor4ii_items.specs.Budget.{CostFits}
use Rattle.cbor4ii.specs.Beginning.{RejectsParts}
use Rattle.cbor4ii.specs.FieldKey.{FieldKey}
use Rattle.cbor4ii_items.specs.Sequences.{ReadsSequence, ReadsPair, SamePair, SameElements}
use Rattle.cbor4ii_items.specs.InputError.{InputError}
use Rattle.cbor4ii_items.specs.Laws.Sequences.{sequence_one, sequence_within, sequence_positive}
use Rattle.cbor4ii_tree.specs.Calls.Ignored.{ReadsTree}
use Rattle.cbor4ii_tree.specs.Calls.SkippingRejects.{SkippingRejects}
use Rattle.cbor4ii_tree.specs.Laws.Ignoring.{tree_one, tree_within}
use Rattle.cbor4ii.specs.Places.{Place}
use Rattle.cbor4ii.specs.Sequence.{five_small}
use Rattle.cbor4ii.specs.Tuples.{pair_laws}
use Rattle.cbor4ii.specs.Typed.{IsLawfulReading, Promise, Deserializes, not_exact, format_of}

-- what follows a name, read as what becomes of a struct's values
abbrev pub ReadsNamed : Type 0 → Type 1
ReadsNamed V = List ℕ → Reads (V → V)

-- no field has the name: an item of which nothing is kept, and the values stay
abbrev pub no_field : {V : Type 0} → ReadsNamed V
no_field {V} name xs change n c = ReadsTree xs n c × (change ≡ λ (values : V). values)

-- the values of no field
abbrev pub no_values : Unit {0}
no_values = tt

-- After its name a value is read and put in its place; after another name it stays, and one of the
-- others is read.
-- A field of this name stands before others.
abbrev pub named_field : {T P V : Type 0} → (T → P → P) → List ℕ → Reads T → ReadsNamed V
    → ReadsNamed (P × V)
named_field {T} {P} {V} put own reads others name xs change n c =
    ((name ≡ own) × (v : T) × reads xs v n c
    × (change ≡ λ (values : P × V). (put v values.0, values.1)))
    ⊎ ((name ≢ own) × (below : V → V) × others name xs below n c
    × (change ≡ λ (values : P × V). (values.0, below values.1)))

-- a key, and what follows it, by its label
abbrev pub ReadsByKey : {W : Type 0} → FieldKey → (List ℕ → Reads W) → Reads W
ReadsByKey key named xs w n c =
    (label : List ℕ) × ReadsPair key.reads (named label) xs (label, w) n c

-- what becomes of the values by changes, one after another
abbrev pub after_changes : {V : Type 0} → V → List (V → V) → V
after_changes values [] = values
after_changes values (change ∷ changes) = after_changes (change values) changes

-- a map of pairs, from the values that are there before any of them
abbrev pub ReadsFields : {V : Type 0} → FieldKey → V → ReadsNamed V → Reads V
ReadsFields {V} key first named xs values n c =
    (changes : List (V → V)) × ReadsSequence 5 (ReadsByKey key named) true xs changes n c
    × (values ≡ after_changes first changes)

-- how what follows a name is rejected
abbrev pub RejectsNamed : Type 1
RejectsNamed = List ℕ → RejectsAt

-- no field has the name: what follows it is rejected as an item that is skipped
abbrev pub no_field_rejects : RejectsNamed
no_field_rejects name = SkippingRejects

-- what follows the field's name is rejected as the field, and else as one of the others
abbrev pub field_rejects : List ℕ → RejectsAt → RejectsNamed → RejectsNamed
field_rejects own rejects others name xs budget err rest =
    ((name ≡ own) × rejects xs budget err rest)
    ⊎ ((name ≢ own) × others name xs budget err rest)

-- a key is whole, and what follows it is rejected
pub record RejectsAfterLabel (key : FieldKey) (rejects : RejectsNamed) (xs : List ℕ)
    (budget : Option ℕ) (err : InputError) (rest : List ℕ) : Type 0 where
  pub label : List ℕ
  pub size : ℕ
  pub cost : ℕ
  pub whole : key.reads xs label size cost
  pub fits : CostFits cost budget
  pub stop : rejects label (drop size xs) budget err rest

-- a pair's error: that of its key, or that of what follows it
abbrev pub RejectsByKey : FieldKey → RejectsNamed → RejectsAt
RejectsByKey key rejects xs budget err rest =
    key.rejects xs budget err rest ⊎ RejectsAfterLabel key rejects xs budget err rest

-- a map of fields is rejected: no step is left, the head is rejected, or after some whole pairs no
-- byte is left or a pair is rejected
abbrev pub RejectsFields : {V : Type 0} → FieldKey → ReadsNamed V → RejectsNamed → RejectsAt
RejectsFields key named rejects =
    RejectsParts (codes "map") (codes "map") 5 (ReadsByKey key named) (RejectsByKey key rejects)

-- ---- what calls make of the values

-- the values after a change
abbrev pub one_change : {V : Type 0} → (V → V) → V → V
one_change change values = change values

-- the values after changes, one after another
abbrev pub all_changes : {V : Type 0} → List (V → V) → V → V
all_changes changes values = after_changes values changes

-- it was read what becomes of the values, and that was made of them
pub record Altered {W V : Type 0} (E : Type 0) (makes : W → V → V) (s : Format W)
    (before after : V) (old new : View) : Type 0 where
  pub what : W
  pub read : Decodes {E = E} s old new (Ok what)
  pub is : after ≡ makes what before

-- it was read what becomes of the values, and that was made of them; or it was rejected
abbrev pub Alters : {W V U E : Type 0} → (W → V → V) → Bool → Format W → V → V → View → View
    → Result U (DecodeError E) → Type 0
Alters {E = E} makes exact s before after old new (Ok u) = Altered E makes s before after old new
Alters makes exact s before after old new (Err e) = DecodesIf exact s old new (Err e)

-- a value was read and put where the field's value stands, or it was rejected
abbrev pub Puts : {T P U E : Type 0} → Place T P → Promise T → P → P → View → View
    → Result U (DecodeError E) → Type 0
Puts {E = E} place p before after old new (Ok u) =
    (v : _) × (after ≡ place.put v before) × Deserializes {E = E} p old new (Ok v)
Puts place p before after old new (Err e) = Deserializes p old new (Err e)

-- ---- laws

-- of values that mean the same both changes make values that do
abbrev pub SameChange : {V : Type 0} → (V → V → Type 0) → (V → V) → (V → V) → Type 0
SameChange {V} same g h = (v w : V) → same v w → same (g v) (h w)

-- what is read after each name is one change
abbrev pub NamedLaws : {V : Type 0} → (V → V → Type 0) → ReadsNamed V → Type 0
NamedLaws same named = (name : List ℕ) → IsLawfulReading (named name) (SameChange same) false

-- where neither is changed, they mean the same as before
unchanged : {V : Type 0} (same : V → V → Type 0) (g h : V → V) → g ≡ (λ (values : V). values)
    → h ≡ (λ (values : V). values) → SameChange same g h
unchanged {V} same g h e f v w s =
    subst (λ (k : V → V). same (k v) (h w)) (sym e) (subst (λ (k : V → V). same v (k w)) (sym f) s)

pub no_field_laws : {V : Type 0} (same : V → V → Type 0) → NamedLaws same (no_field {V = V})
no_field_laws same name = record {
  one = λ xs g h n m c d p q.
      (let e = tree_one xs n m c d p.0 q.0 in (e.0, e.1, unchanged same g h p.1 q.1));
  within = λ xs g n c p. tree_within xs n c p.0;
  positive = λ e xs g n c p. not_exact e;
  alone = not_exact;
}

module _ {T P V : Type 0} (place : Place T P) (own : List ℕ) {reads : Reads T}
    {alike : T → T → Type 0} {never_empty : Bool} (others : ReadsNamed V)
    {same_others : V → V → Type 0} (laws : IsLawfulReading reads alike never_empty)
    (trailing : NamedLaws same_others others) where
  abbrev Same : P × V → P × V → Type 0
  Same = SamePair (place.same alike) same_others

  abbrev NamedField : ReadsNamed (P × V)
  NamedField = named_field place.put own reads others

  field_one : (name xs : List ℕ) (g h : P × V → P × V) (n m c d : ℕ)
      → NamedField name xs g n c → NamedField name xs h m d → (n ≡ m) ×
      (c ≡ d) × SameChange Same g h
  field_one name xs g h n m c d (inl p) (inl q) =
      let e = laws.one xs p.1 q.1 n m c d p.2 q.2 in (
        e.0,
        e.1,
        λ v w s. subst (λ (k : P × V → P × V). Same (k v) (h w)) (sym p.3)
            (subst (λ (k : P × V → P × V). Same (place.put p.1 v.0, v.1) (k w)) (sym q.3)
            (place.put_same alike p.1 q.1 v.0 w.0 e.2 s.0, s.1)),
      )
  field_one name xs g h n m c d (inl p) (inr q) = absurd (q.0 p.0)
  field_one name xs g h n m c d (inr p) (inl q) = absurd (p.0 q.0)
  field_one name xs g h n m c d (inr p) (inr q) =
      let e = (trailing name).one xs p.1 q.1 n m c d p.2 q.2 in (
        e.0,
        e.1,
        λ v w s. subst (λ (k : P × V → P × V). Same (k v) (h w)) (sym p.3)
            (subst (λ (k : P × V → P × V). Same (v.0, p.1 v.1) (k w)) (sym q.3)
            (s.0, e.2 v.1 w.1 s.1)),
      )

  field_within : (name xs : List ℕ) (g : P × V → P × V) (n c : ℕ) → NamedField name xs g n c
      → n ≤ length xs
  field_within name xs g n c (inl p) = laws.within xs p.1 n c p.2
  field_within name xs g n c (inr p) = (trailing name).within xs p.1 n c p.2

  pub field_laws : NamedLaws Same NamedField
  field_laws name = record {
    one = field_one name;
    within = field_within name;
    positive = λ e xs g n c p. not_exact e;
    alone = not_exact;
  }

-- what follows a name, and may take no byte
abbrev pub named_part : {W : Type 0} → (List ℕ → Reads W) → (rejects begins : RejectsNamed)
    → (W → W → Type 0) → (owned : Bool) → List ℕ → Format W
named_part named rejects begins same owned name = record {
  reads = named name;
  same = same;
  rejects = rejects name;
  begins = begins name;
  never_empty = false;
  owned = owned;
  takes_memory = true;
  closed = false;
}

-- a key, and what follows it
abbrev pub keyed_pair : {W : Type 0} → FieldKey → (List ℕ → Reads W)
    → (rejects begins : RejectsNamed) → (W → W → Type 0) → (owned : Bool) → Format W
keyed_pair key named rejects begins same owned =
    format_of (ReadsByKey key named) same (RejectsByKey key rejects) (RejectsByKey key begins)
    owned true

pub keyed_pair_laws : {W : Type 0} (key : FieldKey) (same : W → W → Type 0)
    (named : List ℕ → Reads W)
    → ((label : List ℕ) → IsLawfulReading (named label) same false)
    → IsLawfulReading (ReadsByKey key named) same true
keyed_pair_laws key same named laws =
    let pair : (label : List ℕ) → IsLawfulReading (ReadsPair key.reads (named label))
    (SamePair (λ (k l : List ℕ). k ≡ l) same) true = λ label. pair_laws key.reads (named label)
    (λ (k l : List ℕ). k ≡ l) same true false key.laws (laws label) in
    record {
      one = λ xs g h n m c d p q. (
          let is = (key.laws.one xs p.0 q.0 p.1.key_size q.1.key_size p.1.key_cost q.1.key_cost
          p.1.key q.1.key).2 in
          let e = (pair q.0).one xs (p.0, g) (q.0, h) n m c d
          (subst (λ label. ReadsPair key.reads (named label) xs (p.0, g) n c) is p.1) q.1 in
          (e.0, e.1, e.2.1));
      within = λ xs g n c p. (pair p.0).within xs (p.0, g) n c p.1;
      positive = λ e xs g n c p. (pair p.0).positive e xs (p.0, g) n c p.1;
      alone = not_exact;
    }

-- the same changes of the same values make the same values
pub changed_same : {V : Type 0} (same : V → V → Type 0) (v w : V) (gs hs : List (V → V)) → same v w
    → SameElements (SameChange same) gs hs → same (after_changes v gs) (after_changes w hs)
changed_same same v w [] [] s p = s
changed_same same v w (g ∷ gs) (h ∷ hs) s p = changed_same same (g v) (h w) gs hs (p.0 v w s) p.1
changed_same same v w _ _ s p = absurd p

-- A struct that is made of the values may be exact by it.
-- One input is read as a map of fields in one way, as values that mean the same.
pub fields_laws : {V : Type 0} (key : FieldKey) (same : V → V → Type 0) (first : V)
    (named : ReadsNamed V) → same first first → NamedLaws same named
    → IsLawfulReading (ReadsFields key first named) same true
fields_laws {V} key same first named is laws =
    let entry = keyed_pair_laws key (SameChange same) named laws in
    record {
      one = λ xs v w n m c d p q. (
          let e = sequence_one 5 five_small (ReadsByKey key named) true (SameChange same) entry.one
          xs
          p.0 q.0 n m c d p.1 q.1 in (
            e.0,
            e.1,
            subst (λ (z : V). same z w) (sym p.2)
                (subst (λ (z : V). same (after_changes first p.0) z) (sym q.2)
                (changed_same same first first p.0 q.0 is e.2)),
          ));
      within = λ xs v n c p.
          sequence_within 5 five_small (ReadsByKey key named) true entry.within xs p.0 n c p.1;
      positive =
          λ e xs v n c p. sequence_positive 5 five_small (ReadsByKey key named) true xs p.0 n c p.1;
      alone = not_exact;
    }
