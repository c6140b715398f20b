-- What a struct makes of its fields where some of them are missing.
use Rattle.std.specs.Prelude.{◌≡◌, ℕ, List, [], ◌∷◌, Option, None, Some, Result, Ok, Err, refl}
use denote.Ref.{Bor}
use Rattle.cbor4ii.specs.Made.{made_or_rejected}
use Rattle.cbor4ii.specs.Places.{Place, last_place, only_place, came_last, came_only}
use Rattle.cbor4ii.specs.FieldKey.{FieldKey}
use Rattle.cbor4ii.specs.Structs.{Fields, no_more, placed_field, fields_by, struct_of}
use Rattle.cbor4ii.specs.declared.serde.de.place.Single.{Single}
use Rattle.cbor4ii.specs.declared.serde.de.place.Single.TheVariants.{Absent, Present, Repeated}
use Rattle.cbor4ii.specs.Typed.{Promise}

-- what a call makes, or the words with which it rejects
abbrev pub made_or_words : {W : Type 0} → Result W (Bor (List ℕ)) → Result W (List ℕ)
made_or_words (Ok w) = Ok w
made_or_words (Err words) = Err words.now

-- the words of the first error, and likewise those of the others
abbrev pub words_of_first : List (Bor (List ℕ)) → List ℕ
words_of_first [] = []
words_of_first (words ∷ trailing) = words.now

abbrev pub words_of_others : List (Bor (List ℕ)) → List (Bor (List ℕ))
words_of_others [] = []
words_of_others (words ∷ trailing) = trailing

-- ---- one field

-- a field has to be there; where it is not, the struct is rejected in these words
abbrev pub or_words : {T : Type 0} → List ℕ → Option T → Result T (List ℕ)
or_words words None = Err words
or_words words (Some v) = Ok v

-- where a field is not there, this stands in its place
abbrev pub or_value : {T : Type 0} → T → Option T → Result T (List ℕ)
or_value other None = Ok other
or_value other (Some v) = Ok v

-- a field may be missing, and is none then
abbrev pub or_none : {T : Type 0} → Option T → Result (Option T) (List ℕ)
or_none o = Ok o

-- a field may come once; where it comes more than once, the struct is rejected in these words
abbrev pub once_or_words : {T A : Type 0} → List ℕ → (Option T → Result A (List ℕ)) → Single T
    → Result A (List ℕ)
once_or_words words value Absent = value None
once_or_words words value (Present v) = value (Some v)
once_or_words words value Repeated = Err words

-- ---- all fields

-- the values of both, or the first error
abbrev pub both_or_words : {T W : Type 0} → Result T (List ℕ) → Result W (List ℕ)
    → Result (T × W) (List ℕ)
both_or_words (Err words) others = Err words
both_or_words (Ok v) (Err words) = Err words
both_or_words (Ok v) (Ok others) = Ok (v, others)

-- the values that a struct has of these fields
abbrev pub made_struct : {V W : Type 0} → FieldKey → Fields V → (V → Result W (List ℕ))
    → Promise W
made_struct key fields value = made_or_rejected value (struct_of (λ v. v) key fields)

-- ---- a struct, field by field

-- the fields of a struct, what their keys are, and what becomes of their values
pub record Shape (V W : Type 0) : Type 1 where
  pub key : FieldKey
  pub fields : Fields V
  pub value : V → Result W (List ℕ)

-- no field, or the end of them, of keys of this kind
abbrev pub no_more_fields : FieldKey → Shape (Unit {0}) (Unit {0})
no_more_fields key = record { key = key; fields = no_more; value = λ v. Ok v }

-- a field of this name, whose values stand in this place and become this, and others after it
abbrev pub shaped_field : {T P A V W : Type 0} → Place T P → (P → Result A (List ℕ)) → List ℕ
    → Promise T → Shape V W → Shape (P × V) (A × W)
shaped_field place value name p others = record {
  key = others.key;
  fields = placed_field place name p others.fields;
  value = λ v. both_or_words (value v.0) (others.value v.1);
}

abbrev pub required_field : {T V W : Type 0} → List ℕ → List ℕ → Promise T → Shape V W
    → Shape (Option T × V) (T × W)
required_field name words = shaped_field last_place (or_words words) name

abbrev pub field_or_else : {T V W : Type 0} → List ℕ → T → Promise T → Shape V W
    → Shape (Option T × V) (T × W)
field_or_else name other = shaped_field last_place (or_value other) name

abbrev pub optional_field : {T V W : Type 0} → List ℕ → Promise T → Shape V W
    → Shape (Option T × V) (Option T × W)
optional_field name = shaped_field last_place or_none name

-- a field that may come once, and of which this becomes
abbrev pub single_field : {T A V W : Type 0} → List ℕ → List ℕ → (Option T → Result A (List ℕ))
    → Promise T → Shape V W → Shape (Single T × V) (A × W)
single_field name words value = shaped_field only_place (once_or_words words value) name

-- the values that a struct of this shape has
abbrev pub struct_from : {V W : Type 0} → Shape V W → Promise W
struct_from shape = made_struct shape.key shape.fields shape.value

-- ---- alike

-- both are made, or rejected in the same words
abbrev pub SameFate : {W : Type 0} → Result W (List ℕ) → Result W (List ℕ) → Type 0
SameFate (Ok v) (Ok w) = Unit {0}
SameFate (Ok v) (Err words) = ⊥
SameFate (Err words) (Ok w) = ⊥
SameFate (Err words) (Err others) = words ≡ others

pub words_fate : {T : Type 0} (words : List ℕ) (o p : Option T) → came_last o ≡ came_last p
    → SameFate (or_words words o) (or_words words p)
words_fate words None None e = refl
words_fate words (Some v) (Some w) e = tt
words_fate words _ _ e = cc

pub value_fate : {T : Type 0} (other : T) (o p : Option T) → came_last o ≡ came_last p
    → SameFate (or_value other o) (or_value other p)
value_fate other None None e = tt
value_fate other None (Some w) e = tt
value_fate other (Some v) None e = tt
value_fate other (Some v) (Some w) e = tt

pub once_fate : {T A : Type 0} (words : List ℕ) (value : Option T → Result A (List ℕ))
    → ((o p : Option T) → came_last o ≡ came_last p → SameFate (value o) (value p))
    → (o p : Single T) → came_only o ≡ came_only p
    → SameFate (once_or_words words value o) (once_or_words words value p)
once_fate words value one Absent Absent e = one None None refl
once_fate words value one (Present v) (Present w) e = one (Some v) (Some w) refl
once_fate words value one Repeated Repeated e = refl
once_fate words value one _ _ e = cc

pub paired_fate : {T W : Type 0} (a b : Result T (List ℕ)) (c d : Result W (List ℕ))
    → SameFate a b → SameFate c d → SameFate (both_or_words a c) (both_or_words b d)
paired_fate (Err v) (Err w) c d s t = s
paired_fate (Ok v) (Ok w) (Err c) (Err d) s t = t
paired_fate (Ok v) (Ok w) (Err c) (Ok d) s t = absurd t
paired_fate (Ok v) (Ok w) (Ok c) (Err d) s t = absurd t
paired_fate (Ok v) (Ok w) (Ok c) (Ok d) s t = tt
paired_fate _ _ c d s t = absurd s

pub pair_fate : {T P A V W : Type 0} (place : Place T P) (p : Promise T)
    (others : List (Bor (List ℕ)) → Fields V) (value : P → Result A (List ℕ))
    (values : V → Result W (List ℕ))
    → ((o q : P) → place.came o ≡ place.came q → SameFate (value o) (value q))
    → ((names : List (Bor (List ℕ))) (v w : V) → (others names).same v w
    → SameFate (values v) (values w))
    → (names : List (Bor (List ℕ))) (v w : P × V) → (fields_by place p others names).same v w
    → SameFate (both_or_words (value v.0) (values v.1)) (both_or_words (value w.0) (values w.1))
pair_fate place p others value values one rest [] v w s =
    paired_fate (value v.0) (value w.0) (values v.1) (values w.1)
    (one v.0 w.0 (place.same_came p.format.same v.0 w.0 s.0)) (rest [] v.1 w.1 s.1)
pair_fate place p others value values one rest (own ∷ names) v w s =
    paired_fate (value v.0) (value w.0) (values v.1) (values w.1)
    (one v.0 w.0 (place.same_came p.format.same v.0 w.0 s.0)) (rest names v.1 w.1 s.1)
