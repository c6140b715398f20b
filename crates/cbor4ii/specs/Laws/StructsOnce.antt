-- A struct and what is made of a value are rejected with one error where their parts are.
use Rattle.std.proofs.Common.{◌≡◌, ℕ, inl, inr, List, [], ◌∷◌, drop}
use Rattle.std.proofs.Common.{Result, Ok, Err, IsTrue, sym, ap, ◌∙◌, subst}
use Rattle.std.proofs.Common.{rules}
use Rattle.std.specs.Prelude.{codes}
use denote.Ref.{Bor}
use Rattle.cbor4ii_items.specs.Budget.{CostFits}
use Rattle.cbor4ii_items.specs.Decoding.{Reads, Format, IsLawful}
use Rattle.cbor4ii_items.specs.NeverBoth.{NeverBoth}
use Rattle.cbor4ii_items.specs.OneError.{OneError, RejectsOnce}
use Rattle.cbor4ii_items.specs.Sequences.{in_list}
use Rattle.cbor4ii_items.specs.Laws.NumbersOnce.{once_by}
use Rattle.cbor4ii_items.specs.Laws.SequencesApart.{fits_less}
use Rattle.cbor4ii_tree.specs.Basis.Cost.{Budget}
use Rattle.cbor4ii_tree.specs.Basis.Encodings.{Skips, AtMostOne}
use Rattle.cbor4ii_tree.specs.Calls.SkippingRejects.{SkippingRejects}
use Rattle.cbor4ii.specs.FieldKey.{FieldKey}
use Rattle.cbor4ii.specs.Fields.{RejectsNamed, ReadsByKey, RejectsByKey}
use Rattle.cbor4ii.specs.Made.{RejectsMade, ReadsMade, gives_ok, made_or_rejected}
use Rattle.cbor4ii.specs.Made.{made_from}
use Rattle.cbor4ii.specs.Once.{SkippedOnce, FieldsOnce}
use Rattle.cbor4ii.specs.Places.{Place}
use Rattle.cbor4ii.specs.Presence.{SameFate, made_struct}
use Rattle.cbor4ii.specs.Sequence.{five_small}
use Rattle.cbor4ii.specs.Structs.{Fields, no_more, placed_field, unnamed_field, fields_by}
use Rattle.cbor4ii.specs.Structs.{field_pair, field_pair_lawful, fields_format, struct_of}
use Rattle.cbor4ii.specs.Typed.{Promise, in_words}
use Rattle.cbor4ii.specs.Laws.TypedOnce.{sequence_of_once}

-- ---- an item that is skipped

pub skipped_once : ((input : List ℕ) (budget : Budget)
    → AtMostOne (Skips input budget) (SkippingRejects input budget)) → SkippedOnce
skipped_once one = record {
  apart = λ xs budget e x r n c p fits. (one xs budget).not_both p.of_tree (drop n xs) e x (record {
    loose = p.loose;
    fits = subst (λ k. CostFits k budget) p.cost fits;
    begins = p.begins;
  }) r;
  one_error = λ xs budget e f x y. (one xs budget).one_rejected e f x y;
}

-- ---- what is made of a value, or rejected in words

-- where a value is made, no words reject another that means the same
made_or_not : {W A : Type 0} (r s : Result W (List ℕ)) (w : W) (words : List ℕ) → SameFate r s
    → r ≡ Ok w → s ≡ Err words → A
made_or_not (Ok v) (Err u) w words same e f = absurd same
made_or_not _ _ w words same e f = cc

same_words : {W : Type 0} (r s : Result W (List ℕ)) (u v : List ℕ) → SameFate r s
    → r ≡ Err u → s ≡ Err v → u ≡ v
same_words (Err a) (Err b) u v same e f = search rules
same_words _ _ u v same e f = cc

module _ {V W : Type 0} (s : Format V) (lawful : IsLawful s) (once : RejectsOnce s)
    (value : V → Result W (List ℕ))
    (fate : (v w : V) → s.same v w → SameFate (value v) (value w)) where
  made_apart : NeverBoth (ReadsMade s.reads (gives_ok value)) (RejectsMade s.rejects s.reads value)
  made_apart xs budget e x (inl r) w n c p fits =
      once.apart xs budget e x r p.part n c p.read fits
  made_apart xs budget e x (inr r) w n c p fits =
      let same = (lawful.one xs p.part r.part n r.count c r.cost p.read r.read).2 in
      made_or_not (value p.part) (value r.part) w r.words (fate p.part r.part same) p.made r.unmade

  made_error : OneError (RejectsMade s.rejects s.reads value)
  made_error xs budget e f x y (inl r) (inl t) = once.one_error xs budget e f x y r t
  made_error xs budget e f x y (inl r) (inr t) =
      absurd (once.apart xs budget e x r t.part t.count t.cost t.read t.fits)
  made_error xs budget e f x y (inr r) (inl t) =
      absurd (once.apart xs budget f y t r.part r.count r.cost r.read r.fits)
  made_error xs budget e f x y (inr r) (inr t) =
      let same = lawful.one xs r.part t.part r.count t.count r.cost t.cost r.read t.read in (
        r.is ∙ (ap (λ z. in_words z) (same_words (value r.part) (value t.part) r.words t.words
            (fate r.part t.part same.2) r.unmade t.unmade) ∙ sym t.is),
        r.left ∙ (ap (λ k. drop k xs) same.0 ∙ sym t.left),
      )

pub made_or_rejected_once : {V W : Type 0} (p : Promise V) (value : V → Result W (List ℕ))
    → IsTrue p.exact → RejectsOnce p.format
    → ((v w : V) → p.format.same v w → SameFate (value v) (value w))
    → RejectsOnce (made_or_rejected value p).format
made_or_rejected_once p value is once fate = record {
  apart = made_apart p.format (p.lawful is) once value fate;
  one_error = made_error p.format (p.lawful is) once value fate;
}

-- a type whose values are made of those of another, and rejected as they are
pub made_from_once : {V W : Type 0} (gives : V → W → Type 0) (p : Promise V)
    → RejectsOnce p.format → RejectsOnce (made_from gives p).format
made_from_once gives p once = search rules

-- ---- a key, and what follows it

module _ {W : Type 0} (key : FieldKey) (named : List ℕ → Reads W) (rejects : RejectsNamed)
    (apart : (label : List ℕ) → NeverBoth (named label) (rejects label))
    (once : (label : List ℕ) → OneError (rejects label)) where
  pub pair_apart : NeverBoth (ReadsByKey key named) (RejectsByKey key rejects)
  pair_apart xs budget e x (inl s) w n c p fits = search (rules, fits_less)
  pair_apart xs budget e x (inr s) w n c p fits = search (rules, fits_less)

  pub pair_error : OneError (RejectsByKey key rejects)
  pair_error xs budget e f x y (inl s) (inl t) = key.one_error xs budget e f x y s t
  pair_error xs budget e f x y (inl s) (inr t) =
      absurd (key.apart xs budget e x s t.label t.size t.cost t.whole t.fits)
  pair_error xs budget e f x y (inr s) (inl t) =
      absurd (key.apart xs budget f y t s.label s.size s.cost s.whole s.fits)
  pair_error xs budget e f x y (inr s) (inr t) = search rules

-- ---- fields by their names

pub no_more_once : SkippedOnce → FieldsOnce no_more
no_more_once skipped = record {
  apart = λ name xs budget e x r change n c p. skipped.apart xs budget e x r n c p.0;
  one_error = λ name. skipped.one_error;
}

module _ {T P V : Type 0} (place : Place T P) (own : List ℕ) (p : Promise T) (others : Fields V)
    (part : RejectsOnce p.format) (rest : FieldsOnce others) where
  field_apart : (name : List ℕ) → NeverBoth ((placed_field place own p others).named name)
      ((placed_field place own p others).rejects name)
  field_apart name xs budget e x (inl s) g n c (inl q) fits =
      part.apart xs budget e x s.1 q.1 n c q.2 fits
  field_apart name xs budget e x (inl s) g n c (inr q) fits = absurd (q.0 s.0)
  field_apart name xs budget e x (inr s) g n c (inl q) fits = absurd (s.0 q.0)
  field_apart name xs budget e x (inr s) g n c (inr q) fits =
      rest.apart name xs budget e x s.1 q.1 n c q.2 fits

  field_error : (name : List ℕ) → OneError ((placed_field place own p others).rejects name)
  field_error name xs budget e f x y (inl s) (inl t) = part.one_error xs budget e f x y s.1 t.1
  field_error name xs budget e f x y (inl s) (inr t) = absurd (t.0 s.0)
  field_error name xs budget e f x y (inr s) (inl t) = absurd (s.0 t.0)
  field_error name xs budget e f x y (inr s) (inr t) =
      rest.one_error name xs budget e f x y s.1 t.1

  placed_once : FieldsOnce (placed_field place own p others)
  placed_once = record { apart = field_apart; one_error = field_error }

-- where no name is left, all that follows a name is skipped
pub unnamed_once : {T P V : Type 0} (place : Place T P) (p : Promise T) (others : Fields V)
    → SkippedOnce → FieldsOnce (unnamed_field place p others)
unnamed_once place p others skipped = record {
  apart = λ name xs budget e x r change n c q. skipped.apart xs budget e x r n c q.0;
  one_error = λ name. skipped.one_error;
}

pub fields_by_once : {T P V : Type 0} (place : Place T P) (p : Promise T)
    (others : List (Bor (List ℕ)) → Fields V) → SkippedOnce → RejectsOnce p.format
    → ((names : List (Bor (List ℕ))) → FieldsOnce (others names))
    → (names : List (Bor (List ℕ))) → FieldsOnce (fields_by place p others names)
fields_by_once place p others skipped part rest [] =
    unnamed_once place p (others []) skipped
fields_by_once place p others skipped part rest (own ∷ trailing) =
    placed_once place own.now p (others trailing) part (rest trailing)

-- ---- structs

module _ {V : Type 0} (key : FieldKey) (fields : Fields V) (is : IsTrue fields.exact)
    (once : FieldsOnce fields) where
  field_pair_once : RejectsOnce (field_pair key fields)
  field_pair_once = search (rules, pair_apart, pair_error)

  pub fields_once : RejectsOnce (fields_format key fields)
  fields_once =
      let pairs = sequence_of_once in_list (codes "map") (codes "map") 5 five_small
      (field_pair key fields) (field_pair_lawful key fields is) field_pair_once in
      record {
        apart = λ xs budget e x r v n c p. pairs.apart xs budget e x r p.0 n c p.1;
        one_error = pairs.one_error;
      }

  pub struct_once : {W : Type 0} (values : W → V) → RejectsOnce (struct_of values key fields).format
  struct_once values = once_by values (fields_format key fields) fields_once

-- what a struct makes of its fields, or rejects in words
pub made_struct_once : {V W : Type 0} (key : FieldKey) (fields : Fields V)
    (value : V → Result W (List ℕ))
    → IsTrue fields.exact → FieldsOnce fields
    → ((v w : V) → fields.same v w → SameFate (value v) (value w))
    → RejectsOnce (made_struct key fields value).format
made_struct_once key fields value is once fate =
    search (rules, made_or_rejected_once, struct_once)
