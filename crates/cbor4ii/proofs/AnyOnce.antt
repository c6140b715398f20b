-- Any item that is read as a value is rejected with one error, however deep items nest.
use Rattle.std.proofs.Common.{◌≡◌, ◌≤◌, inl, inr, ℕ, zero, suc, ◌+◌, List, [], ◌∷◌, take}
use Rattle.std.proofs.Common.{true, Option, None, sym, subst, ◌∙◌, arith, rules}
use Rattle.std.specs.Prelude.{codes}
use Rattle.cbor4ii_items.specs.Decoding.{Reads, RejectsAt, Format, leaf_format}
use Rattle.cbor4ii_items.specs.InputError.{InputError}
use Rattle.cbor4ii_items.specs.Laws.Bignums.{u128_one}
use Rattle.cbor4ii_items.specs.Laws.NumberErrors.{u128_error}
use Rattle.cbor4ii_items.specs.Laws.NumbersApart.{u128_apart}
use Rattle.cbor4ii_items.specs.Laws.NumbersOnce.{i128_once, bool_once, simple_once, float_once}
use Rattle.cbor4ii_items.specs.Laws.NumbersOnce.{once_by}
use Rattle.cbor4ii_items.specs.Laws.SequenceErrors.{pair_once}
use Rattle.cbor4ii_items.specs.Laws.Sequences.{pair_lawful}
use Rattle.cbor4ii_items.specs.Laws.StringErrors.{as_once, text_once}
use Rattle.cbor4ii_items.specs.NeverBoth.{NeverBoth}
use Rattle.cbor4ii_items.specs.Numbers.{ReadsI128, RejectsI128}
use Rattle.cbor4ii_items.specs.OneError.{OneError, RejectsOnce}
use Rattle.cbor4ii_items.specs.Sequences.{in_vector, pair_format}
use Rattle.cbor4ii_items.specs.Simple.{simple_format, bool_format}
use Rattle.cbor4ii_items.specs.Strings.{as_format, text_format, bytes_content, text_content}
use Rattle.cbor4ii_tree.specs.declared.value.Value.{Value}
use Rattle.cbor4ii.specs.declared.serde.de.any_leaf.AnyKind.{AnyKind}
use Rattle.cbor4ii.specs.declared.serde.de.any_leaf.AnyKind.TheVariants.{Leaf, Array, Map, Other}
use Rattle.cbor4ii.specs.declared.serde.de.any_leaf.AnyLeaf.{AnyLeaf}
use Rattle.cbor4ii.specs.declared.serde.de.any_leaf.AnyLeaf.TheVariants.{Integer, Bignum, Bytes}
use Rattle.cbor4ii.specs.declared.serde.de.any_leaf.AnyLeaf.TheVariants.{Text, Bool as Flag, Null}
use Rattle.cbor4ii.specs.declared.serde.de.any_leaf.AnyLeaf.TheVariants.{F16, F32, F64}
use Rattle.cbor4ii.specs.Any.{kind, Formed, of_integer, of_bytes, of_text, of_bool}
use Rattle.cbor4ii.specs.Any.{of_null, of_array, of_map, KindAs, LeafAs}
use Rattle.cbor4ii.specs.Any.{AnyInside, ReadsAny, SameView, ReadsSmallU128}
use Rattle.cbor4ii.specs.AnyFormat.{any_format}
use Rattle.cbor4ii.specs.AnyRejects.{RejectsBignum, KindRejects, LeafRejects, AnyRejects}
use Rattle.cbor4ii.specs.AnyRejects.{AnyRejectsAt, RejectsOther}
use Rattle.cbor4ii.specs.Laws.Any.{any_laws, inside_of_any}
use Rattle.cbor4ii.specs.Laws.TypedOnce.{sequence_of_once, steps_apart, steps_error}
use Rattle.cbor4ii.specs.Sequence.{four_small, five_small, sequence_of}
use Rattle.cbor4ii.specs.Typed.{typed_format, lawful_as}
use Rattle.cbor4ii.proofs.AnyAnswers.{after_in}

-- ---- items that hold no other

-- of what these read and reject: what is rejected is not read, and has one error
record Once {V : Type 0} (reads : Reads V) (rejects : RejectsAt) : Type 0 where
  pub apart : NeverBoth reads rejects
  pub one_error : OneError rejects

formed_once : {W : Type 0} (form : W → Value) (s : Format W) → RejectsOnce s
    → Once (Formed s.reads form) s.rejects
formed_once form s h = search rules

small_apart : NeverBoth ReadsSmallU128 RejectsBignum
small_apart xs budget e x (inl s) v n c p fits = u128_apart xs budget e x s v n c p.0 fits
small_apart xs budget e x (inr s) v n c p fits =
    let same = u128_one xs v s.number n s.size c 0 p.0 s.read in
    absurd (omega (arith, same.2, p.1, s.great))

small_error : OneError RejectsBignum
small_error xs budget e f x y (inl s) (inl t) = u128_error xs budget e f x y s t
small_error xs budget e f x y (inl s) (inr t) =
    absurd (u128_apart xs None e x s t.number t.size 0 t.read tt)
small_error xs budget e f x y (inr s) (inl t) =
    absurd (u128_apart xs None f y t s.number s.size 0 s.read tt)
small_error xs budget e f x y (inr s) (inr t) = search (rules, u128_one)

leaf_once : (leaf : AnyLeaf) → Once (LeafAs leaf) (LeafRejects leaf)
leaf_once Integer =
    formed_once of_integer (leaf_format ReadsI128 (λ xs budget. RejectsI128 xs)) i128_once
leaf_once Bignum = record {
  apart = λ xs budget e x r v n c p. small_apart xs budget e x r p.0 n c p.1;
  one_error = small_error;
}
leaf_once Bytes =
    formed_once of_bytes (as_format (codes "bytes") 2 bytes_content)
    (as_once (codes "bytes") 2 (omega arith) bytes_content)
leaf_once Text =
    formed_once of_text (text_format (codes "str") text_content)
    (text_once (codes "str") text_content)
leaf_once Flag = formed_once of_bool bool_format bool_once
leaf_once Null = formed_once of_null simple_format simple_once
leaf_once F16 = search (rules, formed_once, once_by, float_once)
leaf_once F32 = search (rules, formed_once, once_by, float_once)
leaf_once F64 = search (rules, formed_once, once_by, float_once)

-- ---- an item of a kind

other_error : OneError RejectsOther
other_error xs budget e f x y s t = search rules

-- any item, which is rejected by `inner`
abbrev rejected_by : RejectsAt → Format Value
rejected_by inner = typed_format ReadsAny SameView inner true true

module _ (inner : RejectsAt) (once : RejectsOnce (rejected_by inner)) where
  kind_once : (k : AnyKind) → Once (KindAs ReadsAny k) (KindRejects inner k)
  kind_once (Leaf leaf) = leaf_once leaf
  kind_once Array =
      let s = rejected_by inner in
      formed_once of_array (sequence_of in_vector (codes "seq") (codes "array") 4 s)
      (sequence_of_once in_vector (codes "seq") (codes "array") 4 four_small s
      (lawful_as any_laws) once)
  kind_once Map =
      let s = rejected_by inner in
      let pair = pair_format s s in
      formed_once of_map (sequence_of in_vector (codes "map") (codes "map") 5 pair)
      (sequence_of_once in_vector (codes "map") (codes "map") 5 five_small pair
      (pair_lawful s s (lawful_as any_laws) (lawful_as any_laws))
      (pair_once s s (lawful_as any_laws) (lawful_as any_laws) once once))
  kind_once Other = search (rules, other_error)

  some_byte : {A : Type 0} (xs : List ℕ) (b : ℕ) → xs ≡ [] → take 1 xs ≡ b ∷ [] → A
  some_byte [] b e f = cc
  some_byte (x ∷ xs) b e f = cc

  inside_apart : NeverBoth (AnyInside ReadsAny) (AnyRejects inner)
  inside_apart xs budget e x (inl s) v n c p fits = some_byte xs p.0 s.0 p.1
  inside_apart xs budget e x (inr s) v n c p fits =
      let same : p.0 ≡ s.0 = (let one = p.1 in let two = s.1 in cc) in
      (kind_once (kind s.0)).apart xs budget e x s.2 v n c
      (subst (λ b. KindAs ReadsAny (kind b) xs v n c) same p.2) fits

  inside_error : OneError (AnyRejects inner)
  inside_error xs budget e f x y (inl s) (inl t) = (s.1 ∙ sym t.1, s.2 ∙ sym t.2)
  inside_error xs budget e f x y (inl s) (inr t) = some_byte xs t.0 s.0 t.1
  inside_error xs budget e f x y (inr s) (inl t) = some_byte xs s.0 t.0 s.1
  inside_error xs budget e f x y (inr s) (inr t) =
      let same : s.0 ≡ t.0 = (let one = s.1 in let two = t.1 in cc) in
      (kind_once (kind t.0)).one_error xs budget e f x y
      (subst (λ b. KindRejects inner (kind b) xs budget e x) same s.2) t.2

-- ---- any item, within at most so many items

at_once : (k : ℕ) → RejectsOnce (rejected_by (AnyRejectsAt k))
at_once zero = search rules
at_once (suc k) =
    let inner = AnyRejectsAt k in
    let apart = steps_apart (codes "any") (AnyInside ReadsAny) (AnyRejects inner)
    (inside_apart inner (at_once k)) in
    record {
      apart = λ xs budget e x s v n c p. apart xs budget e x s v n c (inside_of_any xs v n c p);
      one_error = steps_error (codes "any") (AnyInside ReadsAny) (AnyRejects inner)
          (inside_error inner (at_once k));
    }

-- ---- where items may nest deeper

-- what is rejected by the one is so by the other
abbrev AlsoRejects : RejectsAt → RejectsAt → Type 0
AlsoRejects f g =
    (xs : List ℕ) (budget : Option ℕ) (e : InputError) (x : List ℕ) → f xs budget e x
    → g xs budget e x

deeper : (k j : ℕ) → k ≤ j → AlsoRejects (AnyRejectsAt k) (AnyRejectsAt j)
deeper zero j le xs budget e x s = absurd s
deeper (suc k) zero le xs budget e x s = absurd (omega (arith, le))
deeper (suc k) (suc j) le xs budget e x (inl s) = inl s
deeper (suc k) (suc j) le xs budget e x (inr s) =
    let r = after_in (AnyRejectsAt k) (λ i. AnyRejectsAt j)
    (λ ys b z zs t. (0, deeper k j (omega (arith, le)) ys b z zs t)) xs _ e x s.1 in
    inr (s.0, r.1)

pub any_once : RejectsOnce any_format
any_once = record {
  apart = λ xs budget e x s. (at_once s.0).apart xs budget e x s.1;
  one_error = λ xs budget e f x y s t.
      (at_once (s.0 + t.0)).one_error xs budget e f x y
      (deeper s.0 (s.0 + t.0) (omega arith) xs budget e x s.1)
      (deeper t.0 (s.0 + t.0) (omega arith) xs budget f y t.1);
}
