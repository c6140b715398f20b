-- Keys that are integers, among others that are texts.
use Rattle.std.proofs.Common.{◌≡◌, ◌/◌, ◌+◌, ◌^◌, ◌++◌, ℕ, ℤ, pos, negsuc, zero, suc, List}
use Rattle.std.proofs.Common.{[], ◌∷◌}
use Rattle.std.proofs.Common.{Option, None, Some, Bool, true, false, ◌≤◌, length, IsTrue, refl, sym}
use Rattle.std.proofs.Common.{ap, ◌∙◌, subst, drop, inl, ltb, ltb-true, arith}
use Rattle.std.specs.Prelude.{◌⊎◌, codes, nat_eq, IfErr, Result, Ok, Err}
use denote.Ref.{Bor}
use Rattle.cbor4ii_rw.specs.View.{View, IfKnown}
use Rattle.cbor4ii_rw.specs.Reader.{KeepsAllButBudget}
use Rattle.cbor4ii_rw.specs.declared.error.DecodeError.{DecodeError}
use Rattle.cbor4ii_items.specs.Budget.{CostFits}
use Rattle.cbor4ii_items.specs.Decoding.{Reads, RejectsAt}
use Rattle.cbor4ii_items.specs.Head.{eight}
use Rattle.cbor4ii_items.specs.InputError.{InputError, is_out_of_memory}
use Rattle.cbor4ii_items.specs.Moves.{Kept}
use Rattle.cbor4ii_items.specs.Numbers.{ReadsI128, RejectsI128, shortest_head}
use Rattle.cbor4ii_items.specs.ReadBack.{ReadsBack}
use Rattle.cbor4ii_items.specs.Strings.{ReadsText, RejectsText}
use Rattle.cbor4ii_items.specs.Laws.Bignums.{i128_one, i128_within, i128_positive}
use Rattle.cbor4ii_items.specs.Laws.NumberErrors.{i128_error}
use Rattle.cbor4ii_items.specs.Laws.NumbersApart.{i128_apart}
use Rattle.cbor4ii_items.specs.Laws.NumbersBack.{head_back}
use Rattle.cbor4ii_items.specs.Laws.Prefixes.{drop_more}
use Rattle.cbor4ii_items.specs.Laws.Signed.{starts}
use Rattle.cbor4ii_items.specs.Laws.StringErrors.{text_error}
use Rattle.cbor4ii_items.specs.Laws.StringsApart.{text_apart}
use Rattle.cbor4ii_ser.specs.Item.{encoded}
use Rattle.cbor4ii_ser.specs.Listed.{integer_label, integer_item}
use Rattle.cbor4ii_ser.specs.OneItem.{IsOneItem, canonical}
use Rattle.cbor4ii_ser.specs.Laws.OneItem.{signed_is_item}
use Rattle.cbor4ii.specs.FieldKey.{FieldKey, name_laws}
use Rattle.cbor4ii.specs.Typed.{IsLawfulReading, not_exact}

-- ---- a key

-- whether a text begins here: its first byte is of major type 3 (RFC 8949 section 3.1)
abbrev pub begins_text : List ℕ → Bool
begins_text [] = false
begins_text (b ∷ bs) = nat_eq (b / 32) 3

-- the label of a key, by which fields are told apart; a text has that of no integer
abbrev pub label_of : Option ℤ → List ℕ
label_of None = []
label_of (Some v) = integer_label v

-- a key: where a text begins, a text, which is no field's key; else an integer, read as an i128
abbrev pub ReadsKeyBy : Bool → Reads (List ℕ)
ReadsKeyBy true xs label n c = (text : List ℕ) × ReadsText xs text n c × (label ≡ [])
ReadsKeyBy false xs label n c = (v : ℤ) × ReadsI128 xs v n c × (label ≡ integer_label v)

-- a key: an integer as an i128 is read, or a text, which is the key of no field
abbrev pub ReadsKey : Reads (List ℕ)
ReadsKey xs = ReadsKeyBy (begins_text xs) xs

-- a key's error: that of the text, or that of the integer
abbrev pub RejectsKeyBy : Bool → RejectsAt
RejectsKeyBy true xs budget = RejectsText (codes "str") xs budget
RejectsKeyBy false xs budget = RejectsI128 xs

abbrev pub RejectsKey : RejectsAt
RejectsKey xs = RejectsKeyBy (begins_text xs) xs

-- the label of an i64, as that of a name is given
abbrev pub integer_name : ℤ → Bor (List ℕ)
integer_name key = record { ref_ptr = (0, 0); now = integer_label key }

-- a key that is read as an integer, as one that there is
abbrev pub as_key : {V E : Type 0} → Result V E → Result (Option V) E
as_key (Ok v) = Ok (Some v)
as_key (Err e) = Err e

-- an answer with a key, as one with its label
abbrev pub labelled : {E : Type 0} → Result (Option ℤ) E → Result (List ℕ) E
labelled (Ok key) = Ok (label_of key)
labelled (Err e) = Err e

-- ---- memory

-- a text begins somewhere in what comes
abbrev pub TextComes : View → Type 0
TextComes view = IfKnown view.known (λ xs. (n : ℕ) × (begins_text (drop n xs) ≡ true))

-- whatever comes
abbrev pub AnyView : View → Type 0
AnyView view = Unit {0}

pub text_comes_after : (a m : View) → Kept a m → TextComes m → TextComes a
text_comes_after a m kept comes xs known =
    let end = kept.rest xs known in
    let text = comes (drop end.0 xs) end.1.left in
    (end.0 + text.0, subst (λ ys. begins_text ys ≡ true) (drop_more text.0 end.0 xs) text.1)

pub text_comes_under : (a m : View) → KeepsAllButBudget a m → TextComes m → TextComes a
text_comes_under a m keeps comes xs known = comes xs (keeps.known ∙ known)

-- memory is wanted by a field that takes some, or where a key may want some, and nowhere else
abbrev pub WantsByKeys : {V E : Type 0} → (may_want : View → Type 0) → (takes_memory : Bool)
    → View → Result V (DecodeError E) → Type 0
WantsByKeys may_want takes_memory old answer = IfErr answer
    (λ error. IsTrue (is_out_of_memory error) → IsTrue takes_memory ⊎ may_want old)

-- ---- its laws

key_one : (flag : Bool) (xs k l : List ℕ) (n m c d : ℕ) → ReadsKeyBy flag xs k n c
    → ReadsKeyBy flag xs l m d → (n ≡ m) × (c ≡ d) × (k ≡ l)
key_one true xs k l n m c d p q =
    let e = name_laws.one xs p.0 q.0 n m c d p.1 q.1 in (e.0, e.1, p.2 ∙ sym q.2)
key_one false xs k l n m c d p q =
    let e = i128_one xs p.0 q.0 n m c d p.1 q.1 in
    (e.0, e.1, p.2 ∙ (ap integer_label e.2 ∙ sym q.2))

key_within : (flag : Bool) (xs label : List ℕ) (n c : ℕ) → ReadsKeyBy flag xs label n c
    → n ≤ length xs
key_within true xs label n c p = name_laws.within xs p.0 n c p.1
key_within false xs label n c p = i128_within xs p.0 n c p.1

key_positive : (flag : Bool) (xs label : List ℕ) (n c : ℕ) → ReadsKeyBy flag xs label n c → 1 ≤ n
key_positive true xs label n c p = name_laws.positive refl xs p.0 n c p.1
key_positive false xs label n c p = i128_positive xs p.0 n c p.1

pub key_laws : IsLawfulReading ReadsKey (λ (k l : List ℕ). k ≡ l) true
key_laws = record {
  one = λ xs. key_one (begins_text xs) xs;
  within = λ xs. key_within (begins_text xs) xs;
  positive = λ e xs. key_positive (begins_text xs) xs;
  alone = not_exact;
}

pub key_by_apart : (flag : Bool) (xs : List ℕ) (budget : Option ℕ) (e : InputError) (x : List ℕ)
    → RejectsKeyBy flag xs budget e x → (label : List ℕ) (n c : ℕ)
    → ReadsKeyBy flag xs label n c → CostFits c budget → ⊥
key_by_apart true xs budget e x s label n c p fits =
    text_apart (codes "str") xs budget e x s p.0 n c p.1 fits
key_by_apart false xs budget e x s label n c p fits =
    i128_apart xs budget e x s p.0 n c p.1 fits

pub key_by_error : (flag : Bool) (xs : List ℕ) (budget : Option ℕ) (e f : InputError) (x y : List ℕ)
    → RejectsKeyBy flag xs budget e x → RejectsKeyBy flag xs budget f y → (e ≡ f) × (x ≡ y)
key_by_error true xs budget e f x y s t = text_error (codes "str") xs budget e f x y s t
key_by_error false xs budget e f x y s t = i128_error xs budget e f x y s t

-- ---- an i64

-- the label of an i64
abbrev pub is_small_label : List ℕ → Bool
is_small_label [] = false
is_small_label (major ∷ []) = false
is_small_label (zero ∷ n ∷ []) = ltb n (2 ^ 63)
is_small_label (suc zero ∷ n ∷ []) = ltb n (2 ^ 63)
is_small_label (suc (suc major) ∷ n ∷ []) = false
is_small_label (major ∷ n ∷ more ∷ others) = false

no_text : (xs : List ℕ) (type first : ℕ) (others : List ℕ) → xs ≡ first ∷ others
    → first / 32 ≡ type → nat_eq type 3 ≡ false → begins_text xs ≡ false
no_text xs type first others is of other =
    subst (λ (ys : List ℕ). begins_text ys ≡ false) (sym is)
    (subst (λ k. nat_eq k 3 ≡ false) (sym of) other)

pub small_back : (label : List ℕ) → IsTrue (is_small_label label)
    → ReadsBack ReadsKey (integer_item label) label 0
small_back [] h rest = absurd (not_exact h)
small_back (major ∷ []) h rest = absurd (not_exact h)
small_back (zero ∷ n ∷ []) h rest =
    let small = ltb-true n (2 ^ 63) h in
    let head = head_back 0 eight n (omega (arith, small)) rest in
    let s = starts 0 8 (shortest_head 0 n ++ rest) n (length (shortest_head 0 n)) head in
    subst (λ flag. ReadsKeyBy flag (shortest_head 0 n ++ rest) (0 ∷ n ∷ [])
    (length (shortest_head 0 n)) 0)
    (sym (no_text (shortest_head 0 n ++ rest) 0 s.first s.others s.is s.type refl))
    (pos n, (inl head, refl), refl)
small_back (suc zero ∷ n ∷ []) h rest =
    let small = ltb-true n (2 ^ 63) h in
    let head = head_back 1 eight n (omega (arith, small)) rest in
    let s = starts 1 8 (shortest_head 1 n ++ rest) n (length (shortest_head 1 n)) head in
    subst (λ flag. ReadsKeyBy flag (shortest_head 1 n ++ rest) (1 ∷ n ∷ [])
    (length (shortest_head 1 n)) 0)
    (sym (no_text (shortest_head 1 n ++ rest) 1 s.first s.others s.is s.type refl))
    (negsuc n, (inl head, refl), refl)
small_back (suc (suc major) ∷ n ∷ []) h rest = absurd (not_exact h)
small_back (major ∷ n ∷ more ∷ others) h rest = absurd (not_exact h)

pub small_one : (label : List ℕ) → IsTrue (is_small_label label)
    → IsOneItem canonical (encoded (integer_item label))
small_one [] h = absurd (not_exact h)
small_one (major ∷ []) h = absurd (not_exact h)
small_one (zero ∷ n ∷ []) h =
    signed_is_item canonical (pos n) (omega (arith, ltb-true n (2 ^ 63) h))
small_one (suc zero ∷ n ∷ []) h =
    signed_is_item canonical (negsuc n) (omega (arith, ltb-true n (2 ^ 63) h))
small_one (suc (suc major) ∷ n ∷ []) h = absurd (not_exact h)
small_one (major ∷ n ∷ more ∷ others) h = absurd (not_exact h)

-- integers, as the labels of COSE are (RFC 9052 section 1.5)
abbrev pub integer_key : FieldKey
integer_key = record {
  reads = ReadsKey;
  rejects = RejectsKey;
  laws = key_laws;
  apart = λ xs. key_by_apart (begins_text xs) xs;
  one_error = λ xs. key_by_error (begins_text xs) xs;
  item = integer_item;
  is_label = is_small_label;
  back = small_back;
  one = small_one;
}

-- the label of the key n
abbrev pub plus : ℕ → List ℕ
plus n = integer_label (pos n)

-- the label of the key -n
abbrev pub minus : ℕ → List ℕ
minus zero = integer_label (pos 0)
minus (suc n) = integer_label (negsuc n)
