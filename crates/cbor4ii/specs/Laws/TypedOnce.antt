-- A typed value is rejected with one error where its parts are.
use Rattle.std.proofs.Common.{◌≡◌, ℕ, ◌<◌, inl, inr, List, [], ◌∷◌, Option, None, Some}
use Rattle.std.proofs.Common.{Bool, true, false, IsTrue, refl, sym, ap, ◌∙◌, subst, arith, rules}
use Rattle.std.specs.Prelude.{codes, ◌&&◌}
use Rattle.std.specs.declared.cmp.Ordering.{Ordering}
use Rattle.cbor4ii_items.specs.Budget.{CostFits}
use Rattle.cbor4ii_items.specs.Decoding.{Reads, RejectsAt, Format, IsLawful}
use Rattle.cbor4ii_items.specs.Lengths.{ReadsLength}
use Rattle.cbor4ii_items.specs.NeverBoth.{NeverBoth}
use Rattle.cbor4ii_items.specs.OneError.{OneError, RejectsOnce}
use Rattle.cbor4ii_items.specs.Sequences.{after_step, pair_format}
use Rattle.cbor4ii_items.specs.Laws.Arguments.{argument_lawful}
use Rattle.cbor4ii_items.specs.Laws.ContainerErrors.{option_once, boxed_once}
use Rattle.cbor4ii_items.specs.Laws.Containers.{both}
use Rattle.cbor4ii_items.specs.Laws.HeadErrors.{head_error, length_error}
use Rattle.cbor4ii_items.specs.Laws.Heads.{head_one}
use Rattle.cbor4ii_items.specs.Laws.LeafErrors.{nothing_error}
use Rattle.cbor4ii_items.specs.Laws.LeavesApart.{head_apart, length_apart}
use Rattle.cbor4ii_items.specs.Laws.NumbersOnce.{once_by}
use Rattle.cbor4ii_items.specs.Laws.SequenceErrors.{inside_once, pair_once}
use Rattle.cbor4ii_items.specs.Laws.SequencesApart.{none_left, fits_after}
use Rattle.cbor4ii_items.specs.Laws.Strings.{head_not_indefinite}
use Rattle.cbor4ii.specs.Built.{built_map}
use Rattle.cbor4ii.specs.Elements.{Elements, no_element, element_before, typed_elements}
use Rattle.cbor4ii.specs.Sequence.{four_small, five_small, sequence_of}
use Rattle.cbor4ii.specs.Stepped.{Stepped, RejectsStepped, stepped_format}
use Rattle.cbor4ii.specs.Tagged.{tag_head_lawful, typed_tagged}
use Rattle.cbor4ii.specs.Tagged.{RejectsTagHead, ReadsTagHead}
use Rattle.cbor4ii.specs.Tuples.{ReadsUnit, RejectsUnit, RejectsCountOf, ReadsCountOf}
use Rattle.cbor4ii.specs.Tuples.{container_head_format, after_format, three}
use Rattle.cbor4ii.specs.Typed.{Promise, typed_format, any_two}
use Rattle.cbor4ii.specs.TypedParts.{part_of, part_lawful, two_of, two_lawful, three_of}
use Rattle.cbor4ii.specs.TypedParts.{three_lawful, tuple_of, typed_option, typed_box, typed_vector}
use Rattle.cbor4ii.specs.TypedParts.{typed_pair, typed_triple, typed_map}

-- both of two flags are set
pub both_true : (a b : Bool) → IsTrue a → IsTrue b → IsTrue (a && b)
both_true true b p q = q
both_true false b p q = cc

-- ---- a part, and a step

pub part_once : {V : Type 0} (p : Promise V) → RejectsOnce p.format → RejectsOnce (part_of p)
part_once p h = record { apart = h.apart; one_error = h.one_error }

module _ {V : Type 0} (name : List ℕ) (reads : Reads V) (rejects : RejectsAt) where
  pub steps_apart : NeverBoth reads rejects → NeverBoth (Stepped reads)
      (RejectsStepped name rejects)
  steps_apart apart xs budget e x (inl s) v n c p fits =
      none_left budget p.0 s.0 (subst (λ k. CostFits k budget) p.2 fits)
  steps_apart apart xs budget e x (inr s) v n c p fits = search (rules, fits_after)

  pub steps_error : OneError rejects → OneError (RejectsStepped name rejects)
  steps_error once xs budget e f x y (inl s) (inl t) = (s.1 ∙ sym t.1, s.2 ∙ sym t.2)
  steps_error once xs budget e f x y (inl s) (inr t) = absurd (t.0 s.0)
  steps_error once xs budget e f x y (inr s) (inl t) = absurd (s.0 t.0)
  steps_error once xs budget e f x y (inr s) (inr t) =
      once xs (after_step budget) e f x y s.1 t.1

pub stepped_once : {V : Type 0} (name : List ℕ) (s : Format V) → RejectsOnce s
    → RejectsOnce (stepped_format name s)
stepped_once name s h = search (rules, steps_apart, steps_error)

-- ---- of one part

pub typed_option_once : {V : Type 0} (p : Promise V) → RejectsOnce p.format
    → RejectsOnce (typed_option p).format
typed_option_once p h = search (rules, option_once, stepped_once, part_once)

pub typed_box_once : {V : Type 0} (p : Promise V) → RejectsOnce p.format
    → RejectsOnce (typed_box p).format
typed_box_once p h = boxed_once p.format h

-- parts after a head, under a step by this name
pub sequence_of_once : {P W : Type 0} (items : W → List P) (step name : List ℕ) (major : ℕ)
    → major < 8 → (s : Format P) → IsLawful s → RejectsOnce s
    → RejectsOnce (sequence_of items step name major s)
sequence_of_once items step name major small s lawful h =
    search (rules, stepped_once, inside_once)

pub typed_vector_once : {V : Type 0} (p : Promise V) → IsTrue p.exact → RejectsOnce p.format
    → RejectsOnce (typed_vector p).format
typed_vector_once p is h = search (rules, sequence_of_once, four_small, part_lawful, part_once)

-- ---- of two and three

pub two_once : {A B : Type 0} (a : Promise A) (b : Promise B) → IsTrue (a.exact && b.exact)
    → RejectsOnce a.format → RejectsOnce b.format → RejectsOnce (two_of a b)
two_once a b is h k =
    let exact = both a.exact b.exact is in
    pair_once (part_of a) (part_of b) (part_lawful a exact.0) (part_lawful b exact.1)
    (part_once a h) (part_once b k)

pub three_once : {A B C : Type 0} (a : Promise A) (b : Promise B) (c : Promise C)
    → IsTrue (a.exact && (b.exact && c.exact)) → RejectsOnce a.format → RejectsOnce b.format
    → RejectsOnce c.format → RejectsOnce (three_of a b c)
three_once a b c is f g h =
    let exact = both a.exact (b.exact && c.exact) is in
    once_by three (pair_format (part_of a) (pair_format (part_of b) (part_of c)))
    (pair_once (part_of a) (two_of b c) (part_lawful a exact.0) (two_lawful b c exact.1)
    (part_once a f) (two_once b c exact.1 g h))

-- ---- the head of an array of so many items

one_length : (xs : List ℕ) (v w : Option ℕ) (n m c d : ℕ) → ReadsLength 4 xs v n c
    → ReadsLength 4 xs w m d → (v ≡ w) × (n ≡ m)
one_length xs (Some v) (Some w) n m c d p q =
    let same = head_one 4 8 xs v w n m four_small p.0 q.0 in (ap Some same.1, same.0)
one_length xs (Some v) None n m c d p q =
    absurd (head_not_indefinite 4 xs v n four_small p.0 q.0)
one_length xs None (Some w) n m c d p q =
    absurd (head_not_indefinite 4 xs w m four_small q.0 p.0)
one_length xs None None n m c d p q = (refl, p.1 ∙ sym q.1)

count_apart : (count : ℕ) → NeverBoth (ReadsCountOf count) (RejectsCountOf count)
count_apart count xs budget e x (inl s) v n c p fits =
    head_apart (codes "array") 4 8 xs e x count n s.1 p.0
count_apart count xs budget e x (inr s) v n c p fits =
    s.other (one_length xs s.found (Some count) s.size n s.cost c s.head p).0

count_error : (count : ℕ) → OneError (RejectsCountOf count)
count_error count xs budget e f x y (inl s) (inl t) =
    length_error (codes "array") 4 xs budget e f x y s t
count_error count xs budget e f x y (inl s) (inr t) =
    absurd (length_apart (codes "array") 4 xs None e x s t.found t.size t.cost t.head tt)
count_error count xs budget e f x y (inr s) (inl t) =
    absurd (length_apart (codes "array") 4 xs None f y t s.found s.size s.cost s.head tt)
count_error count xs budget e f x y (inr s) (inr t) = search (rules, one_length)

count_lawful : (count : ℕ) → IsLawful (container_head_format count)
count_lawful count = search (rules, argument_lawful, four_small)

count_once : (count : ℕ) → RejectsOnce (container_head_format count)
count_once count = record { apart = count_apart count; one_error = count_error count }

pub after_once : {V : Type 0} (count : ℕ) (s : Format V) → IsLawful s → RejectsOnce s
    → RejectsOnce (after_format count s)
after_once count s lawful h =
    let pair = pair_once (container_head_format count) s (count_lawful count) lawful
    (count_once count) h in
    record {
      apart = λ xs budget e x r v n c p. pair.apart xs budget e x r (tt, v) n c (record {
        key_size = p.before;
        key_cost = 0;
        key = (p.head, refl);
        value_size = p.between;
        value_cost = c;
        value = p.parts;
        size = p.size;
        cost = omega arith;
      });
      one_error = pair.one_error;
    }

pub tuple_once : {V : Type 0} (count : ℕ) (s : Format V) → IsLawful s → RejectsOnce s
    → RejectsOnce (tuple_of count s)
tuple_once count s lawful h =
    stepped_once (codes "tuple") (after_format count s) (after_once count s lawful h)

pub typed_pair_once : {A B : Type 0} (a : Promise A) (b : Promise B) → IsTrue (a.exact && b.exact)
    → RejectsOnce a.format → RejectsOnce b.format → RejectsOnce (typed_pair a b).format
typed_pair_once a b is h k =
    tuple_once 2 (two_of a b) (two_lawful a b is) (two_once a b is h k)

pub typed_triple_once : {A B C : Type 0} (a : Promise A) (b : Promise B) (c : Promise C)
    → IsTrue (a.exact && (b.exact && c.exact)) → RejectsOnce a.format → RejectsOnce b.format
    → RejectsOnce c.format → RejectsOnce (typed_triple a b c).format
typed_triple_once a b c is f g h =
    tuple_once 3 (three_of a b c) (three_lawful a b c is) (three_once a b c is f g h)

-- ---- elements

pub no_element_once : RejectsOnce no_element.format
no_element_once = search (rules, nothing_error)

pub element_before_once : {T V : Type 0} (p : Promise T) (others : Elements V)
    → IsTrue (p.exact && others.exact) → RejectsOnce p.format → RejectsOnce others.format
    → RejectsOnce (element_before p others).format
element_before_once p others is h k =
    let exact = both p.exact others.exact is in
    pair_once (part_of p) others.format (part_lawful p exact.0) (others.lawful exact.1)
    (part_once p h) k

pub typed_elements_once : {V : Type 0} (e : Elements V) → IsTrue e.exact → RejectsOnce e.format
    → RejectsOnce (typed_elements e).format
typed_elements_once e is h = tuple_once e.count e.format (e.lawful is) h

-- ---- maps

pub built_once : {K V M : Type 0} (entries : M → List (K × V)) (cmp : K → K → Ordering)
    (s : Format (List (K × V))) → RejectsOnce s → RejectsOnce (built_map entries cmp s)
built_once entries cmp s h = search rules

pub typed_map_once : {K V M : Type 0} (entries : M → List (K × V)) (cmp : K → K → Ordering)
    (k : Promise K) (v : Promise V) → IsTrue (k.exact && v.exact) → RejectsOnce k.format
    → RejectsOnce v.format → RejectsOnce (typed_map entries cmp k v).format
typed_map_once entries cmp k v is g h =
    search (rules, built_once, sequence_of_once, five_small, two_lawful, two_once)

-- ---- a unit

unit_apart : NeverBoth ReadsUnit RejectsUnit
unit_apart [] budget e x s v n c p fits = let first = p.0 in cc
unit_apart (b ∷ bs) budget e x s v n c p fits =
    let same : b ≡ 0x80 = (let first = p.0 in cc) in s.0 same

unit_error : OneError RejectsUnit
unit_error [] budget e f x y s t = (s.0 ∙ sym t.0, s.1 ∙ sym t.1)
unit_error (b ∷ bs) budget e f x y s t = (s.1 ∙ sym t.1, s.2 ∙ sym t.2)

pub unit_once : RejectsOnce (typed_format ReadsUnit any_two RejectsUnit true false)
unit_once = record { apart = unit_apart; one_error = unit_error }

-- ---- a tagged value

tag_head_apart : (number : ℕ) → NeverBoth (ReadsTagHead number) (RejectsTagHead number)
tag_head_apart number xs budget e x (inl s) v n c p fits =
    head_apart (codes "tag") 6 8 xs e x number n s p.0
tag_head_apart number xs budget e x (inr s) v n c p fits =
    s.other (head_one 6 8 xs s.found number s.size n (omega arith) s.head p.0).1

tag_head_error : (number : ℕ) → OneError (RejectsTagHead number)
tag_head_error number xs budget e f x y (inl s) (inl t) =
    head_error (codes "tag") 6 8 xs e f x y s t
tag_head_error number xs budget e f x y (inl s) (inr t) =
    absurd (head_apart (codes "tag") 6 8 xs e x t.found t.size s t.head)
tag_head_error number xs budget e f x y (inr s) (inl t) =
    absurd (head_apart (codes "tag") 6 8 xs f y s.found s.size t s.head)
tag_head_error number xs budget e f x y (inr s) (inr t) = search (rules, head_one)

pub typed_tagged_once : {V : Type 0} (number : ℕ) (p : Promise V) → IsTrue p.exact
    → RejectsOnce p.format → RejectsOnce (typed_tagged number p).format
typed_tagged_once number p is h =
    search (rules, once_by, pair_once, tag_head_lawful, part_lawful, tag_head_apart, tag_head_error, part_once)
