-- What the containers of typed values promise, by what their parts do.
use Rattle.std.specs.Prelude.{ℕ, List, ◌&&◌, Bool, true, codes, refl, Option, IsTrue}
use Rattle.std.specs.declared.alloc.Global.{Global}
use Rattle.std.specs.declared.boxed.Box.{Box}
use Rattle.std.specs.declared.cmp.Ordering.{Ordering}
use Rattle.std.specs.declared.vec.Vec.{Vec}
use Rattle.cbor4ii_items.specs.Decoding.{Format, IsLawful}
use Rattle.cbor4ii_items.specs.Laws.Containers.{both, boxed_format, boxed_lawful}
use Rattle.cbor4ii_items.specs.Laws.Containers.{option_format, option_lawful}
use Rattle.cbor4ii_items.specs.Laws.Sequences.{pair_lawful}
use Rattle.cbor4ii_items.specs.Sequences.{in_list, in_vector, pair_format}
use Rattle.cbor4ii.specs.Built.{built_map, map_of_lawful}
use Rattle.cbor4ii.specs.Sequence.{four_small, five_small, sequence_of, sequence_of_lawful}
use Rattle.cbor4ii.specs.Stepped.{stepped_format, stepped_lawful}
use Rattle.cbor4ii.specs.Tuples.{after_format, after_lawful, triple_format, triple_lawful}
use Rattle.cbor4ii.specs.Typed.{Promise, format_of, typed_laws, lawful_as, rejects_as_promised}

-- ---- a part

-- a part as containers read it: where it does not report its errors, nothing is said of them
abbrev pub part_of : {V : Type 0} → Promise V → Format V
part_of p = format_of p.format.reads p.format.same p.format.rejects (rejects_as_promised p)
    p.format.owned
    p.format.takes_memory

pub part_lawful : {V : Type 0} (p : Promise V) → IsTrue p.exact → IsLawful (part_of p)
part_lawful p is = lawful_as (typed_laws p is)

-- a container of this format, which reports its errors whatever its parts do
abbrev pub container : {V : Type 0} (exact : Bool) (format : Format V)
    → IsTrue format.never_empty → (IsTrue exact → IsLawful format) → Promise V
container exact format some lawful = record {
  format = format;
  exact = exact;
  known = true;
  reports = λ _. refl;
  some = some;
  lawful = lawful;
}

-- ---- of one part

-- null and undefined are none, and before any other byte a value is read, under a step
abbrev pub typed_option : {V : Type 0} → Promise V → Promise (Option V)
typed_option p =
    let value = stepped_format (codes "option") (part_of p) in
    container p.exact (option_format value) refl (λ is. option_lawful value
    (stepped_lawful (codes "option") (part_of p) (part_lawful p is)))

-- a value in a box, which takes memory
abbrev pub typed_box : {V : Type 0} → Promise V → Promise (Box V Global)
typed_box p = record {
  format = boxed_format p.format;
  exact = p.exact;
  known = p.known;
  reports = p.reports;
  some = p.some;
  lawful = λ is. boxed_lawful p.format (p.lawful is);
}

-- an array of values, of definite or indefinite length, under a step
abbrev pub typed_vector : {V : Type 0} → Promise V → Promise (Vec V Global)
typed_vector p =
    container p.exact (sequence_of in_vector (codes "seq") (codes "array") 4 (part_of p)) refl
    (λ is. sequence_of_lawful in_vector (codes "seq") (codes "array") 4 four_small (part_of p)
    (part_lawful p is))

-- ---- of two and three, one after another

abbrev pub two_of : {A B : Type 0} → Promise A → Promise B → Format (A × B)
two_of a b = pair_format (part_of a) (part_of b)

pub two_lawful : {A B : Type 0} (a : Promise A) (b : Promise B) → IsTrue (a.exact && b.exact)
    → IsLawful (two_of a b)
two_lawful a b is =
    let h = both a.exact b.exact is in
    pair_lawful (part_of a) (part_of b) (part_lawful a h.0) (part_lawful b h.1)

abbrev pub three_of : {A B C : Type 0} → Promise A → Promise B → Promise C → Format (A × B × C)
three_of a b c = triple_format (part_of a) (part_of b) (part_of c)

pub three_lawful : {A B C : Type 0} (a : Promise A) (b : Promise B) (c : Promise C)
    → IsTrue (a.exact && (b.exact && c.exact)) → IsLawful (three_of a b c)
three_lawful a b c is =
    let h = both a.exact (b.exact && c.exact) is in
    let k = both b.exact c.exact h.1 in
    triple_lawful (part_of a) (part_of b) (part_of c) (part_lawful a h.0) (part_lawful b k.0)
    (part_lawful c k.1)

-- an array of so many items, under a step
abbrev pub tuple_of : {V : Type 0} → ℕ → Format V → Format V
tuple_of count s = stepped_format (codes "tuple") (after_format count s)

pub tuple_lawful : {V : Type 0} (count : ℕ) (s : Format V) → IsLawful s →
    IsLawful (tuple_of count s)
tuple_lawful count s h = stepped_lawful (codes "tuple") (after_format count s)
    (after_lawful count s h)

abbrev pub typed_pair : {A B : Type 0} → Promise A → Promise B → Promise (A × B)
typed_pair a b =
    container (a.exact && b.exact) (tuple_of 2 (two_of a b)) refl
    (λ is. tuple_lawful 2 (two_of a b) (two_lawful a b is))

abbrev pub typed_triple : {A B C : Type 0} → Promise A → Promise B → Promise C
    → Promise (A × B × C)
typed_triple a b c =
    container (a.exact && (b.exact && c.exact)) (tuple_of 3 (three_of a b c)) refl
    (λ is. tuple_lawful 3 (three_of a b c) (three_lawful a b c is))

-- a map whose entries are what its pairs build
abbrev pub typed_map : {K V M : Type 0} → (M → List (K × V)) → (K → K → Ordering) → Promise K
    → Promise V → Promise M
typed_map entries cmp k v =
    let pairs = sequence_of in_list (codes "map") (codes "map") 5 (two_of k v) in
    container (k.exact && v.exact) (built_map entries cmp pairs) refl
    (λ is. map_of_lawful entries cmp pairs (sequence_of_lawful in_list (codes "map") (codes "map") 5
    five_small (two_of k v) (two_lawful k v is)))
