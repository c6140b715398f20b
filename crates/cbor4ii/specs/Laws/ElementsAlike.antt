-- Two and three elements are read as a pair and a triple are.
use Rattle.std.proofs.Common.{◌≡◌, ℕ, List, drop, Bool, true, false, inl, inr, refl, ap}
use Rattle.std.proofs.Common.{arith, rules}
use Rattle.std.specs.Prelude.{◌&&◌, ◌||◌, codes}
use Rattle.cbor4ii_items.specs.Decoding.{Reads, RejectsAt, Format, format_by}
use Rattle.cbor4ii_items.specs.Sequences.{ReadsPair, RejectsPair, pair_format, after_step}
use Rattle.cbor4ii_items.specs.Nothing.{RejectsNothing}
use Rattle.cbor4ii.specs.Elements.{ReadsNone, no_element, element_before}
use Rattle.cbor4ii.specs.Elements.{typed_elements, AlsoRejects, ReadsAlike, PromisesAlike}
use Rattle.cbor4ii.specs.Stepped.{RejectsStepped, stepped_format}
use Rattle.cbor4ii.specs.Tuples.{after_format, three}
use Rattle.cbor4ii.specs.Typed.{Promise}
use Rattle.cbor4ii.specs.TypedParts.{part_of, typed_pair, typed_triple}

and_true : (x : Bool) → (x && true) ≡ x
and_true true = refl
and_true false = refl

or_false : (x : Bool) → (x || false) ≡ x
or_false true = refl
or_false false = refl

-- ---- after the last element

module _ {T : Type 0} (s : Format T) where
  last_read : (xs : List ℕ) (v : T × Unit {0}) (n c : ℕ) → ReadsPair s.reads ReadsNone xs v n c
      → s.reads xs v.0 n c
  last_read xs v n c r = search rules

  last_rejected : (rejects : RejectsAt) → AlsoRejects (RejectsPair s.reads rejects RejectsNothing)
      rejects
  last_rejected rejects xs budget err rest (inl h) = h
  last_rejected rejects xs budget err rest (inr h) = absurd h.stop

  last_alike : ReadsAlike (λ (v : T × Unit {0}). v.0) (pair_format s no_element.format) s
  last_alike = record {
    onto = λ w. ((w, tt), refl);
    read = last_read;
    reads = λ xs v n c h. record {
      key_size = n;
      key_cost = c;
      key = h;
      value_size = 0;
      value_cost = 0;
      value = (refl, refl);
      size = omega arith;
      cost = omega arith;
    };
    rejected = last_rejected s.rejects;
    rejects = λ xs budget err rest. inl;
    begun = last_rejected s.begins;
    begins = λ xs budget err rest. inl;
    owned = and_true s.owned;
    takes_memory = or_false s.takes_memory;
  }

-- ---- after something that is read alike

pair_rejects : {K : Type 0} (reads : Reads K) (rejects first second : RejectsAt)
    → AlsoRejects first second
    → AlsoRejects (RejectsPair reads rejects first) (RejectsPair reads rejects second)
pair_rejects reads rejects first second also xs budget err rest (inl h) = inl h
pair_rejects reads rejects first second also xs budget err rest (inr h) = search (rules, inr)

step_rejects : (name : List ℕ) (first second : RejectsAt) → AlsoRejects first second
    → AlsoRejects (RejectsStepped name first) (RejectsStepped name second)
step_rejects name first second also xs budget err rest (inl h) = inl h
step_rejects name first second also xs budget err rest (inr h) =
    inr (h.0, also xs (after_step budget) err rest h.1)

module _ {V W : Type 0} {to : V → W} {first : Format V} {second : Format W}
    (h : ReadsAlike to first second) where
  pair_alike : {T : Type 0} (s : Format T)
      → ReadsAlike (λ (v : T × V). (v.0, to v.1)) (pair_format s first) (pair_format s second)
  pair_alike s = record {
    onto = λ w. (let p = h.onto w.1 in ((w.0, p.0), ap (λ x. (w.0, x)) p.1));
    read = λ xs v n c r. record {
      key_size = r.key_size;
      key_cost = r.key_cost;
      key = r.key;
      value_size = r.value_size;
      value_cost = r.value_cost;
      value = h.read (drop r.key_size xs) v.1 r.value_size r.value_cost r.value;
      size = r.size;
      cost = r.cost;
    };
    reads = λ xs v n c r. record {
      key_size = r.key_size;
      key_cost = r.key_cost;
      key = r.key;
      value_size = r.value_size;
      value_cost = r.value_cost;
      value = h.reads (drop r.key_size xs) v.1 r.value_size r.value_cost r.value;
      size = r.size;
      cost = r.cost;
    };
    rejected = pair_rejects s.reads s.rejects first.rejects second.rejects h.rejected;
    rejects = pair_rejects s.reads s.rejects second.rejects first.rejects h.rejects;
    begun = pair_rejects s.reads s.begins first.begins second.begins h.begun;
    begins = pair_rejects s.reads s.begins second.begins first.begins h.begins;
    owned = ap (λ x. s.owned && x) h.owned;
    takes_memory = ap (λ x. s.takes_memory || x) h.takes_memory;
  }

  after_alike : (count : ℕ)
      → ReadsAlike to (after_format count first) (after_format count second)
  after_alike count = search (rules, pair_rejects)

  step_alike : (name : List ℕ)
      → ReadsAlike to (stepped_format name first) (stepped_format name second)
  step_alike name = search (rules, step_rejects)

-- ---- tuples

-- two elements, as a pair
abbrev pub as_pair : {A B : Type 0} → A × (B × Unit {0}) → A × B
as_pair v = (v.0, v.1.0)

-- three elements, as a triple
abbrev pub as_triple : {A B C : Type 0} → A × (B × (C × Unit {0})) → A × B × C
as_triple v = (v.0, v.1.0, v.1.1.0)

by_three : {A B C : Type 0} {first : Format (A × (B × (C × Unit {0})))}
    {second : Format (A × (B × C))}
    → ReadsAlike (λ (v : A × (B × (C × Unit {0}))). (v.0, (v.1.0, v.1.1.0))) first second
    → ReadsAlike as_triple first (format_by three second)
by_three h = record {
  onto = λ w. ((w.0, (w.1, (w.2, tt))), refl);
  read = h.read;
  reads = h.reads;
  rejected = h.rejected;
  rejects = h.rejects;
  begun = h.begun;
  begins = h.begins;
  owned = h.owned;
  takes_memory = h.takes_memory;
}

pub two_alike : {A B : Type 0} (a : Promise A) (b : Promise B)
    → PromisesAlike as_pair (typed_elements (element_before a (element_before b no_element)))
    (typed_pair a b)
two_alike a b = record {
  format = step_alike (after_alike (pair_alike (last_alike (part_of b)) (part_of a)) 2)
      (codes "tuple");
  exact = ap (λ x. a.exact && x) (and_true b.exact);
  known = refl;
}

pub three_alike : {A B C : Type 0} (a : Promise A) (b : Promise B) (c : Promise C)
    → PromisesAlike as_triple
    (typed_elements (element_before a (element_before b (element_before c no_element))))
    (typed_triple a b c)
three_alike a b c = record {
  format = step_alike (after_alike
      (by_three (pair_alike (pair_alike (last_alike (part_of c)) (part_of b)) (part_of a))) 3)
      (codes "tuple");
  exact = ap (λ x. a.exact && (b.exact && x)) (and_true c.exact);
  known = refl;
}
