-- An array of no item or one is read as its item is.
use Rattle.std.proofs.Common.{◌≡◌, ℕ, ◌≤◌, List, [], ◌++◌, length, drop, take, Option, Some, None}
use Rattle.std.proofs.Common.{Bool, true, IsTrue, sym, ◌∙◌, subst, arith, rules}
use Rattle.std.proofs.lemmas.List.{length-drop}
use Rattle.cbor4ii_items.specs.Containers.{SameOption}
use Rattle.cbor4ii_items.specs.Heads.{ReadsHead}
use Rattle.cbor4ii_items.specs.Laws.Heads.{head_one, head_read, head_alone}
use Rattle.cbor4ii_items.specs.Maybe.{ReadsMaybe, RejectsMaybe}
use Rattle.cbor4ii_items.specs.Laws.Lawful.{IsOneReading, StaysWithin, head_kept}
use Rattle.cbor4ii_items.specs.Decoding.{Reads, Format, IsLawful}
use Rattle.cbor4ii_items.specs.declared.types.Maybe.{Maybe}

-- an array has one count
pub two_counts : {A : Type 0} (xs : List ℕ) (n m : ℕ) → ReadsHead 4 8 xs 0 n → ReadsHead 4 8 xs 1 m
    → A
two_counts xs n m p q =
    let h = head_one 4 8 xs 0 1 n m (omega arith) p q in absurd (omega (arith, h.1))

module _ {V : Type 0} (reads : Reads V) where
  pub maybe_one : (same : V → V → Type 0) → IsOneReading reads same
      → (xs : List ℕ) (v w : Option V) (n m c d : ℕ) → ReadsMaybe reads xs v n c
      → ReadsMaybe reads xs w m d → (n ≡ m) × (c ≡ d) × SameOption same v w
  maybe_one same one xs None None n m c d p q =
      let h = head_one 4 8 xs 0 0 n m (omega arith) p.0 q.0 in (h.0, p.1 ∙ sym q.1, tt)
  maybe_one same one xs None (Some w) n m c d p q = two_counts xs n q.before p.0 q.head
  maybe_one same one xs (Some v) None n m c d p q = two_counts xs m p.before q.0 p.head
  maybe_one same one xs (Some v) (Some w) n m c d p q =
      let h = head_one 4 8 xs 1 1 p.before q.before (omega arith) p.head q.head in
      let o = one (drop p.before xs) v w p.count q.count c d p.item
      (subst (λ k. reads (drop k xs) w q.count d) (sym h.0) q.item) in
      (omega (arith, p.bytes, q.bytes, h.0, o.0), o.1, o.2)

  pub maybe_within : StaysWithin reads → (xs : List ℕ) (v : Option V) (n c : ℕ)
      → ReadsMaybe reads xs v n c → n ≤ length xs
  maybe_within within xs None n c p = (head_read [] 4 8 xs 0 n (omega arith) p.0).1
  maybe_within within xs (Some v) n c p = search (rules, head_read, length-drop)

  pub maybe_positive : (xs : List ℕ) (v : Option V) (n c : ℕ) → ReadsMaybe reads xs v n c → 1 ≤ n
  maybe_positive xs None n c p = (head_read [] 4 8 xs 0 n (omega arith) p.0).2
  maybe_positive xs (Some v) n c p =
      omega (arith, p.bytes, (head_read [] 4 8 xs 1 p.before (omega arith) p.head).2)

  pub maybe_alone : (closed : Bool) → (IsTrue closed → (xs ys : List ℕ) (v : V) (n c : ℕ)
      → reads xs v n c → reads (take n xs ++ ys) v n c) → IsTrue closed
      → (xs ys : List ℕ) (v : Option V) (n c : ℕ) → ReadsMaybe reads xs v n c
      → ReadsMaybe reads (take n xs ++ ys) v n c
  maybe_alone closed alone e xs ys None n c p = (head_alone 4 8 xs ys 0 n p.0, p.1)
  maybe_alone closed alone e xs ys (Some v) n c p =
      let h = head_kept 4 8 xs ys 1 p.before p.count n (omega arith) p.head p.bytes in
      record {
        before = p.before;
        head = h.0;
        count = p.count;
        item = subst (λ zs. reads zs v p.count c) (sym h.1)
            (alone e (drop p.before xs) ys v p.count c p.item);
        bytes = p.bytes;
      }

abbrev pub maybe_format : {V : Type 0} → Format V → Format (Maybe (Option V))
maybe_format s = record {
  reads = λ xs v. ReadsMaybe s.reads xs v.0;
  same = λ v w. SameOption s.same v.0 w.0;
  rejects = RejectsMaybe s.rejects;
  begins = RejectsMaybe s.begins;
  never_empty = true;
  owned = s.owned;
  takes_memory = s.takes_memory;
  closed = s.closed;
}

pub maybe_lawful : {V : Type 0} (s : Format V) → IsLawful s → IsLawful (maybe_format s)
maybe_lawful s h = record {
  one = λ xs v w. maybe_one s.reads s.same h.one xs v.0 w.0;
  within = λ xs v. maybe_within s.reads h.within xs v.0;
  positive = λ some xs v. maybe_positive s.reads xs v.0;
  alone = λ e xs ys v. maybe_alone s.reads s.closed h.alone e xs ys v.0;
}
