-- Units and tuples.
use Rattle.std.proofs.Common.{◌≡◌, ℕ, ◌+◌, List, [], ◌∷◌, take, drop, Bool, true, false, sym, ◌∙◌}
use Rattle.std.proofs.Common.{subst, arith}
use Rattle.std.proofs.lemmas.List.{length-drop}
use Rattle.std.specs.Prelude.{◌||◌, ◌≢◌, ◌⊎◌, Option, Some, None, codes}
use Rattle.cbor4ii_rw.specs.declared.error.Len.{Len}
use Rattle.cbor4ii_rw.specs.declared.error.Len.TheVariants.{Small, Indefinite}
use Rattle.cbor4ii_items.specs.Decoding.{Reads, RejectsAt, Format, IsLawful, leaf_format}
use Rattle.cbor4ii_items.specs.Decoding.{format_by}
use Rattle.cbor4ii_items.specs.InputError.{InputError, eof, mismatch, require_length, len_of}
use Rattle.cbor4ii_items.specs.Lengths.{ReadsLength, RejectsLength}
use Rattle.cbor4ii_items.specs.Heads.{ReadsHead}
use Rattle.cbor4ii_items.specs.Laws.Heads.{head_one, head_read}
use Rattle.cbor4ii_items.specs.Sequences.{ReadsPair, SamePair, RejectsPair, pair_format}
use Rattle.cbor4ii_items.specs.Laws.Sequences.{pair_lawful, one_byte}
use Rattle.cbor4ii_items.specs.Laws.Formats.{lawful_by}
use Rattle.cbor4ii.specs.Sequence.{four_small}
use Rattle.cbor4ii.specs.Typed.{IsLawfulReading, reading_format, laws_of, any_two, not_exact}

-- an array of no item, in one byte
abbrev pub ReadsUnit : List ℕ → Unit {0} → ℕ → ℕ → Type 0
ReadsUnit xs v n c = (take 1 xs ≡ 0x80 ∷ []) × (n ≡ 1) × (c ≡ 0)

-- no byte is left, or the first one is another than that of an empty array, and is taken
abbrev pub RejectsUnit : RejectsAt
RejectsUnit [] budget err rest = (err ≡ eof (codes "unit") (Small 1)) × (rest ≡ [])
RejectsUnit (b ∷ bs) budget err rest =
    (b ≢ 0x80) × (err ≡ mismatch (codes "unit") b) × (rest ≡ bs)

pub unit_laws : IsLawfulReading ReadsUnit any_two true
unit_laws = record {
  one = λ xs v w n m c d p q. (p.1 ∙ sym q.1, p.2 ∙ sym q.2, tt);
  within = λ xs v n c p. omega (arith, p.1, one_byte xs 0x80 p.0);
  positive = λ e xs v n c p. omega (arith, p.1);
  alone = not_exact;
}

-- the head of an array of so many items, and what follows it
pub record ReadsAfter {V : Type 0} (count : ℕ) (reads : List ℕ → V → ℕ → ℕ → Type 0) (xs : List ℕ)
    (v : V) (n c : ℕ) : Type 0 where
  pub before : ℕ
  pub head : ReadsHead 4 8 xs count before
  pub between : ℕ
  pub parts : reads (drop before xs) v between c
  pub size : n ≡ before + between

-- two parts with the laws of reading have them together, one after the other
pub pair_laws : {A B : Type 0} (first : List ℕ → A → ℕ → ℕ → Type 0)
    (second : List ℕ → B → ℕ → ℕ → Type 0) (same_first : A → A → Type 0)
    (same_second : B → B → Type 0) (some_first some_second : Bool)
    → IsLawfulReading first same_first some_first → IsLawfulReading second same_second some_second
    → IsLawfulReading (ReadsPair first second) (SamePair same_first same_second)
    (some_first || some_second)
pair_laws first second same_first same_second some_first some_second h k =
    laws_of (pair_lawful (reading_format first same_first some_first)
    (reading_format second same_second some_second) h k)

-- a length, as an error reports it
abbrev pub known_length : Option ℕ → Len
known_length None = Indefinite
known_length (Some count) = len_of count

-- the head of an array of so many items
abbrev pub ReadsCountOf : ℕ → List ℕ → Unit {0} → ℕ → ℕ → Type 0
ReadsCountOf count xs v n c = ReadsHead 4 8 xs count n × (c ≡ 0)

-- the length of an array is another, and its head is taken
pub record OtherLength (count : ℕ) (xs : List ℕ) (err : InputError) (rest : List ℕ) : Type 0 where
  pub found : Option ℕ
  pub size : ℕ
  pub cost : ℕ
  pub head : ReadsLength 4 xs found size cost
  pub other : found ≡ Some count → ⊥
  pub rejected : err ≡ require_length (codes "tuple") (known_length found)
  pub left : rest ≡ drop size xs

-- an array's head is rejected, or its length is another, and its head is taken
abbrev pub RejectsCountOf : ℕ → RejectsAt
RejectsCountOf count xs budget err rest =
    RejectsLength (codes "array") 4 xs budget err rest ⊎ OtherLength count xs err rest

abbrev pub container_head_format : ℕ → Format (Unit {0})
container_head_format count = leaf_format (ReadsCountOf count) (RejectsCountOf count)

-- the head of an array of so many items, and what follows it
abbrev pub after_format : {V : Type 0} → ℕ → Format V → Format V
after_format count s = record {
  reads = ReadsAfter count s.reads;
  same = s.same;
  rejects = RejectsPair (ReadsCountOf count) (RejectsCountOf count) s.rejects;
  begins = RejectsPair (ReadsCountOf count) (RejectsCountOf count) s.begins;
  never_empty = true;
  owned = s.owned;
  takes_memory = s.takes_memory;
  closed = false;
}

pub after_lawful : {V : Type 0} (count : ℕ) (s : Format V) → IsLawful s
    → IsLawful (after_format count s)
after_lawful count s h = record {
  one = λ xs v w n m c d p q. (
      let i = (head_one 4 8 xs count count p.before q.before four_small p.head q.head).0 in
      let e = h.one (drop q.before xs) v w p.between q.between c d
      (subst (λ j. s.reads (drop j xs) v p.between c) i p.parts) q.parts in
      (omega (arith, i, p.size, q.size, e.0), e.1, e.2));
  within = λ xs v n c p. (
      let i = head_read [] 4 8 xs count p.before four_small p.head in
      omega (
        arith,
        i.1,
        p.size,
        length-drop p.before xs,
        h.within (drop p.before xs) v p.between c p.parts,
      ));
  positive = λ e xs v n c p. (
      let i = head_read [] 4 8 xs count p.before four_small p.head in
      omega (arith, i.2, p.size));
  alone = not_exact;
}

-- ---- three parts

abbrev pub three : {A B C : Type 0} → A × B × C → A × (B × C)
three t = (t.0, (t.1, t.2))

abbrev pub ReadsTriple : {A B C : Type 0} → Reads A → Reads B → Reads C → Reads (A × B × C)
ReadsTriple first second third xs t = ReadsPair first (ReadsPair second third) xs (three t)

-- three parts, one after another
abbrev pub triple_format : {A B C : Type 0} → Format A → Format B → Format C
    → Format (A × B × C)
triple_format a b c = format_by three (pair_format a (pair_format b c))

pub triple_lawful : {A B C : Type 0} (a : Format A) (b : Format B) (c : Format C)
    → IsLawful a → IsLawful b → IsLawful c → IsLawful (triple_format a b c)
triple_lawful a b c f g h =
    lawful_by three (pair_format a (pair_format b c))
    (pair_lawful a (pair_format b c) f (pair_lawful b c g h))
