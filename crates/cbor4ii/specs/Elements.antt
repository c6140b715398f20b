-- Arrays of so many elements that are read in one call, each of a type of its own.
use Rattle.std.proofs.Common.{◌≡◌, ℕ, ◌+◌, List, Bool, true, IsTrue, Option, sym, ◌∙◌, arith, refl}
use Rattle.std.specs.Prelude.{◌&&◌}
use Rattle.cbor4ii_items.specs.Decoding.{Reads, RejectsAt, Format, IsLawful, looking_format}
use Rattle.cbor4ii_items.specs.InputError.{InputError}
use Rattle.cbor4ii_items.specs.Laws.Containers.{both}
use Rattle.cbor4ii_items.specs.Laws.Sequences.{pair_lawful}
use Rattle.cbor4ii_items.specs.Nothing.{RejectsNothing}
use Rattle.cbor4ii_items.specs.Sequences.{pair_format}
use Rattle.cbor4ii.specs.Typed.{Promise, not_exact}
use Rattle.cbor4ii.specs.TypedParts.{part_of, part_lawful, container, tuple_of, tuple_lawful}

-- what elements promise: how many they are, and how they are read in turn, with no head before
pub record Elements (V : Type 0) : Type 1 where
  pub count : ℕ
  pub format : Format V
  -- each of them is exact
  pub exact : Bool
  pub lawful : IsTrue exact → IsLawful format

-- ---- none

-- of any bytes none is taken
abbrev pub ReadsNone : Reads (Unit {0})
ReadsNone xs v n c = (n ≡ 0) × (c ≡ 0)

pub none_lawful : IsLawful (looking_format ReadsNone RejectsNothing)
none_lawful = record {
  one = λ xs v w n m c d p q. (p.0 ∙ sym q.0, p.1 ∙ sym q.1, refl);
  within = λ xs v n c p. omega (arith, p.0);
  positive = not_exact;
  alone = not_exact;
}

-- the elements, where none is left
abbrev pub no_element : Elements (Unit {0})
no_element = record {
  count = 0;
  format = looking_format ReadsNone RejectsNothing;
  exact = true;
  lawful = λ is. none_lawful;
}

-- ---- one and more

-- an element, and those after it
abbrev pub element_before : {T V : Type 0} → Promise T → Elements V → Elements (T × V)
element_before p others = record {
  count = 1 + others.count;
  format = pair_format (part_of p) others.format;
  exact = p.exact && others.exact;
  lawful = λ is.
      (let h = both p.exact others.exact is in
      pair_lawful (part_of p) others.format (part_lawful p h.0) (others.lawful h.1));
}

-- an array of a definite length that counts them, under a step, as a pair and a triple are
abbrev pub typed_elements : {V : Type 0} → Elements V → Promise V
typed_elements e =
    container e.exact (tuple_of e.count e.format) refl
    (λ is. tuple_lawful e.count e.format (e.lawful is))

-- ---- the same, by another type

-- what the first rejects, the second rejects so too
abbrev pub AlsoRejects : RejectsAt → RejectsAt → Type 0
AlsoRejects first second =
    (xs : List ℕ) (budget : Option ℕ) (err : InputError) (rest : List ℕ)
    → first xs budget err rest → second xs budget err rest

-- They read the same bytes at the same cost, one as a value and the other as what `to` makes of it.
-- The two formats read alike, and reject all other bytes alike.
pub record ReadsAlike {V W : Type 0} (to : V → W) (first : Format V) (second : Format W)
    : Type 0 where
  -- each value of the second is made of one of the first
  pub onto : (w : W) → (v : V) × (to v ≡ w)
  pub read : (xs : List ℕ) (v : V) (n c : ℕ) → first.reads xs v n c → second.reads xs (to v) n c
  pub reads : (xs : List ℕ) (v : V) (n c : ℕ) → second.reads xs (to v) n c → first.reads xs v n c
  pub rejected : AlsoRejects first.rejects second.rejects
  pub rejects : AlsoRejects second.rejects first.rejects
  -- the same over any reader
  pub begun : AlsoRejects first.begins second.begins
  pub begins : AlsoRejects second.begins first.begins
  pub owned : first.owned ≡ second.owned
  pub takes_memory : first.takes_memory ≡ second.takes_memory

-- Two types promise the same, one of a value and the other of what `to` makes of it.
pub record PromisesAlike {V W : Type 0} (to : V → W) (first : Promise V) (second : Promise W)
    : Type 0 where
  pub format : ReadsAlike to first.format second.format
  pub exact : first.exact ≡ second.exact
  pub known : first.known ≡ second.known
