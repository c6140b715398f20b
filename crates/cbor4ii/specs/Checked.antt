-- Values that are made of other values by a test, or rejected in its words.
use Rattle.std.proofs.Common.{◌≡◌, ◌⊎◌, ℕ, List, drop, Option, None, Some, Result, Ok, Err, Bool}
use Rattle.std.proofs.Common.{IsTrue, false, refl, ap, subst}
use Rattle.std.specs.Prelude.{◌||◌}
use Rattle.cbor4ii_items.specs.Decoding.{Reads, RejectsAt, IsLawful, Format}
use Rattle.cbor4ii_items.specs.Budget.{CostFits}
use Rattle.cbor4ii_items.specs.InputError.{InputError}
use Rattle.cbor4ii.specs.Codec.{Codec, made_back}
use Rattle.cbor4ii.specs.Made.{ReadsMade, SameMade, made_lawful}
use Rattle.cbor4ii.specs.Typed.{Promise, format_of, in_words, laws_of, lawful_as}
use Rattle.cbor4ii.specs.declared.serde.de.checked.Unmade.{Unmade}
use Rattle.cbor4ii.specs.declared.serde.de.checked.Unmade.TheVariants.{Rejected, OutOfMemory}

-- ---- the test

-- this is made of a value, which no words reject
pub record IsMade {V W : Type 0} (words : V → Option (List ℕ)) (makes : V → W → Type 0) (v : V)
    (w : W) : Type 0 where
  pub passes : words v ≡ None
  pub made : makes v w

-- What a test of a value answers: what is made of it, the words that reject it, or want of memory.
abbrev pub Checks : {V W : Type 0} → (V → Option (List ℕ)) → (V → W → Type 0)
    → (takes_memory : Bool) → V → Result W Unmade → Type 0
Checks words makes takes_memory v (Ok w) = IsMade words makes v w
Checks words makes takes_memory v (Err (Rejected text)) = words v ≡ Some text.now
Checks words makes takes_memory v (Err OutOfMemory) = IsTrue takes_memory

-- ---- what is read by it

-- a value is whole, and its words reject it; all of it is taken
pub record RejectsUnchecked {V : Type 0} (reads : Reads V) (words : V → Option (List ℕ))
    (xs : List ℕ) (budget : Option ℕ) (err : InputError) (rest : List ℕ) : Type 0 where
  pub part : V
  pub count : ℕ
  pub cost : ℕ
  pub read : reads xs part count cost
  pub fits : CostFits cost budget
  pub text : List ℕ
  pub unmade : words part ≡ Some text
  pub is : err ≡ in_words text
  pub left : rest ≡ drop count xs

-- the value's own error, or the words that reject a whole one
abbrev pub RejectsChecked : {V : Type 0} → RejectsAt → Reads V → (V → Option (List ℕ)) → RejectsAt
RejectsChecked rejects reads words xs budget err rest =
    rejects xs budget err rest ⊎ RejectsUnchecked reads words xs budget err rest

abbrev pub checked_format : {V W : Type 0} → Format V → (V → Option (List ℕ))
    → (V → W → Type 0) → (takes_memory : Bool) → Format W
checked_format s words makes takes_memory = format_of (ReadsMade s.reads (IsMade words makes))
    (SameMade s.same (IsMade words makes)) (RejectsChecked s.rejects s.reads words)
    (RejectsChecked s.begins s.reads words) s.owned (s.takes_memory || takes_memory)

pub checked_lawful : {V W : Type 0} (p : Promise V) (words : V → Option (List ℕ))
    (makes : V → W → Type 0) (takes_memory : Bool) → IsLawful p.format
    → IsLawful (checked_format p.format words makes takes_memory)
checked_lawful p words makes takes_memory h = lawful_as (laws_of (made_lawful p
    (IsMade words makes) p.format.rejects p.format.begins h))

-- a type whose values are made of those of another by a test
abbrev pub checked_from : {V W : Type 0} → (V → Option (List ℕ)) → (V → W → Type 0)
    → (takes_memory : Bool) → Promise V → Promise W
checked_from words makes takes_memory p = record {
  format = checked_format p.format words makes takes_memory;
  exact = p.exact;
  known = p.known;
  reports = p.reports;
  some = refl;
  lawful = λ is. checked_lawful p words makes takes_memory (p.lawful is);
}

-- ---- written too

-- the value that it holds is one of the program's, and one that no words reject
pub record StandsChecked {V W : Type 0} (words : V → Option (List ℕ)) (of : W → V)
    (stands : V → Type 0) (w : W) : Type 0 where
  pub held : stands (of w)
  pub passes : words (of w) ≡ None

-- a value, and a proof of a fact of it that has one proof at most: of one value one is made
pub made_alike : {V W : Type 0} {P : V → Type 0} (make : (v : V) → P v → W)
    → ((v : V) → IsProp (P v)) → (v w : V) (p : P v) (q : P w) → v ≡ w → make v p ≡ make w q
made_alike {P = P} make one v w p q same =
    subst (λ u. (r : P u) → make v p ≡ make u r) same (λ r. ap (make v) (one v p r)) q

-- `of` is the value that it holds, and all that it holds: two that hold one value are equal. The
-- test takes no memory. What is written is that value's item, and it is read back where the test
-- passes.
-- How a newtype with a test, and its like, is written and read.
abbrev pub checked_codec : {V W : Type 0} → (V → Option (List ℕ)) → (of : W → V)
    → ((v w : W) → of v ≡ of w → v ≡ w) → Codec V → Codec W
checked_codec words of all c = record {
  promise = checked_from words (λ v w. v ≡ of w) false c.promise;
  encoding = λ w. c.encoding (of w);
  stands = StandsChecked words of c.stands;
  cost = λ w. c.cost (of w);
  facts = c.facts;
  back = λ hold alloc w h. made_back c.promise.format.reads (IsMade words (λ v w. v ≡ of w))
      (c.encoding (of w)) (of w) w (c.cost (of w)) (record { passes = h.passes; made = refl })
      (c.back hold alloc (of w) h.held);
  one = λ hold w h. c.one hold (of w) h.held;
}
