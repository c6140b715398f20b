-- Values that are made of other values, or rejected in words.
use Rattle.std.proofs.Common.{◌≡◌, ◌⊎◌, ℕ, List, drop, Option, Result, Ok, Err, refl}
use Rattle.cbor4ii_items.specs.Decoding.{Reads, RejectsAt, Format, IsLawful}
use Rattle.cbor4ii_items.specs.Budget.{CostFits}
use Rattle.cbor4ii_items.specs.InputError.{InputError}
use Rattle.cbor4ii.specs.Typed.{Promise, format_of, in_words, not_exact}

-- a value is read, and this is made of it; `gives` says what may be
pub record ReadsMade {V W : Type 0} (reads : Reads V) (gives : V → W → Type 0) (xs : List ℕ) (w : W)
    (n c : ℕ) : Type 0 where
  pub part : V
  pub read : reads xs part n c
  pub made : gives part w

-- both are made of values that mean the same
pub record SameMade {V W : Type 0} (same : V → V → Type 0) (gives : V → W → Type 0)
    (first second : W) : Type 0 where
  pub first_part : V
  pub second_part : V
  pub alike : same first_part second_part
  pub first_made : gives first_part first
  pub second_made : gives second_part second

-- what is made of values of this format
abbrev pub made_format : {V W : Type 0} → Format V → (V → W → Type 0)
    → (rejects begins : RejectsAt) → Format W
made_format s gives rejects begins = format_of (ReadsMade s.reads gives) (SameMade s.same gives)
    rejects begins s.owned s.takes_memory

pub made_lawful : {V W : Type 0} (p : Promise V) (gives : V → W → Type 0)
    (rejects begins : RejectsAt) → IsLawful p.format
    → IsLawful (made_format p.format gives rejects begins)
made_lawful p gives rejects begins h = record {
  one = λ xs v w n m c d q r. (
      let e = h.one xs q.part r.part n m c d q.read r.read in (
        e.0,
        e.1,
        record {
          first_part = q.part;
          second_part = r.part;
          alike = e.2;
          first_made = q.made;
          second_made = r.made;
        },
      ));
  within = λ xs w n c q. h.within xs q.part n c q.read;
  positive = λ e xs w n c q. h.positive p.some xs q.part n c q.read;
  alone = not_exact;
}

-- a type whose values are made of those of another, and rejected as they are
abbrev pub made_from : {V W : Type 0} → (V → W → Type 0) → Promise V → Promise W
made_from gives p = record {
  format = made_format p.format gives p.format.rejects p.format.begins;
  exact = p.exact;
  known = p.known;
  reports = p.reports;
  some = refl;
  lawful = λ is. made_lawful p gives p.format.rejects p.format.begins (p.lawful is);
}

-- ---- or rejected in words

-- this is made of the value, and no words reject it
abbrev pub gives_ok : {V W : Type 0} → (V → Result W (List ℕ)) → V → W → Type 0
gives_ok value v w = value v ≡ Ok w

-- a value is whole, and nothing is made of it
pub record RejectsUnmade {V W : Type 0} (reads : Reads V) (value : V → Result W (List ℕ))
    (xs : List ℕ) (budget : Option ℕ) (err : InputError) (rest : List ℕ) : Type 0 where
  pub part : V
  pub count : ℕ
  pub cost : ℕ
  pub read : reads xs part count cost
  pub fits : CostFits cost budget
  pub words : List ℕ
  pub unmade : value part ≡ Err words
  pub is : err ≡ in_words words
  pub left : rest ≡ drop count xs

-- the part's error, or that of a whole part of which nothing is made
abbrev pub RejectsMade : {V W : Type 0} → RejectsAt → Reads V → (V → Result W (List ℕ))
    → RejectsAt
RejectsMade rejects reads value xs budget err rest =
    rejects xs budget err rest ⊎ RejectsUnmade reads value xs budget err rest

-- the part's error where acceptance is exact, or a whole part of which nothing is made
abbrev pub made_rejects : {V W : Type 0} → Format V → (V → Result W (List ℕ)) → RejectsAt
made_rejects s = RejectsMade s.rejects s.reads

-- the part's error over any reader, or a whole part of which nothing is made
abbrev pub made_begins : {V W : Type 0} → Format V → (V → Result W (List ℕ)) → RejectsAt
made_begins s = RejectsMade s.begins s.reads

-- a type whose values are made of those of another, or rejected in words
abbrev pub made_or_rejected : {V W : Type 0} → (V → Result W (List ℕ)) → Promise V → Promise W
made_or_rejected value p = record {
  format = made_format p.format (gives_ok value) (made_rejects p.format value)
      (made_begins p.format value);
  exact = p.exact;
  known = p.known;
  reports = p.reports;
  some = refl;
  lawful = λ is.
      made_lawful p (gives_ok value) (made_rejects p.format value) (made_begins p.format value)
      (p.lawful is);
}
