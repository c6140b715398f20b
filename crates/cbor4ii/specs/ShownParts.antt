-- Parts that a look shows, put after those that there were.
use Rattle.std.specs.Prelude.{◌≡◌, ℕ, ◌≤◌, ◌++◌, List, length, Bool, Result, Ok, Err, MatchBool}
use Rattle.cbor4ii_rw.specs.View.{View}
use Rattle.cbor4ii_items.specs.Decoding.{Reads, Sound}
use Rattle.cbor4ii_items.specs.Moves.{Kept, ReaderFailed}
use Rattle.cbor4ii_items.specs.Sequences.{ReadsElements}

-- the parts put stand one after another in the first n of the shown bytes, whatever follows
pub record PutsParts {P : Type 0} (reads : Reads P) (shown : List ℕ) (steps : ℕ)
    (before after : List P) (n : ℕ) : Type 0 where
  pub parts : List P
  pub added : after ≡ before ++ parts
  pub within : n ≤ length shown
  pub cost : ℕ
  pub fits : cost ≤ steps
  pub read : (rest : List ℕ) → ReadsElements reads (shown ++ rest) parts n cost

-- the parts put stand in the bytes that were taken
pub record TookParts {P : Type 0} (reads : Reads P) (old new : View)
    (before after : List P) : Type 0 where
  pub kept : Kept old new
  pub parts : List P
  pub added : after ≡ before ++ parts
  pub sound : Sound (ReadsElements reads) old new parts

-- the parts that a look shows were taken, or there was no memory for one, or the reader failed
abbrev pub TakesParts : {P E : Type 0} → Reads P → View → View → List P → List P → Result Bool E
    → Type 0
TakesParts reads old new before after (Ok has_memory) =
    MatchBool has_memory (TookParts reads old new before after) (Kept old new)
TakesParts reads old new before after (Err e) = ReaderFailed old new
