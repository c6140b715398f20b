-- How an accessor goes over the parts of an array or a map.
use Rattle.std.specs.Prelude.{◌≡◌, ℕ, zero, suc, ◌+◌, ◌-◌, ◌<◌, ◌≤◌, ◌⊎◌, Bool, true, false, not}
use Rattle.std.specs.Prelude.{if◌then◌else◌, Option, Some, None, Result, Ok, Err, ◌≢◌}
use Rattle.std.specs.Prelude.{IfOk, OnErr, OnSome}
use Rattle.cbor4ii_rw.specs.View.{View}
use Rattle.cbor4ii_rw.specs.Reader.{StepsIn, KeepsAllButBudget, step_back}
use Rattle.cbor4ii_rw.specs.declared.error.DecodeError.{DecodeError}
use Rattle.cbor4ii_items.specs.Moves.{Kept, Moves}
use Rattle.cbor4ii_items.specs.Decoding.{Reads, RejectsAt, Sound, Format, Decodes}
use Rattle.cbor4ii_items.specs.Decoding.{looking_format}
use Rattle.cbor4ii_items.specs.Containers.{SameOption}
use Rattle.cbor4ii_items.specs.Lengths.{ReadsLength}
use Rattle.cbor4ii_items.specs.Strings.{ReadsBreak, RejectsBreak}
use Rattle.cbor4ii.specs.declared.serde.de.deserializer.Deserializer.{Deserializer}
use Rattle.cbor4ii.specs.declared.serde.de.accessor.Accessor.{Accessor}
use Rattle.cbor4ii.specs.declared.serde.de.accessor.Left.{Left}
use Rattle.cbor4ii.specs.declared.serde.de.accessor.Left.TheVariants.{Definite, Indefinite, Ended}

-- what the reader under an accessor reports
abbrev pub inside : {S E : Type 0} → (S → View) → Accessor S E → View
inside view accessor = view accessor.de.now.reader

-- the deserializer that the parts are read from
abbrev pub deserializer_of : {S E : Type 0} → Accessor S E → Deserializer S
deserializer_of accessor = accessor.de.now

-- which reference an accessor holds to its deserializer
abbrev pub deserializer_name : {S E : Type 0} → Accessor S E → ℕ
deserializer_name accessor = accessor.de.ghost_name

-- what is still to be read
abbrev pub left_in : {S E : Type 0} → Accessor S E → Left
left_in accessor = accessor.left

-- the steps that an accessor holds: its own, and that of the enum whose content it reads
abbrev pub steps_held : {S E : Type 0} → Accessor S E → ℕ
steps_held accessor = if accessor.nested then 2 else 1

-- an accessor whose deserializer is this one
abbrev pub with_deserializer : {S E : Type 0} → Accessor S E → Deserializer S → Accessor S E
with_deserializer accessor last = record accessor { de = record accessor.de { now = last } }

-- what is left of an array or a map after its head, by the length that this gives
abbrev pub left_after : Option ℕ → Left
left_after None = Indefinite
left_after (Some count) = Definite count

-- A step was taken, and then the head of an array or a map: so much is left of it.
pub record OpensParts (major : ℕ) (old new : View) (left : Left) : Type 0 where
  pub within : View
  pub step : StepsIn old.budget within.budget true
  pub others : KeepsAllButBudget old within
  pub kept : Kept within new
  pub progress : new.bound + 1 ≤ old.bound
  pub length : Option ℕ
  pub head : Sound (ReadsLength major) within new length
  pub begun : left ≡ left_after length

-- where the answer is an error, it is one that this format gives
abbrev pub RejectedAs : {U V E : Type 0} → Format U → View → View → Result V (DecodeError E) →
    Type 0
RejectedAs s old new (Ok v) = Unit {0}
RejectedAs s old new (Err error) = Decodes s old new (Err error)

-- the budget with so many steps given back
abbrev pub steps_back : ℕ → Option ℕ → Option ℕ
steps_back zero budget = budget
steps_back (suc k) budget = step_back (steps_back k budget)

-- the steps that were held are given back, and nothing else moves
pub record Closes (held : ℕ) (old new : View) : Type 0 where
  pub budget : new.budget ≡ steps_back held old.budget
  pub others : KeepsAllButBudget old new

-- a call, and then the steps that were held are given back
pub record Finishes {V E : Type 0} (held : ℕ) (old new : View)
    (answer : Result V (DecodeError E)) : Type 0 where
  pub within : View
  pub moves : Moves old within answer
  pub closes : Closes held within new

-- Where parts are counted, one comes while some are left. Where the length is indefinite, one comes
-- before another byte than a break; the break is taken, and after it none comes.
-- It is read whether a part comes, by what is left.
abbrev pub ReadsStart : Left → Reads Bool
ReadsStart (Definite zero) xs true n c = ⊥
ReadsStart (Definite zero) xs false n c = (n ≡ 0) × (c ≡ 0)
ReadsStart (Definite (suc k)) xs true n c = (n ≡ 0) × (c ≡ 0)
ReadsStart (Definite (suc k)) xs false n c = ⊥
ReadsStart Indefinite xs more n c = ReadsBreak xs (not more) n c
ReadsStart Ended xs true n c = ⊥
ReadsStart Ended xs false n c = (n ≡ 0) × (c ≡ 0)

-- a part may still come: some are counted, or the break was not taken yet
abbrev pub MayGoOn : Left → Type 0
MayGoOn (Definite k) = 1 ≤ k
MayGoOn Indefinite = Unit {0}
MayGoOn Ended = ⊥

-- whether a part comes is not read: no byte is left where a part or a break should come
abbrev pub RejectsStart : Left → RejectsAt
RejectsStart (Definite k) xs budget err rest = ⊥
RejectsStart Indefinite xs budget err rest = RejectsBreak xs budget err rest
RejectsStart Ended xs budget err rest = ⊥

-- what is left after it was read whether a part comes
abbrev pub LeftAfterStart : Left → Left → Bool → Type 0
LeftAfterStart (Definite k) new true = (0 < k) × (new ≡ Definite (k - 1))
LeftAfterStart (Definite k) new false = (k ≡ 0) × (new ≡ Definite 0)
LeftAfterStart Indefinite new true = new ≡ Indefinite
LeftAfterStart Indefinite new false = new ≡ Ended
LeftAfterStart Ended new true = ⊥
LeftAfterStart Ended new false = new ≡ Ended

-- Where parts are counted, one comes while some are left. Where the length is indefinite, a break
-- is the end, and another byte begins a part; after the break nothing is looked at.
-- What comes next is read as a part, or as the end, by what is left.
abbrev pub Next : {V : Type 0} → Reads V → Left → Reads (Option V)
Next reads (Definite zero) xs None n c = (n ≡ 0) × (c ≡ 0)
Next reads (Definite zero) xs (Some v) n c = ⊥
Next reads (Definite (suc k)) xs None n c = ⊥
Next reads (Definite (suc k)) xs (Some v) n c = reads xs v n c
Next reads Indefinite xs None n c = ReadsBreak xs true n c
Next reads Indefinite xs (Some v) n c = ReadsBreak xs false 0 0 × reads xs v n c
Next reads Ended xs None n c = (n ≡ 0) × (c ≡ 0)
Next reads Ended xs (Some v) n c = ⊥

-- the next part is rejected: nothing comes, or what comes is rejected as a part
abbrev pub RejectsElement : RejectsAt → Left → RejectsAt
RejectsElement rejects left xs budget err rest =
    RejectsStart left xs budget err rest
    ⊎ (ReadsStart left xs true 0 0 × rejects xs budget err rest)

-- what is left after the next part, or the end, was read
abbrev pub left_then : {V : Type 0} → Left → Option V → Left
left_then (Definite k) o = Definite (k - 1)
left_then Indefinite None = Ended
left_then Indefinite (Some v) = Indefinite
left_then Ended o = Ended

-- what is left after an error in the next part, which was counted off before it was read
abbrev pub left_tried : Left → Left
left_tried (Definite k) = Definite (k - 1)
left_tried Indefinite = Indefinite
left_tried Ended = Ended

-- a number that falls with each part that reads a byte
abbrev pub fuel : Left → ℕ → ℕ
fuel (Definite count) bound = count
fuel Indefinite bound = bound
fuel Ended bound = 0

-- ---- what calls promise

-- whether a part comes
abbrev pub start_format : Left → Format Bool
start_format left = looking_format (ReadsStart left) (RejectsStart left)

-- the next part, or the end
abbrev pub next_part_format : {V : Type 0} → Left → Format V → Format (Option V)
next_part_format left s = record {
  reads = Next s.reads left;
  same = SameOption s.same;
  rejects = RejectsElement s.rejects left;
  begins = RejectsElement s.begins left;
  never_empty = false;
  owned = s.owned;
  takes_memory = s.takes_memory;
  closed = false;
}

-- What an accessor holds after a call that says whether a part comes.
pub record AccessorStarts {S E F : Type 0} (view : S → View) (old new : Accessor S E)
    (answer : Result Bool F) : Type 0 where
  -- it reads from the same deserializer, and holds the same steps
  pub same_reference : deserializer_name new ≡ deserializer_name old
  pub same_steps : steps_held new ≡ steps_held old
  -- a part that comes is counted off, and a break is taken
  pub left : IfOk answer (λ more. LeftAfterStart (left_in old) (left_in new) more)
  -- an error comes at an indefinite length alone, which stays
  pub asked : OnErr answer (left_in old ≡ Indefinite)
  pub kept : OnErr answer (left_in new ≡ Indefinite)
  -- at a known length the reader is not asked
  pub still : (left_in old ≢ Indefinite) → inside view new ≡ inside view old

-- What an accessor holds after a call that reads the next part.
pub record AccessorGoesOn {S E V F : Type 0} (view : S → View) (old new : Accessor S E)
    (answer : Result (Option V) F) : Type 0 where
  -- it reads from the same deserializer, and holds the same steps
  pub same_reference : deserializer_name new ≡ deserializer_name old
  pub same_steps : steps_held new ≡ steps_held old
  -- the part is counted off, and a break is the end
  pub left : IfOk answer (λ part. left_in new ≡ left_then (left_in old) part)
  -- a rejected part is counted off too, and one comes only where one may
  pub tried : OnErr answer (left_in new ≡ left_tried (left_in old))
  pub asked : OnErr answer (MayGoOn (left_in old))
  -- at the end of definite length the reader is not asked
  pub still : (left_in old ≢ Indefinite) → IfOk answer (λ part. part ≡ None
      → inside view new ≡ inside view old)
  -- with each part less is left
  pub shrinks : IfOk answer (λ part. OnSome part
      (fuel (left_in new) (inside view new).bound + 1
      ≤ fuel (left_in old) (inside view old).bound))

-- how many parts are left, where they are counted
abbrev pub hint : Left → Option ℕ
hint (Definite k) = Some k
hint Indefinite = None
hint Ended = None
