-- What the parts of a run promise each other.
use Rattle.std.specs.Prelude.{◌≡◌, ℕ, ◌+◌, ◌≤◌, ◌⊎◌, List, length, drop, Bool, true, Option, Some}
use Rattle.std.specs.Prelude.{Ok, Err, IfSome}
use Rattle.cbor4ii_rw.specs.View.{View, IfKnown}
use Rattle.cbor4ii_rw.specs.Reader.{Failed, counts}
use Rattle.cbor4ii_rw.specs.Writer.{Output, Appends, one_more}
use Rattle.cbor4ii_items.specs.Moves.{Kept, EndsOrForgets}
use Rattle.cbor4ii_tool.specs.Item.{Converts, BeginsItem, ItemIsTaken, RejectsAs, TakesMemory}
use Rattle.cbor4ii_tool.specs.Item.{IsRow, together}
use Rattle.cbor4ii_tool.specs.Run.{FailedOrCounted}
use Rattle.cbor4ii_tool.specs.Fault.{Outcome}
use Rattle.cbor4ii_tool.specs.declared.command.Command.{Command}
use Rattle.cbor4ii_tool.specs.declared.fault.Kind.{Kind}
use Rattle.cbor4ii_tool.specs.declared.fault.Kind.TheVariants.{Read, OutOfMemory, Write}

-- ---- the reader

-- The budget is as before, and unless the reader failed, what was taken is counted.
-- What is left is an end of what was left before.
pub record Leaves (old new : View) : Type 0 where
  pub budget : new.budget ≡ old.budget
  pub rest : EndsOrForgets old.known new.known
  pub counted : FailedOrCounted old new

-- so many bytes in all, where they are counted, were taken or are among these
abbrev pub StandUpTo : ℕ → Option ℕ → List ℕ → Type 0
StandUpTo seen taken xs = IfSome taken (λ before. seen ≤ before + length xs)

-- so many bytes were seen, and each was taken or is still to come
abbrev pub Saw : ℕ → View → View → Type 0
Saw seen old now = IfKnown old.known (λ input. IfKnown now.known (StandUpTo seen now.taken))

-- ---- one item

-- the item that begins the bytes was taken, and its text written
pub record Converted (command : Command) (budget : Option ℕ) (xs : List ℕ)
    (left held holds : Option (List ℕ)) : Type 0 where
  pub text : List ℕ
  pub rest : List ℕ
  pub left_is : left ≡ Some rest
  pub converts : Converts command budget xs text rest
  pub written : Appends text held holds

-- an item was taken, and its text written
pub record Done (command : Command) (old new : View) (held holds : Output) : Type 0 where
  pub kept : Kept old new
  pub bound : new.bound + 1 ≤ old.bound
  pub failures : holds.failures ≡ held.failures
  pub item : IfKnown old.known
      (λ xs. Converted command old.budget xs new.known held.written holds.written)

-- The reader or the writer failed, there was no memory, or the bytes begin none; where the writer
-- failed, the item was taken.
-- Why the item that begins the bytes was not converted.
abbrev pub Fails : Command → Kind → View → View → Output → Output → Type 0
Fails command Read old new held holds = Failed old.failures new.failures × (holds ≡ held)
Fails command Write old new held holds =
    Failed held.failures holds.failures × (new.failures ≡ old.failures)
    × IfKnown old.known (λ xs. ItemIsTaken command old.budget xs new.known)
Fails command OutOfMemory old new held holds =
    TakesMemory command × (new.failures ≡ old.failures) × (holds ≡ held)
Fails command kind old new held holds =
    (new.failures ≡ old.failures) × (holds ≡ held)
    × IfKnown old.known
    (λ xs. RejectsAs command old.budget kind xs × ¬ (BeginsItem command old.budget xs))

-- ---- many items

-- the input was a row of items up to what is left, and their texts were written
pub record RanOver (command : Command) (input : List ℕ) (old now : View)
    (held holds : Option (List ℕ)) : Type 0 where
  pub texts : List (List ℕ)
  pub rest : List ℕ
  pub count : ℕ
  pub left_is : now.known ≡ Some rest
  pub taken_is : now.taken ≡ counts count old.taken
  pub rest_is : rest ≡ drop count input
  pub sum : count + length rest ≡ length input
  pub row : IsRow command old.budget texts input rest
  pub written : Appends (together texts) held holds

-- what the loop keeps
pub record Ran (command : Command) (old new : View) (held holds : Output) : Type 0 where
  pub budget : new.budget ≡ old.budget
  pub failures : new.failures ≡ old.failures
  pub unfailing : holds.failures ≡ held.failures
  pub over : IfKnown old.known (λ input. RanOver command input old new held.written holds.written)

-- the reader failed where the kind is `Read`, the writer where it is `Write`, and only there
abbrev pub FailsAt : Kind → View → View → Output → Output → Type 0
FailsAt Read old new held holds =
    Failed old.failures new.failures × (holds.failures ≡ held.failures)
FailsAt Write old new held holds =
    (new.failures ≡ old.failures) × Failed held.failures holds.failures
FailsAt _ old new held holds = (new.failures ≡ old.failures) × (holds.failures ≡ held.failures)

abbrev pub MovesFailures : Outcome → View → View → Output → Output → Type 0
MovesFailures (Ok _) old new held holds =
    (new.failures ≡ old.failures) × (holds.failures ≡ held.failures)
MovesFailures (Err fault) old new held holds = FailsAt fault.kind old new held holds

-- ---- the flush

-- where the writer failed first, if its flush fails at so many bytes after what came of the items
abbrev pub first_failure : Kind → ℕ → ℕ → ℕ
first_failure Write first at = first
first_failure _ first at = at

abbrev pub failed_at : Outcome → ℕ → ℕ
failed_at (Ok _) at = at
failed_at (Err fault) at = first_failure fault.kind fault.at at

-- a flush that succeeds leaves the outcome, and one that fails is a failure of the writer
abbrev pub EndsRun : Outcome → Outcome → ℕ → Bool → ℕ → ℕ → Type 0
EndsRun outcome answer at flushed old new =
    ((answer ≡ outcome) × (flushed ≡ true) × (new ≡ old))
    ⊎ ((answer ≡ Err (record { at = failed_at outcome at; kind = Write })) × (new ≡ one_more old))
