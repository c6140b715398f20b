-- A value that may be absent, of which first is read whether it comes.
use Rattle.std.specs.Prelude.{◌≡◌, ℕ, ◌+◌, ◌≤◌, Bool, true, false, if◌then◌else◌, length, Option}
use Rattle.std.specs.Prelude.{Some, None, codes}
use Rattle.cbor4ii_rw.specs.View.{View}
use Rattle.cbor4ii_rw.specs.Reader.{StepsIn, KeepsAllButBudget}
use Rattle.cbor4ii_items.specs.Moves.{Kept}
use Rattle.cbor4ii_items.specs.Decoding.{Reads, RejectsAt, Sound, Format, looking_format}
use Rattle.cbor4ii_items.specs.Nothing.{RejectsNothing}
use Rattle.cbor4ii_items.specs.Containers.{BeginsNull, ReadsOption, RejectsOption}
use Rattle.cbor4ii.specs.declared.serde.de.deserializer.Deserializer.{Deserializer}
use Rattle.cbor4ii.specs.declared.serde.de.some_accessor.SomeAccessor.{SomeAccessor}
use Rattle.cbor4ii.specs.Elements.{ReadsNone}
use Rattle.cbor4ii.specs.Stepped.{Stepped, RejectsStepped}

-- what the reader under an accessor reports
abbrev pub inside_some : {S E : Type 0} → (S → View) → SomeAccessor S E → View
inside_some view accessor = view accessor.de.now.reader

-- the deserializer that the value is read from
abbrev pub deserializer_of_some : {S E : Type 0} → SomeAccessor S E → Deserializer S
deserializer_of_some accessor = accessor.de.now

-- which reference an accessor holds to its deserializer
abbrev pub some_accessor_name : {S E : Type 0} → SomeAccessor S E → ℕ
some_accessor_name accessor = accessor.de.ghost_name

-- whether a value comes
abbrev pub comes : {S E : Type 0} → SomeAccessor S E → Bool
comes accessor = accessor.some

-- an accessor whose deserializer is this one
abbrev pub with_value_from : {S E : Type 0} → SomeAccessor S E → Deserializer S → SomeAccessor S E
with_value_from accessor last = record accessor { de = record accessor.de { now = last } }

-- the steps that an accessor holds: one where a value comes
abbrev pub steps_of_some : Bool → ℕ
steps_of_some some = if some then 1 else 0

-- null or undefined, or another byte under one step, after which the value is still to be read
abbrev pub ReadsPresence : Reads (Option (Unit {0}))
ReadsPresence = ReadsOption (Stepped ReadsNone)

-- whether a value comes is not read: no byte is left, or no step where a value comes
abbrev pub RejectsPresence : RejectsAt
RejectsPresence = RejectsOption (RejectsStepped (codes "option") RejectsNothing)

-- whether a value comes: null and undefined are none, and another byte takes a step
abbrev pub presence_format : Format (Option (Unit {0}))
presence_format = looking_format ReadsPresence RejectsPresence

-- whether a value comes: null and undefined are taken, and another byte stays
abbrev pub ReadsComing : Reads Bool
ReadsComing xs true n c = (BeginsNull xs → ⊥) × (1 ≤ length xs) × (n ≡ 0) × (c ≡ 0)
ReadsComing xs false n c = BeginsNull xs × (n ≡ 1) × (c ≡ 0)

-- where a value comes a step is taken
abbrev pub HoldsStep : Bool → View → View → Type 0
HoldsStep true old new = StepsIn old.budget new.budget true × KeepsAllButBudget old new
HoldsStep false old new = new ≡ old

-- It was read whether a value comes, and where one does a step was taken.
pub record OpensOption (old new : View) (some : Bool) : Type 0 where
  pub within : View
  pub kept : Kept old within
  pub coming : Sound ReadsComing old within some
  pub progress : some ≡ false → within.bound + 1 ≤ old.bound
  pub held : HoldsStep some within new

-- what is read after it was read whether a value comes: the value, or nothing
abbrev pub ReadsComingValue : {V : Type 0} → Bool → Reads V → Reads (Option V)
ReadsComingValue true reads xs (Some v) n c = reads xs v n c
ReadsComingValue true reads xs None n c = ⊥
ReadsComingValue false reads xs (Some v) n c = ⊥
ReadsComingValue false reads xs None n c = (n ≡ 0) × (c ≡ 0)
