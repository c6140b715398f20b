-- What the program makes of its words.
use Rattle.std.specs.Prelude.{◌≡◌, ◌↔◌, ℕ, List, [], ◌∷◌, map, codes, string_bytes}
use Rattle.std.specs.Prelude.{Option, Some, String}
use Rattle.std.specs.declared.alloc.Global.{Global}
use Rattle.cbor4ii_rw.specs.View.{View, IfKnown}
use Rattle.cbor4ii_tool.specs.Run.{RunsOver}
use Rattle.cbor4ii_tool.specs.Fault.{Outcome, status_of}
use Rattle.cbor4ii_tool.specs.declared.command.Command.{Command}
use Rattle.cbor4ii_tool.specs.declared.command.Command.TheVariants.{Ints, Canon, Lens, Strict}

-- the words are one, the command's
abbrev pub Names : List (String Global) → Command → Type 0
Names words Ints = map string_bytes words ≡ codes "ints" ∷ []
Names words Canon = map string_bytes words ≡ codes "canon" ∷ []
Names words Lens = map string_bytes words ≡ codes "lens" ∷ []
Names words Strict = map string_bytes words ≡ codes "strict" ∷ []

-- the words name no command
abbrev pub NamesNone : List (String Global) → Type 0
NamesNone words = (command : Command) → ¬ (Names words command)

-- a reader over these bytes, of which none was taken, with 256 steps
pub record IsFreshOver (bytes : List ℕ) (reader : View) : Type 0 where
  pub known : reader.known ≡ Some bytes
  pub taken : reader.taken ≡ Some 0
  pub budget : reader.budget ≡ Some 256

-- The run is over a reader that opens these bytes, after what the output held.
-- A run of the command may have this outcome.
abbrev pub MayEnd : Command → List ℕ → Option (List ℕ) → Outcome → Type 0
MayEnd command bytes held outcome = (old : View) × IsFreshOver bytes old × (new : View)
    × (holds : Option (List ℕ)) × RunsOver command bytes old new held holds outcome

-- Where the input is known, a run of the command over it may have that outcome, after what the
-- output held.
-- The status of the command is that of an outcome, 0 or 1.
abbrev pub EndsIn : Command → Option (List ℕ) → Option (List ℕ) → ℕ → Type 0
EndsIn command input held status = (outcome : Outcome) × (status ≡ status_of outcome)
    × IfKnown input (λ bytes. MayEnd command bytes held outcome)

-- the choice is the command that the words name, if any
abbrev pub Chooses : List (String Global) → Option Command → Type 0
Chooses words choice = (command : Command) → (choice ≡ Some command) ↔ Names words command
