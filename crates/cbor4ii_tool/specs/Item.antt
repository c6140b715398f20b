-- The items of each command: which bytes are one, what is written for it, how others are rejected.
use Rattle.std.specs.Prelude.{◌≡◌, ℕ, List, [], ◌∷◌, ◌++◌, length, decimal, Option, Some}
use Rattle.std.specs.List.{flat_map}
use Rattle.cbor4ii_items.specs.InputError.{InputError}
use Rattle.cbor4ii_tree.specs.Basis.Tree.{Tree, bytes}
use Rattle.cbor4ii_tree.specs.Basis.Item.{Item}
use Rattle.cbor4ii_tree.specs.Basis.Canonical.{canonical_encoding}
use Rattle.cbor4ii_tree.specs.Basis.Encodings.{DecodesTo, Skips}
use Rattle.cbor4ii_tree.specs.Calls.CanonicalShape.{DecodesCanonically}
use Rattle.cbor4ii_tree.specs.Calls.CanonicalRejects.{CanonicalRejects}
use Rattle.cbor4ii_tree.specs.Calls.SkippingRejects.{SkippingRejects}
use Rattle.cbor4ii_tree.specs.Calls.ReadingRejects.{ReadingRejects}
use Rattle.cbor4ii_tool.specs.Integer.{IntegerHead, IsIntegerHead, encoding, shortest_encoding}
use Rattle.cbor4ii_tool.specs.Fault.{kind_of_input_error}
use Rattle.cbor4ii_tool.specs.Reading.{RejectsThere}
use Rattle.cbor4ii_tool.specs.declared.command.Command.{Command}
use Rattle.cbor4ii_tool.specs.declared.command.Command.TheVariants.{Ints, Canon, Lens, Strict}
use Rattle.cbor4ii_tool.specs.declared.fault.Kind.{Kind}

-- The text of an integer is the head with the shortest argument, and of a value its canonical
-- encoding. Of an item that is skipped it is its length in bytes, in decimal and with a newline.
-- The item is under this budget of steps.
-- An item of the command begins the input, this text is written for it, and this rest follows it.
abbrev pub Converts : Command → Option ℕ → List ℕ → List ℕ → List ℕ → Type 0
Converts Ints budget input text rest =
    (item : IntegerHead) × IsIntegerHead item × (input ≡ encoding item ++ rest)
    × (text ≡ shortest_encoding item)
Converts Canon budget input text rest =
    (v : Item) × DecodesTo input budget v rest × (text ≡ canonical_encoding v)
Converts Strict budget input text rest =
    (v : Item) × DecodesCanonically input budget v rest × (text ≡ canonical_encoding v)
Converts Lens budget input text rest =
    (t : Tree) × Skips input budget t rest × (text ≡ decimal (length (bytes t)) ++ 10 ∷ [])

-- an item of the command begins the input
abbrev pub BeginsItem : Command → Option ℕ → List ℕ → Type 0
BeginsItem command budget input =
    (text : List ℕ) × (rest : List ℕ) × Converts command budget input text rest

-- an item of the command begins the input, and what follows it is left
abbrev pub ItemIsTaken : Command → Option ℕ → List ℕ → Option (List ℕ) → Type 0
ItemIsTaken command budget input left =
    (text : List ℕ) × (rest : List ℕ) × Converts command budget input text rest
    × (left ≡ Some rest)

-- the input is rejected by an error of this kind
abbrev pub RejectsAs : Command → Option ℕ → Kind → List ℕ → Type 0
RejectsAs Ints budget kind input = RejectsThere kind input
RejectsAs Canon budget kind input =
    (e : InputError) × (left : List ℕ) × ReadingRejects input budget e left ×
    (kind ≡ kind_of_input_error e)
RejectsAs Strict budget kind input =
    (e : InputError) × (left : List ℕ) × CanonicalRejects input budget e left
    × (kind ≡ kind_of_input_error e)
RejectsAs Lens budget kind input =
    (e : InputError) × (left : List ℕ) × SkippingRejects input budget e left
    × (kind ≡ kind_of_input_error e)

-- the items of the command are values, for which memory is taken
abbrev pub TakesMemory : Command → Type 0
TakesMemory Canon = Unit {0}
TakesMemory Strict = Unit {0}
TakesMemory _ = ⊥

-- Each item is under this budget of steps.
-- The input is items, one after another, for which these texts are written, and then the rest.
abbrev pub IsRow : Command → Option ℕ → List (List ℕ) → List ℕ → List ℕ → Type 0
IsRow command budget [] input rest = input ≡ rest
IsRow command budget (text ∷ texts) input rest =
    (left : List ℕ) × Converts command budget input text left
    × IsRow command budget texts left rest

-- the texts, one after another
abbrev pub together : List (List ℕ) → List ℕ
together texts = flat_map (λ (text : List ℕ). text) texts
