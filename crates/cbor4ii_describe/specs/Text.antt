-- What is written of the parts of a type.
use Rattle.std.specs.Prelude.{◌≡◌, ℕ, List, [], ◌∷◌, ◌++◌, codes, string_bytes, Bool, true, false}
use Rattle.std.specs.Prelude.{Option, None, Some, decimal}
use Rattle.std.specs.declared.string.String.{String}
use Rattle.std.specs.declared.alloc.Global.{Global}
use Rattle.cbor4ii_describe.specs.declared.shape.Described.{Described}
use Rattle.cbor4ii_describe.specs.declared.shape.Field.{Field}
use Rattle.cbor4ii_describe.specs.declared.shape.Key.{Key}
use Rattle.cbor4ii_describe.specs.declared.shape.Key.TheVariants.{Name, Positive, Negative}
use Rattle.cbor4ii_describe.specs.declared.shape.Parameter.{Parameter}
use Rattle.cbor4ii_describe.specs.declared.shape.Parameter.TheVariants.{Nothing, Lifetime, Generic}
use Rattle.cbor4ii_describe.specs.declared.shape.Presence.{Presence}
use Rattle.cbor4ii_describe.specs.declared.shape.Presence.TheVariants.{Required, Or, LeftOut}

-- a token was appended, behind other text or none
abbrev pub AppendsToken : String Global → String Global → List ℕ → Type 0
AppendsToken old new token =
    (between : List ℕ) × (string_bytes new ≡ string_bytes old ++ between ++ token)

-- a parameter in its brackets, with a bound where it is a type
abbrev pub generics : Parameter → List ℕ → List ℕ
generics Nothing bound = codes ""
generics (Lifetime p) bound = codes "<" ++ (string_bytes p ++ codes ">")
generics (Generic p) bound = codes "<" ++ (string_bytes p ++ (bound ++ codes ">"))

-- a name with a parameter behind it
abbrev pub with_parameter : List ℕ → Parameter → List ℕ
with_parameter name Nothing = name
with_parameter name (Lifetime p) = name ++ (codes "<" ++ (string_bytes p ++ codes ">"))
with_parameter name (Generic p) = name ++ (codes "<" ++ (string_bytes p ++ codes ">"))

-- a type with its parameter
abbrev pub self_type : Described → List ℕ
self_type d = with_parameter (string_bytes d.name) d.parameter

-- what a field is where it is missing, as code
abbrev pub presence_text : Presence → Bool → List ℕ
presence_text Required true = codes "Once(Required)"
presence_text Required false = codes "Required"
presence_text LeftOut true = codes "Once(Optional)"
presence_text LeftOut false = codes "Optional"
presence_text (Or code ghost_text) true = codes "Once(Or(" ++ (string_bytes code ++ codes "))")
presence_text (Or code ghost_text) false = codes "Or(" ++ (string_bytes code ++ codes ")")

abbrev pub presence_code : Field → List ℕ
presence_code field = presence_text field.presence field.once

-- what a field is written under, as code
abbrev pub key_code : Key → List ℕ
key_code (Name name) = codes "\"" ++ (string_bytes name ++ codes "\"")
key_code (Positive size) = decimal size
key_code (Negative size) = codes "-" ++ decimal size

-- what a field is written under, in a ghost
abbrev pub ghost_key : Key → List ℕ
ghost_key (Name name) = codes "(codes \"" ++ (string_bytes name ++ codes "\")")
ghost_key (Positive size) = codes "(plus " ++ (decimal size ++ codes ")")
ghost_key (Negative size) = codes "(minus " ++ (decimal size ++ codes ")")

-- what stands before the codec of a field
abbrev pub word_text : Presence → Bool → List ℕ → List ℕ → List ℕ
word_text Required true key words =
    codes "(with_field_once " ++ (key ++ (codes " (codes \"" ++ (words ++ codes "\")")))
word_text Required false key words =
    codes "(with_field " ++ (key ++ (codes " (codes \"" ++ (words ++ codes "\")")))
word_text LeftOut true key words =
    codes "(with_optional_field_once " ++ (key ++ (codes " (codes \"" ++ (words ++ codes "\")")))
word_text LeftOut false key words = codes "(with_optional_field " ++ key
word_text (Or code ghost_text) true key words =
    codes "(with_field_once_or " ++ (key ++ (codes " (codes \"" ++ (words
    ++ (codes "\") " ++ string_bytes ghost_text))))
word_text (Or code ghost_text) false key words =
    codes "(with_field_or " ++ (key ++ (codes " " ++ string_bytes ghost_text))

abbrev pub field_word : Field → List ℕ
field_word field =
    word_text field.presence field.once (ghost_key field.key) (string_bytes field.words)

-- the line that writes a newtype, behind a tag or none
abbrev pub newtype_line : Option ℕ → List ℕ
newtype_line None = codes "        self.0.serialize(ser)\n"
newtype_line (Some tag) =
    codes "        ser.serialize_tagged(" ++ (decimal tag ++ codes ", &self.0)\n")

-- the brackets of a type in a ghost, in UTF-8
abbrev pub open_bracket : List ℕ
open_bracket = 226 ∷ 159 ∷ 166 ∷ []

abbrev pub close_bracket : List ℕ
close_bracket = 226 ∷ 159 ∷ 167 ∷ []

-- what is promised where a type is read
abbrev pub typed_text : List ℕ → List ℕ → List ℕ
typed_text generics this = codes "impl" ++ (generics ++ (codes " Typed for " ++ (this
    ++ (codes " {\n    ghost promise = { " ++ (open_bracket ++ (codes "<" ++ (this
    ++ (codes " as Described>" ++ (close_bracket ++ codes ".codec.promise };\n}\n\n")))))))))
