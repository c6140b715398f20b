-- Programs that read from the beginning of a list: what the decoders do, without the reader.
use Rattle.std.specs.Prelude.{◌≡◌, ℕ, List, [], ◌∷◌, Some, Option, Result, Ok, Err, IfSome}
use Rattle.cbor4ii_rw.specs.View.{View, IfKnown}
use Rattle.cbor4ii_rw.specs.declared.error.DecodeError.{DecodeError}
use Rattle.cbor4ii_rw.specs.declared.error.Len.TheVariants.{Small}
use Rattle.cbor4ii_items.specs.InputError.{InputError, input_error_of, eof}
use Rattle.cbor4ii_items.specs.Moves.{Kept, Moves}

-- a value and the bytes after it, or the error and the bytes that are left then
abbrev pub Reading : Type 0 → Type 0
Reading V = List ℕ → Result (V × List ℕ) (InputError × List ℕ)

-- a value that takes no byte
abbrev pub give : {V : Type 0} → V → Reading V
give v xs = Ok (v, xs)

-- an error that takes no byte
abbrev pub reject : {V : Type 0} → InputError → Reading V
reject err xs = Err (err, xs)

abbrev pub go_on : {U V : Type 0} → Result (U × List ℕ) (InputError × List ℕ) → (U → Reading V)
    → Result (V × List ℕ) (InputError × List ℕ)
go_on (Ok p) next = next p.0 p.1
go_on (Err e) next = Err e

-- one program, and after its value the next one
infixl 10 ◌>=>◌
abbrev pub ◌>=>◌ : {U V : Type 0} → Reading U → (U → Reading V) → Reading V
first >=> next = λ xs. go_on (first xs) next

-- the next byte, which stays; at the end, so many were expected
abbrev pub peek_at : List ℕ → ℕ → Reading ℕ
peek_at name expect [] = Err (eof name (Small expect), [])
peek_at name expect (b ∷ bs) = Ok (b, b ∷ bs)

-- the next byte, taken
abbrev pub byte_at : List ℕ → ℕ → Reading ℕ
byte_at name expect [] = Err (eof name (Small expect), [])
byte_at name expect (b ∷ bs) = Ok (b, bs)

-- the answer is that of the program, and so are the bytes that are left
abbrev pub AnswersAs : {V E : Type 0} → Result (V × List ℕ) (InputError × List ℕ) → Option (List ℕ)
    → Result V (DecodeError E) → Type 0
AnswersAs outcome new (Ok v) = (ys : List ℕ) × (new ≡ Some ys) × (outcome ≡ Ok (v, ys))
AnswersAs outcome new (Err e) =
    IfSome (input_error_of e)
    (λ err. (ys : List ℕ) × (new ≡ Some ys) × (outcome ≡ Err (err, ys)))

-- Over any reader it leaves the reader as a decoding call does. Over known bytes it answers as the
-- program, unless there was no memory.
-- A call that does what the program does.
pub record Runs {V E : Type 0} (program : Reading V) (old new : View)
    (answer : Result V (DecodeError E)) : Type 0 where
  pub moves : Moves old new answer
  pub answers : IfKnown old.known (λ xs. AnswersAs (program xs) new.known answer)

-- It took some bytes of what the whole program reads.
-- A call that is under way, and the program `next` is left to do.
pub record Reaches {V : Type 0} (whole next : Reading V) (old new : View) : Type 0 where
  pub kept : Kept old new
  pub leads : IfKnown old.known (λ xs. (ys : List ℕ) × (new.known ≡ Some ys) × (whole xs ≡ next ys))
