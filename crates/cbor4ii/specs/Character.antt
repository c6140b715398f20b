-- Texts of one character.
use Rattle.std.proofs.Common.{◌≡◌, ℕ, List, [], ap, Option}
use Rattle.std.proofs.lemmas.Str.{encode_same}
use Rattle.std.specs.Prelude.{◌++◌, drop, true, codes}
use Rattle.std.specs.Char.{encode_utf8}
use Rattle.cbor4ii_items.specs.Decoding.{Reads}
use Rattle.cbor4ii_items.specs.Budget.{CostFits}
use Rattle.cbor4ii_items.specs.InputError.{InputError}
use Rattle.cbor4ii_items.specs.Strings.{ReadsText, ReadsTextAs, RejectsText}
use Rattle.cbor4ii_items.specs.Laws.Strings.{text_one, text_within, text_positive}
use Rattle.cbor4ii.specs.Typed.{IsLawfulReading, in_words, not_exact}

-- a text of one character
abbrev pub ReadsChar : Reads ℕ
ReadsChar = ReadsTextAs encode_utf8

-- the text is not that of one character
abbrev pub NoCharacter : List ℕ → Type 0
NoCharacter text = (only : ℕ) → text ≡ encode_utf8 only → ⊥

-- the text is rejected, or it is whole and is not that of one character, and is taken
pub data RejectsChar (xs : List ℕ) (budget : Option ℕ) (err : InputError)
    (rest : List ℕ) : Type 0 where
  no_text : RejectsText (codes "str") xs budget err rest → RejectsChar xs budget err rest
  not_one : (text : List ℕ) (n c : ℕ) → ReadsText xs text n c → CostFits c budget → NoCharacter text
      → err ≡ in_words (codes "expected one character") → rest ≡ drop n xs
      → RejectsChar xs budget err rest

char_same : (v w : ℕ) → encode_utf8 v ≡ encode_utf8 w → v ≡ w
char_same v w e = (encode_same v w [] [] (ap (λ zs. zs ++ []) e)).0

pub char_laws : IsLawfulReading ReadsChar (λ v w. v ≡ w) true
char_laws = record {
  one = λ xs v w n m c d p q.
      (let e = text_one encode_utf8 xs v w n m c d p q in (e.0, e.1, char_same v w e.2));
  within = text_within encode_utf8;
  positive = λ _. text_positive encode_utf8;
  alone = not_exact;
}
