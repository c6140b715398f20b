-- Simple values, and the laws of their encodings (RFC 8949 section 3.3).
use Rattle.std.proofs.Common.{◌≡◌, ℕ, ◌≤◌, List, [], ◌∷◌, ◌++◌, length, take, Bool, true, false}
use Rattle.std.proofs.Common.{refl, sym, ◌∙◌, arith}
use Rattle.std.specs.Prelude.{codes, ◌==◌}
use Rattle.cbor4ii_items.specs.declared.types.Simple.{Simple}
use Rattle.cbor4ii_items.specs.Initial.{simple_byte, simple_false, simple_true}
use Rattle.cbor4ii_items.specs.Reading.{Reading, give, ◌>=>◌}
use Rattle.cbor4ii_items.specs.Marked.{NoneBegins, marked_at}
use Rattle.cbor4ii_items.specs.Numbers.{ReadsArgument, RejectsArgument, argument_format}
use Rattle.cbor4ii_items.specs.Laws.Arguments.{argument_lawful}
use Rattle.cbor4ii_items.specs.Laws.Formats.{lawful_by}
use Rattle.cbor4ii_items.specs.Decoding.{Reads, RejectsAt, Format, IsLawful, leaf_format, format_by}

-- ---- any simple value, by its number

-- a head of major type 7, with the number in its first byte or in the one after it
abbrev pub ReadsSimple : Reads Simple
ReadsSimple xs v n c = ReadsArgument 7 1 xs v.0 n c

-- a head of major type 7, of at most one byte of argument, is rejected
abbrev pub RejectsSimple : RejectsAt
RejectsSimple = RejectsArgument (codes "simple") 7 1

abbrev pub simple_format : Format Simple
simple_format = format_by (λ v. v.0) (argument_format (codes "simple") 7 1)

pub simple_lawful : IsLawful simple_format
simple_lawful =
    lawful_by (λ v. v.0) (argument_format (codes "simple") 7 1)
    (argument_lawful (codes "simple") 7 1 (omega arith))

-- ---- false and true

-- the byte of a flag: `f4` for false, `f5` for true
abbrev pub bool_byte : Bool → ℕ
bool_byte false = simple_byte simple_false
bool_byte true = simple_byte simple_true

abbrev pub ReadsBool : Reads Bool
ReadsBool xs v n c = (take 1 xs ≡ bool_byte v ∷ []) × (n ≡ 1) × (c ≡ 0)

-- the byte is that of false or of true
abbrev pub IsBool : ℕ → Type 0
IsBool b = (v : Bool) × (b ≡ bool_byte v)

-- no byte is left, or another one, which stays
abbrev pub RejectsBool : RejectsAt
RejectsBool xs budget err rest = NoneBegins (codes "bool") IsBool xs err rest

abbrev pub bool_at : Reading Bool
bool_at = marked_at (codes "bool") 0xf4 0xf5 >=> λ b. give (b == 0xf5)

same_bool : (v w : Bool) → bool_byte v ≡ bool_byte w → v ≡ w
same_bool false false e = refl
same_bool true true e = refl
same_bool false true e = absurd (omega (arith, e))
same_bool true false e = absurd (omega (arith, e))

pub bool_one : (xs : List ℕ) (v w : Bool) (n m c d : ℕ) → ReadsBool xs v n c → ReadsBool xs w m d
    → (n ≡ m) × (c ≡ d) × (v ≡ w)
bool_one xs v w n m c d p q =
    let f = p.0 in
    let g = q.0 in
    let e : bool_byte v ≡ bool_byte w = cc in
    (p.1 ∙ sym q.1, p.2 ∙ sym q.2, same_bool v w e)

pub bool_within : (xs : List ℕ) (v : Bool) (n c : ℕ) → ReadsBool xs v n c → n ≤ length xs
bool_within [] v n c p = let f = p.0 in cc
bool_within (x ∷ xs) v n c p = omega (arith, p.1)

pub bool_positive : (xs : List ℕ) (v : Bool) (n c : ℕ) → ReadsBool xs v n c → 1 ≤ n
bool_positive xs v n c p = omega (arith, p.1)

pub bool_alone : (xs ys : List ℕ) (v : Bool) (n c : ℕ) → ReadsBool xs v n c
    → ReadsBool (take n xs ++ ys) v n c
bool_alone [] ys v n c p = let f = p.0 in cc
bool_alone (x ∷ xs) ys v n c p = rw p.1 (p.0, refl, p.2)

abbrev pub bool_format : Format Bool
bool_format = leaf_format ReadsBool RejectsBool

pub bool_lawful : IsLawful bool_format
bool_lawful = record {
  one = bool_one;
  within = bool_within;
  positive = λ _. bool_positive;
  alone = λ _. bool_alone;
}
