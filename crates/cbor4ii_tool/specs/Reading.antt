-- How an integer is taken off a reader, or rejected.
use Rattle.std.specs.Prelude.{◌≡◌, ℕ, ◌+◌, ◌/◌, ◌≤◌, List, [], ◌∷◌, ◌++◌, Option, Some}
use Rattle.cbor4ii_rw.specs.View.{View, IfKnown}
use Rattle.cbor4ii_rw.specs.Reader.{Failed}
use Rattle.cbor4ii_items.specs.Head.{Width, head, shortest_width}
use Rattle.cbor4ii_tool.specs.Integer.{IntegerHead, IsIntegerHead, encoding, BeginsNoInteger}
use Rattle.cbor4ii_tool.specs.Integer.{IsCutInteger}
use Rattle.cbor4ii_tool.specs.declared.fault.Kind.{Kind}
use Rattle.cbor4ii_tool.specs.declared.fault.Kind.TheVariants.{Read, Mismatch, Eof, OutOfMemory}
use Rattle.cbor4ii_tool.specs.declared.integer.Integer.{Integer}
use Rattle.cbor4ii_tool.specs.declared.integer.Integer.TheVariants.{Unsigned, Negative}

-- ---- integers

abbrev pub major_of_integer : Integer → ℕ
major_of_integer (Unsigned n) = 0
major_of_integer (Negative n) = 1

abbrev pub integer_argument : Integer → ℕ
integer_argument (Unsigned n) = n
integer_argument (Negative n) = n.0

-- the head of an integer, in this width
abbrev pub in_width : Width → Integer → IntegerHead
in_width width integer =
    record { major = major_of_integer integer; argument = integer_argument integer; width = width }

-- the bytes of an integer's head, in the least width that its argument has
abbrev pub written_bytes : Integer → List ℕ
written_bytes integer =
    head (major_of_integer integer) (integer_argument integer)
    (shortest_width (integer_argument integer))

-- ---- reading

-- the first byte is one of major type 1
abbrev pub BeginsNegative : List ℕ → Type 0
BeginsNegative [] = ⊥
BeginsNegative (b ∷ bs) = b / 32 ≡ 1

-- the integer stands at the beginning of the bytes xs in some width, and what follows it is left
pub record TakesInteger (integer : Integer) (xs : List ℕ) (new : Option (List ℕ)) : Type 0 where
  pub width : Width
  pub valid : IsIntegerHead (in_width width integer)
  pub rest : List ℕ
  pub joined : xs ≡ encoding (in_width width integer) ++ rest
  pub left : new ≡ Some rest

-- the integer is taken, and the reader did not fail
pub record ReadsInteger (integer : Integer) (old new : View) : Type 0 where
  pub takes : IfKnown old.known (λ xs. TakesInteger integer xs new.known)
  pub bound : new.bound + 1 ≤ old.bound
  pub failures : new.failures ≡ old.failures

-- what a fault of each kind says of the bytes
abbrev pub RejectsThere : Kind → List ℕ → Type 0
RejectsThere Mismatch xs = BeginsNoInteger xs
RejectsThere Eof xs = IsCutInteger xs
RejectsThere _ xs = ⊥

-- why no integer came: the reader failed, or its bytes begin none
abbrev pub RejectsInteger : Kind → View → View → Type 0
RejectsInteger Read old new = Failed old.failures new.failures
RejectsInteger OutOfMemory old new = ⊥
RejectsInteger kind old new = IfKnown old.known (RejectsThere kind)
