-- A number, a simple value or a length is rejected with one error, and is then not read.
use Rattle.std.proofs.Common.{ℕ, List, rules}
use Rattle.std.specs.Prelude.{codes}
use Rattle.cbor4ii_items.specs.Decoding.{Format, format_by, taking_memory, leaf_format}
use Rattle.cbor4ii_items.specs.Floats.{float_format}
use Rattle.cbor4ii_items.specs.Lengths.{length_format}
use Rattle.cbor4ii_items.specs.Numbers.{argument_format, negative_format, signed_format, ReadsU128}
use Rattle.cbor4ii_items.specs.Numbers.{RejectsU128, ReadsI128, RejectsI128}
use Rattle.cbor4ii_items.specs.OneError.{RejectsOnce}
use Rattle.cbor4ii_items.specs.Simple.{simple_format, bool_format}
use Rattle.cbor4ii_items.specs.Strings.{break_format}
use Rattle.cbor4ii_items.specs.Laws.HeadErrors.{argument_error, length_error}
use Rattle.cbor4ii_items.specs.Laws.LeafErrors.{bool_error, break_error, float_error}
use Rattle.cbor4ii_items.specs.Laws.LeavesApart.{argument_apart, length_apart, break_apart}
use Rattle.cbor4ii_items.specs.Laws.LeavesApart.{bool_apart, float_apart}
use Rattle.cbor4ii_items.specs.Laws.NumberErrors.{signed_error, u128_error, i128_error}
use Rattle.cbor4ii_items.specs.Laws.NumbersApart.{signed_apart, u128_apart, i128_apart}

-- ---- a type that is read as its part

pub once_by : {U V : Type 0} (part : V → U) (s : Format U) → RejectsOnce s
    → RejectsOnce (format_by part s)
once_by part s h = search rules

pub once_in_memory : {V : Type 0} (s : Format V) → RejectsOnce s → RejectsOnce (taking_memory s)
once_in_memory s h = record { apart = h.apart; one_error = h.one_error }

-- ---- numbers

pub argument_once : (name : List ℕ) (major width : ℕ)
    → RejectsOnce (argument_format name major width)
argument_once name major width = search (rules, argument_apart, argument_error)

pub negative_once : (name : List ℕ) (width : ℕ) → RejectsOnce (negative_format name width)
negative_once name width =
    once_by (λ v. v.0) (argument_format name 1 width) (argument_once name 1 width)

pub signed_once : (name plus minus : List ℕ) (width limit : ℕ)
    → RejectsOnce (signed_format name plus minus width limit)
signed_once name plus minus width limit = search (rules, signed_apart, signed_error)

pub u128_once : RejectsOnce (leaf_format ReadsU128 (λ xs budget. RejectsU128 xs))
u128_once = record { apart = u128_apart; one_error = u128_error }

pub i128_once : RejectsOnce (leaf_format ReadsI128 (λ xs budget. RejectsI128 xs))
i128_once = record { apart = i128_apart; one_error = i128_error }

-- ---- simple values, floats, lengths and breaks

pub simple_once : RejectsOnce simple_format
simple_once =
    once_by (λ v. v.0) (argument_format (codes "simple") 7 1) (argument_once (codes "simple") 7 1)

pub bool_once : RejectsOnce bool_format
bool_once = record { apart = bool_apart; one_error = bool_error }

pub float_once : (name : List ℕ) (marker count : ℕ) → RejectsOnce (float_format name marker count)
float_once name marker count = search (rules, float_apart, float_error)

pub length_once : (name : List ℕ) (major : ℕ) → RejectsOnce (length_format name major)
length_once name major = search (rules, length_apart, length_error)

pub break_once : RejectsOnce break_format
break_once = record { apart = break_apart; one_error = break_error }
