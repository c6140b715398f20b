-- What is one head, one byte or one float is not read where it is rejected.
use Rattle.std.proofs.Common.{◌≡◌, ℕ, inl, inr, List, [], ◌∷◌, take, Some, None, true}
use Rattle.std.proofs.Common.{false, length-append, rules}
use Rattle.cbor4ii_items.specs.InputError.{InputError}
use Rattle.cbor4ii_items.specs.Heads.{ReadsHead, RejectsHead}
use Rattle.cbor4ii_items.specs.Numbers.{ReadsArgument, RejectsArgument, ReadsNegative}
use Rattle.cbor4ii_items.specs.Numbers.{RejectsNegative}
use Rattle.cbor4ii_items.specs.Floats.{ReadsFloat, RejectsFloat}
use Rattle.cbor4ii_items.specs.Simple.{ReadsSimple, RejectsSimple, ReadsBool, RejectsBool}
use Rattle.cbor4ii_items.specs.Simple.{bool_byte}
use Rattle.cbor4ii_items.specs.Nothing.{ReadsNothing, RejectsNothing}
use Rattle.cbor4ii_items.specs.Lengths.{ReadsLength, RejectsLength}
use Rattle.cbor4ii_items.specs.NeverBoth.{NeverBoth}
use Rattle.cbor4ii_items.specs.Strings.{ReadsBreak, RejectsBreak}
use Rattle.cbor4ii_items.specs.Laws.HeadErrors.{head_errs}
use Rattle.cbor4ii_items.specs.Laws.Heads.{head_again, length-bytes_high_first}
use Rattle.cbor4ii_items.specs.Laws.Outcome.{never_twice}

-- ---- heads

pub head_apart : (name : List ℕ) (major width : ℕ) (xs : List ℕ) (err : InputError)
    (rest : List ℕ) (v n : ℕ) → RejectsHead name major width xs err rest
    → ReadsHead major width xs v n → ⊥
head_apart name major width xs err rest v n s h =
    search (rules, never_twice, head_again, head_errs)

pub argument_apart : (name : List ℕ) (major width : ℕ)
    → NeverBoth (ReadsArgument major width) (RejectsArgument name major width)
argument_apart name major width xs budget err rest s v n c p fits =
    head_apart name major width xs err rest v n s p.0

pub negative_apart : (name : List ℕ) (width : ℕ)
    → NeverBoth (ReadsNegative width) (RejectsNegative name width)
negative_apart name width xs budget err rest s v n c p fits =
    head_apart name 1 width xs err rest v.0 n s p.0

pub simple_apart : NeverBoth ReadsSimple RejectsSimple
simple_apart xs budget err rest s v n c p fits = head_apart _ 7 1 xs err rest v.0 n s p.0

pub length_apart : (name : List ℕ) (major : ℕ)
    → NeverBoth (ReadsLength major) (RejectsLength name major)
length_apart name major xs budget err rest s (Some v) n c p fits =
    head_apart name major 8 xs err rest v n s.1 p.0
length_apart name major xs budget err rest s None n c p fits = s.0 p.0

-- ---- one byte or none

no_break : (xs : List ℕ) (b : ℕ) → xs ≡ [] → take 1 xs ≡ b ∷ [] → ⊥
no_break _ b e f = cc

pub break_apart : NeverBoth ReadsBreak RejectsBreak
break_apart xs budget err rest s true n c p fits = no_break xs _ s.0 p.0
break_apart xs budget err rest s false n c p fits = p.0 s.0

pub bool_apart : NeverBoth ReadsBool RejectsBool
bool_apart [] budget err rest s v n c p fits = let e = p.0 in cc
bool_apart (b ∷ bs) budget err rest s v n c p fits =
    let is : b ≡ bool_byte v = (let e = p.0 in cc) in s.0 (v, is)

pub nothing_apart : NeverBoth ReadsNothing RejectsNothing
nothing_apart xs budget err rest s v n c p fits = s

-- ---- floats

pub float_apart : (name : List ℕ) (marker count : ℕ)
    → NeverBoth (ReadsFloat marker count) (RejectsFloat name marker count)
float_apart name marker count [] budget err rest s v n c p fits = let e = p.is in cc
float_apart name marker count (b ∷ bs) budget err rest (inl s) v n c p fits =
    let is : b ≡ marker = (let e = p.is in cc) in s.0 is
float_apart name marker count (b ∷ bs) budget err rest (inr s) v n c p fits =
    search (rules, length-append, length-bytes_high_first)
