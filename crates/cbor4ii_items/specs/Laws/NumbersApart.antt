-- What an integer rejects is not read: the program answers it with an error.
use Rattle.std.proofs.Common.{ℕ, List}
use Rattle.cbor4ii_items.specs.NeverBoth.{NeverBoth}
use Rattle.cbor4ii_items.specs.Numbers.{ReadsSigned, RejectsSigned, ReadsU128, RejectsU128}
use Rattle.cbor4ii_items.specs.Numbers.{ReadsI128, RejectsI128}
use Rattle.cbor4ii_items.specs.ReadNumber.{signed_at, u128_at, i128_at}
use Rattle.cbor4ii_items.specs.Laws.Bignums.{u128_again, i128_again}
use Rattle.cbor4ii_items.specs.Laws.NumberErrors.{signed_errs, u128_errs, i128_errs}
use Rattle.cbor4ii_items.specs.Laws.Outcome.{never_twice}
use Rattle.cbor4ii_items.specs.Laws.Signed.{signed_again}

pub signed_apart : (name plus minus : List ℕ) (width limit : ℕ)
    → NeverBoth (ReadsSigned width limit)
    (λ xs budget. RejectsSigned name plus minus width limit xs)
signed_apart name plus minus width limit xs budget err rest s v n c p fits =
    never_twice (signed_at name plus minus width limit xs)
    (signed_again name plus minus width limit xs v n c p).answer
    (signed_errs name plus minus width limit xs err rest s)

pub u128_apart : NeverBoth ReadsU128 (λ xs budget. RejectsU128 xs)
u128_apart xs budget err rest s v n c p fits =
    never_twice (u128_at xs) (u128_again xs v n c p).answer (u128_errs xs err rest s)

pub i128_apart : NeverBoth ReadsI128 (λ xs budget. RejectsI128 xs)
i128_apart xs budget err rest s v n c p fits =
    never_twice (i128_at xs) (i128_again xs v n c p).answer (i128_errs xs err rest s)
