-- Content of definite length: there, or cut.
use Rattle.std.proofs.Common.{◌≡◌, ℕ, ◌-◌, ◌<◌, ◌≤◌, List, [], ◌++◌, length, take, drop, Ok, Err}
use Rattle.std.proofs.Common.{true, false, refl, ltb, lt-ltb}
use Rattle.std.proofs.lemmas.Bool.{le-ltb}
use Rattle.cbor4ii_items.specs.InputError.{eof, len_of}
use Rattle.cbor4ii_items.specs.ReadStrings.{content_on}

pub content_short : (name : List ℕ) (count : ℕ) (before xs : List ℕ) → length xs < count
    → content_on name count before xs ≡ Err (eof name (len_of (count - length xs)), [])
content_short name count before xs h =
    let t : ltb (length xs) count ≡ true = lt-ltb (length xs) count h in rw t refl

pub content_whole : (name : List ℕ) (count : ℕ) (before xs : List ℕ) → count ≤ length xs
    → content_on name count before xs ≡ Ok (before ++ take count xs, drop count xs)
content_whole name count before xs h =
    let t : ltb (length xs) count ≡ false = le-ltb (length xs) count h in rw t refl
