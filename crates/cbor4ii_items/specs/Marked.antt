-- Items that begin with one of a few bytes.
use Rattle.std.proofs.Common.{◌≡◌, ℕ, ◌≤◌, List, [], ◌∷◌, Ok, Err, true, refl, le-leb}
use Rattle.std.specs.Prelude.{◌&&◌, nat_le, if◌then◌else◌}
use Rattle.cbor4ii_rw.specs.declared.error.Len.TheVariants.{Small}
use Rattle.cbor4ii_items.specs.InputError.{InputError, mismatch, eof}
use Rattle.cbor4ii_items.specs.Reading.{Reading}

-- no byte is left, or another byte comes next, which stays
abbrev pub NoneBegins : List ℕ → (ℕ → Type 0) → List ℕ → InputError → List ℕ → Type 0
NoneBegins name begins [] err rest = (err ≡ eof name (Small 1)) × (rest ≡ [])
NoneBegins name begins (b ∷ bs) err rest =
    (begins b → ⊥) × (err ≡ mismatch name b) × (rest ≡ b ∷ bs)

-- the next byte, taken where it is from the least to the greatest
abbrev pub marked_at : List ℕ → ℕ → ℕ → Reading ℕ
marked_at name least greatest [] = Err (eof name (Small 1), [])
marked_at name least greatest (b ∷ bs) =
    if nat_le least b && nat_le b greatest then Ok (b, bs) else Err (mismatch name b, b ∷ bs)

pub within_marks : (least greatest b : ℕ) → least ≤ b → b ≤ greatest
    → (nat_le least b && nat_le b greatest) ≡ true
within_marks least greatest b p q =
    let s : nat_le least b ≡ true = le-leb least b p in
    let t : nat_le b greatest ≡ true = le-leb b greatest q in
    rw (s, t) refl
