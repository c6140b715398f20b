-- What a lawful writer does: how what it holds moves in a push.
use Rattle.std.specs.Prelude.{◌≡◌, ℕ, ◌+◌, ◌-◌, ◌^◌, min, List, ◌++◌, Option, Some}
use Rattle.cbor4ii_rw.specs.View.{IfKnown}

-- What a writer reports of itself as it stands, for contracts alone.
pub record Output : Type 0 where
  -- the bytes that were written, where the writer reports them
  pub written : Option (List ℕ)
  -- how often the writer failed; the count stands still at u64's greatest number
  pub failures : ℕ

-- known bytes stay known, and have these after them
abbrev pub Appends : List ℕ → Option (List ℕ) → Option (List ℕ) → Type 0
Appends bytes old new = IfKnown old (λ xs. new ≡ Some (xs ++ bytes))

-- one failure more, up to u64's greatest number
abbrev pub one_more : ℕ → ℕ
one_more failures = min (failures + 1) (2 ^ 64 - 1)
