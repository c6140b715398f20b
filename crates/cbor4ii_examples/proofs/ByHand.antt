-- What a vector holds after it was written to.
use Rattle.std.proofs.Common.{◌≡◌, ℕ, List, [], ◌∙◌, Option, Some, None, sym, ap}
use Rattle.cbor4ii_rw.specs.Writer.{Appends}

abbrev bytes_of : Option (List ℕ) → List ℕ
bytes_of (Some bytes) = bytes
bytes_of None = []

pub only_these : {bytes before items : List ℕ} {old new : Option (List ℕ)} → Appends bytes old new
    → old ≡ Some before → before ≡ [] → new ≡ Some items → items ≡ bytes
only_these appends known none is =
    ap bytes_of (sym is ∙ appends [] (known ∙ ap Some none))
