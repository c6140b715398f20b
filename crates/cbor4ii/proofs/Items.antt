-- A call that decodes one item of the codec, reported as typed reading.
use Rattle.std.proofs.Common.{◌≡◌, Bool, true, false, IsTrue, refl}

-- what a type says that takes no memory
pub spares : (out : Bool) → (IsTrue out → IsTrue false) → out ≡ false
spares false f = refl
spares true f = let e : false ≡ true = f refl in cc
