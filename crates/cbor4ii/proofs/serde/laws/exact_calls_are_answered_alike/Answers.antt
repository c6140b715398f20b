use Rattle.std.proofs.Common.{◌≡◌, ℕ, List, Some, Result, Ok, Err, IsTrue, subst}
use Rattle.cbor4ii_rw.specs.View.{View}
use Rattle.cbor4ii_rw.specs.declared.error.DecodeError.{DecodeError}
use Rattle.cbor4ii_items.specs.Decoding.{IsExact}
use Rattle.cbor4ii.specs.Laws.Alike.{AnswersBy, answered_alike}
use Rattle.cbor4ii.specs.Typed.{Promise, Deserializes}
use Rattle.cbor4ii.proofs.serde.laws.exact_calls_are_answered_alike.Goals as goal

answers : {V E : Type 0} (p : Promise V) (xs : List ℕ) (old new : View)
    (r : Result V (DecodeError E)) → IsTrue p.exact → IsExact p.format.owned old
    → old.known ≡ Some xs → Deserializes p old new r → AnswersBy p.format xs old.budget new r
answers p xs old new (Ok v) is exact known d = d.sound.at xs known
answers p xs old new (Err e) is exact known d =
    ((d.complete is exact).at xs known, (d.rejects is exact).at xs known)

pub returns : goal.returns
returns g c is once xs old new other after r s known knows same exact exactly d h =
    let p = g.T.Typed.promise in
    answered_alike p.format (p.lawful is) once.one_error xs other.budget new after r s
    (subst (λ b. AnswersBy p.format xs b new r) same (answers p xs old new r is exact known d))
    (answers p xs other after s is exactly knows h)
