use Rattle.std.proofs.Common.{◌≡◌, ℕ, List, Some, Result, Ok, Err, subst}
use Rattle.cbor4ii_rw.specs.View.{View}
use Rattle.cbor4ii_rw.specs.declared.error.DecodeError.{DecodeError}
use Rattle.cbor4ii_items.specs.Decoding.{Format, Decodes, IsExact}
use Rattle.cbor4ii.specs.Laws.Alike.{AnswersBy, answered_alike}
use Rattle.cbor4ii.proofs.serde.laws.decoded_items_are_answered_alike.Goals as goal

answers : {V E : Type 0} (s : Format V) (xs : List ℕ) (old new : View)
    (r : Result V (DecodeError E)) → IsExact s.owned old → old.known ≡ Some xs
    → Decodes s old new r → AnswersBy s xs old.budget new r
answers s xs old new (Ok v) exact known d = d.sound.at xs known
answers s xs old new (Err e) exact known d =
    ((d.complete exact).at xs known, (d.rejects exact).at xs known)

pub returns : goal.returns
returns g c once xs old new other after r s known knows same exact exactly d h =
    let f = g.T.Decodable.format in
    answered_alike f g.met.T.Decodable.lawful once.one_error xs other.budget new after r s
    (subst (λ b. AnswersBy f xs b new r) same (answers f xs old new r exact known d))
    (answers f xs other after s exactly knows h)
