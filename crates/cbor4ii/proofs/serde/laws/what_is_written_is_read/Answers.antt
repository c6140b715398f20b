use Rattle.std.proofs.Common.{ℕ, List, [], length, subst}
use Rattle.std.proofs.lemmas.List.{append-nil}
use Rattle.cbor4ii_items.specs.Decoding.{Reads}
use Rattle.cbor4ii_items.specs.ReadBack.{ReadsBack}
use Rattle.cbor4ii_items.specs.Laws.NumbersBack.{decoded, not_rejected}
use Rattle.cbor4ii.specs.ReadBack.{IsReadBack}
use Rattle.cbor4ii.specs.Typed.{typed_laws}
use Rattle.cbor4ii.proofs.serde.laws.what_is_written_is_read.Goals as goal

-- with nothing after it
alone : {V : Type 0} (reads : Reads V) (bytes : List ℕ) (v : V) (cost : ℕ)
    → ReadsBack reads bytes v cost → reads bytes v (length bytes) cost
alone reads bytes v cost back =
    subst (λ xs. reads xs v (length bytes) cost) (append-nil bytes) (back [])

pub returns : goal.returns
returns g c = record {
  accepted = λ said bytes rest v w cost old new is back known sound.
      decoded g.T.Typed.promise.format.reads g.T.Typed.promise.format.same
      (typed_laws g.T.Typed.promise said).one bytes rest v w cost old new
      (subst (λ o. IsReadBack g.T.Typed.promise.format.reads o v cost) is back) known sound;
  not_rejected = λ bytes rest v cost old error is back fits known is_complete.
      not_rejected g.T.Typed.promise.format.reads bytes rest v cost old error
      (subst (λ o. IsReadBack g.T.Typed.promise.format.reads o v cost) is back) fits known
      is_complete;
  same = λ said bytes v w cost is back whole. let reads = g.T.Typed.promise.format.reads in
      let read = alone reads bytes v cost (subst (λ o. IsReadBack reads o v cost) is back) in
      ((typed_laws g.T.Typed.promise said).one bytes v w (length bytes) (length bytes) cost whole.0
      read whole.1).2;
  whole = λ bytes v cost is back few. let reads = g.T.Typed.promise.format.reads in
      (cost, alone reads bytes v cost (subst (λ o. IsReadBack reads o v cost) is back), few);
}
