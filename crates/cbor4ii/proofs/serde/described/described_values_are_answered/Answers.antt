use Rattle.std.proofs.Common.{◌≡◌, ℕ, List, Some, None, Option, Result, Ok, Err, refl, ap, ◌∙◌}
use Rattle.std.proofs.Common.{drop, length, ◌++◌, sym, rules}
use Rattle.std.proofs.Math.Seq.{drop-append_seam}
use Rattle.std.specs.Prelude.{IfSome, IsTrue}
use Rattle.cbor4ii_rw.specs.View.{View}
use Rattle.cbor4ii_rw.specs.declared.error.DecodeError.{DecodeError}
use Rattle.cbor4ii_items.specs.Budget.{CostFits}
use Rattle.cbor4ii_items.specs.Decoding.{IsExact, NoneRead}
use Rattle.cbor4ii_items.specs.InputError.{input_error_of}
use Rattle.cbor4ii.specs.CodecAgrees.{agreed_back}
use Rattle.cbor4ii.specs.ReadBack.{AnswersBack}
use Rattle.cbor4ii.specs.Typed.{Promise, Deserializes}
use Rattle.cbor4ii.proofs.serde.described.described_values_are_answered.Goals as goal

none_of : {A : Type 0} (P : A → Type 0) (o : Option A) → ((x : A) → P x → ⊥) → IfSome o P
    → o ≡ None
none_of P None not holds = refl
none_of P (Some x) not holds = absurd (not x holds)

module _ {V E : Type 0} (promise : Promise V) (v : V) (bytes others : List ℕ) (cost : ℕ)
    (old new : View) (exact : IsTrue promise.exact) (over : IsExact promise.format.owned old)
    (known : old.known ≡ Some (bytes ++ others)) (fits : CostFits cost old.budget)
    (back : promise.format.reads (bytes ++ others) v (length bytes) cost) where
  answered : (r : Result V (DecodeError E)) → Deserializes promise old new r
      → AnswersBack promise.format v others new r
  answered (Ok w) d =
      let a = d.sound.at (bytes ++ others) known in
      let u = (promise.lawful exact).one (bytes ++ others) v w (length bytes) a.count cost a.cost
      back a.read in (
        u.2,
        a.left ∙ ap (λ n. Some (drop n (bytes ++ others))) (sym u.0)
            ∙ ap Some (drop-append_seam bytes others),
      )
  answered (Err error) d =
      none_of (λ z. NoneRead promise.format.reads (bytes ++ others) old.budget)
      (input_error_of error) (λ z none. none v (length bytes) cost back fits)
      ((d.complete exact over).at (bytes ++ others) known)

pub returns : goal.returns
returns g c alloc v bytes others old new answer stands written known over fits d =
    search (rules, answered, agreed_back)
