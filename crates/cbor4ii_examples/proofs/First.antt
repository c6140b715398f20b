-- The item at the beginning of an input, read by a reader over all of it.
use Rattle.std.proofs.Common.{◌≡◌, ℕ, List, Option, Some, None, Ok, Err, Result, subst}
use Rattle.std.specs.Prelude.{IfSome}
use Rattle.cbor4ii_rw.specs.Input.{limit}
use Rattle.cbor4ii_rw.specs.View.{View}
use Rattle.cbor4ii_rw.specs.declared.error.DecodeError.{DecodeError}
use Rattle.cbor4ii_items.specs.Budget.{CostFits}
use Rattle.cbor4ii_items.specs.Decoding.{Format, Decodes, RejectsAt, IsExact, NoneRead}
use Rattle.cbor4ii_items.specs.InputError.{InputError, input_error_of}
use Rattle.cbor4ii_items.specs.Whole.{IsSure}
use Rattle.cbor4ii_examples.specs.First.{DecodesFirst}

-- what an error leaves, under the steps of the input
pub at_limit : (rejects : RejectsAt) (o : Option InputError) (left : Option (List ℕ))
    (bytes : List ℕ) (budget : Option ℕ) → budget ≡ Some limit
    → IfSome o (λ err. (rest : List ℕ) × (left ≡ Some rest) × rejects bytes budget err rest)
    → IfSome o (λ err. (rest : List ℕ) × rejects bytes (Some limit) err rest)
at_limit rejects None left bytes budget is h = tt
at_limit rejects (Some err) left bytes budget is h =
    (h.0, subst (λ k. rejects bytes k err h.0) is h.2)

module _ {V E : Type 0} (format : Format V) (bytes : List ℕ) (a b : View)
    (known : a.known ≡ Some bytes) (budget : a.budget ≡ Some limit)
    (exact : IsSure format.owned bytes → IsExact format.owned a) where
  pub is_first : (r : Result V (DecodeError E)) → Decodes format a b r
      → DecodesFirst format bytes r
  is_first (Ok v) d =
      let h = d.sound.at bytes known in
      record {
        accepts = (h.count, h.cost, h.read, subst (CostFits h.cost) budget h.fits);
        rejects = tt;
      }
  is_first (Err e) d = record {
    accepts = tt;
    rejects = record {
      memory = d.memory;
      complete = λ sure. subst
          (λ k. IfSome (input_error_of e) (λ _. NoneRead format.reads bytes k)) budget
          ((d.complete (exact sure)).at bytes known);
      rejects = λ sure. at_limit format.rejects (input_error_of e) b.known bytes a.budget budget
          ((d.rejects (exact sure)).at bytes known);
      begins = at_limit format.begins (input_error_of e) b.known bytes a.budget budget
          (d.begins.at bytes known);
    };
  }
