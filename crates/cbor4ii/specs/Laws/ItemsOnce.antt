-- An item that is read as a `Value`, skipped, or kept as its bytes is rejected with one error.
use Rattle.std.proofs.Common.{◌≡◌, ℕ, suc, List, ◌∷◌, ◌++◌, take, drop, refl, sym, ap}
use Rattle.std.proofs.Common.{◌∙◌}
use Rattle.cbor4ii_items.specs.Decoding.{leaf_format, taking_memory}
use Rattle.cbor4ii_items.specs.OneError.{RejectsOnce}
use Rattle.cbor4ii_items.specs.Laws.NumbersOnce.{once_by, once_in_memory}
use Rattle.cbor4ii_tree.specs.Basis.Cost.{Budget}
use Rattle.cbor4ii_tree.specs.Basis.Encodings.{DecodesTo, AtMostOne}
use Rattle.cbor4ii_tree.specs.Basis.View.{view}
use Rattle.cbor4ii_tree.specs.Calls.BoxedRaw.{boxed_content, boxed_raw_format}
use Rattle.cbor4ii_tree.specs.Calls.Ignored.{ReadsIgnored}
use Rattle.cbor4ii_tree.specs.Calls.PlainRaw.{plain_raw_format}
use Rattle.cbor4ii_tree.specs.Calls.Promises.{ReadsValue, value_format}
use Rattle.cbor4ii_tree.specs.Calls.Raw.{raw_format}
use Rattle.cbor4ii_tree.specs.Calls.ReadingRejects.{ReadingRejects}
use Rattle.cbor4ii_tree.specs.Calls.SkippingRejects.{SkippingRejects}
use Rattle.cbor4ii.specs.Once.{SkippedOnce}

joined : (n : ℕ) (xs : List ℕ) → take n xs ++ drop n xs ≡ xs
joined (suc n) (x ∷ xs) = ap (λ zs. x ∷ zs) (joined n xs)
joined _ _ = refl

pub value_once : ((input : List ℕ) (budget : Budget)
    → AtMostOne (DecodesTo input budget) (ReadingRejects input budget)) → RejectsOnce value_format
value_once one =
    let items = leaf_format ReadsValue ReadingRejects in
    once_by view (taking_memory items) (once_in_memory items (record {
      apart = λ xs budget e x r v n c p fits. (one xs budget).not_both v (drop n xs) e x (record {
        encoding = take n xs;
        steps = c;
        encodes = p.encodes;
        fits = fits;
        begins = sym (joined n xs);
      }) r;
      one_error = λ xs budget e f x y. (one xs budget).one_rejected e f x y;
    }))

pub ignored_once : SkippedOnce → RejectsOnce (leaf_format ReadsIgnored SkippingRejects)
ignored_once skipped = record {
  apart = λ xs budget e x r v n c p. skipped.apart xs budget e x r n c p;
  one_error = skipped.one_error;
}

-- ---- an item that is kept as its bytes

pub raw_once : {V : Type 0} (content : V → List ℕ) → SkippedOnce
    → RejectsOnce (raw_format content)
raw_once content skipped = record {
  apart = λ xs budget e x r v n c p. skipped.apart xs budget e r.1.0 r.1.1 n c p.0;
  one_error = λ xs budget e f x y r s. (
    (skipped.one_error xs budget e f r.1.0 s.1.0 r.1.1 s.1.1).0,
    r.0 ∙ sym s.0,
  );
}

pub boxed_raw_once : SkippedOnce → RejectsOnce boxed_raw_format
boxed_raw_once skipped =
    once_in_memory (raw_format boxed_content) (raw_once boxed_content skipped)

pub plain_raw_once : ((input : List ℕ) (budget : Budget)
    → AtMostOne (DecodesTo input budget) (ReadingRejects input budget))
    → RejectsOnce plain_raw_format
plain_raw_once one =
    let value = value_once one in
    record {
      apart = λ xs budget e x r p n c q. value.apart xs budget e x r q.0 n c q.1.0;
      one_error = value.one_error;
    }
