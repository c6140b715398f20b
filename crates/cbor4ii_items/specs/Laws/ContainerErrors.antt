-- What an optional, a tagged or a boxed item is rejected with has one error, where its item has.
use Rattle.std.proofs.Common.{inl, inr, [], ◌∷◌, refl, sym, ◌∙◌, arith, rules}
use Rattle.std.specs.Prelude.{codes}
use Rattle.cbor4ii_items.specs.Containers.{RejectsOption, RejectsTag}
use Rattle.cbor4ii_items.specs.Decoding.{RejectsAt, Format, taking_memory}
use Rattle.cbor4ii_items.specs.Maybe.{RejectsFew, few_head_rejected, few_indefinite, few_other}
use Rattle.cbor4ii_items.specs.Maybe.{RejectsMaybe, maybe_head_rejected, maybe_item_rejected}
use Rattle.cbor4ii_items.specs.OneError.{OneError, RejectsOnce}
use Rattle.cbor4ii_items.specs.Laws.Containers.{option_format, tag_format, boxed_format}
use Rattle.cbor4ii_items.specs.Laws.ContainersApart.{few_apart, option_apart, tag_apart}
use Rattle.cbor4ii_items.specs.Laws.ContainersApart.{maybe_apart}
use Rattle.cbor4ii_items.specs.Laws.HeadErrors.{head_error, length_error}
use Rattle.cbor4ii_items.specs.Laws.Heads.{head_one}
use Rattle.cbor4ii_items.specs.Laws.LeavesApart.{head_apart}
use Rattle.cbor4ii_items.specs.Laws.Maybe.{maybe_format}
use Rattle.cbor4ii_items.specs.Laws.NumbersOnce.{once_by, once_in_memory}
use Rattle.cbor4ii_items.specs.Laws.Strings.{head_not_indefinite}

-- the head of an array of no item or one
few_error : OneError RejectsFew
few_error xs budget e f x y (few_head_rejected s) (few_head_rejected t) =
    length_error (codes "array") 4 xs budget e f x y s t
few_error xs budget e f x y (few_head_rejected s) (few_indefinite b i j) = absurd (s.0 b)
few_error xs budget e f x y (few_head_rejected s) (few_other k n h p q i j) =
    absurd (head_apart (codes "array") 4 8 xs e x k n s.1 h)
few_error xs budget e f x y (few_indefinite b i j) (few_head_rejected t) = absurd (t.0 b)
few_error xs budget e f x y (few_indefinite b g h) (few_indefinite c i j) =
    (g ∙ sym i, h ∙ sym j)
few_error xs budget e f x y (few_indefinite b g h) (few_other k n r p q i j) =
    absurd (head_not_indefinite 4 xs k n (omega arith) r b)
few_error xs budget e f x y (few_other k n h p q i j) (few_head_rejected t) =
    absurd (head_apart (codes "array") 4 8 xs f y k n t.1 h)
few_error xs budget e f x y (few_other k n r p q g h) (few_indefinite b i j) =
    absurd (head_not_indefinite 4 xs k n (omega arith) r b)
few_error xs budget e f x y (few_other k n r p q g h) (few_other l m t c d i j) =
    search (rules, head_one)

module _ (rejects : RejectsAt) (once : OneError rejects) where
  pub option_error : OneError (RejectsOption rejects)
  option_error [] budget e f x y s t = (s.0 ∙ sym t.0, s.1 ∙ sym t.1)
  option_error (b ∷ bs) budget e f x y s t = once (b ∷ bs) budget e f x y s.1 t.1

  pub tag_error : OneError (RejectsTag rejects)
  tag_error xs budget e f x y (inl s) (inl t) = head_error (codes "tag") 6 8 xs e f x y s t
  tag_error xs budget e f x y (inl s) (inr t) =
      absurd (head_apart (codes "tag") 6 8 xs e x t.number t.before s t.head)
  tag_error xs budget e f x y (inr s) (inl t) =
      absurd (head_apart (codes "tag") 6 8 xs f y s.number s.before t s.head)
  tag_error xs budget e f x y (inr s) (inr t) = search (rules, head_one)

  pub maybe_error : OneError (RejectsMaybe rejects)
  maybe_error xs budget e f x y (maybe_head_rejected s) (maybe_head_rejected t) =
      few_error xs budget e f x y s t
  maybe_error xs budget e f x y (maybe_head_rejected s) (maybe_item_rejected n h t) =
      absurd (few_apart xs budget e x 1 n s (inr refl) h)
  maybe_error xs budget e f x y (maybe_item_rejected n h s) (maybe_head_rejected t) =
      absurd (few_apart xs budget f y 1 n t (inr refl) h)
  maybe_error xs budget e f x y (maybe_item_rejected n g s) (maybe_item_rejected m h t) =
      search (rules, head_one)

module _ {V : Type 0} (s : Format V) (h : RejectsOnce s) where
  pub option_once : RejectsOnce (option_format s)
  option_once = search (rules, option_apart, option_error)

  pub tag_once : RejectsOnce (tag_format s)
  tag_once = search (rules, tag_apart, tag_error)

  pub maybe_once : RejectsOnce (maybe_format s)
  maybe_once = record {
    apart = λ xs budget e x r v. maybe_apart s.reads s.rejects h.apart xs budget e x r v.0;
    one_error = maybe_error s.rejects h.one_error;
  }

  pub boxed_once : RejectsOnce (boxed_format s)
  boxed_once = once_by (λ b. b.value) (taking_memory s) (once_in_memory s h)
