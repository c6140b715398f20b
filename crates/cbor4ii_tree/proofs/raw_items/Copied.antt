-- What a copied item says of the bytes.
use Rattle.std.proofs.Common.{◌≡◌, ℕ, inl, inr, List, [], drop, Some, Result, Ok, Err, true, false}
use Rattle.std.proofs.Common.{refl, sym, subst, IfErr, IsTrue, rules}
use Rattle.cbor4ii_rw.specs.{View.{View, IfKnown}, declared.error.DecodeError.DecodeError}
use Rattle.cbor4ii_items.specs.{Decoding.{IsExact, Decodes}, InputError.is_out_of_memory}
use Rattle.cbor4ii_items.specs.Laws.Calls.{in_memory, out_of_memory}
use Rattle.cbor4ii_tree.specs.Calls.BoxedRaw.{boxed_content, CapturesCopy, UnmovedOrLacks}
use Rattle.cbor4ii_tree.specs.Calls.BoxedRaw.{SkippedTo, CopiesItem, boxed_raw_format}
use Rattle.cbor4ii_tree.specs.{Basis.Cost.{Budget, skip_cost}, Basis.Encodings.Skips}
use Rattle.cbor4ii_tree.specs.{Basis.Headline.{Answered, Rejected}, Basis.InputError.InputError}
use Rattle.cbor4ii_tree.specs.Calls.Raw.{raw_format, RejectedPrefix, SkipsPrefix}
use Rattle.cbor4ii_tree.specs.{Calls.SkippingRejects.SkippingRejects, Basis.Tree.{Tree, bytes}}
use Rattle.cbor4ii_tree.specs.declared.boxed_raw.BoxedRawValue.{BoxedRawValue}
use Rattle.cbor4ii_tree.proofs.raw_items.Captured.{item_at, skips_read, raw_decodes, raw_memory}
use Rattle.cbor4ii_tree.proofs.raw_items.Captured.{raw_unmoved, raw_rejected, raw_whole, raw_exact}
use Rattle.cbor4ii_tree.proofs.raw_items.Captured.{no_item}

-- ---- a copy of what was lent

-- no byte is lent, so no item is
pub none_read : {lent shown : List ℕ} {budget : Budget} {n : ℕ} {A : Type 0} → lent ≡ []
    → shown ≡ lent → SkipsPrefix shown budget n → A
none_read none is item = absurd (no_item none is item)

-- ---- what a copied item says of the bytes

module _ {E : Type 0} (a b : View) where
  copy_decodes : (r : Result BoxedRawValue (DecodeError E)) → CapturesCopy a b r
      → Decodes boxed_raw_format a b r
  copy_decodes (Ok v) c =
      in_memory (raw_format boxed_content) (Ok v) (raw_decodes boxed_content a b (Ok v) c)
  copy_decodes (Err e) (inl n) =
      in_memory (raw_format boxed_content) (Err e) (raw_decodes boxed_content a b (Err e) n)
  copy_decodes (Err e) (inr l) = search (rules, out_of_memory)

  copy_whole : (r : Result BoxedRawValue (DecodeError E)) → CapturesCopy a b r → IsExact false a
      → IfKnown a.known (λ xs. (t : Tree) (rest : List ℕ) → Skips xs a.budget t rest
      → Answered (λ v. (boxed_content v ≡ bytes t) × (b.known ≡ Some rest)) (λ _. ⊥) r)
  copy_whole (Ok v) c exact = raw_whole {E = E} boxed_content a b (Ok v) c exact
  copy_whole (Err e) (inl n) exact = raw_whole boxed_content a b (Err e) n exact
  copy_whole (Err e) (inr l) exact = search rules

  copy_exact : (r : Result BoxedRawValue (DecodeError E)) → CapturesCopy a b r → IsExact false a
      → IfKnown a.known (λ xs. (e : InputError) (left : List ℕ) → SkippingRejects xs a.budget e left
      → Answered (λ _. ⊥) (λ f. (f ≡ e) × (b.known ≡ Some xs)) r)
  copy_exact (Ok v) c exact = raw_exact {E = E} boxed_content a b (Ok v) c exact
  copy_exact (Err e) (inl n) exact = raw_exact boxed_content a b (Err e) n exact
  copy_exact (Err e) (inr l) exact = search rules

  copy_unmoved : (r : Result BoxedRawValue (DecodeError E)) → CapturesCopy a b r
      → IfErr r (UnmovedOrLacks a b)
  copy_unmoved (Ok v) c = tt
  copy_unmoved (Err e) (inl n) = inr (raw_unmoved boxed_content a b (Err e) n)
  copy_unmoved (Err e) (inr l) =
      inl (subst (λ (z : DecodeError E). IsTrue (is_out_of_memory z)) (sym l.lacks) refl)

  copy_rejected : (r : Result BoxedRawValue (DecodeError E)) → CapturesCopy a b r
      → IfKnown a.known (λ xs. Rejected (RejectedPrefix a xs) r)
  copy_rejected (Ok v) c = λ xs known. tt
  copy_rejected (Err e) (inl n) = raw_rejected boxed_content a b (Err e) n
  copy_rejected (Err e) (inr l) = λ xs known. subst (λ (z : DecodeError E). Rejected
      {V = BoxedRawValue} (RejectedPrefix a xs) (Err z)) (sym l.lacks) tt

  copy_after : (r : Result BoxedRawValue (DecodeError E)) → CapturesCopy a b r
      → IfErr r (λ e. IsTrue (is_out_of_memory e) → IfKnown a.known (SkippedTo a b))
  copy_after (Ok v) c = tt
  copy_after (Err e) (inl n) =
      λ out. let never : false ≡ true = raw_memory boxed_content a b (Err e) n out in cc
  copy_after (Err e) (inr l) = λ out xs known.
      let c = l.captured in
      let p = item_at (λ (z : List ℕ). z) a b l.item c xs known in (
        p.of_tree,
        drop c.count xs,
        skips_read xs c.count (skip_cost c.item.skipped) a.budget p c.item.skips.fits,
        (c.lends.at xs known).1,
      )

  pub copies_item : (r : Result BoxedRawValue (DecodeError E)) → CapturesCopy a b r
      → CopiesItem a b r
  copies_item r c = search (rules, copy_decodes, copy_unmoved, copy_rejected, copy_after, copy_whole, copy_exact)
