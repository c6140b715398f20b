-- What an optional or a tagged item rejects is not read, where its item's errors are not.
use Rattle.std.proofs.Common.{◌≡◌, ℕ, ◌⊎◌, inl, inr, List, [], ◌∷◌, Option, Some, None, refl}
use Rattle.std.proofs.Common.{arith, rules}
use Rattle.cbor4ii_items.specs.declared.types.Tag.{Tag}
use Rattle.cbor4ii_items.specs.Containers.{ReadsOption, RejectsOption, ReadsTag, RejectsTag}
use Rattle.cbor4ii_items.specs.Decoding.{Reads, RejectsAt}
use Rattle.cbor4ii_items.specs.Budget.{CostFits}
use Rattle.cbor4ii_items.specs.Heads.{ReadsHead}
use Rattle.cbor4ii_items.specs.Maybe.{ReadsMaybe, RejectsFew, few_head_rejected, few_indefinite}
use Rattle.cbor4ii_items.specs.Maybe.{few_other, RejectsMaybe, maybe_head_rejected}
use Rattle.cbor4ii_items.specs.Maybe.{maybe_item_rejected}
use Rattle.cbor4ii_items.specs.NeverBoth.{NeverBoth}
use Rattle.cbor4ii_items.specs.InputError.{InputError}
use Rattle.cbor4ii_items.specs.Laws.Heads.{head_one}
use Rattle.cbor4ii_items.specs.Laws.LeavesApart.{head_apart}
use Rattle.cbor4ii_items.specs.Laws.Maybe.{two_counts}
use Rattle.cbor4ii_items.specs.Laws.Strings.{head_not_indefinite}

-- the head of an array of no item or one
pub few_apart : (xs : List ℕ) (budget : Option ℕ) (err : InputError) (rest : List ℕ) (count n : ℕ)
    → RejectsFew xs budget err rest → (count ≡ 0) ⊎ (count ≡ 1) → ReadsHead 4 8 xs count n → ⊥
few_apart xs budget err rest count n (few_head_rejected s) few h =
    head_apart _ 4 8 xs err rest count n s.1 h
few_apart xs budget err rest count n (few_indefinite s e f) few h =
    head_not_indefinite 4 xs count n (omega arith) h s
few_apart xs budget err rest count n (few_other other before g p q e f) few h =
    search (rules, head_one, inl, inr)

module _ {V : Type 0} (reads : Reads V) (rejects : RejectsAt)
    (apart : NeverBoth reads rejects) where
  pub option_apart : NeverBoth (ReadsOption reads) (RejectsOption rejects)
  option_apart [] budget err rest s None n c p fits = elim p.0 [ inl e ↦ cc | inr e ↦ cc ]
  option_apart [] budget err rest s (Some v) n c p fits = absurd (omega (arith, p.1))
  option_apart (b ∷ bs) budget err rest s None n c p fits = s.0 p.0
  option_apart (b ∷ bs) budget err rest s (Some v) n c p fits =
      apart (b ∷ bs) budget err rest s.1 v n c p.2 fits

  pub tag_apart : (xs : List ℕ) (budget : Option ℕ) (err : InputError) (rest : List ℕ)
      → RejectsTag rejects xs budget err rest → (t : Tag V) (n c : ℕ)
      → ReadsTag reads xs t.0 t.1 n c → CostFits c budget → ⊥
  tag_apart xs budget err rest (inl s) t n c p fits =
      head_apart _ 6 8 xs err rest t.0 p.before s p.head
  tag_apart xs budget err rest (inr s) t n c p fits = search (rules, head_one)

  pub maybe_apart : NeverBoth (ReadsMaybe reads) (RejectsMaybe rejects)
  maybe_apart xs budget err rest (maybe_head_rejected s) None n c p fits =
      few_apart xs budget err rest 0 n s (inl refl) p.0
  maybe_apart xs budget err rest (maybe_head_rejected s) (Some v) n c p fits =
      few_apart xs budget err rest 1 p.before s (inr refl) p.head
  maybe_apart xs budget err rest (maybe_item_rejected before h s) None n c p fits =
      two_counts xs n before p.0 h
  maybe_apart xs budget err rest (maybe_item_rejected before h s) (Some v) n c p fits =
      search (rules, head_one)
