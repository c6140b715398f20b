-- What is skipped and what is rejected, put together of its parts.
use Rattle.std.proofs.Common.{rules}
use Rattle.std.proofs.Common.{◌≡◌, ℕ, ◌<◌, ◌⊎◌, inl, inr, List, ◌∷◌, ◌++◌, Bool, true, false, refl}
use Rattle.cbor4ii_items.specs.{Budget.CostFits, Head.{Width, HeadFits, head}}
use Rattle.cbor4ii_tree.specs.{Basis.Cost.{Budget, skip_cost}, Basis.Encodings.Skips}
use Rattle.cbor4ii_tree.specs.{Basis.InputError.InputError, Calls.ItemRejects.OrTested}
use Rattle.cbor4ii_tree.specs.Calls.Rejections.{Rejection, AfterHead, AfterKey, Each, EachPair}
use Rattle.cbor4ii_tree.specs.Calls.Rejections.{NoBreak, RejectsInCount, IndefiniteItems}
use Rattle.cbor4ii_tree.specs.{Calls.Rejections.IndefinitePairs, Basis.Tree.{Tree, Trees, Pairs}}
use Rattle.cbor4ii_tree.specs.Basis.Tree.{Loose, count, bytes, bytes_all, bytes_pairs}

pub skips_by : {input : List ℕ} {budget : Budget} {t : Tree} {rest : List ℕ} → Loose t
    → CostFits (skip_cost t) budget → input ≡ bytes t ++ rest → Skips input budget t rest
skips_by loose fits begins = record { loose = loose; fits = fits; begins = begins }

pub headed_by : {major : ℕ} {w : Width} {b : ℕ} {then : ℕ → Rejection} {bs : List ℕ}
    {e : InputError} {rest : List ℕ} (argument : ℕ) (after : List ℕ) → HeadFits w argument
    → b ∷ bs ≡ head major argument w ++ after → then argument after e rest
    → AfterHead major w b then bs e rest
headed_by n after fits is rejected =
    record { argument = n; after = after; fits = fits; is = is; rejected = rejected }

-- where only what is tested has two ways to be rejected
pub cut_or : {A : Type 0} (B : Type 0) (tests : Bool) → A → OrTested tests A B
cut_or B true a = inl a
cut_or B false a = a

pub tested_or : (A : Type 0) {B : Type 0} (tests : Bool) → tests ≡ true → B → OrTested tests A B
tested_or A true is b = inr b
tested_or A false is b = cc

pub or_both : {A B C D : Type 0} (tests : Bool) → (A → C) → (B → D) → OrTested tests A B
    → OrTested tests C D
or_both true f g (inl x) = inl (f x)
or_both true f g (inr x) = inr (g x)
or_both false f g x = f x

pub either : {A B C : Type 0} (tests : Bool) → (A → C) → (tests ≡ true → B → C)
    → OrTested tests A B → C
either true f g (inl x) = f x
either true f g (inr x) = g refl x
either false f g x = f x

module _ {W : Tree → Type 0} {s : Rejection} {bs : List ℕ} {e : InputError} {rest : List ℕ} where
  pub in_count : {n : ℕ} (prefix : Trees) (after : List ℕ) → count prefix < n → Each W prefix
      → bs ≡ bytes_all prefix ++ after → s after e rest → RejectsInCount W s n bs e rest
  in_count ts after few whole is rejected = search rules

  pub in_items : (prefix : Trees) (after : List ℕ) → Each W prefix
      → bs ≡ bytes_all prefix ++ after → NoBreak s after e rest → IndefiniteItems W s bs e rest
  in_items ts after whole is rejected =
      record { prefix = ts; after = after; whole = whole; is = is; rejected = rejected }

  pub in_pairs : (prefix : Pairs) (after : List ℕ) → EachPair W prefix
      → bs ≡ bytes_pairs prefix ++ after → NoBreak s after e rest ⊎ AfterKey W s after e rest
      → IndefinitePairs W s bs e rest
  in_pairs ps after whole is rejected =
      record { prefix = ps; after = after; whole = whole; is = is; rejected = rejected }
