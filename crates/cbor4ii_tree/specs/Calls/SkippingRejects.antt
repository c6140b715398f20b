-- Where skipping an item is rejected.
use Rattle.std.specs.Prelude.{ℕ, ◌-◌, List, ◌∷◌, Some, false}
use Rattle.cbor4ii_items.specs.{Budget.CostFits, Initial.Initial}
use Rattle.cbor4ii_tree.specs.Basis.{Cost.{Budget, step_in, skip_cost}, InputError.InputError}
use Rattle.cbor4ii_tree.specs.Basis.{InputError.ignored_any, Tree.{Tree, Loose}}
use Rattle.cbor4ii_tree.specs.Calls.ItemRejects.{Profile, RejectsBy, RejectsFrom, ItemRejects}
use Rattle.cbor4ii_tree.specs.Calls.Rejections.{Rejection, RejectsAtStep}

-- an item that is skipped whole
abbrev pub Skippable : Budget → Tree → Type 0
Skippable budget t = Loose t × CostFits (skip_cost t) budget

-- how an item is skipped: of a cut number what is missing is asked for, and any items are chunks
abbrev pub skipping_profile : Profile
skipping_profile = record {
  of_int = λ s. ignored_any;
  of_string = λ k. ignored_any;
  of_float = λ p. ignored_any;
  of_array = ignored_any;
  of_map = ignored_any;
  of_item = ignored_any;
  asks = λ k n. k - n;
  leaves = λ b bs. b ∷ bs;
  inside = Some;
  tests = false;
  Whole = Skippable;
}

abbrev pub SkippingRejectsBy : Rejection → Budget → Initial → ℕ → Rejection
SkippingRejectsBy rejects = RejectsBy skipping_profile (λ left. rejects)

abbrev pub SkippingRejectsFrom : Rejection → Budget → Rejection
SkippingRejectsFrom rejects = RejectsFrom skipping_profile (λ left. rejects)

-- skipping the input's first item fails under the budget with the error, and leaves the rest
abbrev pub SkippingRejects : List ℕ → Budget → InputError → List ℕ → Type 0
SkippingRejects = ItemRejects skipping_profile

-- `SkippingRejects` without a bound on how deep items nest, as the rejections of the parts say
abbrev pub SkippingRejectsByParts : List ℕ → Budget → InputError → List ℕ → Type 0
SkippingRejectsByParts input budget e rest =
    RejectsAtStep ignored_any (step_in budget) input
    (λ inner. SkippingRejectsFrom (λ part. SkippingRejects part inner) inner input) e rest
