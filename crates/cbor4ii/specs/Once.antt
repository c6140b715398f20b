-- What fields, variants and skipped items are rejected with: one error, which leaves one rest.
use Rattle.std.specs.Prelude.{ℕ, List, Option, Bool}
use Rattle.cbor4ii_items.specs.Budget.{CostFits}
use Rattle.cbor4ii_items.specs.InputError.{InputError}
use Rattle.cbor4ii_items.specs.NeverBoth.{NeverBoth}
use Rattle.cbor4ii_items.specs.OneError.{OneError}
use Rattle.cbor4ii_tree.specs.Calls.Ignored.{ReadsTree}
use Rattle.cbor4ii_tree.specs.Calls.SkippingRejects.{SkippingRejects}
use Rattle.cbor4ii.specs.Cases.{Cases, Holding, reads_by, rejects_named, reads_named}
use Rattle.cbor4ii.specs.Structs.{Fields}

-- an item whose skipping is rejected is not skipped, and is rejected with one error
pub record SkippedOnce : Type 0 where
  pub apart : (xs : List ℕ) (budget : Option ℕ) (e : InputError) (x : List ℕ)
      → SkippingRejects xs budget e x → (n c : ℕ) → ReadsTree xs n c → CostFits c budget → ⊥
  pub one_error : OneError SkippingRejects

-- what follows each name and is rejected is not read, and is rejected with one error
pub record FieldsOnce {V : Type 0} (fields : Fields V) : Type 0 where
  pub apart : (name : List ℕ) → NeverBoth (fields.named name) (fields.rejects name)
  pub one_error : (name : List ℕ) → OneError (fields.rejects name)

-- what a variant's content is rejected with is one error, and is then not read
pub record HoldingOnce {V : Type 0} (holding : Holding V) : Type 0 where
  pub apart : (form : Bool × ℕ)
      → NeverBoth (reads_by form holding.unit holding.content) (holding.rejects form)
  pub one_error : (form : Bool × ℕ) → OneError (holding.rejects form)

-- what follows each variant's name and is rejected is not read, and is rejected with one error
pub record CasesOnce {V : Type 0} (cases : Cases V) : Type 0 where
  pub apart : (form : Bool × ℕ) (name : List ℕ)
      → NeverBoth (reads_named cases form name) (rejects_named cases form name)
  pub one_error : (form : Bool × ℕ) (name : List ℕ) → OneError (rejects_named cases form name)
