-- Where reading a value is rejected.
use Rattle.std.specs.Prelude.{ℕ, List, true}
use Rattle.cbor4ii_items.specs.{Budget.CostFits, Initial.Initial}
use Rattle.cbor4ii_tree.specs.Basis.{Cost.{Budget, step_in, cost}, InputError.InputError}
use Rattle.cbor4ii_tree.specs.Basis.InputError.{sign_name, kind_name, precision_name, array_name}
use Rattle.cbor4ii_tree.specs.Basis.{InputError.{map_name, value_name}, Tree.{Tree, Plain}}
use Rattle.cbor4ii_tree.specs.Calls.ItemRejects.{Profile, RejectsBy, RejectsFrom, ItemRejects}
use Rattle.cbor4ii_tree.specs.Calls.Rejections.{Rejection, RejectsAtStep}
pub use Rattle.cbor4ii_tree.specs.Calls.ItemRejects.{ReadableChunk, CutString, NoUtf8}
pub use Rattle.cbor4ii_tree.specs.Calls.ItemRejects.{ChunkRejectsBy}
pub use Rattle.cbor4ii_tree.specs.Calls.ItemRejects.{ChunkRejects}

-- an item that is read whole
abbrev pub Readable : Budget → Tree → Type 0
Readable budget t = Plain t × CostFits (cost t) budget

-- An array or a map asks for one more step before its head.
-- How a value is read: of a number that is cut, its whole width is asked for.
abbrev pub reading_profile : Profile
reading_profile = record {
  of_int = sign_name;
  of_string = kind_name;
  of_float = precision_name;
  of_array = array_name;
  of_map = map_name;
  of_item = value_name;
  asks = λ k n. k;
  leaves = λ b bs. bs;
  inside = step_in;
  tests = true;
  Whole = Readable;
}

abbrev pub ReadingRejectsBy : (Budget → Rejection) → Budget → Initial → ℕ → Rejection
ReadingRejectsBy = RejectsBy reading_profile

abbrev pub ReadingRejectsFrom : (Budget → Rejection) → Budget → Rejection
ReadingRejectsFrom = RejectsFrom reading_profile

-- reading the input's first value fails under the budget with the error, and leaves the rest
abbrev pub ReadingRejects : List ℕ → Budget → InputError → List ℕ → Type 0
ReadingRejects = ItemRejects reading_profile

-- `ReadingRejects` without a bound on how deep items nest, as the rejections of the parts say
abbrev pub ReadingRejectsByParts : List ℕ → Budget → InputError → List ℕ → Type 0
ReadingRejectsByParts input budget e rest =
    RejectsAtStep value_name (step_in budget) input
    (λ inner. ReadingRejectsFrom (λ left part. ReadingRejects part left) inner input) e rest
