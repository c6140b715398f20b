-- Items that are kept as a copy of their bytes.
use Rattle.std.specs.Prelude.{◌≡◌, ◌≢◌, ℕ, ◌⊎◌, List, [], Some, Result, Ok, Err, false, IsTrue}
use Rattle.std.specs.Prelude.{IfErr}
use Rattle.cbor4ii_rw.specs.{View.{View, IfKnown}, declared.error.DecodeError.DecodeError}
use Rattle.cbor4ii_rw.specs.declared.error.DecodeError.TheVariants.{OutOfMemory}
use Rattle.cbor4ii_items.specs.Decoding.{IsExact, Rejects, Format, Decodes, taking_memory}
use Rattle.cbor4ii_items.specs.InputError.{is_out_of_memory}
use Rattle.cbor4ii_tree.specs.{declared.boxed_raw.BoxedRawValue.BoxedRawValue, Basis.Tree.Tree}
use Rattle.cbor4ii_tree.specs.{Basis.Cost.Budget, Basis.InputError.{InputError, require_borrowed}}
use Rattle.cbor4ii_tree.specs.{Basis.Encodings.Skips, Calls.SkippingRejects.SkippingRejects}
use Rattle.cbor4ii_tree.specs.Calls.Raw.{raw_format, Unmoved, RejectsOnPrefix, raw_value, TakesItem}
use Rattle.cbor4ii_tree.specs.Calls.Raw.{RejectsAsSkipping, Captured, NotCaptured}

-- the bytes of a kept item, in memory of its own
abbrev pub boxed_content : BoxedRawValue → List ℕ
boxed_content v = v.0.items

abbrev pub boxed_raw_format : Format BoxedRawValue
boxed_raw_format = taking_memory (raw_format boxed_content)

-- an item was taken, and there was no memory for its copy
pub record LacksRoom {E : Type 0} (old new : View) (e : DecodeError E) : Type 0 where
  pub lacks : e ≡ OutOfMemory
  pub item : List ℕ
  pub captured : Captured (λ (bytes : List ℕ). bytes) old new item

abbrev pub CapturesCopy : {E : Type 0} → View → View → Result BoxedRawValue (DecodeError E) → Type 0
CapturesCopy old new (Ok v) = Captured boxed_content old new v
CapturesCopy old new (Err e) = NotCaptured old new e ⊎ LacksRoom old new e

-- nothing is taken, but where there was no memory
abbrev pub UnmovedOrLacks : {E : Type 0} → View → View → DecodeError E → Type 0
UnmovedOrLacks old new e = IsTrue (is_out_of_memory e) ⊎ Unmoved old new e

-- the item that skipping takes was taken
abbrev pub SkippedTo : View → View → List ℕ → Type 0
SkippedTo old new xs =
    (t : Tree) × (rest : List ℕ) × Skips xs old.budget t rest × (new.known ≡ Some rest)

-- Some bytes are left, or none are and skipping fails there.
-- Over a reader that lends nothing an item is rejected, and nothing moves.
abbrev pub RejectsRawUnlent : List ℕ → Budget → InputError → List ℕ → Type 0
RejectsRawUnlent xs budget e rest = (rest ≡ xs) × (((xs ≢ []) × (e ≡ require_borrowed raw_value)) ⊎
    ((xs ≡ []) × ((left : List ℕ) × SkippingRejects [] budget e left)))

-- over a reader that lends nothing no item is read, and no memory is asked for
abbrev pub CopiesNone : {E : Type 0} → View → View → Result BoxedRawValue (DecodeError E) → Type 0
CopiesNone old new (Ok v) = ⊥
CopiesNone old new (Err e) = (is_out_of_memory e ≡ false) × Rejects RejectsRawUnlent old new e

-- What reading an item as a copy of its bytes promises.
pub record CopiesItem {E : Type 0} (old new : View)
    (answer : Result BoxedRawValue (DecodeError E)) : Type 0 where
  -- as every decoding call
  pub decodes : Decodes boxed_raw_format old new answer
  -- over any reader
  pub unmoved : IfErr answer (UnmovedOrLacks old new)
  pub errs : RejectsOnPrefix old answer
  -- want of memory comes after the item
  pub after_item : IfErr answer (λ error. IsTrue (is_out_of_memory error) →
      IfKnown old.known (SkippedTo old new))
  -- over a zero-copy reader: exactly as skipping takes an item, or fails
  pub whole : IsExact false old → TakesItem boxed_content old new answer
  pub exact : IsExact false old → RejectsAsSkipping old new answer
