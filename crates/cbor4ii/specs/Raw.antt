-- Items that are kept as their bytes, read as typed values.
use Rattle.std.specs.Prelude.{Result, IfOk, IfErr, false, refl}
use Rattle.cbor4ii_rw.specs.View.{View, BeginsAt}
use Rattle.cbor4ii_rw.specs.declared.error.DecodeError.{DecodeError}
use Rattle.cbor4ii_items.specs.Decoding.{IsExact}
use Rattle.cbor4ii_tree.specs.declared.raw.RawValue.{RawValue}
use Rattle.cbor4ii_tree.specs.Calls.Raw.{raw_content, TakesItem, RejectsAsSkipping, Unmoved}
use Rattle.cbor4ii_tree.specs.Calls.Raw.{RejectsOnPrefix, raw_place}
use Rattle.cbor4ii_tree.specs.Laws.Capturing.{raw_lawful}
use Rattle.cbor4ii.specs.Typed.{Promise, Deserializes, exact_promise}

-- one item, as its bytes stand in the input
abbrev pub lent_item : Promise RawValue
lent_item = exact_promise refl (raw_lawful raw_content)

-- What reading an item as its bytes promises, where they are lent.
pub record LendsItem {E : Type 0} (old new : View)
    (answer : Result RawValue (DecodeError E)) : Type 0 where
  -- as every typed value
  pub item : Deserializes lent_item old new answer
  -- over a zero-copy reader: exactly as skipping takes an item, or fails
  pub whole : IsExact false old → TakesItem raw_content old new answer
  pub exact : IsExact false old → RejectsAsSkipping old new answer
  -- over any reader nothing is taken at an error, and a reader that failed lost nothing
  pub unmoved : IfErr answer (Unmoved old new)
  -- `RequireBorrowed` comes only where the reader is not zero-copy
  pub errs : RejectsOnPrefix old answer
  -- the item is the input's own part: it stands where the bytes to come begin
  pub place : IfOk answer (λ v. BeginsAt (raw_place v) old)
