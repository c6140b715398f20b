-- An item that is lent, as a typed value.
use Rattle.std.proofs.Common.{Result, IfOk, IfErr, false, rules}
use Rattle.cbor4ii_rw.specs.View.{View, BeginsAt}
use Rattle.cbor4ii_rw.specs.declared.error.DecodeError.{DecodeError}
use Rattle.cbor4ii_items.specs.Decoding.{IsExact, Decodes}
use Rattle.cbor4ii_tree.specs.declared.raw.RawValue.{RawValue}
use Rattle.cbor4ii_tree.specs.Calls.Raw.{raw_content, raw_format, TakesItem, RejectsAsSkipping}
use Rattle.cbor4ii_tree.specs.Calls.Raw.{Unmoved}
use Rattle.cbor4ii_tree.specs.Calls.Raw.{RejectsOnPrefix, raw_place}
use Rattle.cbor4ii.specs.Raw.{LendsItem}
use Rattle.cbor4ii.proofs.IfKnown.{decoded}

pub lends_item : {E : Type 0} {a b : View} {r : Result RawValue (DecodeError E)}
    → Decodes (raw_format raw_content) a b r → (IsExact false a → TakesItem raw_content a b r)
    → (IsExact false a → RejectsAsSkipping a b r) → IfErr r (Unmoved a b) → RejectsOnPrefix a r
    → IfOk r (λ v. BeginsAt (raw_place v) a) → LendsItem a b r
lends_item d whole exact unmoved errs place = search (rules, decoded)
