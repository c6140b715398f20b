use Rattle.std.proofs.Common.{refl}
use Rattle.cbor4ii_tree.specs.Calls.Canonically.{canonical_format}
use Rattle.cbor4ii_examples.proofs.Stored.{handed_on}
use Rattle.cbor4ii_examples.specs.Store.{IsCanonicalEncoding}
use Rattle.cbor4ii_examples.proofs.store.stored_value.Goals as goal

pub returns-clause-equal : goal.returns-clause-equal
returns-clause-equal c =
    ((c.whole_inputs_are_encodings.ensures.canonical c.args.input.now _).0
    c.in_ok-value.ensures.accepts).2

pub returns-in_err-value-clause-rejects : goal.returns-in_err-value-clause-rejects
returns-in_err-value-clause-rejects c =
    handed_on canonical_format c.args.input.now IsCanonicalEncoding (λ v. record { 0 = v })
    (λ v. (c.whole_inputs_are_encodings.ensures.canonical c.args.input.now (record { 0 = v })).1)
    refl c.in_err-value.field-0.0 c.in_err-value.ensures c.from_residual.result
    c.from_residual.ensures.1
