use Rattle.std.proofs.Common.{inl, refl}
use Rattle.std.proofs.lemmas.Result.{err_from_is_err_and}
use Rattle.cbor4ii_items.specs.InputError.{input_error_of}
use Rattle.cbor4ii_tree.specs.Calls.SkippingRejects.{SkippingRejects}
use Rattle.cbor4ii_examples.proofs.First.{at_limit}
use Rattle.cbor4ii_examples.proofs.raw_items.after_first.Goals as goal

pub returns-in_err-decode-clause-skips : goal.returns-in_err-decode-clause-skips
returns-in_err-decode-clause-skips c =
    let p = err_from_is_err_and c.from_residual.result c.from_residual.ensures.1 in
    rw (p.1, p.2) (at_limit SkippingRejects (input_error_of c.in_err-decode.field-0.0) _
    c.args.input.now _ c.new-reader.ensures.budget
    ((c.in_err-decode.ensures.decodes.rejects (inl refl)).at c.args.input.now
    c.new-reader.ensures.known))
