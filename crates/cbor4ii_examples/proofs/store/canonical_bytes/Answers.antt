use Rattle.std.proofs.Common.{◌≡◌, [], ◌++◌, refl, ap}
use Rattle.cbor4ii_tree.specs.Basis.Canonical.{canonical_encoding}
use Rattle.cbor4ii_tree.specs.Basis.View.{view}
use Rattle.cbor4ii_tree.specs.Calls.Promises.{value_format}
use Rattle.cbor4ii_examples.proofs.Stored.{handed_on, no_room}
use Rattle.cbor4ii_examples.specs.Store.{IsEncoding}
use Rattle.cbor4ii_examples.proofs.store.canonical_bytes.Goals as goal

pub returns-in-Ok-clause-encodes : goal.returns-in-Ok-clause-encodes
returns-in-Ok-clause-encodes c =
    let value = c.in_ok-value.value in
    let encoding = canonical_encoding (view value) in
    let held = c.new-writer.result.bytes.items in
    let read = (c.whole_inputs_are_encodings.ensures.value c.args.input.now value).0
    c.in_ok-value.ensures.accepts in
    let wrote = c.in-Ok.ensures.writes.appends held refl in
    let made = c.new-writer.ensures.written in
    let none = c.new.ensures.items in
    let kept = c.into_inner.ensures.written in
    let empty : held ≡ [] = cc in
    let from : held ++ encoding ≡ encoding = ap (λ xs. xs ++ encoding) empty in
    let all : c.into_inner.result.items ≡ encoding = cc in
    (view value, read, all)

pub returns-in_err-value-clause-rejects : goal.returns-in_err-value-clause-rejects
returns-in_err-value-clause-rejects c =
    handed_on value_format c.args.input.now IsEncoding (λ v. v)
    (λ v. (c.whole_inputs_are_encodings.ensures.value c.args.input.now v).1) refl
    c.in_err-value.field-0.0 c.in_err-value.ensures c.from_residual.result c.from_residual.ensures.1

pub returns-clause-rejects : goal.returns-clause-rejects
returns-clause-rejects c = no_room value_format c.args.input.now IsEncoding refl
