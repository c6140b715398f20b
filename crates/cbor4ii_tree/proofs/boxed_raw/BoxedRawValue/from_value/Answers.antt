use Rattle.std.proofs.Common.{[], Some, ap, ◌∙◌, rules}
use Rattle.cbor4ii_tree.proofs.boxed_raw.BoxedRawValue.from_value.Goals as goal

pub returns-clause-content : goal.returns-clause-content
returns-clause-content c =
    let wrote = c.in_ok-encode.ensures.writes.appends []
    (c.new-writer.ensures.written ∙ ap Some c.new.ensures.items) in
    let inside = c.into_inner.ensures in
    cc

pub returns-clause-encodes : goal.returns-clause-encodes
returns-clause-encodes c = search (rules, returns-clause-content)
