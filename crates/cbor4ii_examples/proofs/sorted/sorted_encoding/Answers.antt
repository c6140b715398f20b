use Rattle.std.proofs.Common.{◌≡◌, [], ◌++◌, refl, ap, ◌∙◌, rules}
use Rattle.cbor4ii_tree.specs.Basis.Canonical.{canonical_encoding}
use Rattle.cbor4ii_tree.specs.Basis.View.{view}
use Rattle.cbor4ii_examples.specs.Sorted.{sort_of}
use Rattle.cbor4ii_examples.proofs.sorted.sorted_encoding.Goals as goal

pub returns-in-Ok-clause-encodes : goal.returns-in-Ok-clause-encodes
returns-in-Ok-clause-encodes c =
    let encoding = canonical_encoding (view c.sort.new.value) in
    let held = c.new-writer.result.bytes.items in
    let wrote = c.in-Ok.ensures.writes.appends held refl in
    let made = c.new-writer.ensures.written in
    let none = c.new.ensures.items in
    let kept = c.into_inner.ensures.written in
    let empty : held ≡ [] = cc in
    let from : held ++ encoding ≡ encoding = ap (λ xs. xs ++ encoding) empty in
    let all : c.into_inner.result.items ≡ encoding = cc in
    let same : view c.sort.new.value ≡ sort_of (view c.args.value.now) = search rules in
    all ∙ ap canonical_encoding same
