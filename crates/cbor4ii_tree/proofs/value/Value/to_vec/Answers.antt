use Rattle.std.proofs.Common.{◌≡◌, [], ◌++◌, refl, ap}
use Rattle.cbor4ii_tree.specs.{Basis.Canonical.canonical_encoding, Basis.View.view}
use Rattle.cbor4ii_tree.proofs.value.Value.to_vec.Goals as goal

pub returns-in-Ok : goal.returns-in-Ok
returns-in-Ok c =
    let held = c.new-writer.result.bytes.items in
    let encoding = canonical_encoding (view c.args.self.now) in
    let wrote = c.in-Ok.ensures.writes.appends held refl in
    let made = c.new-writer.ensures.written in
    let none = c.new.ensures.items in
    let kept = c.into_inner.ensures.written in
    let empty : held ≡ [] = cc in
    let from : held ++ encoding ≡ encoding = ap (λ xs. xs ++ encoding) empty in
    cc
