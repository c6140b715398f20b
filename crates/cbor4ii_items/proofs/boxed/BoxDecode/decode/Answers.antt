use Rattle.cbor4ii_items.specs.Decoding.{taking_memory}
use Rattle.cbor4ii_items.specs.Laws.Calls.{by_ok, by_err, in_memory}
use Rattle.cbor4ii_items.proofs.boxed.BoxDecode.decode.Goals as goal

pub returns-in-Err-clause-decodes : goal.returns-in-Err-clause-decodes
returns-in-Err-clause-decodes g c =
    let s = g.T.Decodable.format in
    by_err (λ b. b.value) (taking_memory s) (in_memory s _ c.in-Err.ensures)

pub returns-in-Ok-new-clause-decodes : goal.returns-in-Ok-new-clause-decodes
returns-in-Ok-new-clause-decodes g c =
    let s = g.T.Decodable.format in
    by_ok (λ b. b.value) (taking_memory s) c.in-Ok-new.ensures.ok (in_memory s _ c.in-Ok.ensures)
