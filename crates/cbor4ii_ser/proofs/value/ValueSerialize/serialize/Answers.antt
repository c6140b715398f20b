use Rattle.std.proofs.Common.{◌≡◌, false, true, sym, ◌∙◌}
use Rattle.cbor4ii_ser.proofs.value.ValueSerialize.serialize.Goals as goal

pub returns-clause-written : goal.returns-clause-written
returns-clause-written g c = rw (sym c.if-holds_tag.ensures) c.serialize_item.ensures

pub returns-clause-untouched : goal.returns-clause-untouched
returns-clause-untouched g c = λ h. absurd (let k : false ≡ true = c.if-holds_tag.ensures ∙ h in cc)
