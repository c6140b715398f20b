use Rattle.std.proofs.Common.{◌≡◌, ℕ, ◌++◌, subst, arith, rules}
use Rattle.std.specs.declared.alloc.Global.{Global}
use Rattle.std.specs.declared.vec.Vec.{Vec}
use Rattle.cbor4ii_items.specs.Whole.{IsWhole}
use Rattle.cbor4ii_tree.specs.Calls.PlainRaw.{plain_raw_content, plain_raw_format}
use Rattle.cbor4ii_ser.specs.Item.{IsEncodedAnd}
use Rattle.cbor4ii_examples.specs.Envelope.{envelope_encoding}
use Rattle.cbor4ii_examples.proofs.Sealing.{written, ok_of, is_sealed, not_enveloped}
use Rattle.cbor4ii_examples.proofs.envelope.seal.Goals as goal

pub returns-in-Ok-clause-sealed : goal.returns-in-Ok-clause-sealed
returns-in-Ok-clause-sealed g c =
    let item = c.in_ok-item.item.items in
    let plain = c.in_ok-payload.payload in
    let s = c.in_ok-signature.signature in
    let lends = c.deref.ensures.value in
    let lent : c.deref.result.now ≡ item = cc in
    let holds = c.deref-2.ensures.value in
    let held : c.deref-2.result.now ≡ s.items = cc in
    let enc = g.T.Serialize.encoding c.args.payload.now in
    let signed = g.S.Sign.signed c.args.signer.now in
    let number = g.S.Sign.number c.args.signer.now in
    is_sealed signed number c.key.result enc item plain c.as_bytes.result.now s.items
    c.deref-2.result.now c.in-Ok.bytes.items
    (written enc c.new.result.items item c.new.ensures.items
    (ok_of _ c.to_vec.result c.in_ok-item.item
    (λ (v : Vec ℕ Global). IsEncodedAnd enc (λ xs. v.items ≡ c.new.result.items ++ xs))
    c.in_ok-item.ensures.cases c.to_vec.ensures.appends))
    (subst (λ xs. IsWhole plain_raw_format.reads xs plain) lent
    (ok_of _ c.new-2.result plain (IsWhole plain_raw_format.reads c.deref.result.now)
    c.in_ok-payload.ensures.cases c.new-2.ensures.whole.accepts))
    c.as_bytes.ensures.content
    (ok_of _ c.sign.result s (λ (v : Vec ℕ Global). signed number v.items c.as_bytes.result.now)
    c.in_ok-signature.ensures.cases c.sign.ensures)
    (omega (arith, s.ok.0, s.ok.1, s.small)) c.key.ensures held
    (written (envelope_encoding c.key.result c.deref-2.result.now (plain_raw_content plain))
    c.new-3.result.items c.in-Ok.bytes.items c.new-3.ensures.items c.in-Ok.ensures.appends)

pub returns-clause-rejects : goal.returns-clause-rejects
returns-clause-rejects g c = search (rules, not_enveloped)
