use Rattle.std.proofs.Common.{◌≡◌, ◌++◌, ◌∷◌, [], None, rules, sym, ap, ◌∙◌, append_assoc}
use Rattle.cbor4ii_ser.specs.Item.{each_encoding, pair_encoding}
use Rattle.cbor4ii_ser.specs.Laws.Joining.{serializes_then, serializes_as}
use Rattle.cbor4ii_ser.specs.Laws.Joining.{items_turn, items_push}
use Rattle.cbor4ii_ser.proofs.Pushing.{pushes_out, pushes_on, pushes_as}
use Rattle.cbor4ii_ser.proofs.maps.put_entries_in_turn.Goals as goal

pub loop-key-preserved : goal.loop-key-preserved
loop-key-preserved g c =
    let done = c.loop-key.invariant.0 in
    let e : g.row.K.Denot × g.row.V.Denot = (c.in-Some.key.now, c.in-Some.value.now) in (
      done ++ (e ∷ []),
      c.loop-key.invariant.1 ∙ (ap (λ z. done ++ z) c.in-Some.ensures.steps
          ∙ sym (append_assoc done (e ∷ []) c.next.new.self)),
      serializes_as _ (items_push (pair_encoding g.K.Serialize.encoding g.V.Serialize.encoding)
          done e)
          (serializes_then _ _ _ c.loop-key.invariant.2 c.in_ok-put_both.ensures.writes),
      c.in_ok-put_both.ensures.kept ∙ c.loop-key.invariant.3,
    )

pub returns-in_err-put_both : goal.returns-in_err-put_both
returns-in_err-put_both g c =
    let item = pair_encoding g.K.Serialize.encoding g.V.Serialize.encoding in
    let done = c.loop-key.invariant.0 in
    let e : g.row.K.Denot × g.row.V.Denot = (c.in-Some.key.now, c.in-Some.value.now) in
    let all = c.loop-key.invariant.1 ∙ ap (λ z. done ++ z) c.in-Some.ensures.steps in
    let r : c.from_residual.result ≡ None = search rules in
    pushes_as (items_turn item done e c.next.new.self ∙ sym (ap (each_encoding item) all))
    (pushes_on _ c.loop-key.invariant.2 c.loop-key.invariant.3
    (pushes_out (each_encoding item c.next.new.self) r c.in_err-put_both.ensures))
