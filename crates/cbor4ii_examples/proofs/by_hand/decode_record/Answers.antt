use Rattle.std.proofs.Common.{arith, inl, inr, sym, ◌∙◌, rules}
use Rattle.std.proofs.lemmas.Result.{err_from_is_err_and}
use Rattle.cbor4ii_items.specs.Laws.Steps.{moves_then, moves_err, kept_then}
use Rattle.cbor4ii.specs.Laws.Accessors.{kept_ok}
use Rattle.cbor4ii_examples.proofs.by_hand.decode_record.Goals.{in-id+in_ok-decode-in-id}
use Rattle.cbor4ii_examples.proofs.by_hand.decode_record.Goals.{in-name+in_ok-decode-in-name}
use Rattle.cbor4ii_examples.proofs.by_hand.decode_record.Goals.{in_default-2-via-in-Some+in_default}
use Rattle.cbor4ii_examples.proofs.by_hand.decode_record.Goals.{in_default-2-via-in_default}
use Rattle.cbor4ii_examples.proofs.Records.{number_under, name_under, one_more}
use Rattle.cbor4ii_examples.proofs.Records.{whole_map, none_by_key, none_by_length, not_counted}
use Rattle.cbor4ii_examples.proofs.Records.{some_record, none_by_part}
use Rattle.cbor4ii_examples.proofs.by_hand.decode_record.Goals as goal

pub returns-in_err-is_break-clause-moves : goal.returns-in_err-is_break-clause-moves
returns-in_err-is_break-clause-moves g c =
    search (rules, err_from_is_err_and, moves_then, moves_err)

pub returns-in_err-decode-clause-moves : goal.returns-in_err-decode-clause-moves
returns-in_err-decode-clause-moves g c =
    let p = err_from_is_err_and c.from_residual-in_err-decode.result
    c.from_residual-in_err-decode.ensures.1 in
    let before = kept_then c.loop-name.invariant.kept c.in_ok-is_break.ensures.decodes.moves.by in
    rw (p.1, p.2) (moves_then before (moves_err c.in_err-decode.ensures.moves))

pub returns-in_err-decode-in-id-clause-moves : goal.returns-in_err-decode-in-id-clause-moves
returns-in_err-decode-in-id-clause-moves g c =
    let p = err_from_is_err_and c.from_residual-in_err-decode-in-id.result
    c.from_residual-in_err-decode-in-id.ensures.1 in
    let before = kept_then c.loop-name.invariant.kept c.in_ok-is_break.ensures.decodes.moves.by in
    rw (p.1, p.2) (moves_then (kept_then before c.in_ok-decode.ensures.moves.by)
    (moves_err c.in_err-decode-in-id.ensures.moves))

pub returns-in_err-decode-in-name-clause-moves : goal.returns-in_err-decode-in-name-clause-moves
returns-in_err-decode-in-name-clause-moves g c =
    let p = err_from_is_err_and c.from_residual-in_err-decode-in-name.result
    c.from_residual-in_err-decode-in-name.ensures.1 in
    let before = kept_then c.loop-name.invariant.kept c.in_ok-is_break.ensures.decodes.moves.by in
    rw (p.1, p.2) (moves_then (kept_then before c.in_ok-decode.ensures.moves.by)
    (moves_err c.in_err-decode-in-name.ensures.moves))

pub returns-in_default-clause-moves : goal.returns-in_default-clause-moves
returns-in_default-clause-moves g c =
    kept_ok (kept_then
    (kept_then c.loop-name.invariant.kept c.in_ok-is_break.ensures.decodes.moves.by)
    c.in_ok-decode.ensures.moves.by)

pub loop-name-init : goal.loop-name-init
loop-name-init g c = search rules

pub loop-name-preserved : goal.loop-name-preserved
loop-name-preserved g c =
    let h = c.loop-name.invariant in
    let stays = c.in_ok-is_break.ensures.decodes in
    let no_break = rw c.if-not-branch.true at stays.sound in
    let key = c.in_ok-decode.ensures in
    let before = kept_then stays.moves.by key.moves.by in
    elim c.match-as_str.branch [
      | in-id+in_ok-decode-in-id w ↦ (
          let id = w.in_ok-decode-in-id.ensures in
          let pair = kept_then before id.moves.by in
          rw (w.reader-is, w.id-is, w.name-is) (record {
            kept = kept_then h.kept pair;
            seen = one_more h.seen stays.moves.by no_break key.moves.by key.sound id.moves.by
                (number_under (sym c.as_str.ensures.value ∙ w.in-id.is) id.sound);
            within = omega (arith, h.within, pair.bound);
          }))
      | in-name+in_ok-decode-in-name w ↦ (
          let name = w.in_ok-decode-in-name.ensures in
          let pair = kept_then before name.moves.by in
          rw (w.reader-is, w.id-is, w.name-is) (record {
            kept = kept_then h.kept pair;
            seen = one_more h.seen stays.moves.by no_break key.moves.by key.sound name.moves.by
                (name_under (sym c.as_str.ensures.value ∙ w.in-name.is) name.sound);
            within = omega (arith, h.within, pair.bound);
          }))
    ]

pub returns-then-is_some-clause-sound : goal.returns-then-is_some-clause-sound
returns-then-is_some-clause-sound g c =
    none_by_length _ (sym c.is_some.ensures ∙ c.if-is_some.true) c.in_ok-len.ensures.sound

pub returns-in_default-clause-sound : goal.returns-in_default-clause-sound
returns-in_default-clause-sound g c =
    let stays = c.in_ok-is_break.ensures.decodes in
    let is = c.as_str.ensures.value in
    none_by_key c.in_ok-len.ensures.moves.by
    (not_counted _ (sym c.is_some.ensures ∙ c.if-is_some.false) c.in_ok-len.ensures.sound)
    c.loop-name.invariant.seen stays.moves.by (rw c.if-not-branch.true at stays.sound)
    c.in_ok-decode.ensures.sound (λ e. c.in_default.not-id (is ∙ e))
    (λ e. c.in_default.not-name (is ∙ e))

pub returns-in-Some-Some-clause-sound : goal.returns-in-Some-Some-clause-sound
returns-in-Some-Some-clause-sound g c =
    some_record c.in-Some-Some.is-0 c.in-Some-Some.is-1
    (whole_map c.in_ok-len.ensures.moves.by
    (not_counted _ (sym c.is_some.ensures ∙ c.if-is_some.false) c.in_ok-len.ensures.sound)
    c.loop-name.invariant.seen
    (rw c.if-not-branch.false at c.in_ok-is_break.ensures.decodes.sound))

pub returns-in_default-2-clause-sound : goal.returns-in_default-2-clause-sound
returns-in_default-2-clause-sound g c =
    let whole = whole_map c.in_ok-len.ensures.moves.by
    (not_counted _ (sym c.is_some.ensures ∙ c.if-is_some.false) c.in_ok-len.ensures.sound)
    c.loop-name.invariant.seen
    (rw c.if-not-branch.false at c.in_ok-is_break.ensures.decodes.sound) in
    elim c.in_default-2.branch [
      | in_default-2-via-in-Some+in_default w ↦ none_by_part (inr w.in_default-2.is-1) whole
      | in_default-2-via-in_default w ↦ none_by_part (inl w.in_default-2.is-0) whole
    ]

pub returns-in-Some-Some-clause-moves : goal.returns-in-Some-Some-clause-moves
returns-in-Some-Some-clause-moves g c =
    kept_ok (kept_then c.loop-name.invariant.kept c.in_ok-is_break.ensures.decodes.moves.by)

pub returns-in_default-2-clause-moves : goal.returns-in_default-2-clause-moves
returns-in_default-2-clause-moves g c =
    kept_ok (kept_then c.loop-name.invariant.kept c.in_ok-is_break.ensures.decodes.moves.by)
