use Rattle.cbor4ii_items.proofs.Passed.{decodes_passed}
use Rattle.cbor4ii_items.proofs.MaybeParts.{maybe_head_err, maybe_none, maybe_some, maybe_err}
use Rattle.cbor4ii_items.proofs.maybe.MaybeOptionDecode.decode.Goals as goal

pub returns-in_err-take_maybe_head : goal.returns-in_err-take_maybe_head
returns-in_err-take_maybe_head g c =
    decodes_passed _ c.from_residual.ensures.1 (maybe_head_err g.T.Decodable.format
    c.in_err-take_maybe_head.ensures)

pub returns-then-not-branch : goal.returns-then-not-branch
returns-then-not-branch g c =
    maybe_none g.T.Decodable.format c.in_ok-take_maybe_head.ensures c.if-not-branch.true

pub returns-in-Ok : goal.returns-in-Ok
returns-in-Ok g c =
    maybe_some g.T.Decodable.format c.in_ok-take_maybe_head.ensures c.if-not-branch.false
    c.in-Ok.ensures

pub returns-in-Err : goal.returns-in-Err
returns-in-Err g c =
    maybe_err g.T.Decodable.format c.in_ok-take_maybe_head.ensures c.if-not-branch.false
    c.in-Err.ensures
