use Rattle.std.proofs.Common.{inl, rules}
use Rattle.std.proofs.lemmas.Result.{err_from_is_err_and}
use Rattle.cbor4ii_items.specs.Laws.Written.{writes_then, writes_err, in_two_pushes}
use Rattle.cbor4ii_items.proofs.push.push_string.Goals as goal

pub returns-in_err-push_head : goal.returns-in_err-push_head
returns-in_err-push_head g c = search (rules, err_from_is_err_and, writes_err, inl)

pub returns : goal.returns
returns g c = record {
  writes =
      writes_then c.push_bytes.result c.in_ok-push_head.ensures.writes c.push_bytes.ensures.writes;
  pushes =
      in_two_pushes c.push_bytes.result c.in_ok-push_head.ensures.writes c.push_bytes.ensures;
}
