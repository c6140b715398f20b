use Rattle.std.proofs.lemmas.Result.{err_from_is_err_and}
use Rattle.cbor4ii_tree.proofs.skip_calls.Deeper.{ends_cut, ends_later, ends_here}
use Rattle.cbor4ii_tree.proofs.unseen.ends.Goals as goal

pub returns-in_err-first-clause-does : goal.returns-in_err-first-clause-does
returns-in_err-first-clause-does g c =
    let p = err_from_is_err_and c.from_residual.result c.from_residual.ensures.1 in
    rw (p.1, p.2) (ends_cut c.args.among
    (c.is_indefinite.ensures.0 c.if-not-is_indefinite.false) c.in_err-first.ensures.peeks)

pub returns-then-first-clause-does : goal.returns-then-first-clause-does
returns-then-first-clause-does g c =
    ends_later c.args.among c.if-first.true c.in_ok-first.ensures.peeks

pub returns-clause-does : goal.returns-clause-does
returns-clause-does g c =
    ends_here c.args.among (c.is_indefinite.ensures.0 c.if-not-is_indefinite.false)
    c.if-first.false c.in_ok-first.ensures.peeks c.advance.ensures.takes
