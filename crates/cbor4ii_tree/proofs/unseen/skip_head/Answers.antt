use Rattle.std.proofs.Common.{◌%◌, refl, sym, ◌∙◌, subst}
use Rattle.std.proofs.lemmas.Result.{err_from_is_err_and}
use Rattle.cbor4ii_items.specs.Initial.{info_of}
use Rattle.cbor4ii_tree.specs.{Basis.InputError.ignored_any, Inner.HeadParts.{CutBy, NoByte}}
use Rattle.cbor4ii_tree.proofs.skip_calls.{Doing.still_rejected, Heads.{first_err, first_ok}}
use Rattle.cbor4ii_tree.proofs.skip_calls.Heads.{first_taken, first_rejected, says_not}
use Rattle.cbor4ii_tree.proofs.skip_calls.Leaves.{leads_bytes, bytes_cut, no_first, goes}
use Rattle.cbor4ii_tree.proofs.unseen.skip_head.Goals as goal

pub returns-in_err-first-clause-does : goal.returns-in_err-first-clause-does
returns-in_err-first-clause-does g c =
    let p = err_from_is_err_and c.from_residual.result c.from_residual.ensures.1 in
    rw (p.1, p.2) (still_rejected _ _ (NoByte ignored_any 1) _ (no_first _)
    c.in_err-first.ensures.peeks)

pub returns-in-Some-clause-does : goal.returns-in-Some-clause-does
returns-in-Some-clause-does g c =
    first_rejected c.in_ok-first.ensures.peeks _ c.take_first.ensures.takes
    (g.F.BytesAhead.view c.args.prefix.now c.args.reader.now).budget c.start_of-start.ensures
    c.take_first.ensures.leaves c.in-Some.ensures

pub returns-in_err-skip_bytes-clause-does : goal.returns-in_err-skip_bytes-clause-does
returns-in_err-skip_bytes-clause-does g c =
    let none = says_not _ _ c.rejection.ensures c.in_default.not-Some in
    let p = err_from_is_err_and c.from_residual-in_err-skip_bytes.result
    c.from_residual-in_err-skip_bytes.ensures.1 in
    rw (p.1, p.2) (first_err
    (first_taken c.in_ok-first.ensures.peeks _ c.take_first.ensures.takes none)
    (λ bs e rest. bytes_cut c.in_ok-first.first c.in_ok-first.ensures.peeks.is.2 _ _ refl
    c.in-Bytes.count
    bs e rest (sym c.start_of-start.ensures ∙ c.in-Bytes.is)) c.in_err-skip_bytes.ensures.does)

pub returns-in-Bytes-clause-does : goal.returns-in-Bytes-clause-does
returns-in-Bytes-clause-does g c =
    let none = says_not _ _ c.rejection.ensures c.in_default.not-Some in
    first_ok (first_taken c.in_ok-first.ensures.peeks _ c.take_first.ensures.takes none)
    (λ bs ys. leads_bytes _ c.in_ok-first.first c.in_ok-first.ensures.peeks.is.2 c.in-Bytes.count bs
    ys (sym c.start_of-start.ensures ∙ c.in-Bytes.is)) c.in_ok-skip_bytes.ensures.does

pub returns-in_err-argument-clause-does : goal.returns-in_err-argument-clause-does
returns-in_err-argument-clause-does g c =
    let none = says_not _ _ c.rejection.ensures c.in_default.not-Some in
    let p = err_from_is_err_and c.from_residual-in_err-argument.result
    c.from_residual-in_err-argument.ensures.1 in
    rw (p.1, p.2) (first_err (first_taken c.in_ok-first.ensures.peeks _ c.take_first.ensures.takes
    none) (λ bs e rest h. (goes _ c.in_ok-first.first c.in_ok-first.ensures.peeks.is.2 _
    (sym c.start_of-start.ensures) none c.in_default-start.not-Bytes).0 bs e rest (subst
    (λ name. CutBy name (info_of (c.in_ok-first.first % 32)) bs e rest) c.head_name.ensures h))
    c.in_err-argument.ensures.does)

pub returns-clause-does : goal.returns-clause-does
returns-clause-does g c =
    let none = says_not _ _ c.rejection.ensures c.in_default.not-Some in
    rw c.trailing.ensures
    (first_ok (first_taken c.in_ok-first.ensures.peeks _ c.take_first.ensures.takes none) (λ bs ys.
    (goes _ c.in_ok-first.first c.in_ok-first.ensures.peeks.is.2 _ (sym c.start_of-start.ensures)
    none c.in_default-start.not-Bytes).1 bs ys _) c.in_ok-argument.ensures.does)
