use Rattle.std.proofs.Common.{◌≡◌, false, true, sym, ◌∙◌, rules}
use Rattle.std.proofs.lemmas.Result.{err_from_is_err_and}
use Rattle.cbor4ii_ser.specs.Laws.Joining.{serializes_then, serializes_out}
use Rattle.cbor4ii_ser.proofs.collect.Collect.serialize_entry.Goals as goal

pub returns-in_err-serialize_key-clause-written : goal.returns-in_err-serialize_key-clause-written
returns-in_err-serialize_key-clause-written g c =
    serializes_out _ c.from_residual.ensures.1 c.in_err-serialize_key.ensures.written

pub returns-clause-written : goal.returns-clause-written
returns-clause-written g c =
    serializes_then _ _ c.serialize_value.result c.in_ok-serialize_key.ensures.written
    c.serialize_value.ensures.written

pub serialize_key-requires-clause-left : goal.serialize_key-requires-clause-left
serialize_key-requires-clause-left g c = c.requires.left

pub returns-in_err-serialize_key-clause-same_reference :
    goal.returns-in_err-serialize_key-clause-same_reference
returns-in_err-serialize_key-clause-same_reference g c =
    c.in_err-serialize_key.ensures.same_reference

pub returns-in_err-serialize_key-clause-owes : goal.returns-in_err-serialize_key-clause-owes
returns-in_err-serialize_key-clause-owes g c = search rules

pub returns-in_err-serialize_key-clause-left : goal.returns-in_err-serialize_key-clause-left
returns-in_err-serialize_key-clause-left g c = search rules

pub returns-in_err-serialize_key-clause-rejected_at_key :
    goal.returns-in_err-serialize_key-clause-rejected_at_key
returns-in_err-serialize_key-clause-rejected_at_key g c =
    let p = err_from_is_err_and c.from_residual.result c.from_residual.ensures.1 in
    rw (p.1, p.2) (λ _. (
      c.in_err-serialize_key.ensures.left_at_error,
      c.in_err-serialize_key.ensures.written,
    ))

pub returns-in_err-serialize_key-clause-rejected_at_value :
    goal.returns-in_err-serialize_key-clause-rejected_at_value
returns-in_err-serialize_key-clause-rejected_at_value g c =
    let p = err_from_is_err_and c.from_residual.result c.from_residual.ensures.1 in
    rw (p.1, p.2) (λ t. absurd (let h : false ≡ true = sym c.requires.owes
    ∙ (sym c.in_err-serialize_key.ensures.owes_at_error ∙ t) in cc))

pub serialize_value-requires-clause-keyed : goal.serialize_value-requires-clause-keyed
serialize_value-requires-clause-keyed g c = c.in_ok-serialize_key.ensures.keyed ∙ c.requires.keyed

pub returns-clause-same_reference : goal.returns-clause-same_reference
returns-clause-same_reference g c = search rules

pub returns-clause-keyed : goal.returns-clause-keyed
returns-clause-keyed g c = c.serialize_value.ensures.keyed ∙ c.in_ok-serialize_key.ensures.keyed
