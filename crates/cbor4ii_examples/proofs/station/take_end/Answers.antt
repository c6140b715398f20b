use Rattle.std.proofs.Common.{refl, rules}
use Rattle.std.proofs.lemmas.Result.{err_from_is_err_and}
use Rattle.cbor4ii_items.specs.Laws.Calls.{ok}
use Rattle.cbor4ii_items.specs.Laws.Running.{kept_alike}
use Rattle.cbor4ii_examples.specs.Station.{end_format}
use Rattle.cbor4ii_examples.proofs.Stations.{no_end, an_end, end_err, end_other}
use Rattle.cbor4ii_examples.proofs.station.take_end.Goals.{then-not-is_indefinite-via-then-not-is_indefinite}
use Rattle.cbor4ii_examples.proofs.station.take_end.Goals.{then-not-is_indefinite-via-else-not-is_indefinite+in_ok-is_break+then-branch}
use Rattle.cbor4ii_examples.proofs.station.take_end.Goals as goal

pub returns-in_err-is_break : goal.returns-in_err-is_break
returns-in_err-is_break g c = search (rules, err_from_is_err_and, end_err)

pub returns-then-not-is_indefinite : goal.returns-then-not-is_indefinite
returns-then-not-is_indefinite g c =
    elim c.then-not-is_indefinite.branch [
      | then-not-is_indefinite-via-then-not-is_indefinite w ↦
          rw w.reader-is (ok (end_format c.args.is_indefinite) (kept_alike _) (λ some. cc)
          (no_end c.args.is_indefinite (g.S.Source.view c.args.reader.now)
          w.if-not-is_indefinite.true))
      | then-not-is_indefinite-via-else-not-is_indefinite+in_ok-is_break+then-branch w ↦
          rw w.reader-is (ok (end_format c.args.is_indefinite)
          w.in_ok-is_break.ensures.decodes.moves.by (λ some. cc)
          (an_end c.args.is_indefinite w.if-not-is_indefinite.false w.if-branch.true
          w.in_ok-is_break.ensures.decodes.sound))
    ]

pub returns : goal.returns
returns g c =
    end_other c.args.is_indefinite c.if-not-is_indefinite.false refl c.if-branch.false
    c.in_ok-is_break.ensures.decodes
