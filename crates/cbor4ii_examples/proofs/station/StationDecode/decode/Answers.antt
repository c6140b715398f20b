use Rattle.std.proofs.Common.{inl, refl, arith}
use Rattle.std.proofs.lemmas.Result.{err_from_is_err_and}
use Rattle.cbor4ii_items.specs.Laws.Calls.{ok}
use Rattle.cbor4ii_items.specs.Laws.Running.{kept_alike}
use Rattle.cbor4ii_items.specs.Laws.Steps.{kept_then}
use Rattle.cbor4ii_examples.specs.Station.{station_format}
use Rattle.cbor4ii_examples.proofs.Stations.{no_opening, no_opening_stopped, no_id, no_id_stopped}
use Rattle.cbor4ii_examples.proofs.Stations.{no_name, no_name_stopped, unended, unended_stopped}
use Rattle.cbor4ii_examples.proofs.Stations.{station_err, station_sound}
use Rattle.cbor4ii_examples.proofs.station.StationDecode.decode.Goals as goal

pub returns-in_err-is_indefinite : goal.returns-in_err-is_indefinite
returns-in_err-is_indefinite g c =
    let d = c.in_err-is_indefinite.ensures in
    let r = c.from_residual in
    let p = err_from_is_err_and r.result r.ensures.1 in
    rw (p.1, p.2) (station_err (kept_alike _) d.moves
    (no_opening (d.complete (inl refl))) (no_opening_stopped d.begins))

pub returns-in_err-id : goal.returns-in_err-id
returns-in_err-id g c =
    let d = c.in_err-id.ensures in
    let r = c.from_residual-in_err-id in
    let p = err_from_is_err_and r.result r.ensures.1 in
    rw (p.1, p.2) (station_err c.in_ok-is_indefinite.ensures.moves.by d.moves
    (no_id c.in_ok-is_indefinite.is_indefinite c.in_ok-is_indefinite.ensures.moves.by
    c.in_ok-is_indefinite.ensures.sound
    (d.complete (inl refl)))
    (no_id_stopped c.in_ok-is_indefinite.is_indefinite c.in_ok-is_indefinite.ensures.moves.by
    c.in_ok-is_indefinite.ensures.sound
    d.begins))

pub returns-in_err-name : goal.returns-in_err-name
returns-in_err-name g c =
    let d = c.in_err-name.ensures in
    let r = c.from_residual-in_err-name in
    let p = err_from_is_err_and r.result r.ensures.1 in
    rw (p.1, p.2) (station_err
    (kept_then c.in_ok-is_indefinite.ensures.moves.by c.in_ok-id.ensures.moves.by) d.moves
    (no_name c.in_ok-is_indefinite.is_indefinite c.in_ok-is_indefinite.ensures.moves.by
    c.in_ok-is_indefinite.ensures.sound
    c.in_ok-id.id c.in_ok-id.ensures.moves.by c.in_ok-id.ensures.sound
    (d.complete (inl refl)))
    (no_name_stopped c.in_ok-is_indefinite.is_indefinite c.in_ok-is_indefinite.ensures.moves.by
    c.in_ok-is_indefinite.ensures.sound
    c.in_ok-id.id c.in_ok-id.ensures.moves.by c.in_ok-id.ensures.sound d.begins))

pub returns-in_err-take_end : goal.returns-in_err-take_end
returns-in_err-take_end g c =
    let d = c.in_err-take_end.ensures in
    let kept = kept_then c.in_ok-is_indefinite.ensures.moves.by
    (kept_then c.in_ok-id.ensures.moves.by c.in_ok-name.ensures.moves.by) in
    let r = c.from_residual-in_err-take_end in
    let p = err_from_is_err_and r.result r.ensures.1 in
    rw (p.1, p.2) (station_err kept d.moves
    (unended c.in_ok-is_indefinite.is_indefinite c.in_ok-is_indefinite.ensures.moves.by
    c.in_ok-is_indefinite.ensures.sound
    c.in_ok-id.id c.in_ok-id.ensures.moves.by c.in_ok-id.ensures.sound
    c.in_ok-name.name c.in_ok-name.ensures.moves.by c.in_ok-name.ensures.sound
    (d.complete (inl refl)))
    (unended_stopped c.in_ok-is_indefinite.is_indefinite c.in_ok-is_indefinite.ensures.moves.by
    c.in_ok-is_indefinite.ensures.sound
    c.in_ok-id.id c.in_ok-id.ensures.moves.by c.in_ok-id.ensures.sound
    c.in_ok-name.name c.in_ok-name.ensures.moves.by c.in_ok-name.ensures.sound d.begins))

pub returns : goal.returns
returns g c =
    let opened = c.in_ok-is_indefinite.ensures.moves.by in
    let numbered = c.in_ok-id.ensures.moves.by in
    let named = c.in_ok-name.ensures.moves.by in
    let ended = c.in_ok-take_end.ensures.moves.by in
    ok station_format (kept_then opened (kept_then numbered (kept_then named ended)))
    (λ some. omega (
      arith,
      c.in_ok-is_indefinite.ensures.progress refl,
      numbered.bound,
      named.bound,
      ended.bound,
    ))
    (station_sound c.in_ok-is_indefinite.is_indefinite c.in_ok-id.id c.in_ok-name.name
    opened c.in_ok-is_indefinite.ensures.sound numbered c.in_ok-id.ensures.sound
    named c.in_ok-name.ensures.sound c.in_ok-take_end.ensures.sound)
