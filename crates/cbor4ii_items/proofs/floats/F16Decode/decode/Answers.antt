use Rattle.std.proofs.Common.{refl}
use Rattle.cbor4ii_items.specs.Laws.Calls.{by_ok}
use Rattle.cbor4ii_items.proofs.Passed.{by_passed}
use Rattle.cbor4ii_items.proofs.floats.F16Decode.decode.Goals as goal

pub returns-in_err-lone_float : goal.returns-in_err-lone_float
returns-in_err-lone_float g c =
    by_passed _ _ _ c.from_residual.ensures.1 c.in_err-lone_float.ensures.decodes

pub returns : goal.returns
returns g c = by_ok _ _ refl c.in_ok-lone_float.ensures.decodes
