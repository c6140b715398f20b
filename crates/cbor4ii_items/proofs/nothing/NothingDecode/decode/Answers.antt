use Rattle.std.proofs.Common.{rules}
use Rattle.cbor4ii_items.specs.Laws.Running.{kept_alike}
use Rattle.cbor4ii_items.specs.Laws.Answering.{fits_zero}
use Rattle.cbor4ii_items.proofs.nothing.NothingDecode.decode.Goals as goal

pub returns : goal.returns
returns g c = search (rules, kept_alike, fits_zero)
