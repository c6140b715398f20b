use Rattle.std.specs.Prelude.{string_bytes}
use Rattle.cbor4ii_ser.proofs.PiecesBack.{pieces_back, pieces_cost, pieces_cost_small}
use Rattle.cbor4ii_ser.proofs.laws.pieces_are_read_back.Goals as goal

pub returns : goal.returns
returns c pieces bytes text fits utf8 is has = (
  pieces_cost pieces bytes is,
  pieces_cost_small pieces bytes is,
  pieces_back string_bytes text pieces bytes fits has utf8 is,
)
