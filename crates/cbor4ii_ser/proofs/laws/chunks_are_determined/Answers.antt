use Rattle.std.proofs.Common.{sym, subst}
use Rattle.cbor4ii_ser.specs.Pieces.{Chunks, text_bytes}
use Rattle.cbor4ii_ser.proofs.Determined.{chunks_same}
use Rattle.cbor4ii_ser.proofs.Greedy.{chunks_written}
use Rattle.cbor4ii_ser.proofs.laws.chunks_are_determined.Goals as goal

pub returns : goal.returns
returns c pieces bytes = (
  λ is. chunks_same pieces bytes (text_bytes pieces) is (chunks_written pieces),
  λ e. subst (Chunks pieces) (sym e) (chunks_written pieces),
)
