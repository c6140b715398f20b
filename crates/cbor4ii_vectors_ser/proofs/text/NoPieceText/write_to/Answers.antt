use Rattle.cbor4ii_vectors_ser.proofs.NoPieces.{wrote_nothing}
use Rattle.cbor4ii_vectors_ser.proofs.text.NoPieceText.write_to.Goals as goal

pub returns-clause-wrote : goal.returns-clause-wrote
returns-clause-wrote g c = wrote_nothing
