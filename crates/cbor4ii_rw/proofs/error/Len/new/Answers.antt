use Rattle.std.proofs.Common.{refl}
use Rattle.cbor4ii_rw.proofs.error.Len.new.Goals as goal

pub returns-in-Err-clause-big : goal.returns-in-Err-clause-big
returns-in-Err-clause-big c = λ _. refl
