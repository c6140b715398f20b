use Rattle.std.proofs.Common.{rules}
use Rattle.cbor4ii.proofs.Keying.{key_placed}
use Rattle.cbor4ii.proofs.serde.de.keys.I64ReadKey.take_key.Goals as goal

pub returns-in-Some-clause-which : goal.returns-in-Some-clause-which
returns-in-Some-clause-which g c = search (rules, key_placed)
