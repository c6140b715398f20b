use Rattle.std.proofs.Common.{rules}
use Rattle.cbor4ii_rw.proofs.Taken.{moved}
use Rattle.cbor4ii_rw.proofs.line_reader.Ready.take.Goals as goal

pub returns-clause-bytes : goal.returns-clause-bytes
returns-clause-bytes c = search (rules, moved)
