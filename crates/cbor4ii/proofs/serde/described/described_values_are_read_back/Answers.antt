use Rattle.std.proofs.Common.{rules}
use Rattle.cbor4ii.specs.CodecAgrees.{agreed_back, agreed_one}
use Rattle.cbor4ii.proofs.serde.described.described_values_are_read_back.Goals as goal

pub returns-clause-back : goal.returns-clause-back
returns-clause-back g c = search (rules, agreed_back)

pub returns-clause-one : goal.returns-clause-one
returns-clause-one g c = search (rules, agreed_one)
