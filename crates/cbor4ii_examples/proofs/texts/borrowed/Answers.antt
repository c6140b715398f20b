use Rattle.std.proofs.Common.{rules}
use Rattle.cbor4ii_items.specs.Laws.Wholes.{sure_is_exact}
use Rattle.cbor4ii_examples.proofs.First.{is_first}
use Rattle.cbor4ii_examples.proofs.texts.borrowed.Goals as goal

pub returns : goal.returns
returns c = search (rules, is_first, sure_is_exact)
