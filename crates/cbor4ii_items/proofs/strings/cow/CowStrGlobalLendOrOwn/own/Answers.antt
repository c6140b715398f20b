use Rattle.std.proofs.Common.{rules}
use Rattle.std.proofs.lemmas.Str.{IsUtf8-had}
use Rattle.cbor4ii_items.proofs.strings.cow.CowStrGlobalLendOrOwn.own.Goals as goal

pub returns-in-Ok-clause-holds : goal.returns-in-Ok-clause-holds
returns-in-Ok-clause-holds g c = search (rules, IsUtf8-had)
