use Rattle.std.proofs.Common.{rules}
use Rattle.cbor4ii_items.specs.Laws.StringsApart.{string_apart, text_apart, lent_apart}
use Rattle.cbor4ii_items.proofs.laws.rejected_strings_are_not_read.Goals as goal

pub returns : goal.returns
returns g c = search (rules, string_apart, text_apart, lent_apart)
