use Rattle.std.proofs.Common.{w8}
use Rattle.std.proofs.Math.Facts.{Fits-lt-pow}
use Rattle.cbor4ii_items.specs.Laws.Contents.{first_bytes}
use Rattle.cbor4ii_items.proofs.strings.lent.prefix.Goals as goal

pub returns-clause-bytes : goal.returns-clause-bytes
returns-clause-bytes c = first_bytes _ _ (λ i. Fits-lt-pow {w = w8} (c.type_inv.shown i))
