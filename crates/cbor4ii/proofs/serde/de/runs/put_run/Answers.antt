use Rattle.std.proofs.Common.{rules, w8}
use Rattle.std.proofs.Math.Facts.{Fits-lt-pow}
use Rattle.cbor4ii_items.specs.Laws.Contents.{first_bytes}
use Rattle.cbor4ii.proofs.ShownParts.{puts_none, puts_more}
use Rattle.cbor4ii.proofs.serde.de.runs.put_run.Goals as goal

pub loop-part-init : goal.loop-part-init
loop-part-init g c = (puts_none g.Q.Sequence.part.reads _, λ h. h)

pub loop-part-preserved : goal.loop-part-preserved
loop-part-preserved g c = search (rules, puts_more)

pub returns-clause-bytes : goal.returns-clause-bytes
returns-clause-bytes g c = first_bytes _ _ (λ i. Fits-lt-pow {w = w8} (c.type_inv.shown i))

pub returns-in_default-clause-bytes : goal.returns-in_default-clause-bytes
returns-in_default-clause-bytes g c =
    first_bytes _ _ (λ i. Fits-lt-pow {w = w8} (c.type_inv.shown i))

pub returns-then-is_err-clause-bytes : goal.returns-then-is_err-clause-bytes
returns-then-is_err-clause-bytes g c =
    first_bytes _ _ (λ i. Fits-lt-pow {w = w8} (c.type_inv.shown i))
