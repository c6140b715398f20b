use Rattle.std.proofs.Common.{rules}
use Rattle.cbor4ii_items.proofs.push.push_signed.Goals as goal

pub returns-else-value-ge0 : goal.returns-else-value-ge0
returns-else-value-ge0 g c =
    record { writes = search rules; kept = c.push_head-else-value-ge0.ensures.kept }
