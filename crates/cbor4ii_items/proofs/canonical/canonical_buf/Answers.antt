use Rattle.cbor4ii_items.proofs.Shortest.{string_decodes}
use Rattle.cbor4ii_items.proofs.canonical.canonical_buf.Goals as goal

pub returns : goal.returns
returns g c =
    string_decodes _ _ _ c.take_shortest_string.ensures.runs c.take_shortest_string.ensures.progress
