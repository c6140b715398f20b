use Rattle.cbor4ii_items.proofs.StringAnswers.{string_decodes}
use Rattle.cbor4ii_items.proofs.strings.content.lone_string.Goals as goal

pub returns : goal.returns
returns g c =
    string_decodes _ _ _ c.requires c.take_string.ensures.runs c.take_string.ensures.progress
