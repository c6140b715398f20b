use Rattle.std.proofs.Common.{ap, sym, ◌∙◌, length}
use Rattle.cbor4ii.proofs.Characters.{no_character, two_characters}
use Rattle.cbor4ii.proofs.serde.de.character.only_char.Goals as goal

pub returns-in_default-clause-other : goal.returns-in_default-clause-other
returns-in_default-clause-other c none =
    no_character _ (ap length (sym c.chars-chars.ensures.rest) ∙ c.in_default.ensures.steps.0.0)

pub returns-in-Some-next-clause-other : goal.returns-in-Some-next-clause-other
returns-in-Some-next-clause-other c none =
    two_characters _ _ _ _ _ (sym c.chars-chars.ensures.rest ∙ c.in-Some.ensures.steps.0)
    c.in-Some-next.ensures.steps.0
