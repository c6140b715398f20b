use Rattle.std.proofs.Common.{◌∙◌}
use Rattle.cbor4ii_tree.proofs.skip_calls.Prefixes.{takes_run, takes_head, takes_break}
use Rattle.cbor4ii_tree.proofs.skip.next.take_ahead.Goals as goal

pub returns-in-Ok-Run : goal.returns-in-Ok-Run
returns-in-Ok-Run g c =
    takes_run _ _ (λ t. c.advance.ensures.stays t ∙ c.in-Ok-Run.ensures.stays t) _ _
    c.in-Ok-Run.field-0-is c.in-Ok-Run.ensures.offers c.advance.ensures.takes

pub returns-in-Ok-Head : goal.returns-in-Ok-Head
returns-in-Ok-Head g c =
    takes_head _ _ (λ t. c.advance-in-Ok-Head.ensures.stays t ∙ c.in-Ok-Head.ensures.stays t) _ _
    c.in-Ok-Head.field-0-is c.in-Ok-Head.ensures.offers c.advance-in-Ok-Head.ensures.takes

pub returns-in-Ok-Break : goal.returns-in-Ok-Break
returns-in-Ok-Break g c =
    takes_break _ _ (λ t. c.advance-in-Ok-Break.ensures.stays t ∙ c.in-Ok-Break.ensures.stays t)
    c.in-Ok-Break.field-0-is c.in-Ok-Break.ensures.offers c.advance-in-Ok-Break.ensures.takes
