use Rattle.cbor4ii_tree.proofs.skip_calls.Prefixes.{none_ready, some_ready}
use Rattle.cbor4ii_tree.proofs.unseen.skip_shown.Goals as goal

pub returns-in-Ok-eq0-default-clause-does : goal.returns-in-Ok-eq0-default-clause-does
returns-in-Ok-eq0-default-clause-does g c =
    none_ready (c.content_part-want.ensures.some c.requires) c.in-Ok-eq0-default.ensures.offers _
    c.content_part-want.ensures.most c.in-Ok-eq0-default.field-0-0-test c.new.ensures.small
    c.new.ensures.big

pub returns-in-Ok-clause-does : goal.returns-in-Ok-clause-does
returns-in-Ok-clause-does g c =
    some_ready (c.content_part-want.ensures.some c.requires) c.in-Ok.ensures.offers _
    c.content_part-want.ensures.most c.in-Ok.count-test.1 c.advance.ensures.takes
