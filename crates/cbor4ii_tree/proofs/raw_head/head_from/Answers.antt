use Rattle.std.proofs.Common.{refl, subst}
use Rattle.cbor4ii_items.specs.Head.{LacksArgument}
use Rattle.cbor4ii_tree.proofs.raw_items.Keys.{splits_none}
use Rattle.cbor4ii_tree.proofs.raw_head.head_from.Goals as goal

pub returns-in-None-clause-head : goal.returns-in-None-clause-head
returns-in-None-clause-head c =
    splits_none _ _ _ _ refl c.if_major-major.ensures (subst (λ i. LacksArgument i
    c.args.trailing.now) c.low.ensures (c.argument.ensures.none c.in-None.is)) refl refl
