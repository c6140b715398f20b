use Rattle.std.proofs.Common.{◌∙◌, rules}
use Rattle.cbor4ii_tree.proofs.raw_items.Keys.{whole_head, whole_some, array_opens, map_opens}
use Rattle.cbor4ii_tree.proofs.raw_items.Keys.{no_array, no_map}
use Rattle.cbor4ii_tree.proofs.raw_parts.parts_of.Goals as goal

pub returns-in_err-head-clause-items : goal.returns-in_err-head-clause-items
returns-in_err-head-clause-items c = λ t l e m.
    absurd (whole_some t _ _ l e c.split_head.ensures.head c.in_err-head.was)

pub returns-in_err-head-clause-pairs : goal.returns-in_err-head-clause-pairs
returns-in_err-head-clause-pairs c = λ t l e m.
    absurd (whole_some t _ _ l e c.split_head.ensures.head c.in_err-head.was)

pub returns-then-head-major-clause-items : goal.returns-then-head-major-clause-items
returns-then-head-major-clause-items c = search (rules, whole_head, no_array)

pub returns-then-head-major-clause-pairs : goal.returns-then-head-major-clause-pairs
returns-then-head-major-clause-pairs c = search (rules, whole_head, no_map)

pub returns-clause-items : goal.returns-clause-items
returns-clause-items c = λ t l e m.
    let h = whole_head t _ _ _ l e c.split_head.ensures.head c.in_ok-head.was in
    array_opens t c.in_ok-head.head h (c.if-head-major.false ∙ m)

pub returns-clause-pairs : goal.returns-clause-pairs
returns-clause-pairs c = λ t l e m.
    let h = whole_head t _ _ _ l e c.split_head.ensures.head c.in_ok-head.was in
    map_opens t c.in_ok-head.head h (c.if-head-major.false ∙ m)
