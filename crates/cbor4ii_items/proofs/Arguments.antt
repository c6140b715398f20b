-- Numbers that are the argument of a head.
use Rattle.std.proofs.Common.{ℕ, ◌<◌, List, rules}
use Rattle.cbor4ii_items.specs.ReadHead.{head_at}
use Rattle.cbor4ii_items.specs.Laws.Heads.{read_head}
use Rattle.cbor4ii_items.specs.Numbers.{ReadsArgument, RejectsArgument}
use Rattle.cbor4ii_items.specs.Laws.Arguments.{argument_again}
use Rattle.cbor4ii_items.proofs.Leaves.{IsLeaf}
use Rattle.cbor4ii_items.proofs.Rejecting.{head_rejects}

pub argument_leaf : (name : List ℕ) (major width : ℕ) → major < 8
    → IsLeaf (head_at name major width) (ReadsArgument major width)
    (RejectsArgument name major width)
argument_leaf name major width m = search (rules, read_head, argument_again, head_rejects)
