use Rattle.std.proofs.Common.{rules}
use Rattle.cbor4ii_tree.proofs.{skip_calls.Doing.does_ok, values.Heads.{next_first, takes_head}}
use Rattle.cbor4ii_tree.proofs.{values.Heads.head_gains, values.Sequences.gives_as}
use Rattle.cbor4ii_tree.proofs.decode_value.take_length.Goals as goal

pub returns-in-Some : goal.returns-in-Some
returns-in-Some g c =
    let canonical = g.A.Encodings.canonical in
    record {
      does = λ before shows. does_ok _ _ (takes_head canonical c.args.next c.args.major
          c.in-Some.head
          shows c.in-Some.is c.requires.major c.advance.ensures);
      memory = tt;
      ranged = tt;
      gains = head_gains c.args.next c.in-Some.head c.requires.can c.in-Some.is c.advance.ensures;
    }

pub returns-in-None : goal.returns-in-None
returns-in-None g c = search (rules, gives_as, next_first)
