use Rattle.cbor4ii_tree.specs.Inner.Valuing.{RejectsOf, TakesTag}
use Rattle.cbor4ii_tree.proofs.{skip_calls.Doing.does_ok, values.Heads.{after_next, takes_head}}
use Rattle.cbor4ii_tree.proofs.{values.Heads.head_gains, values.Sequences.gives_as}
use Rattle.cbor4ii_tree.proofs.decode_value.take_tag.Goals as goal

pub returns-in-Some : goal.returns-in-Some
returns-in-Some g c =
    let canonical = g.A.Encodings.canonical in
    record {
      does = λ before shows. does_ok _ _ (takes_head canonical c.args.next 6 c.in-Some.head shows
          c.in-Some.is c.requires.major c.advance.ensures);
      memory = tt;
      ranged = tt;
      gains = head_gains c.args.next c.in-Some.head c.requires.can c.in-Some.is c.advance.ensures;
    }

pub returns-in-None : goal.returns-in-None
returns-in-None g c =
    gives_as (λ never. never) (λ d before shows. after_next c.args.next shows
    (TakesTag g.A.Encodings.canonical) (RejectsOf g.A.Encodings.canonical 6) d) c.take_tag.ensures
