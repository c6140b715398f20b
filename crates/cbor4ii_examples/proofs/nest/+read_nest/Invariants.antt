use Rattle.std.proofs.Common.{◌≡◌, ◌+◌, ◌≤◌}
use Rattle.cbor4ii_items.specs.Moves.{Kept}
use Rattle.cbor4ii.specs.Accessing.{inside, left_in, deserializer_name, fuel, steps_held}
use Rattle.cbor4ii.specs.Typed.{input}
use Rattle.cbor4ii_examples.proofs.nest.+read_nest.Given as goal

abbrev pub decreases-read_nest : goal.decreases-read_nest
decreases-read_nest g l = (input g.S.Source.view l.de.now).bound

abbrev pub invariant-loop-parts : goal.invariant-loop-parts
invariant-loop-parts g l = record {
  same : deserializer_name l.parts ≡ deserializer_name l.initial.parts;
  steps : steps_held l.parts ≡ 1;
  kept : Kept (inside g.S.Source.view l.initial.parts) (inside g.S.Source.view l.parts);
  within : (inside g.S.Source.view l.parts).bound + 1 ≤ (input g.S.Source.view l.fn.de).bound;
}

abbrev pub decreases-loop-parts : goal.decreases-loop-parts
decreases-loop-parts g l = fuel (left_in l.parts) (inside g.S.Source.view l.parts).bound
