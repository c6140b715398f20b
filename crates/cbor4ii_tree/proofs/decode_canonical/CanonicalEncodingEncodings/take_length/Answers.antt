use Rattle.std.proofs.Common.{true, false, refl}
use Rattle.cbor4ii_tree.specs.Inner.Valuing.{RejectsMajor, TakesLength}
use Rattle.cbor4ii_tree.proofs.{canonical.Once.reached_shortest, skip_calls.Doing.does_ok}
use Rattle.cbor4ii_tree.proofs.{values.Heads.after_first, values.Sequences.{gives_err, no_want}}
use Rattle.cbor4ii_tree.proofs.values.Sequences.{is_map, shortest_rejected}
use Rattle.cbor4ii_tree.proofs.decode_canonical.CanonicalEncodingEncodings.take_length.Goals as goal

pub returns-in_ok-count : goal.returns-in_ok-count
returns-in_ok-count g c = record {
  does = λ before shows. after_first _ shows (TakesLength true c.args.major)
      (RejectsMajor true c.args.major) (does_ok _ _ (reached_shortest _ _
      c.in_ok-count.ensures.moves c.in_ok-count.ensures.sound));
  memory = tt;
  ranged = tt;
  gains = c.in_ok-count.ensures.progress refl;
}

pub returns-in_err-count : goal.returns-in_err-count
returns-in_err-count g c =
    rw c.from_residual.ensures (gives_err (no_want c.in_err-count.ensures.memory) (λ before shows.
    after_first c.args.first shows (TakesLength true c.args.major)
    (RejectsMajor true c.args.major) (shortest_rejected false c.if-major-eq-ARRAY.true
    c.in_err-count.ensures.moves c.in_err-count.ensures.begins)))

pub returns-in_ok-count-2 : goal.returns-in_ok-count-2
returns-in_ok-count-2 g c = record {
  does = λ before shows. after_first _ shows (TakesLength true c.args.major)
      (RejectsMajor true c.args.major) (does_ok _ _ (reached_shortest _ _
      c.in_ok-count-2.ensures.moves c.in_ok-count-2.ensures.sound));
  memory = tt;
  ranged = tt;
  gains = c.in_ok-count-2.ensures.progress refl;
}

pub returns-in_err-count-2 : goal.returns-in_err-count-2
returns-in_err-count-2 g c =
    rw c.from_residual-in_err-count-2.ensures (gives_err (no_want c.in_err-count-2.ensures.memory)
    (λ before shows. after_first _ shows (TakesLength true c.args.major)
    (RejectsMajor true c.args.major) (shortest_rejected true (is_map c.requires.nests
    c.if-major-eq-ARRAY.false) c.in_err-count-2.ensures.moves c.in_err-count-2.ensures.begins)))
