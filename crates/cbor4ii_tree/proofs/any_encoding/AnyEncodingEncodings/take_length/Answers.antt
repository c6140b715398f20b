use Rattle.std.proofs.Common.{◌≡◌, ◌∷◌, false, refl, subst, arith}
use Rattle.cbor4ii_items.specs.Head.{indefinite_head}
use Rattle.cbor4ii_tree.specs.Inner.Valuing.{RejectsMajor, TakesLength}
use Rattle.cbor4ii_tree.proofs.{skip_calls.Doing.{does_ok, reached_as}, values.Heads.after_first}
use Rattle.cbor4ii_tree.proofs.{values.Heads.taken_first, values.Sequences.gives_as}
use Rattle.cbor4ii_tree.proofs.any_encoding.AnyEncodingEncodings.take_length.Goals as goal

pub returns-then-first-major : goal.returns-then-first-major
returns-then-first-major g c =
    let first = c.args.first in
    let major = c.args.major in
    let is : first ≡ indefinite_head major = omega (arith, c.if-first-major.true) in
    record {
      does = λ before shows. does_ok _ _ (reached_as (λ xs ys. xs ≡ first ∷ ys) _
          (λ xs ys h. (refl, subst (λ b. xs ≡ b ∷ ys) is h))
          (taken_first first shows (omega arith) c.advance.ensures));
      memory = tt;
      ranged = tt;
      gains = omega (arith, c.advance.ensures.bound);
    }

pub returns : goal.returns
returns g c =
    gives_as (λ never. never) (λ d before shows. after_first c.args.first shows
    (TakesLength false c.args.major) (RejectsMajor false c.args.major) d) c.length.ensures
