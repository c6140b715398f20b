use Rattle.std.proofs.Common.{◌≡◌, ℕ, ◌<◌, ◌≤◌, List, [], ◌++◌, length, take, drop, Option, Some}
use Rattle.std.proofs.Common.{None, IfSome, refl, sym, ap, ◌∙◌, subst, arith, length-append, rules}
use Rattle.std.specs.Int.{bytes_high_first}
use Rattle.std.proofs.lemmas.List.{append-nil}
use Rattle.cbor4ii_items.specs.Prefix.{IsArgument}
use Rattle.cbor4ii_items.specs.Head.{Width, in_first, byte_count, HeadFits, additional}
use Rattle.cbor4ii_items.specs.Head.{ArgumentAfter, LacksArgument, IsBytes}
use Rattle.cbor4ii_items.specs.ReadHead.{argument_size}
use Rattle.cbor4ii_items.specs.Laws.Heads.{additional-lt, length-bytes_high_first, number_is}
use Rattle.cbor4ii_items.specs.Laws.Heads.{wide_of}
use Rattle.cbor4ii_items.proofs.initial.argument.Goals as goal

in_first_byte : (info : ℕ) (trailing : List ℕ) → info < 24 → ArgumentAfter info trailing info 0
in_first_byte info trailing small =
    record { width = in_first; fits = omega (arith, small); says = refl; size = refl; is = refl }

in_following : (info n : ℕ) (trailing : List ℕ) → 24 ≤ info → info < 28 → IsArgument info trailing n
    → ArgumentAfter info trailing n (argument_size info)
in_following info n trailing from to a =
    let k = argument_size info in
    let w = wide_of info from to in
    let read = number_is [] k k n (trailing ++ []) (drop k trailing ++ [])
    (subst (λ bs. IsBytes (take k bs)) (sym (append-nil trailing)) a.bytes) (a.number [] []) in
    record {
      width = w.wide;
      fits = w.fits n a.fits;
      says = w.info n;
      size = sym w.count;
      is =
          sym (append-nil trailing)
          ∙ (read.0 ∙ ap (λ bs. bytes_high_first k n ++ bs) (append-nil (drop k trailing)));
    }

found : (info : ℕ) (trailing : List ℕ) → 24 ≤ info → info < 28 → (o : Option (ℕ × ℕ))
    → IfSome o (λ f. IsArgument info trailing f.0) → IfSome o (λ f. f.1 ≡ argument_size info)
    → IfSome o (λ f. ArgumentAfter info trailing f.0 f.1)
found info trailing from to None a size = tt
found info trailing from to (Some f) a size = rw size (in_following info f.0 trailing from to a)

-- from 24 on the argument follows in as many bytes as the additional information says
follows : (info n : ℕ) (w : Width) → 24 ≤ info → HeadFits w n → additional w n ≡ info
    → byte_count w ≡ argument_size info
follows info n in_first from fits says = absurd (omega (arith, from, fits, says))
follows info n _ from fits says = ap argument_size says

too_few : (info : ℕ) (trailing : List ℕ) → 24 ≤ info → length trailing < argument_size info
    → LacksArgument info trailing
too_few info trailing from short n k a = search (rules, length-append, length-bytes_high_first)

pub returns-then-info-lt24-clause-some : goal.returns-then-info-lt24-clause-some
returns-then-info-lt24-clause-some c =
    in_first_byte c.args.info c.args.trailing.now c.if-info-lt24.true

pub returns-then-info-gt27-clause-none : goal.returns-then-info-gt27-clause-none
returns-then-info-gt27-clause-none c =
    λ e n k a. omega (arith, c.if-info-gt27.true, additional-lt n a.width a.fits, a.says)

pub returns-clause-some : goal.returns-clause-some
returns-clause-some c =
    found c.args.info c.args.trailing.now (omega (arith, c.if-info-lt24.false))
    (omega (arith, c.if-info-gt27.false)) c.shown_argument.result c.shown_argument.ensures.some
    c.shown_argument.ensures.size

pub returns-clause-none : goal.returns-clause-none
returns-clause-none c = search (rules, too_few)
