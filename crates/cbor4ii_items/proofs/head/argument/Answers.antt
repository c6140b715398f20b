use Rattle.std.proofs.Common.{rules, arith, sym, ◌≤◌}
use Rattle.cbor4ii_items.specs.Laws.ReadingHeads.{small_argument, allowed_le, wider}
use Rattle.cbor4ii_items.proofs.head.argument.Goals as goal

pub returns-then-info-lt24-clause-fits : goal.returns-then-info-lt24-clause-fits
returns-then-info-lt24-clause-fits g c h = small_argument _ _ (omega arith) h

pub returns : goal.returns
returns g c = record {
  fits =
      λ h. let le : c.following.result ≤ c.args.width =
      rw c.following.ensures (allowed_le _ _ (sym c.if-not-allowed.ensures)) in
      wider _ _ _ le c.in_ok-number.ensures.fits;
  runs = search rules;
  memory = tt;
}
