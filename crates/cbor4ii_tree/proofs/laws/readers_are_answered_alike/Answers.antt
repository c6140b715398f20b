use Rattle.std.proofs.Common.{◌≡◌, inl, inr, ◌∙◌, sym, subst}
use Rattle.cbor4ii_tree.specs.{Basis.Encodings.{DecodesTo, Skips}, Basis.View.view}
use Rattle.cbor4ii_tree.specs.Calls.ReadingRejects.{ReadingRejects}
use Rattle.cbor4ii_tree.specs.Calls.SkippingRejects.{SkippingRejects}
use Rattle.cbor4ii_tree.proofs.answers.Alike.{both_canonical, both_ok, both_skipped, both_err}
use Rattle.cbor4ii_tree.proofs.{reading.Answer.some_reading, skipping.Answer.some_skipping}
use Rattle.cbor4ii_tree.proofs.laws.readers_are_answered_alike.Goals as goal

pub returns : goal.returns
returns g c = record {
  reading =
      λ xs old new other after r s bytes known knows same all exact every right.
      elim (some_reading xs old.budget bytes) [
        | inl a ↦ both_ok (λ v w. view v ≡ view w) new after (λ w. view w ≡ a.0) (λ w. view w ≡ a.0)
            (λ v w p q. p ∙ sym q) a.1 r s (all xs known a.0 a.1 a.2)
            (every xs knows a.0 a.1 (subst (λ b. DecodesTo xs b a.0 a.1) same a.2))
        | inr a ↦ both_err (λ v w. view v ≡ view w) new after a.0 a.1 r s
            (exact xs known a.0 a.1 a.2)
            (right xs knows a.0 a.1 (subst (λ b. ReadingRejects xs b a.0 a.1) same a.2))
      ];
  skipping =
      λ xs old new other after r s bytes known knows same all exact every right.
      elim (some_skipping xs old.budget bytes) [
        | inl a ↦ both_skipped new after a.1 r s (all xs known a.0 a.1 a.2)
            (every xs knows a.0 a.1 (subst (λ b. Skips xs b a.0 a.1) same a.2))
        | inr a ↦ both_err (λ _ _. Unit {0}) new after a.0 a.1 r s
            (exact xs known a.0 a.1 a.2)
            (right xs knows a.0 a.1 (subst (λ b. SkippingRejects xs b a.0 a.1) same a.2))
      ];
  canonical = both_canonical;
}
