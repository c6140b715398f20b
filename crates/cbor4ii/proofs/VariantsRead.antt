-- A variant is read by the calls of an enum's accessor.
use Rattle.std.proofs.Common.{◌≡◌, inl, inr, ℕ, ◌+◌, List, [], ◌∷◌, take, drop, Bool, true}
use Rattle.std.proofs.Common.{false, Some, refl, ap, ◌∙◌, subst}
use Rattle.cbor4ii_rw.specs.View.{View}
use Rattle.cbor4ii_rw.specs.Reader.{KeepsAllButBudget}
use Rattle.cbor4ii_items.specs.Decoding.{Reads, Sound}
use Rattle.cbor4ii_items.specs.Budget.{CostFits}
use Rattle.cbor4ii_items.specs.Moves.{Kept}
use Rattle.cbor4ii_items.specs.Strings.{ReadsText, ReadsTextAs}
use Rattle.cbor4ii_items.specs.Laws.Prefixes.{drop_more}
use Rattle.cbor4ii_items.specs.Laws.Pairs.{pair_sound}
use Rattle.cbor4ii_items.specs.Laws.UnderStep.{fits_step}
use Rattle.cbor4ii.specs.Variants.{IsForm, OpensEnum, ReadsContent, ReadsVariant}
use Rattle.cbor4ii.proofs.Forms.{sound_by}

-- the name, as a text
named : {N : Type 0} (text : N → List ℕ) {a b : View} {name : N} → Sound (ReadsTextAs text) a b name
    → Sound ReadsText a b (text name)
named text s = sound_by s (λ xs n c r. r)

-- the content, where there is one
inside : {V : Type 0} (reads : Reads V) {has : Bool} {a b : View} {v : V} → has ≡ true
    → Sound (ReadsContent has reads) a b v → Sound reads a b v
inside reads {a = a} {b = b} {v = v} is s =
    sound_by (subst (λ has. Sound (ReadsContent has reads) a b v) is s) (λ xs n c r. r)

module _ {V N : Type 0} (units : List ℕ → V → Type 0) (contents : List ℕ → Reads V)
    (text : N → List ℕ) where
  pub unit_read : {a b c d : View} {form : Bool × ℕ} {name : N} {v : V} → OpensEnum a b form
      → form.0 ≡ false → Sound (ReadsTextAs text) b c name → units (text name) v
      → KeepsAllButBudget c d → Sound (ReadsVariant units contents) a d v
  unit_read {a = a} {b = b} {form = form} {name = name} o is s stands z = record {
    at = λ xs known.
        let head = o.head.at xs (o.others.known ∙ known) in
        let none : head.count ≡ 0 =
        (subst (λ has. IsForm has form.1 head.count) is head.read.1).1 in
        let own = s.at xs (subst (λ k. b.known ≡ Some (drop k xs)) none head.left) in
        record {
          count = own.count;
          cost = 1 + own.cost;
          read = (own.cost, inl (text name, own.read, stands), refl);
          fits =
              fits_step a.budget o.within.budget own.cost o.step
              (subst (CostFits own.cost) o.kept.budget own.fits);
          left = z.known ∙ own.left;
        };
  }

  pub content_read : {a b c d : View} {form : Bool × ℕ} {name : N} {v : V} → OpensEnum a b form
      → form.0 ≡ true → Kept b c → Sound (ReadsTextAs text) b c name
      → Sound (ReadsContent form.0 (contents (text name))) c d v
      → Sound (ReadsVariant units contents) a d v
  content_read {a = a} {b = b} {form = form} {name = name} o is kept s content =
      let both = pair_sound ReadsText (contents (text name)) kept (named text s)
      (inside (contents (text name)) is content) in
      record {
        at = λ xs known.
            let head = o.head.at xs (o.others.known ∙ known) in
            let entry = subst (λ has. IsForm has form.1 head.count) is head.read.1 in
            let p =
            both.at (drop 1 xs) (subst (λ k. b.known ≡ Some (drop k xs)) entry.1 head.left) in
            let begins = subst (λ first. take 1 xs ≡ first ∷ []) entry.0 head.read.0 in
            record {
              count = 1 + p.count;
              cost = 1 + p.cost;
              read = (p.cost, inr (begins, text name, p.count, p.read, refl), refl);
              fits =
                  fits_step a.budget o.within.budget p.cost o.step
                  (subst (CostFits p.cost) o.kept.budget p.fits);
              left = p.left ∙ ap Some (drop_more p.count 1 xs);
            };
      }
