-- Floats, read as their bits.
use Rattle.std.proofs.Common.{◌≡◌, ℕ, suc, ◌^◌, ◌<◌, ◌≤◌, inl, inr, List, [], ◌∷◌, ◌++◌, length}
use Rattle.std.proofs.Common.{get_or, drop, take, Ok, refl, sym, ap₂, ap, ◌∙◌, subst, arith}
use Rattle.std.proofs.Common.{length-append, rules}
use Rattle.std.proofs.lemmas.List.{length-drop, length-take-le, take-append-drop}
use Rattle.cbor4ii_rw.specs.View.{View, IfKnown}
use Rattle.cbor4ii_rw.specs.Reader.{Shows, Advances, IsPrefix}
use Rattle.cbor4ii_items.specs.Head.{IsBytes}
use Rattle.cbor4ii_items.specs.InputError.{InputError}
use Rattle.cbor4ii_items.specs.ReadHead.{number_on}
use Rattle.cbor4ii_items.specs.Laws.Heads.{number_is, number_inverse, onto-lt, bytes_onto}
use Rattle.cbor4ii_items.specs.Magnitude.{number_of}
use Rattle.cbor4ii_items.specs.Reading.{Runs}
use Rattle.cbor4ii_items.specs.Marked.{marked_at}
use Rattle.cbor4ii_items.specs.Floats.{float_bytes, StandsWhole, ReadsFloat, CutFloat, RejectsFloat}
use Rattle.cbor4ii_items.specs.Floats.{float_at, float_again}
use Rattle.cbor4ii_items.specs.Prefix.{TookSeen}
use Rattle.cbor4ii_items.specs.Laws.ProgramEnds.{ok_parts, err_parts, ErrParts}
use Rattle.cbor4ii_items.specs.Laws.Contents.{lends_prefix}
use Rattle.cbor4ii_items.proofs.Leaves.{IsLeaf}
use Rattle.cbor4ii_items.specs.Laws.ReadingHeads.{number_cut}
use Rattle.cbor4ii_items.proofs.Marked.{marked_value, marked_stays}

module _ (name : List ℕ) (marker count : ℕ) where
  float_means : (xs : List ℕ) (v n : ℕ) → float_at name marker count xs ≡ Ok (v, drop n xs)
      → n ≤ length xs → IsBytes (take n xs) → ReadsFloat marker count xs v n 0
  float_means xs v n e within bytes =
      let h = ok_parts (marked_at name marker marker xs)
      (λ b. number_on name count count 0) v (drop n xs) e in
      let m = marked_value name marker marker h.value xs h.rest h.begun in
      let i = number_inverse name count count 0 v h.rest (drop n xs) h.ended in
      let many : suc count ≡ n = omega (
        arith,
        ap length m.0,
        ap length i.0,
        length-append (take count h.rest) (drop n xs),
        i.1,
        length-drop n xs,
      ) in
      let seen : IsBytes (take count h.rest) = (subst (λ j. IsBytes (take j (h.value ∷ h.rest)))
      (sym many) (subst (λ zs. IsBytes (take n zs)) m.0 bytes)).1 in
      let r = number_is name count count v h.rest (drop n xs) seen h.ended in
      let first : h.value ≡ marker = omega (arith, m.1, m.2) in
      record {
        fits = r.1;
        rest = drop n xs;
        is = m.0 ∙ ap₂ ◌∷◌ first r.0;
        size = sym many;
        cost = refl;
      }

  float_cut : (xs : List ℕ) (z : InputError) (ys : List ℕ) → ErrParts
      (marked_at name marker marker xs)
      (λ b. number_on name count count 0) z ys → CutFloat name marker count xs z ys
  float_cut xs z ys h = search (rules, marked_value, number_cut)

  pub float_leaf : IsLeaf (float_at name marker count) (ReadsFloat marker count)
      (RejectsFloat name marker count)
  float_leaf = record {
    means = float_means;
    again = float_again name marker count;
    is_complete = λ xs budget z n e within bytes.
        elim (err_parts (marked_at name marker marker xs)
        (λ b. number_on name count count 0) z (drop n xs) e) [
          | inl f ↦ inl (marked_stays name marker marker (λ b. b ≡ marker)
              (λ b f. (omega (arith, f), omega (arith, f))) xs z (drop n xs) f)
          | inr h ↦ inr (float_cut xs z (drop n xs) h)
        ];
  }

-- ---- a prefix that was shown

-- a marker and a number's bytes after it
pub prefix_is_float : (marker count : ℕ) (prefix content : List ℕ)
    → content ≡ take count (drop 1 prefix) → suc count ≤ length prefix → get_or prefix 0 0 ≡ marker
    → marker < 256 → IsBytes content → StandsWhole marker count prefix (number_of content)
prefix_is_float marker count [] content trailing long first small bytes = absurd (omega arith)
prefix_is_float marker count (b ∷ bs) content trailing long first small bytes =
    search (rules, length-take-le, onto-lt, ◌∷◌, bytes_onto)

float_shown : {marker count bits : ℕ} (n : ℕ) {prefix xs : List ℕ} → n ≡ suc count
    → StandsWhole marker count prefix bits → take n prefix ≡ take n xs
    → ReadsFloat marker count xs bits n 0
float_shown {marker = marker} {count = count} {bits = bits} n {prefix = prefix} {xs = xs} e f same =
    let whole : take n xs ≡ float_bytes marker count bits =
    sym same ∙ (ap (λ k. take k prefix) e ∙ f.is) in
    record {
      fits = f.fits;
      rest = drop n xs;
      is = sym (take-append-drop n xs) ∙ ap (λ zs. zs ++ drop n xs) whole;
      size = e;
      cost = refl;
    }

runs_float : {E : Type 0} (name : List ℕ) {marker count bits n want : ℕ} {prefix : List ℕ}
    {a m b : View} → n ≡ suc count → Shows prefix a m → IfKnown a.known (IsPrefix want prefix)
    → StandsWhole marker count prefix bits → Advances n m b
    → Runs {E = E} (float_at name marker count) a b (Ok bits)
runs_float name {marker = marker} {count = count} {bits = bits} {n = n}
    {prefix = prefix} e shows known_prefix f adv =
    let lends = lends_prefix shows known_prefix (omega (arith, f.long))
    (subst (λ k. IsBytes (take k prefix)) (sym e) f.bytes) refl adv in
    record {
      moves = record { by = lends.kept; depth = λ e. refl };
      answers = λ xs known.
          let h = lends.at xs known in (
            drop n xs,
            h.1,
            (float_again name marker count xs bits n 0 (float_shown n e f h.2)).answer,
          );
    }

pub took_float : {E : Type 0} {marker count bits n want : ℕ} {prefix : List ℕ} {a m b : View}
    → Shows prefix a m → IfKnown a.known (IsPrefix want prefix)
    → (n ≡ suc count) × StandsWhole marker count prefix bits → Advances n m b
    → TookSeen E (λ name. float_at name marker count) (λ v. v < 256 ^ count) bits a b
took_float shows prefix h adv = search (rules, runs_float)
