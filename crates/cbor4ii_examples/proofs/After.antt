-- One decoding call after another.
use Rattle.std.proofs.Common.{◌≡◌, ℕ, ◌+◌, inl, inr, List, drop, Option, Some, None}
use Rattle.std.proofs.Common.{refl, sym, ap, ◌∙◌, subst, max, IfSome, rules}
use Rattle.cbor4ii_rw.specs.View.{View}
use Rattle.cbor4ii_rw.specs.declared.error.DecodeError.{DecodeError}
use Rattle.cbor4ii_items.specs.InputError.{InputError, input_error_of}
use Rattle.cbor4ii_items.specs.Moves.{Kept}
use Rattle.cbor4ii_items.specs.Decoding.{Reads, RejectsAt, NoneRead, Sound, Complete}
use Rattle.cbor4ii_items.specs.Budget.{CostFits}
use Rattle.cbor4ii_items.specs.Decoding.{Rejects}
use Rattle.cbor4ii_items.specs.Laws.Prefixes.{drop_more}
use Rattle.cbor4ii_items.specs.Laws.Answering.{if_some, complete_as}
use Rattle.cbor4ii_items.specs.Laws.SequenceParts.{fits_max, fits_less}
use Rattle.cbor4ii_items.specs.Laws.Pairs.{less_max_right}
use Rattle.cbor4ii_examples.specs.Then.{ReadsThen, RejectsThen, InOneWay, Carries}

-- ---- one type as another

pub sound_as : {U V : Type 0} (f : Reads U) (g : Reads V) {u : U} {v : V} {a b : View}
    → ((xs : List ℕ) (n c : ℕ) → f xs u n c → g xs v n c) → Sound f a b u → Sound g a b v
sound_as f g means s = record {
  at = λ xs known.
      let p = s.at xs known in
      let read = means xs p.count p.cost p.read in
      record { count = p.count; cost = p.cost; read = read; fits = p.fits; left = p.left };
}

stopped_as : (o : Option InputError) (left : Option (List ℕ)) (f g : InputError → List ℕ → Type 0)
    → ((z : InputError) (ys : List ℕ) → f z ys → g z ys)
    → IfSome o (λ z. (ys : List ℕ) × (left ≡ Some ys) × f z ys)
    → IfSome o (λ z. (ys : List ℕ) × (left ≡ Some ys) × g z ys)
stopped_as None left f g h p = tt
stopped_as (Some z) left f g h p = (p.0, p.1, h z p.0 p.2)

pub rejects_as : {E : Type 0} {e : DecodeError E} {a b : View} (f g : RejectsAt)
    → ((xs : List ℕ) (budget : Option ℕ) (z : InputError) (ys : List ℕ) → f xs budget z ys
    → g xs budget z ys) → Rejects f a b e → Rejects g a b e
rejects_as {e = e} {a = a} {b = b} f g means s = record {
  at = λ xs known.
      stopped_as (input_error_of e) b.known (f xs a.budget) (g xs a.budget) (means xs a.budget)
      (s.at xs known);
}

-- ---- what is read

module _ {A B : Type 0} (first : Reads A) (second : A → Reads B) where
  pub then_sound : {a m b : View} {v : A} {w : B} → Kept a m → Sound first a m v
      → Sound (second v) m b w → Sound (ReadsThen first second) a b (v, w)
  then_sound {a = a} kept s t = record {
    at = λ xs known.
        let p = s.at xs known in
        let q = t.at (drop p.count xs) p.left in
        let fits = subst (CostFits q.cost) kept.budget q.fits in
        record {
          count = p.count + q.count;
          cost = max p.cost q.cost;
          read = record {
            before = p.count;
            first_cost = p.cost;
            head = p.read;
            trailing = q.count;
            second_cost = q.cost;
            tail = q.read;
            size = refl;
            cost = refl;
          };
          fits = fits_max p.cost q.cost a.budget p.fits fits;
          left = q.left ∙ ap Some (drop_more q.count p.count xs);
        };
  }

  no_first : (xs : List ℕ) (budget : Option ℕ) → NoneRead first xs budget
      → NoneRead (ReadsThen first second) xs budget
  no_first xs budget none v n c h fits = search rules

  pub first_complete : {E : Type 0} {e : DecodeError E} {a : View} → Complete first a e
      → Complete (ReadsThen first second) a e
  first_complete s = complete_as first (ReadsThen first second) no_first s

  module _ (same : A → A → Type 0) (carries : Carries same second) (one : InOneWay first same) where
    no_second : (xs : List ℕ) (v : A) (i d : ℕ) (old mid : Option ℕ) → first xs v i d → mid ≡ old
        → NoneRead (second v) (drop i xs) mid → NoneRead (ReadsThen first second) xs old
    no_second xs v i d old mid read e none p n c h fits =
        let o = one xs p.0 v h.before i h.first_cost d h.head read in
        let tail = subst (λ j. second p.0 (drop j xs) p.1 h.trailing h.second_cost) o.0 h.tail in
        let less = less_max_right c h.first_cost h.second_cost h.cost in
        none p.1 h.trailing h.second_cost
        (carries p.0 v (drop i xs) p.1 h.trailing h.second_cost o.2 tail)
        (fits_less h.second_cost c mid less (subst (CostFits c) (sym e) fits))

    pub second_complete : {E : Type 0} {e : DecodeError E} {a m : View} {v : A} → Kept a m
        → Sound first a m v → Complete (second v) m e → Complete (ReadsThen first second) a e
    second_complete {e = e} {a = a} {m = m} {v = v} kept s r = record {
      at = λ xs known.
          let p = s.at xs known in
          let none = no_second xs v p.count p.cost a.budget m.budget p.read kept.budget in
          if_some (input_error_of e) none (r.at (drop p.count xs) p.left);
    }

-- ---- how it is rejected

module _ {A : Type 0} (first : Reads A) (first_rejects : RejectsAt)
    (second_rejects : A → RejectsAt) where
  pub first_stopped : {E : Type 0} {e : DecodeError E} {a m : View} → Rejects first_rejects a m e
      → Rejects (RejectsThen first first_rejects second_rejects) a m e
  first_stopped s = search (rules, rejects_as, inl)

  pub second_stopped : {E : Type 0} {e : DecodeError E} {a m b : View} {v : A} → Kept a m
      → Sound first a m v → Rejects (second_rejects v) m b e
      → Rejects (RejectsThen first first_rejects second_rejects) a b e
  second_stopped {e = e} {a = a} {m = m} {b = b} {v = v} kept s r = record {
    at = λ xs known.
        let p = s.at xs known in
        let left = drop p.count xs in
        stopped_as (input_error_of e) b.known (second_rejects v left m.budget)
        (RejectsThen first first_rejects second_rejects xs a.budget)
        (λ z ys h. inr (record {
          whole = v;
          size = p.count;
          cost = p.cost;
          head = p.read;
          fits = p.fits;
          stop = subst (λ g. second_rejects v left g z ys) kept.budget h;
        }))
        (r.at left p.left);
  }
