-- The value at the beginning of an input.
use Rattle.std.proofs.Common.{◌≡◌, ℕ, ◌+◌, ◌≤◌, inl, List, length, drop, Option, Some}
use Rattle.std.proofs.Common.{None, Result, Ok, Err, true, refl, sym, subst, arith, rules}
use Rattle.std.proofs.lemmas.List.{length-drop}
use Rattle.std.specs.Prelude.{IfOk, IfErr, IfSome, IsTrue}
use Rattle.cbor4ii_rw.specs.View.{View, IfKnown}
use Rattle.cbor4ii_items.specs.InputError.{InputError, input_error_of}
use Rattle.cbor4ii_items.specs.Decoding.{RejectsAt, NoneRead, Sound, Complete}
use Rattle.cbor4ii_items.specs.Budget.{CostFits}
use Rattle.cbor4ii_items.specs.Decoding.{Rejects}
use Rattle.cbor4ii.specs.declared.serde.de.error.DecodeError.{DecodeError}
use Rattle.cbor4ii.specs.First.{First, FirstOf, FirstWhole, typed_error_of}
use Rattle.cbor4ii_rw.specs.Input.{limit}
use Rattle.cbor4ii_items.specs.Whole.{IsSure, StopsAt}
use Rattle.cbor4ii_items.specs.Laws.Wholes.{sure_is_exact, trails, to_the_end}
use Rattle.cbor4ii_items.specs.Laws.Wholes.{none_whole, whole_of}
use Rattle.std.specs.Result.{IsErrAnd}
use Rattle.cbor4ii_rw.specs.declared.error.WholeError.{WholeError}
use Rattle.cbor4ii_rw.specs.declared.error.WholeError.TheVariants.{Decode, Trailing}
use Rattle.cbor4ii.specs.Typed.{Promise, Deserializes, as_core, answer_of, unsaid_rejects}
use Rattle.cbor4ii.proofs.IfKnown.{if_ok, if_err}

if_stopped : (rejects : RejectsAt) (o : Option InputError) (left : Option (List ℕ)) (xs : List ℕ)
    (budget : Option ℕ) → budget ≡ Some limit
    → IfSome o (λ z. (ys : List ℕ) × (left ≡ Some ys) × rejects xs budget z ys)
    → IfSome o (λ z. (ys : List ℕ) × rejects xs (Some limit) z ys)
if_stopped rejects None left xs budget is h = tt
if_stopped rejects (Some z) left xs budget is h = (h.0, subst (λ k. rejects xs k z h.0) is h.2)

module _ {V E : Type 0} (reads : List ℕ → V → ℕ → ℕ → Type 0) where
  accepts_at : (r : Result V (DecodeError E)) (a b : View) → a.budget ≡ Some limit
      → IfOk r (Sound reads a b)
      → IfOk r (λ v. IfKnown a.known (λ xs. (n c : ℕ) × reads xs v n c × (c ≤ limit)))
  accepts_at (Ok v) a b is s = λ xs known. let p = s.at xs known in
      (p.count, p.cost, p.read, subst (CostFits p.cost) is p.fits)
  accepts_at (Err e) a b is s = tt

  complete_at : (r : Result V (DecodeError E)) (a : View) → a.budget ≡ Some limit
      → IfErr r (λ e. Complete reads a (as_core e)) → IfErr r (λ e.
      IfKnown a.known (λ xs. IfSome (input_error_of (as_core e))
      (λ _. NoneRead reads xs (Some limit))))
  complete_at (Ok v) a is s = tt
  complete_at (Err e) a is s = λ xs known.
      subst (λ k. IfSome (input_error_of (as_core e)) (λ _. NoneRead reads xs k)) is (s.at xs known)

  module _ (rejects : RejectsAt) where
    stopped_at : (r : Result V (DecodeError E)) (a b : View) → a.budget ≡ Some limit
        → IfErr r (λ e. Rejects rejects a b (as_core e)) → IfErr r (λ e. IfKnown a.known (λ xs.
        IfSome (input_error_of (as_core e)) (λ z. (ys : List ℕ) × rejects xs (Some limit) z ys)))
    stopped_at (Ok v) a b is s = tt
    stopped_at (Err e) a b is s =
        λ xs known. if_stopped rejects (input_error_of (as_core e)) b.known xs a.budget is
        (s.at xs known)

module _ {V E : Type 0} (p : Promise V) (r : Result V (DecodeError E)) where
  -- the first value of what a reader has left
  pub first_of : (a b view : View) → a ≡ view → Deserializes p a b (answer_of r)
      → view.budget ≡ Some limit → FirstOf p view r
  first_of a b view e d is =
      let at = subst (λ w. w.budget ≡ Some limit) (sym e) is in
      subst (λ w. FirstOf p w r) e
      (record {
        first = record {
          accepts = accepts_at p.format.reads r a b at (if_ok _ r d.sound);
          memory = if_err _ r d.memory;
          is_complete = λ is sure. complete_at p.format.reads r a at
              (if_err _ r (d.complete is sure));
          rejects = λ is sure. stopped_at p.format.reads p.format.rejects r a b at
              (if_err _ r (d.rejects is sure));
          begins = λ is. stopped_at p.format.reads p.format.begins r a b at
              (if_err _ r (d.begins is));
        };
      })

  as_known : (sure other : Type 0) (known left : Option (List ℕ)) → (other → sure) → known ≡ left
      → First p sure known r → First p other left r
  as_known sure other known left means e f = search rules

  -- that of a slice, and of a stream
  pub first_lent : {view : View} (bytes : List ℕ) → FirstOf p view r → view.known ≡ Some bytes
      → view.zero_copy ≡ true → First p (IsSure p.format.owned bytes) (Some bytes) r
  first_lent {view = view} bytes f known lends = search (rules, as_known, sure_is_exact)

  pub first_streamed : {view : View} (left : Option (List ℕ)) → FirstOf p view r → view.known ≡ left
      → First p (IsTrue p.format.owned) left r
  first_streamed {view = view} left f known = search (rules, as_known, inl)

module _ {V E : Type 0} (p : Promise V) (bytes : List ℕ) (a b : View)
    (known : a.known ≡ Some bytes) (budget : a.budget ≡ Some limit) where
  -- an input is one value, and nothing else
  pub first_whole : (v : V) (left : ℕ) → Deserializes {E = E} p a b (Ok v)
      → IfKnown b.known (λ xs. left ≡ length xs) → left ≤ 0
      → FirstWhole {E = E} p bytes (Ok v)
  first_whole v left d counts none =
      let all = to_the_end p.format.reads bytes a b known budget v left d.sound counts none in
      record {
        accepts = all;
        whole = λ is. whole_of p.format (p.lawful is) bytes v all;
        trailing = tt;
        none = λ is. tt;
        rejects = tt;
      }

  -- bytes follow the value
  pub first_trails : (v : V) (left : ℕ) → Deserializes {E = E} p a b (Ok v)
      → IfKnown b.known (λ xs. left ≡ length xs) → 1 ≤ left
      → FirstWhole {E = E} p bytes (Err (Trailing left))
  first_trails v left d counts more =
      let some = trails p.format.reads bytes a b known budget v left d.sound counts more in
      record {
        accepts = tt;
        whole = λ is. tt;
        trailing = some;
        none = λ is. none_whole p.format (p.lawful is) bytes left some;
        rejects = tt;
      }

  -- no value is read
  pub first_rejected : a.zero_copy ≡ true → (e : DecodeError E)
      → Deserializes p a b (answer_of (Err e)) → (r : Result V (WholeError (DecodeError E)))
      → IsErrAnd r (λ w. w ≡ Decode e) → FirstWhole p bytes r
  first_rejected lends e d (Ok v) is = absurd is
  first_rejected lends e d (Err w) is =
      let first = first_lent p (Err e) bytes (first_of p (Err e) a b a refl d budget) known lends in
      subst (λ z. FirstWhole p bytes (Err z)) (sym is)
      (record {
        accepts = tt;
        whole = λ is. tt;
        trailing = tt;
        none = λ is. tt;
        rejects = first;
      })

module _ (bytes : List ℕ) (at : ℕ) (within : at ≤ length bytes) where
  unsaid_at : (o : Option InputError) → IfSome o (λ z. (ys : List ℕ)
      × unsaid_rejects bytes (Some limit) z ys × (at + length ys ≡ length bytes))
  unsaid_at None = tt
  unsaid_at (Some z) = (drop at bytes, tt, omega (arith, length-drop at bytes, within))

  -- an error of any type leaves so many bytes
  pub stops_within : {E : Type 0} (e : DecodeError E)
      → StopsAt typed_error_of unsaid_rejects bytes (record { at = at; error = Decode e })
  stops_within e = search (rules, unsaid_at)
