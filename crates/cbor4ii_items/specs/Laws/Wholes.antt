-- An input that is read as one item.
use Rattle.std.proofs.Common.{◌≡◌, ℕ, ◌+◌, ◌≤◌, inl, inr, List, length, drop, Option}
use Rattle.std.proofs.Common.{Some, None, Result, Ok, Err, Bool, true, subst, ap, ◌∙◌, ◌-◌}
use Rattle.std.proofs.Common.{arith, rules}
use Rattle.std.specs.Result.{IsErrAnd}
use Rattle.std.proofs.lemmas.List.{length-drop}
use Rattle.std.specs.Prelude.{IfSome, MatchBool, false}
use Rattle.cbor4ii_rw.specs.Input.{limit}
use Rattle.cbor4ii_rw.specs.View.{View, IfKnown}
use Rattle.cbor4ii_rw.specs.declared.error.DecodeError.{DecodeError}
use Rattle.cbor4ii_rw.specs.declared.error.WholeError.{WholeError}
use Rattle.cbor4ii_rw.specs.declared.error.WholeError.TheVariants.{Decode, Trailing}
use Rattle.cbor4ii_items.specs.InputError.{InputError, input_error_of}
use Rattle.cbor4ii_items.specs.Decoding.{Reads, Format, IsLawful, Sound, NoneRead, IsExact, Decodes}
use Rattle.cbor4ii_items.specs.Decoding.{RejectsAt}
use Rattle.cbor4ii_items.specs.Budget.{CostFits}
use Rattle.cbor4ii_items.specs.Whole.{IsWhole, NoneIsWhole, Trails, IsSure, NotBegun, ReadsToTheEnd}
use Rattle.cbor4ii_items.specs.Whole.{DecodesWhole, StopsAt}
use Rattle.cbor4ii_items.specs.Moves.{Kept, ReaderFailed}

-- a type is exact over a reader that lends all of the input
pub sure_is_exact : (owned : Bool) (a : View) (bytes : List ℕ) → a.known ≡ Some bytes
    → a.zero_copy ≡ true → IsSure owned bytes → IsExact owned a
sure_is_exact owned a bytes known lends (inl is) = inl is
sure_is_exact owned a bytes known lends (inr short) = search (rules, inr)

at_rest : (rejects : RejectsAt) (o : Option InputError) (left : Option (List ℕ)) (bytes : List ℕ)
    (budget : Option ℕ) → budget ≡ Some limit
    → IfSome o (λ err. (rest : List ℕ) × (left ≡ Some rest) × rejects bytes budget err rest)
    → IfSome o (λ err. (rest : List ℕ) × rejects bytes (Some limit) err rest)
at_rest rejects None left bytes budget is h = tt
at_rest rejects (Some err) left bytes budget is h =
    (h.0, subst (λ k. rejects bytes k err h.0) is h.2)

module _ {V : Type 0} (reads : Reads V) (bytes : List ℕ) (a b : View)
    (known : a.known ≡ Some bytes) (budget : a.budget ≡ Some limit) (v : V) (left : ℕ)
    (sound : Sound reads a b v) (counts : IfKnown b.known (λ xs. left ≡ length xs)) where
  rest : (count cost : ℕ) × reads bytes v count cost × (cost ≤ limit)
      × (left ≡ length bytes - count)
  rest =
      let p = sound.at bytes known in (
        p.count,
        p.cost,
        p.read,
        subst (CostFits p.cost) budget p.fits,
        counts (drop p.count bytes) p.left ∙ length-drop p.count bytes,
      )

  -- bytes are left after a value
  pub trails : 1 ≤ left → Trails reads bytes left
  trails some =
      (v, (rest.0, rest.1, rest.2, rest.3, omega (arith, rest.4, some), some))

  -- none are left
  pub to_the_end : left ≤ 0 → ReadsToTheEnd reads bytes v
  to_the_end none = (rest.0, rest.1, rest.2, rest.3, omega (arith, rest.4, none))

module _ {V : Type 0} (format : Format V) (lawful : IsLawful format) (bytes : List ℕ) where
  pub none_whole : (left : ℕ) → Trails format.reads bytes left → NoneIsWhole format.reads bytes
  none_whole left t w whole =
      let one = lawful.one bytes t.0 w t.1.0 (length bytes) t.1.1 whole.0 t.1.2 whole.1 in
      omega (arith, one.0, t.1.4, t.1.5)

  pub whole_of : (v : V) → ReadsToTheEnd format.reads bytes v → IsWhole format.reads bytes v
  whole_of v r = search rules

module _ {V : Type 0} (format : Format V) (lawful : IsLawful format) (bytes : List ℕ) (a b : View)
    (known : a.known ≡ Some bytes) (budget : a.budget ≡ Some limit) (v : V) (left : ℕ)
    (sound : Sound format.reads a b v) (counts : IfKnown b.known (λ xs. left ≡ length xs)) where
  -- the value is accepted
  pub accepted : {E : Type 0} → left ≤ 0 → DecodesWhole {E = E} format bytes (Ok v)
  accepted none = search (rules, whole_of, to_the_end)

  -- bytes follow the value
  pub followed : {E : Type 0} → 1 ≤ left → DecodesWhole {E = E} format bytes (Err (Trailing left))
  followed some =
      let t = trails format.reads bytes a b known budget v left sound counts some in
      record {
        accepts = tt;
        trailing = (t, none_whole format lawful bytes left t);
        rejects = tt;
      }

module _ {V : Type 0} (format : Format V) (bytes : List ℕ) (a b : View)
    (known : a.known ≡ Some bytes) (budget : a.budget ≡ Some limit) where
  not_begun : {E : Type 0} → a.zero_copy ≡ true → (e : DecodeError E)
      → Decodes format a b (Err e) → NotBegun format bytes e
  not_begun lends e d =
      let exact = sure_is_exact format.owned a bytes known lends in
      record {
        memory = d.memory;
        complete = λ sure. subst
            (λ k. IfSome (input_error_of e) (λ _. NoneRead format.reads bytes k)) budget
            ((d.complete (exact sure)).at bytes known);
        rejects = λ sure. at_rest format.rejects (input_error_of e) b.known bytes a.budget budget
            ((d.rejects (exact sure)).at bytes known);
        begins = at_rest format.begins (input_error_of e) b.known bytes a.budget budget
            (d.begins.at bytes known);
      }

  pub rejected : {E : Type 0} → a.zero_copy ≡ true → (e : DecodeError E)
      → Decodes format a b (Err e) → (r : Result V (WholeError (DecodeError E)))
      → IsErrAnd r (λ w. w ≡ Decode e) → DecodesWhole format bytes r
  rejected lends e d (Ok v) is = absurd is
  rejected lends e d (Err w) is = search (rules, not_begun)

-- no more is left than was there
no_longer : (failed : Bool) (a b : View) → MatchBool failed (ReaderFailed a b) (Kept a b)
    → IfKnown a.known (λ xs. IfKnown b.known (λ ys. length ys ≤ length xs))
no_longer true a b h = λ xs before ys after.
    let p = h.rest xs before ys after in
    omega (arith, ap length p.1, length-drop p.0 xs)
no_longer false a b h = search (rules, length-drop)

-- where what an error leaves begins
begins_at : (rejects : RejectsAt) (o : Option InputError) (bytes : List ℕ)
    (known : Option (List ℕ)) (budget : Option ℕ) (left at : ℕ) → at ≡ length bytes - left
    → budget ≡ Some limit → IfKnown known (λ ys. left ≡ length ys)
    → IfKnown known (λ ys. length ys ≤ length bytes)
    → IfSome o (λ err. (rest : List ℕ) × (known ≡ Some rest) × rejects bytes budget err rest)
    → IfSome o (λ err. (rest : List ℕ) × rejects bytes (Some limit) err rest
    × (at + length rest ≡ length bytes))
begins_at rejects None bytes known budget left at taken is counts few h = tt
begins_at rejects (Some err) bytes known budget left at taken is counts few h = search rules

module _ {E : Type 0} (error_of : E → Option InputError) (rejects : RejectsAt) (bytes : List ℕ)
    (all left at : ℕ) (taken : at ≡ all - left) (whole : all ≡ length bytes) where
  -- the byte after a value
  pub stops_after : {V : Type 0} (reads : Reads V) → Trails reads bytes left
      → StopsAt error_of rejects bytes (record { at = at; error = Trailing left })
  stops_after reads t = search rules

  -- the byte of an error of reading
  pub stops_before : (failed : Bool) (a b : View) → a.known ≡ Some bytes → a.budget ≡ Some limit
      → MatchBool failed (ReaderFailed a b) (Kept a b) → IfKnown b.known (λ ys. left ≡ length ys)
      → (why : E) → IfKnown a.known (λ xs. IfSome (error_of why)
      (λ err. (rest : List ℕ) × (b.known ≡ Some rest) × rejects xs a.budget err rest))
      → StopsAt error_of rejects bytes (record { at = at; error = Decode why })
  stops_before failed a b known budget moved counts why h = record {
    within = omega (arith, taken, whole);
    trailing = tt;
    leaves = begins_at rejects (error_of why) bytes b.known a.budget left at
        (omega (arith, taken, whole)) budget counts (no_longer failed a b moved bytes known)
        (h bytes known);
  }
