-- Steps, chunks and strings.
use Rattle.std.proofs.Common.{◌≡◌, ℕ, zero, suc, List, [], Option, None, Some, Result, Ok, Err}
use Rattle.std.proofs.Common.{Bool, true, false, refl, sym, ◌∙◌, subst, arith, rules}
use Rattle.cbor4ii_rw.specs.View.{View}
use Rattle.cbor4ii_rw.specs.Reader.{KeepsAllButBudget, StepsIn, step_back}
use Rattle.cbor4ii_rw.specs.declared.error.DecodeError.{DecodeError}
use Rattle.cbor4ii_items.specs.Reading.{Reading, ◌>=>◌, Runs, Reaches}
use Rattle.cbor4ii_items.specs.ReadHead.{length_at}
use Rattle.cbor4ii_items.specs.ReadStrings.{content_on, break_at, chunk_by, chunk_inside_at}
use Rattle.cbor4ii_items.specs.ReadStrings.{chunk_at, chunks_at, string_by, string_at}
use Rattle.cbor4ii_items.specs.Laws.Chunks.{chunks_by, chunks_more}
use Rattle.cbor4ii_items.specs.Laws.Running.{runs_give, reaches_as, reaches_then, runs_as}
use Rattle.cbor4ii_items.specs.Laws.Running.{runs_then, runs_err, reaches_end}
use Rattle.cbor4ii_items.specs.Laws.UnderStep.{step_again, step_unbound, runs_around}

-- ---- chunks

pub definite_runs : {E : Type 0} (name : List ℕ) (major : ℕ) (content : List ℕ) {l : Option ℕ}
    {count : ℕ} {a m b : View} {r : Result (List ℕ) (DecodeError E)} → l ≡ Some count
    → Runs {E = E} (length_at name major) a m (Ok l)
    → Runs (content_on name count content) m b r → Runs (chunk_inside_at name major content) a b r
definite_runs name major content {m = m} {b = b} {r = r} is p q =
    runs_then (chunk_by name content) p
    (subst (λ (z : Option ℕ). Runs (chunk_by name content z) m b r) (sym is) q)

stepped_in : (name : List ℕ) (major : ℕ) (content : List ℕ) (old new : Option ℕ)
    → StepsIn old new true → chunk_at name major old content ≡ chunk_inside_at name major content
stepped_in name major content None new h = refl
stepped_in name major content (Some zero) new h = absurd (omega (arith, h.0))
stepped_in name major content (Some (suc left)) new h = refl

pub chunk_runs : {E : Type 0} (name : List ℕ) (major : ℕ) (content : List ℕ) {a b c d : View}
    {r : Result (List ℕ) (DecodeError E)} → StepsIn a.budget b.budget true → KeepsAllButBudget a b
    → Runs (chunk_inside_at name major content) b c r → d.budget ≡ step_back c.budget
    → KeepsAllButBudget c d → Runs (chunk_at name major a.budget content) a d r
chunk_runs name major content {a = a} {b = b} takes inward f gives outward =
    search (rules, runs_as, stepped_in, runs_around, step_unbound, step_again)

-- ---- chunks up to a break

module _ (name : List ℕ) (major : ℕ) (budget : Option ℕ) where
  module _ {f : Reading (List ℕ)} {content : List ℕ} {a l m : View}
      (p : Reaches f (chunks_at name major budget content) a l) where
    indefinite_after : {E : Type 0} {ended : Bool} → Runs {E = E} break_at l m (Ok ended)
        → Reaches f (chunks_by name major budget content (chunks_at name major budget) ended) a m
    indefinite_after q =
        reaches_then (chunks_by name major budget content (chunks_at name major budget))
        (reaches_as (chunks_more name major budget content) p) q

    pub indefinite_ended : {E : Type 0} {e : DecodeError E} → Runs {V = Bool} break_at l m (Err e)
        → Runs f a m (Err e)
    indefinite_ended q = search (rules, reaches_end, runs_as, chunks_more, runs_err)

    pub indefinite_done : {E : Type 0} {ended : Bool} → ended ≡ true
        → Runs {E = E} break_at l m (Ok ended) → Runs {E = E} f a m (Ok content)
    indefinite_done {E = E} is q =
        reaches_end (indefinite_after (subst (λ (t : Bool). Runs {E = E} break_at l m (Ok t)) is q))
        (runs_give content m)

    module _ {E : Type 0} {ended : Bool} (is : ended ≡ false)
        (q : Runs {E = E} break_at l m (Ok ended)) (same : a.budget ≡ budget) where
      at_chunk :
          Reaches f (chunk_at name major m.budget content >=> chunks_at name major budget) a m
      at_chunk =
          let r = indefinite_after (subst (λ (t : Bool). Runs {E = E} break_at l m (Ok t)) is q) in
          subst (λ z. Reaches f (chunk_at name major z content >=> chunks_at name major budget) a m)
          (sym (r.kept.budget ∙ same)) r

      pub indefinite_more : {b : View} {more : List ℕ}
          → Runs {E = E} (chunk_at name major m.budget content) m b (Ok more)
          → Reaches f (chunks_at name major budget more) a b
      indefinite_more h = reaches_then (chunks_at name major budget) at_chunk h

      pub indefinite_rejected : {b : View} {e : DecodeError E} → Runs {V = List ℕ}
          (chunk_at name major m.budget content) m b (Err e) → Runs f a b (Err e)
      indefinite_rejected h = reaches_end at_chunk (runs_err (chunks_at name major budget) h)

-- ---- strings

module _ {E : Type 0} (name : List ℕ) (major : ℕ) {l : Option ℕ} {a m b : View}
    {r : Result (List ℕ) (DecodeError E)} (p : Runs {E = E} (length_at name major) a m (Ok l)) where
  pub string_known : {count : ℕ} → l ≡ Some count → Runs (content_on name count []) m b r
      → Runs (string_at name major a.budget) a b r
  string_known is q =
      runs_then (string_by name major a.budget) p
      (subst (λ (z : Option ℕ). Runs (string_by name major a.budget z) m b r) (sym is) q)

  pub string_chunks : l ≡ None → Runs (chunks_at name major m.budget []) m b r
      → Runs (string_at name major a.budget) a b r
  string_chunks is q =
      let h : Runs (string_by name major a.budget None) m b r =
      subst (λ (z : Option ℕ). Runs (chunks_at name major z []) m b r) p.moves.by.budget q in
      runs_then (string_by name major a.budget) p
      (subst (λ (z : Option ℕ). Runs (string_by name major a.budget z) m b r) (sym is) h)
