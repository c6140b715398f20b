-- The next byte, and whether another part follows.
use Rattle.std.proofs.Common.{◌≡◌, ℕ, Option, List, [], ◌∷◌, drop, Some, None, Result, Ok}
use Rattle.std.proofs.Common.{Err, Bool, false, refl, sym, subst, IfOk, IfErr, rules}
use Rattle.std.specs.Prelude.{not, nat_lt}
use Rattle.cbor4ii_rw.specs.View.{View}
use Rattle.cbor4ii_rw.specs.declared.error.DecodeError.{DecodeError}
use Rattle.cbor4ii_rw.specs.declared.error.Len.TheVariants.{Small}
use Rattle.cbor4ii_items.specs.Decoding.{Sound, NoneRead, Complete, Rejects, Decodes}
use Rattle.cbor4ii_items.specs.Next.{ReadsNext, RejectsNext, ReadsFollows, next_format}
use Rattle.cbor4ii_items.specs.Next.{follows_format}
use Rattle.cbor4ii_items.specs.Laws.Calls.{ok, no_memory}
use Rattle.cbor4ii_items.specs.Laws.Steps.{moves_err}
use Rattle.cbor4ii_items.specs.Laws.Outcome.{same_input_error}
use Rattle.cbor4ii_items.specs.Reading.{peek_at, Runs}
use Rattle.cbor4ii_items.specs.InputError.{InputError, eof, is_out_of_memory}
use Rattle.cbor4ii_items.specs.Strings.{ReadsBreak, break_format}
use Rattle.cbor4ii_items.specs.Laws.Answering.{fits_zero, complete_as, complete_by, rejects_by}
use Rattle.cbor4ii_items.specs.Laws.Running.{peek_byte, kept_alike}

-- ---- the next byte

next_read : (name xs : List ℕ) (b n c : ℕ) → ReadsNext xs b n c
    → peek_at name 1 xs ≡ Ok (b, drop n xs)
next_read name [] b n c h = let e = h.0 in cc
next_read name (x ∷ xs) b n c h = search rules

next_rejected : (name xs : List ℕ) (z : InputError) (ys : List ℕ) → peek_at name 1 xs ≡ Err (z, ys)
    → (xs ≡ []) × (z ≡ eof name (Small 1)) × (ys ≡ [])
next_rejected name [] z ys e =
    let p = same_input_error (peek_at name 1 []) e refl in (refl, p.0, p.1)
next_rejected name (x ∷ xs) z ys e = cc

module _ {E : Type 0} (name : List ℕ) {a b : View} where
  pub next_sound : (r : Result ℕ (DecodeError E)) → Runs (peek_at name 1) a b r
      → IfOk r (Sound ReadsNext a b)
  next_sound (Ok v) p = search (rules, peek_byte, fits_zero)
  next_sound (Err e) p = tt

  pub next_complete : (r : Result ℕ (DecodeError E)) → Runs (peek_at name 1) a b r
      → IfErr r (Complete ReadsNext a)
  next_complete (Ok v) p = tt
  next_complete (Err e) p = complete_by ReadsNext (λ xs v n c h fits. next_read name xs v n c h) p

  pub next_rejects : (r : Result ℕ (DecodeError E)) → Runs (peek_at name 1) a b r
      → IfErr r (Rejects (RejectsNext name) a b)
  next_rejects (Ok v) p = tt
  next_rejects (Err e) p = rejects_by (RejectsNext name) (λ xs z ys f seen. next_rejected name xs z
      ys f) p

  pub next_decodes : (r : Result ℕ (DecodeError E)) → Runs (peek_at name 1) a b r
      → IfErr r (λ e. is_out_of_memory e ≡ false) → Decodes (next_format name) a b r
  next_decodes r p memory = search (rules, no_memory, next_sound, next_complete, next_rejects)

-- ---- whether a part follows

-- an indefinite length leaves it to the next byte
pub indefinite_says : {len : Option ℕ} {a b : View} {ended : Bool} (more : Bool) → len ≡ None
    → ended ≡ not more → Sound ReadsBreak a b ended → Sound (ReadsFollows len) a b more
indefinite_says {a = a} {b = b} more none is s =
    subst (λ (l : Option ℕ). Sound (ReadsFollows l) a b more) (sym none) (record {
      at = λ xs known.
          let t = s.at xs known in
          record {
            count = t.count;
            cost = t.cost;
            read =
                subst (λ v. ReadsBreak xs v t.count t.cost) is t.read;
            fits = t.fits;
            left = t.left;
          };
    })

pub indefinite_complete : {len : Option ℕ} {a : View} {E : Type 0} {e : DecodeError E} → len ≡ None
    → Complete ReadsBreak a e → Complete (ReadsFollows len) a e
indefinite_complete {a = a} {e = e} none p =
    let no_break : (xs : List ℕ) (budget : Option ℕ) → NoneRead ReadsBreak xs budget
    → NoneRead (ReadsFollows None) xs budget =
    λ xs budget unread more n c. unread (not more) n c in
    subst (λ (l : Option ℕ). Complete (ReadsFollows l) a e) (sym none)
    (complete_as ReadsBreak (ReadsFollows None) no_break p)

-- parts that are counted ask nothing of the reader
pub definite_follows : {E : Type 0} {len : Option ℕ} {left : ℕ} {a : View} (more : Bool)
    → len ≡ Some left → more ≡ nat_lt 0 left → Decodes {E = E} (follows_format len) a a (Ok more)
definite_follows {E = E} {left = left} {a = a} more is says =
    search (rules, ok, kept_alike, fits_zero)

pub indefinite_follows : {E : Type 0} {len : Option ℕ} {a b : View} {ended : Bool} (more : Bool)
    → len ≡ None → ended ≡ not more → Decodes {E = E} break_format a b (Ok ended)
    → Decodes {E = E} (follows_format len) a b (Ok more)
indefinite_follows {len = len} more none is d =
    ok (follows_format len) d.moves.by (λ some. cc) (indefinite_says more none is d.sound)

pub indefinite_follows_not : {E : Type 0} {len : Option ℕ} {a b : View} {e : DecodeError E} →
    len ≡ None
    → Decodes break_format a b (Err e) → Decodes (follows_format len) a b (Err e)
indefinite_follows_not none d = record {
  moves = moves_err d.moves;
  progress = λ some. tt;
  memory = d.memory;
  sound = tt;
  complete = λ exact. indefinite_complete none (d.complete exact);
  rejects = d.rejects;
  begins = d.begins;
}
