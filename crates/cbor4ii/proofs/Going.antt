-- What an accessor's next part is.
use Rattle.std.proofs.Common.{rules}
use Rattle.std.proofs.Common.{◌≡◌, inl, inr, ℕ, zero, suc, List, drop, Option, Some, None, refl}
use Rattle.std.proofs.Common.{◌+◌, ◌-◌, ◌≤◌, ◌∙◌, sym, ap, subst, true, false, arith, Bool, Ok, Err}
use Rattle.std.specs.Prelude.{not}
use Rattle.cbor4ii_rw.specs.View.{View}
use Rattle.cbor4ii_rw.specs.declared.error.DecodeError.{DecodeError}
use Rattle.cbor4ii_items.specs.Decoding.{Reads, Sound, NoneRead, Format, Decodes, DecodesIf}
use Rattle.cbor4ii_items.specs.Strings.{ReadsBreak, break_format}
use Rattle.cbor4ii_items.specs.Laws.Answering.{fits_zero, complete_as}
use Rattle.cbor4ii_items.specs.Laws.Calls.{ok, ok_after, err_after, of_exact}
use Rattle.cbor4ii_items.specs.Laws.Steps.{moves_err}
use Rattle.cbor4ii.specs.declared.serde.de.accessor.Left.{Left}
use Rattle.cbor4ii.specs.declared.serde.de.accessor.Left.TheVariants.{Definite, Indefinite, Ended}
use Rattle.cbor4ii.specs.Accessing.{Next, ReadsStart, LeftAfterStart, MayGoOn, fuel, left_then}
use Rattle.cbor4ii.specs.Accessing.{left_tried}
use Rattle.cbor4ii.specs.Accessing.{start_format, next_part_format}
use Rattle.cbor4ii.proofs.Forms.{sound_by, err_here, found_here}

-- ---- whether a part comes

no_start : (xs : List ℕ) (budget : Option ℕ) → NoneRead ReadsBreak xs budget
    → NoneRead (ReadsStart Indefinite) xs budget
no_start xs budget none true n c r f = none false n c r f
no_start xs budget none false n c r f = none true n c r f

started : (ended : Bool) (xs : List ℕ) (n c : ℕ) → ReadsBreak xs ended n c
    → ReadsStart Indefinite xs (not ended) n c
started true xs n c r = r
started false xs n c r = r

module _ {E : Type 0} {a b : View} where
  pub start_indefinite : {ended : Bool} → Decodes {E = E} break_format a b (Ok ended)
      → Decodes {E = E} (start_format Indefinite) a b (Ok (not ended))
  start_indefinite {ended = ended} d =
      ok (start_format Indefinite) d.moves.by (λ some. cc) (sound_by d.sound (started ended))

  pub start_rejected : {e : DecodeError E} → Decodes break_format a b (Err e)
      → Decodes (start_format Indefinite) a b (Err e)
  start_rejected d = record {
    moves = moves_err d.moves;
    progress = λ some. tt;
    memory = d.memory;
    sound = tt;
    complete = λ sure. complete_as ReadsBreak (ReadsStart Indefinite) no_start (d.complete sure);
    rejects = d.rejects;
    begins = d.begins;
  }

-- where a part was begun, one could come
pub may_go_on : (old new : Left) → LeftAfterStart old new true → MayGoOn old
may_go_on (Definite k) new h = omega (arith, h.0)
may_go_on Indefinite new h = tt
may_go_on Ended new h = h

-- where a part was read, one could come
pub may_have_gone_on : (old : Left) (bound rest : ℕ) → rest + 1 ≤ fuel old bound → MayGoOn old
may_have_gone_on Indefinite bound rest h = tt
may_have_gone_on _ bound rest h = omega (arith, h)

-- ---- the part, or the end

module _ {V : Type 0} (reads : Reads V) where
  -- a part that comes is read as one, whatever is left
  pub part_of : (left : Left) (xs : List ℕ) (v : V) (n c : ℕ) → Next reads left xs (Some v) n c
      → reads xs v n c
  part_of (Definite (suc k)) xs v n c h = h
  part_of Indefinite xs v n c h = h.1
  part_of _ xs v n c h = absurd h

  pub end_read : (left : Left) (xs : List ℕ) (n c : ℕ) → ReadsStart left xs false n c
      → Next reads left xs None n c
  end_read (Definite zero) xs n c h = h
  end_read (Definite (suc k)) xs n c h = h
  end_read Indefinite xs n c h = h
  end_read Ended xs n c h = h

  pub end_start : (left : Left) (xs : List ℕ) (n c : ℕ) → Next reads left xs None n c
      → ReadsStart left xs false n c
  end_start (Definite zero) xs n c h = h
  end_start (Definite (suc k)) xs n c h = h
  end_start Indefinite xs n c h = h
  end_start Ended xs n c h = h

  pub part_read : (left : Left) (xs : List ℕ) (v : V) (n c m d : ℕ) → ReadsStart left xs true n c
      → reads xs v m d → Next reads left xs (Some v) m d
  part_read (Definite (suc k)) xs v n c m d h r = r
  part_read Indefinite xs v n c m d h r = ((h.0, h.1, refl, refl), r)
  part_read _ xs v n c m d h r = h

  pub part_start : (left : Left) (xs : List ℕ) (v : V) (n c : ℕ) → Next reads left xs (Some v) n c
      → ReadsStart left xs true 0 0
  part_start (Definite (suc k)) xs v n c h = (refl, refl)
  part_start Indefinite xs v n c h = h.0
  part_start _ xs v n c h = h

  pub not_both : (left : Left) (xs : List ℕ) (n c m d : ℕ) → ReadsStart left xs true n c
      → Next reads left xs None m d → ⊥
  not_both (Definite (suc k)) xs n c m d h e = e
  not_both Indefinite xs n c m d h e = h.1 e.0
  not_both _ xs n c m d h e = h

start_size : (left : Left) (xs : List ℕ) (n c : ℕ) → ReadsStart left xs true n c → n ≡ 0
start_size (Definite (suc k)) xs n c h = h.0
start_size Indefinite xs n c h = h.2
start_size _ xs n c h = absurd h

-- the bytes stay where a part comes
start_stays : (left : Left) {a m : View} → Sound (ReadsStart left) a m true → (xs : List ℕ)
    → a.known ≡ Some xs → m.known ≡ Some xs
start_stays left {m = m} s xs known =
    let p = s.at xs known in
    subst (λ n. m.known ≡ Some (drop n xs)) (start_size left xs p.count p.cost p.read) p.left

none_next : {V : Type 0} (reads : Reads V) (left : Left) (xs : List ℕ) (budget : Option ℕ)
    → NoneRead (ReadsStart left) xs budget → NoneRead (Next reads left) xs budget
none_next reads left xs budget none None n c r f = none false n c (end_start reads left xs n c r) f
none_next reads left xs budget none (Some v) n c r f =
    none true 0 0 (part_start reads left xs v n c r) (fits_zero budget)

none_part : {V : Type 0} (reads : Reads V) (left : Left) (xs : List ℕ) (budget : Option ℕ) (n c : ℕ)
    → ReadsStart left xs true n c → NoneRead reads xs budget → NoneRead (Next reads left) xs budget
none_part reads left xs budget m d start none None n c r f = not_both reads left xs m d n c start r
none_part reads left xs budget m d start none (Some v) n c r f =
    none v n c (part_of reads left xs v n c r) f

start_free : (left : Left) (xs : List ℕ) (n c : ℕ) → ReadsStart left xs true n c
    → ReadsStart left xs true 0 0
start_free (Definite (suc k)) xs n c h = (refl, refl)
start_free Indefinite xs n c h = (h.0, h.1, refl, refl)
start_free _ xs n c h = h

module _ {V E : Type 0} (left : Left) (s : Format V) {a m : View} where
  pub next_end : Decodes {E = E} (start_format left) a m (Ok false)
      → Decodes {E = E} (next_part_format left s) a m (Ok None)
  next_end d = search (rules, ok, sound_by, end_read)

  pub next_rejected : {exact : Bool} {e : DecodeError E} → Decodes (start_format left) a m (Err e)
      → DecodesIf exact (next_part_format left s) a m (Err e)
  next_rejected d =
      err_here (start_format left) (next_part_format left s) (λ xs. record {
        none = λ is. none_next s.reads left xs a.budget;
        rejects = λ z ys. inl;
        begins = λ z ys. inl;
      }) (λ owned. refl) (λ takes. (let no : false ≡ _ = takes in cc)) (of_exact d)

  module _ {b : View} (d : Decodes {E = E} (start_format left) a m (Ok true)) where
    pub next_part : {v : V} → Decodes {E = E} s m b (Ok v)
        → Decodes {E = E} (next_part_format left s) a b (Ok (Some v))
    next_part {v = v} t = ok_after s (next_part_format left s) d.moves.by (λ xs known.
        let p = d.sound.at xs known in (
          xs,
          start_stays left d.sound xs known,
          λ n c r fits. found_here n c
              (part_read s.reads left xs v p.count p.cost n c p.read r) fits,
        )) (λ some. cc) t

    pub next_err : {exact : Bool} {e : DecodeError E} → DecodesIf exact s m b (Err e)
        → DecodesIf exact (next_part_format left s) a b (Err e)
    next_err t = err_after s (next_part_format left s) d.moves.by (λ xs known.
        let p = d.sound.at xs known in
        let free = start_free left xs p.count p.cost p.read in (
          xs,
          start_stays left d.sound xs known,
          record {
            none = λ is. none_part s.reads left xs a.budget p.count p.cost p.read;
            rejects = λ z ys h. inr (free, h);
            begins = λ z ys h. inr (free, h);
          },
        )) (λ owned. owned) (λ takes. takes) t

-- ---- what is left

-- it does not matter which part comes
pub same_left : {V W : Type 0} (left : Left) (v : V) (w : W)
    → left_then left (Some v) ≡ left_then left (Some w)
same_left (Definite k) v w = refl
same_left Indefinite v w = refl
same_left Ended v w = refl

pub less_fuel : (left : Left) (bound rest most : ℕ) → fuel left bound + 1 ≤ most → rest ≤ bound
    → fuel left rest + 1 ≤ most
less_fuel Indefinite bound rest most less room = omega (arith, less, room)
less_fuel _ bound rest most less room = less

-- after a start that says so
pub left_started : {V : Type 0} (old new : Left) (v : V) → LeftAfterStart old new true
    → new ≡ left_then old (Some v)
left_started (Definite k) new v h = h.1
left_started Indefinite new v h = h
left_started Ended new v h = absurd h

pub left_ended : (V : Type 0) (old new : Left) → LeftAfterStart old new false
    → new ≡ left_then {V = V} old None
left_ended V (Definite k) new h =
    h.1 ∙ ap Definite (let e : 0 ≡ k - 1 = omega (arith, h.0) in e)
left_ended V _ new h = h

pub tried_started : (old new : Left) → LeftAfterStart old new true → new ≡ left_tried old
tried_started (Definite k) new h = h.1
tried_started Indefinite new h = h
tried_started Ended new h = absurd h

pub tried_left : {V : Type 0} (left : Left) (v : V) → left_then left (Some v) ≡ left_tried left
tried_left (Definite k) v = refl
tried_left Indefinite v = refl
tried_left Ended v = refl

pub same_ended : (V W : Type 0) (left : Left)
    → left_then {V = V} left None ≡ left_then {V = W} left None
same_ended V W (Definite k) = refl
same_ended V W Indefinite = refl
same_ended V W Ended = refl

pub shrinks_by : (old new : Left) (most bound rest : ℕ) → LeftAfterStart old new true
    → bound ≤ most → rest + 1 ≤ bound → fuel new rest + 1 ≤ fuel old most
shrinks_by (Definite k) new most bound rest h less room =
    subst (λ l. fuel l rest + 1 ≤ k) (sym h.1) (omega (arith, h.0))
shrinks_by Indefinite new most bound rest h less room =
    subst (λ l. fuel l rest + 1 ≤ most) (sym h) (omega (arith, less, room))
shrinks_by Ended new most bound rest h less room = absurd h
