-- What a station is made of, one call after another.
use Rattle.std.proofs.Common.{◌≡◌, ◌≢◌, ℕ, ◌<◌, ◌≤◌, inl, inr, List, drop, Option, Some, None, Bool}
use Rattle.std.proofs.Common.{true, false, refl, sym, ap, ◌∙◌, subst, arith, Bor, IfSome, Ok, Err}
use Rattle.std.proofs.Common.{ltb, ltb-true, ltb-false, rules}
use Rattle.std.specs.Prelude.{codes}
use Rattle.std.specs.declared.alloc.Global.{Global}
use Rattle.std.specs.declared.string.String.{String}
use Rattle.cbor4ii_rw.specs.View.{View}
use Rattle.cbor4ii_rw.specs.declared.error.DecodeError.{DecodeError}
use Rattle.cbor4ii_rw.specs.declared.error.DecodeError.TheVariants.{RequireLength}
use Rattle.cbor4ii_rw.specs.declared.error.Len.{Len}
use Rattle.cbor4ii_rw.specs.declared.error.Len.TheVariants.{Small, Big, Indefinite}
use Rattle.cbor4ii_items.specs.InputError.{InputError, input_error_of, require_length, len_of}
use Rattle.cbor4ii_items.specs.Moves.{Kept, Moves}
use Rattle.cbor4ii_items.specs.Decoding.{NoneRead, Sound, Complete, Rejects, Decodes}
use Rattle.cbor4ii_items.specs.Laws.Calls.{ok}
use Rattle.cbor4ii_items.specs.Laws.Steps.{moves_err, moves_then}
use Rattle.cbor4ii_items.specs.Heads.{ReadsHead}
use Rattle.cbor4ii_items.specs.Laws.Heads.{head_one}
use Rattle.cbor4ii_items.specs.Laws.Answering.{complete_as}
use Rattle.cbor4ii_items.specs.Laws.Arguments.{argument_one, zero_small}
use Rattle.cbor4ii_items.specs.Lengths.{ReadsLength, RejectsLength, length_format}
use Rattle.cbor4ii_items.specs.Numbers.{ReadsUnsigned, RejectsUnsigned}
use Rattle.cbor4ii_items.specs.Strings.{ReadsTextAs, RejectsText, text_content}
use Rattle.cbor4ii_items.specs.Strings.{ReadsBreak, RejectsBreak, break_format}
use Rattle.cbor4ii_items.specs.Laws.Strings.{head_not_indefinite, text_one}
use Rattle.cbor4ii_examples.specs.Then.{ReadsThen}
use Rattle.cbor4ii_examples.specs.Station.{ReadsOpening, ReadsEnd, ReadsAfterNumber}
use Rattle.cbor4ii_examples.specs.Station.{ReadsAfterOpening, opening_format, end_format}
use Rattle.cbor4ii_examples.specs.Station.{station_format}
use Rattle.cbor4ii_examples.specs.Station.{ReadsStation, RejectsOpening, RejectsEnd}
use Rattle.cbor4ii_examples.specs.Station.{RejectsAfterNumber}
use Rattle.cbor4ii_examples.specs.Station.{RejectsAfterOpening, RejectsStation}
use Rattle.cbor4ii_examples.specs.StationLaws.{opening_one, opening_carries}
use Rattle.cbor4ii_examples.proofs.After.{sound_as, rejects_as, then_sound, first_complete}
use Rattle.cbor4ii_examples.proofs.After.{second_complete, first_stopped, second_stopped}

always : {Q : Type 0} (o : Option InputError) → Q → IfSome o (λ z. Q)
always None q = tt
always (Some z) q = q

-- ---- the opening

length_is : {o : Option ℕ} {a b : View} (l : Option ℕ) → o ≡ l → Sound (ReadsLength 4) a b o
    → Sound (ReadsLength 4) a b l
length_is {a = a} {b = b} l e s = subst (λ o. Sound (ReadsLength 4) a b o) e s

pub definite_opening : {o : Option ℕ} {count : ℕ} {a b : View} → o ≡ Some count → count ≡ 2
    → Sound (ReadsLength 4) a b o → Sound ReadsOpening a b false
definite_opening e two s =
    sound_as (ReadsLength 4) ReadsOpening (λ xs n c h. h) (length_is (Some 2) (e ∙ ap Some two) s)

pub indefinite_opening : {o : Option ℕ} {a b : View} → o ≡ None → Sound (ReadsLength 4) a b o
    → Sound ReadsOpening a b true
indefinite_opening e s = sound_as (ReadsLength 4) ReadsOpening (λ xs n c h. h) (length_is None e s)

none_opens : (xs : List ℕ) (budget : Option ℕ) → NoneRead (ReadsLength 4) xs budget
    → NoneRead ReadsOpening xs budget
none_opens xs budget none false n c h fits = none (Some 2) n c h fits
none_opens xs budget none true n c h fits = none None n c h fits

pub opening_rejected : {E : Type 0} {e : DecodeError E} {a : View} → Complete (ReadsLength 4) a e
    → Complete ReadsOpening a e
opening_rejected s = complete_as (ReadsLength 4) ReadsOpening none_opens s

pub opening_stopped : {E : Type 0} {e : DecodeError E} {a b : View}
    → Rejects (RejectsLength (codes "array") 4) a b e → Rejects RejectsOpening a b e
opening_stopped s =
    rejects_as (RejectsLength (codes "array") 4) RejectsOpening (λ xs budget z ys h. inl h) s

other_opens : (xs : List ℕ) (count k : ℕ) (v : Bool) (n c : ℕ) → count ≢ 2
    → ReadsHead 4 8 xs count k → ReadsOpening xs v n c → ⊥
other_opens xs count k false n c other head h =
    other (sym (head_one 4 8 xs 2 count n k (omega arith) h.0 head).1)
other_opens xs count k true n c other head h =
    head_not_indefinite 4 xs count k (omega arith) head h.0

pub other_rejected : {E : Type 0} {e : DecodeError E} {o : Option ℕ} {a b : View} (count : ℕ)
    → count ≢ 2 → o ≡ Some count → Sound (ReadsLength 4) a b o → Complete ReadsOpening a e
other_rejected {e = e} count other is s =
    let t = length_is (Some count) is s in
    record {
      at = λ xs known.
          let p = t.at xs known in
          always (input_error_of e)
          (λ v n c h fits. other_opens xs count p.count v n c other p.read.0 h);
    }

-- a count as it is reported
known_count : (n : ℕ) (l : Len) → (n < 65536 → l ≡ Small n) → (65536 ≤ n → l ≡ Big) → l ≡ len_of n
known_count n l small big = by_size (ltb n 65536) refl
  where
    by_size : (t : Bool) → ltb n 65536 ≡ t → l ≡ len_of n
    by_size true e = rw e (small (ltb-true n 65536 e))
    by_size false e = rw e (big (ltb-false n 65536 e))

pub other_stopped : {E : Type 0} {name : Bor (List ℕ)} {l : Len} {o : Option ℕ} {a b : View}
    (count : ℕ) → count ≢ 2 → name.now ≡ codes "station" → (count < 65536 → l ≡ Small count)
    → (65536 ≤ count → l ≡ Big) → o ≡ Some count → Sound (ReadsLength 4) a b o
    → Rejects {E = E} RejectsOpening a b (RequireLength name l)
other_stopped {l = l} {b = b} count other named small big is s =
    let t = length_is (Some count) is s in
    let known_as = ap (require_length (codes "station")) (known_count count l small big) in
    let says = ap (λ z. require_length z l) named ∙ known_as in
    record {
      at = λ xs known.
          let p = t.at xs known in
          (drop p.count xs, p.left, inr (count, p.count, p.read.0, other, says, refl));
    }

module _ {E : Type 0} {a b : View} where
  pub opening_ok : {o : Option ℕ} {v : Bool}
      → Decodes {E = E} (length_format (codes "array") 4) a b (Ok o) → Sound ReadsOpening a b v
      → Decodes {E = E} opening_format a b (Ok v)
  opening_ok d s = ok opening_format d.moves.by d.progress s

  pub opening_err : {e : DecodeError E}
      → Decodes (length_format (codes "array") 4) a b (Err e)
      → Decodes opening_format a b (Err e)
  opening_err d = record {
    moves = moves_err d.moves;
    progress = λ some. tt;
    memory = d.memory;
    sound = tt;
    complete = λ exact. opening_rejected (d.complete exact);
    rejects = λ exact. opening_stopped (d.rejects exact);
    begins = opening_stopped d.begins;
  }

  pub opening_other : {name : Bor (List ℕ)} {l : Len} {o : Option ℕ} (count : ℕ) → count ≢ 2
      → name.now ≡ codes "station" → (count < 65536 → l ≡ Small count) → (65536 ≤ count → l ≡ Big)
      → o ≡ Some count → Decodes {E = E} (length_format (codes "array") 4) a b (Ok o)
      → Decodes {E = E} opening_format a b (Err (RequireLength name l))
  opening_other {name = name} {l = l} count other named small big is d =
      search (rules, other_stopped, other_rejected)

-- ---- the end

pub no_end : (indefinite : Bool) (a : View) → indefinite ≡ false
    → Sound (ReadsEnd indefinite) a a tt
no_end false a e = search rules
no_end true a e = cc

break_is : {t : Bool} {a b : View} (u : Bool) → t ≡ u → Sound ReadsBreak a b t
    → Sound ReadsBreak a b u
break_is {a = a} {b = b} u e s = subst (λ t. Sound ReadsBreak a b t) e s

pub an_end : (indefinite : Bool) {t : Bool} {a b : View} → indefinite ≡ true → t ≡ true
    → Sound ReadsBreak a b t → Sound (ReadsEnd indefinite) a b tt
an_end true e is s = sound_as ReadsBreak (ReadsEnd true) (λ xs n c h. h) (break_is true is s)
an_end false e is s = cc

pub end_rejected : (indefinite : Bool) {E : Type 0} {e : DecodeError E} {a : View}
    → indefinite ≡ true → Complete ReadsBreak a e → Complete (ReadsEnd indefinite) a e
end_rejected true is s =
    complete_as ReadsBreak (ReadsEnd true) (λ xs budget none u n c h fits. none true n c h fits) s
end_rejected false is s = cc

pub end_stopped : (indefinite : Bool) {E : Type 0} {e : DecodeError E} {a b : View}
    → indefinite ≡ true → Rejects RejectsBreak a b e → Rejects (RejectsEnd indefinite) a b e
end_stopped true is s = rejects_as RejectsBreak (RejectsEnd true) (λ xs budget z ys h. inl h) s
end_stopped false is s = cc

pub other_end_rejected : (indefinite : Bool) {E : Type 0} {e : DecodeError E} {t : Bool} {a
    b : View}
    → indefinite ≡ true → t ≡ false → Sound ReadsBreak a b t → Complete (ReadsEnd indefinite) a e
other_end_rejected true {e = e} opens is s =
    let t = break_is false is s in
    record {
      at = λ xs known.
          let p = t.at xs known in
          always (input_error_of e) (λ u n c h fits. p.read.1 h.0);
    }
other_end_rejected false opens is s = cc

pub other_end_stopped : (indefinite : Bool) {E : Type 0} {name : Bor (List ℕ)} {t : Bool}
    {a b : View} → indefinite ≡ true → name.now ≡ codes "station" → t ≡ false
    → Sound ReadsBreak a b t
    → Rejects {E = E} (RejectsEnd indefinite) a b (RequireLength name Indefinite)
other_end_stopped true opens named is s =
    let t = break_is false is s in
    let says = ap (λ z. require_length z Indefinite) named in
    record {
      at = λ xs known.
          let p = t.at xs known in
          let left = p.left ∙ ap (λ k. Some (drop k xs)) p.read.2 in
          (xs, left, inr (p.read.0, p.read.1, says, refl));
    }
other_end_stopped false opens named is s = cc

module _ {E : Type 0} (indefinite : Bool) {a b : View} where
  pub end_err : {e : DecodeError E} → indefinite ≡ true → Decodes break_format a b (Err e)
      → Decodes (end_format indefinite) a b (Err e)
  end_err opens d = record {
    moves = moves_err d.moves;
    progress = λ some. tt;
    memory = d.memory;
    sound = tt;
    complete = λ exact. end_rejected indefinite opens (d.complete exact);
    rejects = λ exact. end_stopped indefinite opens (d.rejects exact);
    begins = end_stopped indefinite opens d.begins;
  }

  pub end_other : {name : Bor (List ℕ)} {t : Bool} → indefinite ≡ true
      → name.now ≡ codes "station" → t ≡ false → Decodes {E = E} break_format a b (Ok t)
      → Decodes {E = E} (end_format indefinite) a b (Err (RequireLength name Indefinite))
  end_other {name = name} opens named is d = search (rules, other_end_stopped, other_end_rejected)

-- ---- a station

-- what is rejected after what was read of it
pub station_err : {V E : Type 0} {e : DecodeError E} {a m b : View} → Kept a m
    → Moves {V = V} m b (Err e) → Complete ReadsStation a e → Rejects RejectsStation a b e
    → Decodes station_format a b (Err e)
station_err kept moves rejected stopped = search (rules, moves_then, moves_err)

as_station : {E : Type 0} {e : DecodeError E} {a : View}
    → Complete (ReadsThen ReadsOpening ReadsAfterOpening) a e → Complete ReadsStation a e
as_station s =
    complete_as (ReadsThen ReadsOpening ReadsAfterOpening) ReadsStation
    (λ xs budget none v n c h fits. none (h.0, (v.id, (v.name, tt))) n c h.1 fits) s

after_id : {E : Type 0} {e : DecodeError E} {a m : View} (indefinite : Bool) {id : ℕ} → Kept a m
    → Sound (ReadsUnsigned 8) a m id → Complete (ReadsAfterNumber indefinite id) m e
    → Complete (ReadsAfterOpening indefinite) a e
after_id indefinite kept s r =
    second_complete (ReadsUnsigned 8) (ReadsAfterNumber indefinite) (λ v w. v ≡ w)
    (λ v w xs u n c e h. subst (λ id. ReadsAfterNumber indefinite id xs u n c) e h)
    (argument_one 0 8 zero_small) kept s r

after_name : {E : Type 0} {e : DecodeError E} {a m : View} (indefinite : Bool) (id : ℕ)
    {name : String Global} → Kept a m → Sound (ReadsTextAs text_content) a m name
    → Complete (ReadsEnd indefinite) m e → Complete (ReadsAfterNumber indefinite id) a e
after_name indefinite id kept s r =
    second_complete (ReadsTextAs text_content) (λ name. ReadsEnd indefinite)
    (λ v w. text_content v ≡ text_content w) (λ v w xs u n c e h. h)
    (text_one text_content) kept s r

pub no_opening : {E : Type 0} {e : DecodeError E} {a : View} → Complete ReadsOpening a e
    → Complete ReadsStation a e
no_opening s = as_station (first_complete ReadsOpening ReadsAfterOpening s)

module _ {E : Type 0} {e : DecodeError E} {a i : View} (indefinite : Bool) (opened : Kept a i)
    (opening : Sound ReadsOpening a i indefinite) where
  after_opening : Complete (ReadsAfterOpening indefinite) i e → Complete ReadsStation a e
  after_opening r =
      as_station (second_complete ReadsOpening ReadsAfterOpening
      (λ v w. v ≡ w) opening_carries opening_one
      opened opening r)

  pub no_id : Complete (ReadsUnsigned 8) i e → Complete ReadsStation a e
  no_id r = after_opening (first_complete (ReadsUnsigned 8) (ReadsAfterNumber indefinite) r)

  module _ {j : View} (id : ℕ) (numbered : Kept i j) (number : Sound (ReadsUnsigned 8) i j id) where
    pub no_name : Complete (ReadsTextAs text_content) j e → Complete ReadsStation a e
    no_name r =
        after_opening (after_id indefinite numbered number
        (first_complete (ReadsTextAs text_content) (λ name. ReadsEnd indefinite) r))

    pub unended : {k : View} (name : String Global) → Kept j k
        → Sound (ReadsTextAs text_content) j k name → Complete (ReadsEnd indefinite) k e
        → Complete ReadsStation a e
    unended name named text r =
        after_opening (after_id indefinite numbered number
        (after_name indefinite id named text r))

pub no_opening_stopped : {E : Type 0} {e : DecodeError E} {a b : View} →
    Rejects RejectsOpening a b e
    → Rejects RejectsStation a b e
no_opening_stopped s = first_stopped ReadsOpening RejectsOpening RejectsAfterOpening s

module _ {E : Type 0} {e : DecodeError E} {a i b : View} (indefinite : Bool) (opened : Kept a i)
    (opening : Sound ReadsOpening a i indefinite) where
  after_opening_stopped : Rejects (RejectsAfterOpening indefinite) i b e →
      Rejects RejectsStation a b e
  after_opening_stopped s =
      second_stopped ReadsOpening RejectsOpening RejectsAfterOpening opened opening s

  pub no_id_stopped : Rejects (RejectsUnsigned (codes "u64") 8) i b e → Rejects RejectsStation a b e
  no_id_stopped s = search (rules, after_opening_stopped, first_stopped)

  module _ {j : View} (id : ℕ) (numbered : Kept i j) (number : Sound (ReadsUnsigned 8) i j id) where
    after_id_stopped : Rejects (RejectsAfterNumber indefinite id) j b e →
        Rejects RejectsStation a b e
    after_id_stopped s = search (rules, after_opening_stopped, second_stopped)

    pub no_name_stopped : Rejects (RejectsText (codes "str")) j b e → Rejects RejectsStation a b e
    no_name_stopped s = search (rules, after_id_stopped, first_stopped)

    pub unended_stopped : {k : View} (name : String Global) → Kept j k
        → Sound (ReadsTextAs text_content) j k name → Rejects (RejectsEnd indefinite) k b e
        → Rejects RejectsStation a b e
    unended_stopped name named text s = search (rules, after_id_stopped, second_stopped)

pub station_sound : {a i j k b : View} (indefinite : Bool) (id : ℕ) (name : String Global)
    → Kept a i → Sound ReadsOpening a i indefinite → Kept i j → Sound (ReadsUnsigned 8) i j id
    → Kept j k → Sound (ReadsTextAs text_content) j k name → Sound (ReadsEnd indefinite) k b tt
    → Sound ReadsStation a b (record { id = id; name = name })
station_sound indefinite id name opened opening numbered number named text end =
    let last = then_sound (ReadsTextAs text_content) (λ name. ReadsEnd indefinite) named text end in
    let trailing = then_sound (ReadsUnsigned 8) (ReadsAfterNumber indefinite) numbered number
    last in
    let whole = then_sound ReadsOpening ReadsAfterOpening opened opening trailing in
    sound_as (ReadsThen ReadsOpening ReadsAfterOpening) ReadsStation
    (λ xs n c h. (indefinite, h)) whole
