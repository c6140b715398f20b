-- A key, and its value after it.
use Rattle.std.proofs.Common.{◌≡◌, ℕ, ◌+◌, ◌≤◌, inl, inr, List, drop, Option, Some, Ok, Err, refl}
use Rattle.std.proofs.Common.{ap, ◌∙◌, subst, arith, max, IsTrue, Bool, true, false}
use Rattle.cbor4ii_rw.specs.View.{View}
use Rattle.cbor4ii_rw.specs.declared.error.DecodeError.{DecodeError}
use Rattle.std.specs.Prelude.{◌||◌}
use Rattle.cbor4ii_items.specs.Decoding.{Reads, Sound, RejectsAt, NoneRead, Format, IsLawful}
use Rattle.cbor4ii_items.specs.Decoding.{Decodes, DecodesIf}
use Rattle.cbor4ii_items.specs.Budget.{CostFits}
use Rattle.cbor4ii_items.specs.Moves.{Kept}
use Rattle.cbor4ii_items.specs.Laws.Steps.{kept_then}
use Rattle.cbor4ii_items.specs.Sequences.{ReadsPair, RejectsAfterKey, pair_format}
use Rattle.cbor4ii_items.specs.InputError.{InputError}
use Rattle.cbor4ii_items.specs.Laws.Calls.{ok, err_after}
use Rattle.cbor4ii_items.specs.Laws.Containers.{both}
use Rattle.cbor4ii_items.specs.Laws.Prefixes.{drop_more}
use Rattle.cbor4ii_items.specs.Laws.Running.{kept_alike}
use Rattle.cbor4ii_items.specs.Laws.SequenceParts.{fits_less, fits_max}
use Rattle.cbor4ii_items.specs.Laws.Sequences.{either}

pub less_max_left : (c d e : ℕ) → c ≡ max d e → d ≤ c
less_max_left c d e h = omega arith

pub less_max_right : (c d e : ℕ) → c ≡ max d e → e ≤ c
less_max_right c d e h = omega arith

module _ {K V : Type 0} (key_reads : Reads K) (value_reads : Reads V) where
  pub pair_sound : {a m b : View} {k : K} {v : V} → Kept a m → Sound key_reads a m k
      → Sound value_reads m b v → Sound (ReadsPair key_reads value_reads) a b (k, v)
  pair_sound {a = a} kept s t = record {
    at = λ xs known.
        let p = s.at xs known in
        let q = t.at (drop p.count xs) p.left in
        record {
          count = p.count + q.count;
          cost = max p.cost q.cost;
          read = record {
            key_size = p.count;
            key_cost = p.cost;
            key = p.read;
            value_size = q.count;
            value_cost = q.cost;
            value = q.read;
            size = refl;
            cost = refl;
          };
          fits =
              fits_max p.cost q.cost a.budget p.fits (subst (CostFits q.cost) kept.budget q.fits);
          left = q.left ∙ ap Some (drop_more q.count p.count xs);
        };
  }

  -- the key fits where the pair does, and so does the value
  pub key_less : (xs : List ℕ) (p : K × V) (n c : ℕ) (budget : Option ℕ)
      → (h : ReadsPair key_reads value_reads xs p n c) → CostFits c budget
      → CostFits h.key_cost budget
  key_less xs p n c budget h fits =
      fits_less h.key_cost c budget (less_max_left c h.key_cost h.value_cost h.cost) fits

  pub value_less : (xs : List ℕ) (p : K × V) (n c : ℕ) (budget : Option ℕ)
      → (h : ReadsPair key_reads value_reads xs p n c) → CostFits c budget
      → CostFits h.value_cost budget
  value_less xs p n c budget h fits =
      fits_less h.value_cost c budget (less_max_right c h.key_cost h.value_cost h.cost) fits

module _ {K V : Type 0} (k : Format K) (v : Format V) where
  no_key : (xs : List ℕ) (budget : Option ℕ) → NoneRead k.reads xs budget
      → NoneRead (ReadsPair k.reads v.reads) xs budget
  no_key xs budget none p n c h fits =
      none p.0 h.key_size h.key_cost h.key (key_less k.reads v.reads xs p n c budget h fits)

  no_value : IsLawful k → (xs : List ℕ) (key : K) (i d : ℕ) (budget : Option ℕ)
      → k.reads xs key i d → NoneRead v.reads (drop i xs) budget
      → NoneRead (ReadsPair k.reads v.reads) xs budget
  no_value lawful xs key i d budget read none p n c h fits =
      let first = (lawful.one xs p.0 key h.key_size i h.key_cost d h.key read).0 in
      none p.1 h.value_size h.value_cost
      (subst (λ j. v.reads (drop j xs) p.1 h.value_size h.value_cost) first h.value)
      (value_less k.reads v.reads xs p n c budget h fits)

pub or_left : (x y : Bool) → IsTrue x → IsTrue (x || y)
or_left true y h = refl
or_left false y h = cc

pub or_right : (x y : Bool) → IsTrue y → IsTrue (x || y)
or_right true y h = refl
or_right false y h = h

module _ {K V E : Type 0} (k : Format K) (v : Format V) where
  pub pair_ok : {a m b : View} {key : K} {value : V} → Decodes {E = E} k a m (Ok key)
      → Decodes {E = E} v m b (Ok value)
      → Decodes {E = E} (pair_format k v) a b (Ok (key, value))
  pair_ok s t =
      ok (pair_format k v) (kept_then s.moves.by t.moves.by)
      (λ some. elim (either k.never_empty v.never_empty some) [
        | inl e ↦ omega (arith, s.progress e, t.moves.by.bound)
        | inr e ↦ omega (arith, t.progress e, s.moves.by.bound)
      ]) (pair_sound k.reads v.reads s.moves.by s.sound t.sound)

  pub key_err : {exact : Bool} {a m : View} {e : DecodeError E} → DecodesIf exact k a m (Err e)
      → DecodesIf exact (pair_format k v) a m (Err e)
  key_err {a = a} t =
      err_after k (pair_format k v) (kept_alike a) (λ xs known. (
        xs,
        known,
        record {
          none = λ is. no_key k v xs a.budget;
          rejects = λ z zs h. inl h;
          begins = λ z zs h. inl h;
        },
      )) (λ owned. (both k.owned v.owned owned).0) (or_left k.takes_memory v.takes_memory) t

  pub value_err : {exact : Bool} {a m b : View} {key : K} {e : DecodeError E}
      → (IsTrue exact → IsLawful k)
      → Decodes {E = E} k a m (Ok key) → DecodesIf exact v m b (Err e)
      → DecodesIf exact (pair_format k v) a b (Err e)
  value_err {a = a} {key = key} lawful s t =
      err_after v (pair_format k v) s.moves.by (λ xs known.
      let p = s.sound.at xs known in
      let stop : (rejects : RejectsAt) (z : InputError) (zs : List ℕ)
      → rejects (drop p.count xs) a.budget z zs → RejectsAfterKey k.reads rejects xs a.budget z zs =
      λ rejects z zs h. record {
        whole = key;
        size = p.count;
        cost = p.cost;
        key = p.read;
        fits = p.fits;
        stop = h;
      } in (
        drop p.count xs,
        p.left,
        record {
          none = λ is. no_value k v (lawful is) xs key p.count p.cost a.budget p.read;
          rejects = λ z zs h. inr (stop v.rejects z zs h);
          begins = λ z zs h. inr (stop v.begins z zs h);
        },
      )) (λ owned. (both k.owned v.owned owned).1) (or_right k.takes_memory v.takes_memory) t
