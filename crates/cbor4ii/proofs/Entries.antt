-- An accessor's next key and its value.
use Rattle.std.proofs.Common.{inl, inr, ℕ, List, drop, Option, Some, None, Bool, IsTrue}
use Rattle.std.proofs.Common.{Ok, Err, subst, rules}
use Rattle.std.specs.Prelude.{◌&&◌}
use Rattle.cbor4ii_rw.specs.View.{View}
use Rattle.cbor4ii_rw.specs.declared.error.DecodeError.{DecodeError}
use Rattle.cbor4ii_items.specs.Decoding.{Reads, RejectsAt, Sound, NoneRead, Format, IsLawful}
use Rattle.cbor4ii_items.specs.Decoding.{DecodesIf}
use Rattle.cbor4ii_items.specs.InputError.{InputError}
use Rattle.cbor4ii_items.specs.Sequences.{ReadsPair, RejectsAfterKey, pair_format}
use Rattle.cbor4ii_items.specs.Laws.Calls.{ok, err_after, of_exact, exact_less}
use Rattle.cbor4ii_items.specs.Laws.Containers.{both}
use Rattle.cbor4ii_items.specs.Laws.Pairs.{pair_sound, key_less, value_less, or_left, or_right}
use Rattle.cbor4ii_items.specs.Laws.Steps.{kept_then}
use Rattle.cbor4ii.specs.declared.serde.de.accessor.Left.{Left}
use Rattle.cbor4ii.specs.Accessing.{Next, next_part_format}
use Rattle.cbor4ii.proofs.Going.{part_of, part_start, part_read, end_read, end_start, not_both}
use Rattle.cbor4ii.proofs.Forms.{sound_by, err_here}

-- what else stands there is read in its place
in_place : {V W : Type 0} (reads : Reads V) (other : Reads W) (left : Left) (xs : List ℕ) (v : V)
    (w : W) (n c m d : ℕ) → Next reads left xs (Some v) n c → other xs w m d
    → Next other left xs (Some w) m d
in_place reads other left xs v w n c m d h r =
    part_read other left xs w 0 0 m d (part_start reads left xs v n c h) r

-- the end is the same for all
same_end : {V W : Type 0} (reads : Reads V) (other : Reads W) (left : Left) (xs : List ℕ) (n c : ℕ)
    → Next reads left xs None n c → Next other left xs None n c
same_end reads other left xs n c h = end_read other left xs n c (end_start reads left xs n c h)

key_at : {K : Type 0} (key : Reads K) (left : Left) {a m : View} {k : K}
    → Sound (Next key left) a m (Some k) → Sound key a m k
key_at key left {k = k} s = sound_by s (λ xs n c r. part_of key left xs k n c r)

module _ {K V : Type 0} (k : Format K) (v : Format V) (left : Left) where
  no_key : (xs : List ℕ) (budget : Option ℕ) → NoneRead (Next k.reads left) xs budget
      → NoneRead (Next (ReadsPair k.reads v.reads) left) xs budget
  no_key xs budget none None n c r fits =
      none None n c (same_end (ReadsPair k.reads v.reads) k.reads left xs n c r) fits
  no_key xs budget none (Some p) n c r fits =
      let h = part_of (ReadsPair k.reads v.reads) left xs p n c r in
      none (Some p.0) h.key_size h.key_cost (in_place (ReadsPair k.reads v.reads) k.reads left xs p
      p.0 n c h.key_size h.key_cost r h.key) (key_less k.reads v.reads xs p n c budget h fits)

  no_value : IsLawful k → (xs : List ℕ) (key : K) (i d : ℕ) (budget : Option ℕ)
      → Next k.reads left xs (Some key) i d → NoneRead v.reads (drop i xs) budget
      → NoneRead (Next (ReadsPair k.reads v.reads) left) xs budget
  no_value lawful xs key i d budget read none None n c r fits =
      search (rules, not_both, part_start, same_end)
  no_value lawful xs key i d budget read none (Some p) n c r fits =
      let h = part_of (ReadsPair k.reads v.reads) left xs p n c r in
      let first = (lawful.one xs p.0 key h.key_size i h.key_cost d h.key
      (part_of k.reads left xs key i d read)).0 in
      none p.1 h.value_size h.value_cost
      (subst (λ j. v.reads (drop j xs) p.1 h.value_size h.value_cost) first h.value)
      (value_less k.reads v.reads xs p n c budget h fits)

  module _ {E : Type 0} {a m : View} where
    pub entry_none : {x y : Bool} → DecodesIf {E = E} x (next_part_format left k) a m (Ok None)
        → DecodesIf {E = E} y (next_part_format left (pair_format k v)) a m (Ok None)
    entry_none d = of_exact (ok (next_part_format left (pair_format k v)) d.moves.by (λ some. cc)
        (sound_by d.sound (same_end k.reads (ReadsPair k.reads v.reads) left)))

    pub no_key_left : {x : Bool} (y : Bool) {e : DecodeError E}
        → DecodesIf x (next_part_format left k) a m (Err e)
        → DecodesIf (x && y) (next_part_format left (pair_format k v)) a m (Err e)
    no_key_left {x = x} y d =
        err_here (next_part_format left k) (next_part_format left (pair_format k v)) (λ xs. record {
          none = λ is. no_key xs a.budget;
          rejects = λ z ys h. elim h [
            | inl none ↦ inl none
            | inr part ↦ inr
                (part.0, inl part.1)
          ];
          begins =
              λ z ys h. elim h [ inl none ↦ inl none | inr part ↦ inr (part.0, inl part.1) ];
        }) (λ owned. (both k.owned v.owned owned).0) (or_left k.takes_memory v.takes_memory)
        (exact_less (λ is. (both x y is).0) d)

    module _ {x : Bool} {key : K} {b : View}
        (d : DecodesIf {E = E} x (next_part_format left k) a m (Ok (Some key))) where
      pub entry_read : {y : Bool} {value : V} → DecodesIf {E = E} y v m b (Ok value)
          → DecodesIf {E = E} (x && y) (next_part_format left (pair_format k v)) a b
          (Ok (Some (key, value)))
      entry_read {value = value} t =
          of_exact (ok (next_part_format left (pair_format k v)) (kept_then d.moves.by t.moves.by)
          (λ some. cc) (record {
            at = λ xs known.
                let p = d.sound.at xs known in
                let q = (pair_sound k.reads v.reads d.moves.by (key_at k.reads left d.sound)
                t.sound).at xs known in
                record {
                  count = q.count;
                  cost = q.cost;
                  read = in_place k.reads (ReadsPair k.reads v.reads) left xs key (key, value)
                      p.count p.cost q.count q.cost p.read q.read;
                  fits = q.fits;
                  left = q.left;
                };
          }))

      pub no_value_left : {y : Bool} {e : DecodeError E} → (IsTrue x → IsLawful k)
          → DecodesIf y v m b (Err e)
          → DecodesIf (x && y) (next_part_format left (pair_format k v)) a b (Err e)
      no_value_left {y = y} lawful t =
          err_after v (next_part_format left (pair_format k v)) d.moves.by (λ xs known.
          let p = d.sound.at xs known in
          let start = part_start k.reads left xs key p.count p.cost p.read in
          let stop : (rejects : RejectsAt) (z : InputError) (ys : List ℕ)
          → rejects (drop p.count xs) a.budget z ys → RejectsAfterKey k.reads rejects xs
          a.budget z ys =
          λ rejects z ys h. record {
            whole = key;
            size = p.count;
            cost = p.cost;
            key = part_of k.reads left xs key p.count p.cost p.read;
            fits = p.fits;
            stop = h;
          } in (
            drop p.count xs,
            p.left,
            record {
              none = λ is. no_value (lawful (both x y is).0) xs key p.count p.cost a.budget p.read;
              rejects = λ z ys h. inr (start, inr (stop v.rejects z ys h));
              begins = λ z ys h. inr (start, inr (stop v.begins z ys h));
            },
          )) (λ owned. (both k.owned v.owned owned).1) (or_right k.takes_memory v.takes_memory)
          (exact_less (λ is. (both x y is).1) t)
