-- A head that counts so many, and what follows it.
use Rattle.std.proofs.Common.{rules}
use Rattle.std.proofs.Common.{◌≡◌, ℕ, ◌+◌, ◌<◌, ◌≤◌, inl, inr, List, drop, Option, Some, None, Bool}
use Rattle.std.proofs.Common.{true, false, Ok, Err, refl, ap, ◌∙◌, subst, ltb, ltb-true, ltb-false}
use Rattle.std.specs.Prelude.{codes}
use denote.Ref.{Bor}
use Rattle.cbor4ii_rw.specs.declared.error.Len.{Len}
use Rattle.cbor4ii_rw.specs.declared.error.Len.TheVariants.{Small, Big, Indefinite}
use Rattle.cbor4ii_rw.specs.declared.error.DecodeError.TheVariants.{RequireLength}
use Rattle.cbor4ii_rw.specs.View.{View}
use Rattle.cbor4ii_rw.specs.declared.error.DecodeError.{DecodeError}
use Rattle.cbor4ii_items.specs.Laws.Calls.{ok, err, Leads, of_exact, decodes_exactly}
use Rattle.cbor4ii.specs.Sequence.{four_small}
use Rattle.cbor4ii.specs.Tuples.{ReadsAfter, ReadsCountOf, RejectsCountOf, container_head_format}
use Rattle.cbor4ii.specs.Tuples.{known_length}
use Rattle.cbor4ii.specs.Tuples.{after_format}
use Rattle.cbor4ii_items.specs.Heads.{ReadsHead}
use Rattle.cbor4ii_items.specs.InputError.{InputError, len_of, require_length}
use Rattle.cbor4ii_items.specs.Sequences.{RejectsAfterKey}
use Rattle.cbor4ii_items.specs.Laws.Prefixes.{drop_more}
use Rattle.cbor4ii_items.specs.Laws.Heads.{head_one}
use Rattle.cbor4ii_items.specs.Laws.Strings.{head_not_indefinite}
use Rattle.cbor4ii_items.specs.Lengths.{ReadsLength, length_format}
use Rattle.cbor4ii_items.specs.Decoding.{RejectsAt, Sound, NoneRead, Format, Decodes, DecodesIf}
use Rattle.cbor4ii_items.specs.Laws.Answering.{fits_zero}
use Rattle.cbor4ii.proofs.Forms.{sound_by, err_here}

pub head_counts : {E : Type 0} {count found : ℕ} {l : Option ℕ} {a m : View} → l ≡ Some found
    → found ≡ count → Decodes {E = E} (length_format (codes "array") 4) a m (Ok l)
    → Decodes {E = E} (container_head_format count) a m (Ok tt)
head_counts {count = count} {a = a} is same d =
    ok (container_head_format count) d.moves.by d.progress (sound_by d.sound (λ xs n c r.
    subst (λ k. ReadsLength 4 xs k n c) (is ∙ ap Some same) r))

other : (count : ℕ) (l : Option ℕ) (xs : List ℕ) (n c : ℕ) (budget : Option ℕ)
    → (l ≡ Some count → ⊥) → ReadsLength 4 xs l n c → NoneRead (ReadsCountOf count) xs budget
other count None xs n c budget not h v k d r fits =
    head_not_indefinite 4 xs count k four_small r.0 h.0
other count (Some found) xs n c budget not h v k d r fits =
    not (ap Some (head_one 4 8 xs found count n k four_small h.0 r.0).1)

pub head_missing : {E : Type 0} {count : ℕ} {a m : View} {e : DecodeError E}
    → Decodes (length_format (codes "array") 4) a m (Err e)
    → Decodes (container_head_format count) a m (Err e)
head_missing {count = count} {a = a} d =
    decodes_exactly (err_here (length_format (codes "array") 4) (container_head_format count)
    (λ xs. record {
      none = λ is none v n c r fits. none (Some count) n c r fits;
      rejects = λ z ys h. inl h;
      begins = λ z ys h. inl h;
    }) (λ owned. owned) (λ takes. takes) (of_exact d))

len_by : (t : Bool) (n : ℕ) (l : Len) → ltb n 65536 ≡ t → (n < 65536 → l ≡ Small n)
    → (65536 ≤ n → l ≡ Big) → l ≡ len_of n
len_by true n l e small big = rw e (small (ltb-true n 65536 e))
len_by false n l e small big = rw e (big (ltb-false n 65536 e))

pub definite_len : {l : Option ℕ} {found : ℕ} {len : Len} → l ≡ Some found
    → (found < 65536 → len ≡ Small found) → (65536 ≤ found → len ≡ Big) → len ≡ known_length l
definite_len {found = found} {len = len} is small big =
    rw is (len_by (ltb found 65536) found len refl small big)

pub indefinite_len : {l : Option ℕ} → l ≡ None → Indefinite ≡ known_length l
indefinite_len is = rw is refl

pub head_differs : {E : Type 0} {count : ℕ} {l : Option ℕ} {len : Len} {name : Bor (List ℕ)}
    {a m : View} → name.now ≡ codes "tuple" → (l ≡ Some count → ⊥) → len ≡ known_length l
    → Decodes {E = E} (length_format (codes "array") 4) a m (Ok l)
    → Decodes {E = E} (container_head_format count) a m (Err (RequireLength name len))
head_differs {count = count} {l = l} {len = len} {name = name} {a = a} named not is d =
    err (container_head_format count) (record { by = d.moves.by; depth = λ none. refl }) (λ out. cc)
    (λ xs known. (
    let p = d.sound.at xs known in
    let stop : RejectsCountOf count xs a.budget (require_length name.now len) (drop p.count xs) =
    inr (record {
      found = l;
      size = p.count;
      cost = p.cost;
      head = p.read;
      other = not;
      rejected = rw (named, is) refl;
      left = refl;
    }) in (
      drop p.count xs,
      p.left,
      record {
        none = λ is. other count l xs p.count p.cost a.budget not p.read;
        rejects = stop;
        begins = stop;
      },
    )))

pub count_length : {count : ℕ} {a m : View} → Sound (ReadsCountOf count) a m tt
    → Sound (ReadsLength 4) a m (Some count)
count_length s = sound_by s (λ xs n c r. r)

pub not_count : {found count : ℕ} {l : Option ℕ} → l ≡ Some found → (found ≡ count → ⊥)
    → l ≡ Some count → ⊥
not_count {found = found} {count = count} is not e = let f : found ≡ count = cc in not f

pub not_indefinite : {count : ℕ} {l : Option ℕ} → l ≡ None → l ≡ Some count → ⊥
not_indefinite is e = cc

module _ {V : Type 0} (count : ℕ) (s : Format V) where
  no_head : (xs : List ℕ) (budget : Option ℕ) → NoneRead (ReadsCountOf count) xs budget
      → NoneRead (ReadsAfter count s.reads) xs budget
  no_head xs budget none v n c r fits = none tt r.before 0 (r.head, refl) (fits_zero budget)

  no_parts : (xs : List ℕ) (n : ℕ) (budget : Option ℕ) → ReadsHead 4 8 xs count n
      → NoneRead s.reads (drop n xs) budget → NoneRead (ReadsAfter count s.reads) xs budget
  no_parts xs n budget h none v k d r fits = search (rules, head_one, four_small)

  pub head_err : {E : Type 0} {exact : Bool} {a m : View} {e : DecodeError E}
      → DecodesIf exact (container_head_format count) a m (Err e)
      → DecodesIf exact (after_format count s) a m (Err e)
  head_err {a = a} d =
      err_here (container_head_format count) (after_format count s) (λ xs. record {
        none = λ is. no_head xs a.budget;
        rejects = λ z ys. inl;
        begins = λ z ys. inl;
      }) (λ owned. refl) (λ takes. (let no : false ≡ _ = takes in cc)) d

  pub head_after : {E : Type 0} {exact : Bool} {a m : View}
      → Decodes {E = E} (container_head_format count) a m (Ok tt)
      → Leads exact s (after_format count s) a m
  head_after {a = a} d = record {
    kept = d.moves.by;
    progress = λ some. d.progress refl;
    owned = λ o. o;
    memory = λ takes. takes;
    at = λ xs known.
        let p = d.sound.at xs known in
        let stop : (rejects : RejectsAt) (z : InputError) (zs : List ℕ)
        → rejects (drop p.count xs) a.budget z zs
        → RejectsAfterKey (ReadsCountOf count) rejects xs a.budget z zs =
        λ rejects z zs h. record {
          whole = tt;
          size = p.count;
          cost = p.cost;
          key = p.read;
          fits = p.fits;
          stop = h;
        } in (
          drop p.count xs,
          p.left,
          (λ v n c r fits. record {
            count = p.count + n;
            cost = c;
            read = record {
              before = p.count;
              head = p.read.0;
              between = n;
              parts = r;
              size = refl;
            };
            fits = fits;
            left = drop_more n p.count xs;
          }),
          record {
            none = λ is. no_parts xs p.count a.budget p.read.0;
            rejects = λ z zs h. inr (stop s.rejects z zs h);
            begins = λ z zs h. inr (stop s.begins z zs h);
          },
        );
  }
