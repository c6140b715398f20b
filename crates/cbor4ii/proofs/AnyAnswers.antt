-- What reading any item as a value answers, by its parts.
use Rattle.std.proofs.Common.{◌≡◌, ◌<◌, ◌≤◌, ◌^◌, inl, inr, ℕ, pos, suc, List, [], ◌∷◌, take, drop}
use Rattle.std.proofs.Common.{true, Option, Result, Ok, Err, refl, sym, ap, subst}
use Rattle.std.proofs.Common.{arith, rules}
use Rattle.std.specs.Prelude.{codes}
use Rattle.std.proofs.lemmas.Int.{to_z-of_z}
use denote.Ref.{Bor}
use mir.Val.{to_z}
use mir.Syntax.{w128}
use Rattle.cbor4ii_rw.specs.View.{View}
use Rattle.cbor4ii_rw.specs.declared.error.DecodeError.{DecodeError}
use Rattle.cbor4ii_rw.specs.declared.error.DecodeError.TheVariants.{Custom, Unsupported}
use Rattle.cbor4ii_items.specs.Decoding.{Reads, RejectsAt, Sound, NoneRead, Complete}
use Rattle.cbor4ii_items.specs.Decoding.{Rejects}
use Rattle.cbor4ii_items.specs.Decoding.{Format, IsLawful, Decodes, leaf_format}
use Rattle.cbor4ii_items.specs.Moves.{Kept}
use Rattle.cbor4ii_items.specs.Next.{next_format}
use Rattle.cbor4ii_items.specs.Numbers.{ReadsU128, RejectsU128}
use Rattle.cbor4ii_items.specs.InputError.{InputError, input_error_of}
use Rattle.cbor4ii_items.specs.Sequences.{RejectsPlace, no_byte, may_read_nothing, part_rejected}
use Rattle.cbor4ii_items.specs.Sequences.{RejectsInside, length_rejected, definite_rejected}
use Rattle.cbor4ii_items.specs.Sequences.{indefinite_rejected, RejectsPair, ReadsPair}
use Rattle.cbor4ii_items.specs.Laws.Bignums.{u128_one}
use Rattle.cbor4ii_items.specs.Laws.Calls.{ok_after, err_after, of_exact, decodes_exactly}
use Rattle.cbor4ii_items.specs.Laws.Sequences.{pair_lawful}
use Rattle.cbor4ii_tree.specs.declared.value.Value.{Value}
use Rattle.cbor4ii.specs.declared.serde.de.any_leaf.AnyKind.{AnyKind}
use Rattle.cbor4ii.specs.declared.serde.de.any_leaf.AnyKind.TheVariants.{Leaf, Array, Map, Other}
use Rattle.cbor4ii.specs.declared.serde.de.any_leaf.AnyLeaf.{AnyLeaf}
use Rattle.cbor4ii.specs.declared.serde.de.any_leaf.AnyLeaf.TheVariants.{Bignum}
use Rattle.cbor4ii.specs.Any.{kind, Formed, ReadsSmallU128, of_bignum, KindAs}
use Rattle.cbor4ii.specs.Any.{AnyInside, ReadsAny}
use Rattle.cbor4ii.specs.AnyFormat.{any_format, any_inside, kind_format, formed_format}
use Rattle.cbor4ii.specs.AnyFormat.{any_leaf, any_pair}
use Rattle.cbor4ii.specs.AnyRejects.{RejectsBignum, KindRejects, AnyRejects, AnyRejectsAt}
use Rattle.cbor4ii.specs.AnyRejects.{RejectsAny}
use Rattle.cbor4ii.specs.Laws.Any.{any_laws, any_of_inside, inside_of_any}
use Rattle.cbor4ii_items.specs.Laws.Answering.{whatever_error}
use Rattle.cbor4ii.specs.Stepped.{RejectsStepped, stepped_format}
use Rattle.cbor4ii.specs.Typed.{lawful_as, no_number}
use Rattle.cbor4ii.proofs.Looking.{Saw, none_begins}
use Rattle.cbor4ii_tree.specs.declared.value.Value as values
use Rattle.cbor4ii.proofs.Forms.{sound_by, err_here, found_here, ReadAs, as_read}

pub any_lawful : IsLawful any_format
any_lawful = lawful_as any_laws

pub pair_is_lawful : IsLawful any_pair
pair_is_lawful = pair_lawful any_format any_format any_lawful any_lawful

-- ---- what is read of one type, read as another

pub formed : {W : Type 0} (form : W → Value) (s : Format W)
    → ReadAs s (formed_format form s) form
formed form s = search rules

-- ---- however deep the rejected item stands

module _ {P : Type 0} (name : List ℕ) (major : ℕ) (reads : Reads P) (rejects : RejectsAt)
    (to : ℕ → RejectsAt) (bound : (xs : List ℕ) (budget : Option ℕ) (z : InputError) (ys : List ℕ)
    → rejects xs budget z ys → (k : ℕ) × to k xs budget z ys) where
  place_in : (xs : List ℕ) (budget : Option ℕ) (z : InputError) (ys : List ℕ)
      → RejectsPlace name rejects true xs budget z ys
      → (k : ℕ) × RejectsPlace name (to k) true xs budget z ys
  place_in xs budget z ys (no_byte e is left) = (0, no_byte e is left)
  place_in xs budget z ys (may_read_nothing e f none is left) =
      (0, may_read_nothing e f none is left)
  place_in xs budget z ys (part_rejected e f some s) =
      let r = bound xs budget z ys s in (r.0, part_rejected e f some r.1)

  pub inside_in : (xs : List ℕ) (budget : Option ℕ) (z : InputError) (ys : List ℕ)
      → RejectsInside name major reads rejects true xs budget z ys
      → (k : ℕ) × RejectsInside name major reads (to k) true xs budget z ys
  inside_in xs budget z ys (length_rejected e h) = (0, length_rejected e h)
  inside_in xs budget z ys (definite_rejected count before h s) =
      let r = bound (drop s.between (drop before xs)) budget z ys s.stop in (
        r.0,
        definite_rejected count before h (record {
          whole = s.whole;
          fewer = s.fewer;
          between = s.between;
          cost = s.cost;
          parts = s.parts;
          fits = s.fits;
          stop = r.1;
        }),
      )
  inside_in xs budget z ys (indefinite_rejected e s) =
      search (rules, place_in, indefinite_rejected)

module _ (f : RejectsAt) (to : ℕ → RejectsAt)
    (bound : (xs : List ℕ) (budget : Option ℕ) (z : InputError) (ys : List ℕ)
    → f xs budget z ys → (k : ℕ) × to k xs budget z ys) where
  pair_in : (xs : List ℕ) (budget : Option ℕ) (z : InputError) (ys : List ℕ)
      → RejectsPair ReadsAny f f xs budget z ys
      → (k : ℕ) × RejectsPair ReadsAny (to k) (to k) xs budget z ys
  pair_in xs budget z ys (inl s) = let r = bound xs budget z ys s in (r.0, inl r.1)
  pair_in xs budget z ys (inr s) = search (rules, inr)

  kind_in : (k : AnyKind) (xs : List ℕ) (budget : Option ℕ) (z : InputError) (ys : List ℕ)
      → KindRejects f k xs budget z ys → (j : ℕ) × KindRejects (to j) k xs budget z ys
  kind_in (Leaf leaf) xs budget z ys h = (0, h)
  kind_in Array xs budget z ys (inl h) = (0, inl h)
  kind_in Array xs budget z ys (inr h) =
      let r = inside_in (codes "array") 4 ReadsAny f to bound xs _ z ys h.1 in (r.0, inr (h.0, r.1))
  kind_in Map xs budget z ys (inl h) = (0, inl h)
  kind_in Map xs budget z ys (inr h) =
      let r = inside_in (codes "map") 5 (ReadsPair ReadsAny ReadsAny) (RejectsPair ReadsAny f f)
      (λ k. RejectsPair ReadsAny (to k) (to k)) pair_in xs _ z ys h.1 in (r.0, inr (h.0, r.1))
  kind_in Other xs budget z ys h = (0, h)

  pub after_in : (xs : List ℕ) (budget : Option ℕ) (z : InputError) (ys : List ℕ)
      → AnyRejects f xs budget z ys → (k : ℕ) × AnyRejects (to k) xs budget z ys
  after_in xs budget z ys (inl h) = (0, inl h)
  after_in xs budget z ys (inr h) =
      let r = kind_in (kind h.0) xs budget z ys h.2 in (r.0, inr (h.0, h.1, r.1))

any_in : (xs : List ℕ) (budget : Option ℕ) (z : InputError) (ys : List ℕ)
    → RejectsStepped (codes "any") (AnyRejects RejectsAny) xs budget z ys → RejectsAny xs
    budget z ys
any_in xs budget z ys (inl h) = (1, inl h)
any_in xs budget z ys (inr h) =
    let r = after_in RejectsAny AnyRejectsAt (λ ys b y zs s. s) xs _ z ys h.1 in
    (suc r.0, inr (h.0, r.1))

any_means : ReadAs (stepped_format (codes "any") any_inside) any_format (λ v. v)
any_means = record {
  reads = any_of_inside;
  none = λ xs budget none v n c r fits. none v n c (inside_of_any xs v n c r) fits;
  rejects = any_in;
  begins = any_in;
  some = λ some. some;
  owned = λ owned. owned;
  memory = λ takes. takes;
}

pub any_of : {E : Type 0} (r : Result Value (DecodeError E)) {a b : View}
    → Decodes (stepped_format (codes "any") any_inside) a b r → Decodes any_format a b r
any_of (Ok v) d = decodes_exactly (as_read any_means (Ok v) (of_exact d))
any_of (Err e) d = decodes_exactly (as_read any_means (Err e) (of_exact d))

-- ---- by the first byte

none_of_kind : (xs : List ℕ) (first : ℕ) (k : AnyKind) (old mid : Option ℕ) → take 1 xs ≡ first ∷ []
    → k ≡ kind first → mid ≡ old → NoneRead (KindAs ReadsAny k) xs mid
    → NoneRead (AnyInside ReadsAny) xs old
none_of_kind xs first k old mid e is same none v n c p fits = search rules

pub of_kind : {E : Type 0} (k : AnyKind) {a m b : View} {first : ℕ} → Kept a m → Saw a m first
    → k ≡ kind first → (r : Result Value (DecodeError E)) → Decodes (kind_format k) m b r
    → Decodes any_inside a b r
of_kind k {a = a} {first = first} kept s is (Ok v) d =
    ok_after (kind_format k) any_inside kept (λ xs known. (let f = s.first xs known in (
      xs,
      f.0,
      λ n c r fits. found_here n c (first, f.1, subst (λ j. KindAs ReadsAny j xs v n c) is r) fits,
    ))) (λ some. omega (arith, d.progress refl, kept.bound)) d
of_kind k {a = a} {first = first} kept s is (Err e) d =
    decodes_exactly (err_after (kind_format k) any_inside kept (λ xs known. (
    let f = s.first xs known in
    let stop : (z : InputError) (ys : List ℕ) → KindRejects RejectsAny k xs a.budget z ys
    → AnyRejects RejectsAny xs a.budget z ys =
    λ z ys h. inr (first, f.1, subst (λ j. KindRejects RejectsAny j xs a.budget z ys) is h) in (
      xs,
      f.0,
      record {
        none = λ sure. none_of_kind xs first k a.budget a.budget f.1 is refl;
        rejects = stop;
        begins
            = stop;
      },
    ))) (λ owned. owned) (λ takes. takes) (of_exact d))

-- a byte that begins no value stays
pub of_other : {E : Type 0} (name : Bor (List ℕ)) {a m : View} {first : ℕ} → Kept a m
    → name.now ≡ codes "any" → Saw a m first → Other ≡ kind first
    → Decodes {E = E} any_inside a m (Err (Unsupported name first))
of_other name {a = a} {first = first} kept any s is = search (rules, inr, none_of_kind)

-- no byte is left
pub of_end : {E : Type 0} {a m : View} {e : DecodeError E}
    → Decodes (next_format (codes "any")) a m (Err e) → Decodes any_inside a m (Err e)
of_end {a = a} d =
    decodes_exactly (err_here (next_format (codes "any")) any_inside (λ xs. record {
      none = λ is none v n c p fits. none_begins xs p.0 a.budget none p.1;
      rejects = λ z ys h. inl h;
      begins = λ z ys h. inl h;
    }) (λ owned. owned) (λ takes. refl) (of_exact d))

-- ---- a bignum

pub bignum_sound : {a b : View} {k : ℕ} → k < 2 ^ 127 → Sound ReadsU128 a b k
    → Sound (Formed ReadsSmallU128 of_bignum) a b (values.Integer (to_z w128 k))
bignum_sound {k = k} less s =
    sound_by s (λ xs n c r. (
      k,
      (r, less),
      ap values.Integer (to_z-of_z w128 (pos k) (record { sfits = less })),
    ))

-- the number that stands there is the only one
pub too_great : {E : Type 0} {a b : View} {k : ℕ} {e : DecodeError E} → 2 ^ 127 ≤ k
    → Sound ReadsU128 a b k → Complete (Formed ReadsSmallU128 of_bignum) a e
too_great {k = k} {e = e} great s = record {
  at = λ xs known.
      let p = s.at xs known in
      whatever_error (input_error_of e) (λ v n c q fits. (
      let same = (u128_one xs q.0 k n p.count c p.cost q.1.0 p.read).2 in
      omega (arith, same, great, q.1.1)));
}

pub too_great_rejects : {E : Type 0} {a b : View} {k : ℕ} (text : Bor (List ℕ))
    → text.now ≡ codes "integer out of range" → 2 ^ 127 ≤ k → Sound ReadsU128 a b k
    → Rejects {E = E} RejectsBignum a b (Custom text no_number)
too_great_rejects {k = k} text is great s = record {
  at = λ xs known.
      let p = s.at xs known in (
        drop p.count xs,
        p.left,
        inr (record {
          number = k;
          size = p.count;
          read = (p.read.0, refl);
          great = great;
          rejected = cc (is);
          left = refl;
        }),
      );
}

pub bignum_err : {E : Type 0} {a b : View} {e : DecodeError E}
    → Decodes (leaf_format ReadsU128 (λ xs budget. RejectsU128 xs)) a b (Err e)
    → Decodes (any_leaf Bignum) a b (Err e)
bignum_err {a = a} d =
    decodes_exactly (err_here (leaf_format ReadsU128 (λ xs budget. RejectsU128 xs))
    (any_leaf Bignum)
    (λ xs. record {
      none = λ is none v n c r fits. none r.0 n c r.1.0 fits;
      rejects = λ z ys h. inl h;
      begins = λ z ys h. inl h;
    }) (λ owned. refl) (λ takes. takes) (of_exact d))

-- an item that holds no other, by what it is
pub leaf_is : {E : Type 0} {l k : AnyLeaf} {a b : View} {r : Result Value (DecodeError E)} → l ≡ k
    → Decodes (any_leaf k) a b r → Decodes (any_leaf l) a b r
leaf_is {a = a} {b = b} {r = r} is d = subst (λ j. Decodes (any_leaf j) a b r) (sym is) d
