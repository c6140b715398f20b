-- Parts, read one after another.
use Rattle.std.proofs.Common.{◌≡◌, ◌≢◌, ℕ, ◌+◌, ◌<◌, ◌≤◌, ◌⊎◌, inl, inr, List, [], ◌∷◌, ◌++◌}
use Rattle.std.proofs.Common.{length, drop, take, Option, Some, None, Ok, Err, Bool, true, false}
use Rattle.std.proofs.Common.{IsTrue, refl, sym, ap, ◌∙◌, subst, arith, max, length-append, rules}
use Rattle.std.proofs.Math.Nat.{max-le}
use Rattle.cbor4ii_rw.specs.View.{View, IfKnown}
use Rattle.cbor4ii_rw.specs.declared.error.DecodeError.{DecodeError}
use Rattle.cbor4ii_rw.specs.declared.error.DecodeError.TheVariants.{RequireLength}
use Rattle.cbor4ii_rw.specs.declared.error.Len.TheVariants.{Indefinite}
use denote.Ref.{Bor}
use Rattle.cbor4ii_items.specs.Head.{break}
use Rattle.cbor4ii_items.specs.InputError.{InputError, is_out_of_memory}
use Rattle.cbor4ii_items.specs.Moves.{Kept}
use Rattle.cbor4ii_items.specs.Reading.{Runs}
use Rattle.cbor4ii_items.specs.Decoding.{Reads, RejectsAt, Sound, NoneRead, Format, IsLawful}
use Rattle.cbor4ii_items.specs.Decoding.{Decodes, DecodesIf}
use Rattle.cbor4ii_items.specs.Budget.{CostFits}
use Rattle.cbor4ii_items.specs.ReadStrings.{break_at}
use Rattle.cbor4ii_items.specs.Sequences.{ReadsElements, ReadsCount, Unbroken, ReadsUpToBreak}
use Rattle.cbor4ii_items.specs.Sequences.{RejectsPlace, no_byte, may_read_nothing, part_rejected}
use Rattle.cbor4ii_items.specs.Sequences.{RejectsCount, RejectsUpToBreak, count_of, indefinite_of}
use Rattle.cbor4ii_items.specs.Laws.Answering.{fits_zero}
use Rattle.cbor4ii_items.specs.Laws.Calls.{ok, err_if, err_of, err_after}
use Rattle.cbor4ii_items.specs.Laws.Prefixes.{drop_more}
use Rattle.cbor4ii_items.specs.Laws.ProgramEnds.{break_yes, break_no, break_rejected}
use Rattle.cbor4ii_items.specs.Laws.Sequences.{not_less, next_part, parts_size, unbroken_size}
use Rattle.cbor4ii_items.specs.Laws.Sequences.{ends_at_break}
use Rattle.cbor4ii_items.specs.Laws.Steps.{kept_then}

pub fits_less : (c d : ℕ) (budget : Option ℕ) → c ≤ d → CostFits d budget → CostFits c budget
fits_less c d None le h = tt
fits_less c d (Some n) le h = omega arith

pub fits_max : (c d : ℕ) (budget : Option ℕ) → CostFits c budget → CostFits d budget
    → CostFits (max c d) budget
fits_max c d None p q = tt
fits_max c d (Some n) p q = max-le p q

-- ---- more parts

module _ {P : Type 0} (reads : Reads P) where
  parts_append : (xs : List ℕ) (ps qs : List P) (n c k d : ℕ) → ReadsElements reads xs ps n c
      → ReadsElements reads (drop n xs) qs k d
      → ReadsElements reads xs (ps ++ qs) (n + k) (max c d)
  parts_append xs [] qs n c k d h r = search rules
  parts_append xs (q ∷ ps) qs n c k d h r =
      let e : drop n xs ≡ drop h.2 (drop h.0 xs) =
      ap (λ j. drop j xs) h.6 ∙ sym (drop_more h.2 h.0 xs) in
      let rest = parts_append (drop h.0 xs) ps qs h.2 h.3 k d h.5
      (subst (λ ys. ReadsElements reads ys qs k d) e r) in
      (h.0, h.1, h.2 + k, max h.3 d, h.4, rest, omega (arith, h.6), omega (arith, h.7))

  one_part : (xs : List ℕ) (p : P) (n c : ℕ) → reads xs p n c → ReadsElements reads xs (p ∷ []) n c
  one_part xs p n c h = (n, c, 0, 0, h, (refl, refl), omega arith, omega arith)

  pub parts_more : (xs : List ℕ) (ps : List P) (p : P) (n c k d : ℕ) → ReadsElements reads xs ps n c
      → reads (drop n xs) p k d → ReadsElements reads xs (ps ++ p ∷ []) (n + k) (max c d)
  parts_more xs ps p n c k d h r =
      parts_append xs ps (p ∷ []) n c k d h (one_part (drop n xs) p k d r)

  parts_onto : {a m b : View} {ps qs rs : List P} → m.budget ≡ a.budget
      → Sound (ReadsElements reads) a m ps → Sound (ReadsElements reads) m b qs → rs ≡ ps ++ qs
      → Sound (ReadsElements reads) a b rs
  parts_onto {a = a} {m = m} {b = b} {ps = ps} {qs = qs} budget s t added =
      subst (λ ws. Sound (ReadsElements reads) a b ws) (sym added) (record {
        at = λ xs known.
            let u = s.at xs known in
            let v = t.at (drop u.count xs) u.left in
            record {
              count = u.count + v.count;
              cost = max u.cost v.cost;
              read = parts_append xs ps qs u.count u.cost v.count v.cost u.read v.read;
              fits = fits_max u.cost v.cost a.budget u.fits (subst (CostFits v.cost) budget v.fits);
              left = v.left ∙ ap Some (drop_more v.count u.count xs);
            };
      })

  one_sound : {m b : View} {p : P} → Sound reads m b p → Sound (ReadsElements reads) m b (p ∷ [])
  one_sound {p = p} t = record {
    at = λ xs known. let u = t.at xs known in record {
      count = u.count;
      cost = u.cost;
      read = one_part xs p u.count u.cost u.read;
      fits = u.fits;
      left = u.left;
    };
  }

  pub parts_then : {a m b : View} {ps qs : List P} {p : P} → m.budget ≡ a.budget
      → Sound (ReadsElements reads) a m ps → Sound reads m b p → qs ≡ ps ++ p ∷ []
      → Sound (ReadsElements reads) a b qs
  parts_then budget s t added = parts_onto budget s (one_sound t) added

module _ {P : Type 0} (s : Format P) (lawful : IsLawful s) where
  one_size : (xs : List ℕ) (p q : P) (n m c d : ℕ) → s.reads xs p n c → s.reads xs q m d → n ≡ m
  one_size xs p q n m c d g h = (lawful.one xs p q n m c d g h).0

-- no part was read yet
pub no_part : {P : Type 0} (reads : Reads P) {a m : View} {ps : List P} → m.known ≡ a.known →
    ps ≡ []
    → Sound (ReadsElements reads) a m ps
no_part reads {a = a} {m = m} same none = search (rules, fits_zero)

-- ---- so many parts

module _ {P : Type 0} (s : Format P) where
  -- the first so many parts
  pub record Begun (i : ℕ) (a m : View) (ps : List P) : Type 0 where
    pub kept : Kept a m
    pub count : length ps ≡ i
    pub parts : Sound (ReadsElements s.reads) a m ps

  pub count_onto : {a m b : View} {i : ℕ} {ps qs rs : List P} → Begun i a m ps → Kept m b
      → Sound (ReadsElements s.reads) m b qs → rs ≡ ps ++ qs → Begun (i + length qs) a b rs
  count_onto {ps = ps} {qs = qs} h kept t added = record {
    kept = kept_then h.kept kept;
    count = ap length added ∙ (length-append ps qs ∙ ap (λ j. j + length qs) h.count);
    parts = parts_onto s.reads h.kept.budget h.parts t added;
  }

  pub count_more : {a m b : View} {i : ℕ} {ps qs : List P} {p : P} → Begun i a m ps → Kept m b
      → Sound s.reads m b p → qs ≡ ps ++ p ∷ [] → Begun (i + 1) a b qs
  count_more h kept t added = count_onto h kept (one_sound s.reads t) added

  none_more : IsLawful s → (xs : List ℕ) (ps : List P) (n c count : ℕ) (budget : Option ℕ)
      → ReadsElements s.reads xs ps n c → length ps < count → NoneRead s.reads (drop n xs) budget
      → NoneRead (ReadsCount s.reads count) xs budget
  none_more lawful xs ps n c count budget h less none qs m d r fits =
      search (rules, next_part, one_size, fits_less)

module _ {P W : Type 0} (items : W → List P) (s : Format P) where
  pub count_done : {E : Type 0} {a m : View} {v : W} {i count : ℕ} → Begun s i a m (items v)
      → i ≡ count → Decodes {E = E} (count_of items s count) a m (Ok v)
  count_done {count = count} h all =
      ok (count_of items s count) h.kept (λ some. cc) (record {
        at = λ xs known. let u = h.parts.at xs known in record {
          count = u.count;
          cost = u.cost;
          read = (h.count ∙ all, u.read);
          fits = u.fits;
          left = u.left;
        };
      })

  -- what is rejected after some parts
  pub count_err : {E : Type 0} {exact : Bool} → (IsTrue exact → IsLawful s)
      → {a m b : View} {i count : ℕ} {ps : List P} {e : DecodeError E} → Begun s i a m ps
      → i < count → DecodesIf exact s m b (Err e) → DecodesIf exact (count_of items s count) a b
      (Err
      e)
  count_err lawful {a = a} {count = count} {ps = ps} h less t =
      err_after s (count_of items s count) h.kept (λ xs known.
      let u = h.parts.at xs known in
      let fewer : length ps < count = omega (arith, less, h.count) in
      let stop : (rejects : RejectsAt) (z : InputError) (zs : List ℕ)
      → rejects (drop u.count xs) a.budget z zs → RejectsCount s.reads rejects count xs
      a.budget z zs =
      λ rejects z zs f. record {
        whole = ps;
        fewer = fewer;
        between = u.count;
        cost = u.cost;
        parts = u.read;
        fits = u.fits;
        stop = f;
      } in (
        drop u.count xs,
        u.left,
        record {
          none = λ is none v n c. none_more s (lawful is) xs ps u.count u.cost count a.budget u.read
              fewer none (items v) n c;
          rejects = stop s.rejects;
          begins = stop s.begins;
        },
      )) (λ o. o) (λ takes. refl) t

-- ---- parts up to a break

-- another byte than a break comes next, and stays
pub record Stands (l m : View) : Type 0 where
  pub at : IfKnown l.known (λ xs. (m.known ≡ Some xs) × (xs ≢ []) × (take 1 xs ≡ break ∷ [] → ⊥))
  pub kept : Kept l m

pub stands : {E : Type 0} {ended : Bool} {l m : View} → ended ≡ false
    → Runs {E = E} break_at l m (Ok ended) → Stands l m
stands {ended = ended} is q = search (rules, break_no)

-- a break, or a part, where one of them should come
abbrev ReadsPlace : {P : Type 0} → Format P → Reads (Option P)
ReadsPlace s xs None n c = (take 1 xs ≡ break ∷ []) × (c ≡ 0)
ReadsPlace s xs (Some p) n c = Unbroken s.reads xs p n c × IsTrue s.never_empty

abbrev pub place_format : {P : Type 0} → List ℕ → Format P → Format (Option P)
place_format name s = record {
  reads = ReadsPlace s;
  same = λ v w. Unit {0};
  rejects = RejectsPlace name s.rejects s.never_empty;
  begins = RejectsPlace name s.begins s.never_empty;
  never_empty = false;
  owned = s.owned;
  takes_memory = s.takes_memory;
  closed = false;
}

module _ {P : Type 0} (s : Format P) where
  -- some parts, none of them with a break in its place
  pub record Opened (a m : View) (ps : List P) : Type 0 where
    pub allowed : IsTrue s.never_empty ⊎ (ps ≡ [])
    pub parts : Sound (ReadsElements (Unbroken s.reads)) a m ps
    pub kept : Kept a m

  pub indefinite_more : {a l m b : View} {ps qs : List P} {p : P} → IsTrue s.never_empty
      → Opened a l ps → Stands l m → Kept m b → Sound s.reads m b p → qs ≡ ps ++ p ∷ []
      → Opened a b qs
  indefinite_more {l = l} {b = b} {p = p} some h stays kept t added =
      let part : Sound (Unbroken s.reads) l b p =
      record {
        at = λ xs known.
            let f = stays.at xs known in
            let u = t.at xs f.0 in
            record {
              count = u.count;
              cost = u.cost;
              read = (f.2, u.read);
              fits = subst (CostFits u.cost) stays.kept.budget u.fits;
              left = u.left;
            };
      } in
      record {
        allowed = inl some;
        parts = parts_then (Unbroken s.reads) h.kept.budget h.parts part added;
        kept = kept_then (kept_then h.kept stays.kept) kept;
      }

  module _ (lawful : IsLawful s) where
    -- where neither a break nor a part stands, nothing is read
    none_indefinite : (xs : List ℕ) (ps : List P) (n c : ℕ) (budget : Option ℕ)
        → ReadsElements (Unbroken s.reads) xs ps n c → NoneRead (ReadsPlace s) (drop n xs) budget
        → NoneRead (ReadsUpToBreak s.reads s.never_empty) xs budget
    none_indefinite xs ps n c budget h none qs m d r fits =
        let one = one_size s lawful in
        let short : length qs ≤ length ps = not_less (length qs) (length ps) (λ less.
        let a = next_part (Unbroken s.reads)
        (unbroken_size s.reads one) xs ps qs n c r.between d h r.parts less in
        elim r.allowed [
          | inl some ↦ none (Some a.0) a.1 a.2 (a.3, some) (fits_less a.2 d budget a.4 fits)
          | inr e ↦ absurd (omega (arith, less, ap length e))
        ]) in
        let long : length ps ≤ length qs =
        ends_at_break s.reads one xs qs ps r.between d n c r.parts r.ends h in
        let size = parts_size (Unbroken s.reads) (unbroken_size s.reads one) xs ps qs n r.between c
        d h r.parts (omega (arith, short, long)) in
        none None 0 0
        (subst (λ j. take 1 (drop j xs) ≡ break ∷ []) (sym size) r.ends, refl) (fits_zero budget)

module _ {P W : Type 0} (items : W → List P) (name : List ℕ) (s : Format P) where
  pub indefinite_done : {E : Type 0} {ended : Bool} {a l b : View} {v : W} → ended ≡ true
      → Opened s a l (items v) → Runs {E = E} break_at l b (Ok ended)
      → Decodes {E = E} (indefinite_of items name s) a b (Ok v)
  indefinite_done {ended = ended} is h q =
      ok (indefinite_of items name s) (kept_then h.kept q.moves.by) (λ some. cc) (record {
        at = λ xs known.
            let u = h.parts.at xs known in
            let r = q.answers (drop u.count xs) u.left in
            let b = break_yes (drop u.count xs) r.0 (r.2 ∙ ap (λ (t : Bool). Ok (t, r.0)) is) in
            record {
              count = u.count + 1;
              cost = u.cost;
              read = record {
                allowed = h.allowed;
                between = u.count;
                parts = u.read;
                ends = b.0;
                size = refl;
              };
              fits = u.fits;
              left = r.1 ∙ ap Some (b.1 ∙ drop_more 1 u.count xs);
            };
      })

  -- what is rejected after some parts
  pub indefinite_err : {E : Type 0} {exact : Bool} → (IsTrue exact → IsLawful s)
      → {a l b : View} {ps : List P} {e : DecodeError E} → Opened s a l ps
      → DecodesIf exact (place_format name s) l b (Err e)
      → DecodesIf exact (indefinite_of items name s) a b (Err e)
  indefinite_err lawful {a = a} {ps = ps} h t =
      err_after (place_format name s) (indefinite_of items name s) h.kept (λ xs known.
      let u = h.parts.at xs known in
      let stop : (rejects : RejectsAt) (z : InputError) (zs : List ℕ)
      → RejectsPlace name rejects s.never_empty (drop u.count xs) a.budget z zs
      → RejectsUpToBreak name s.reads rejects s.never_empty xs a.budget z zs =
      λ rejects z zs f. record {
        whole = ps;
        allowed = h.allowed;
        between = u.count;
        cost = u.cost;
        parts = u.read;
        fits = u.fits;
        stop = f;
      } in (
        drop u.count xs,
        u.left,
        record {
          none = λ is none v n c.
              none_indefinite s (lawful is) xs ps u.count u.cost a.budget u.read none (items v) n c;
          rejects = stop s.rejects;
          begins = stop s.begins;
        },
      )) (λ o. o) (λ takes. refl) t

-- ---- what is rejected where a part or a break should come

module _ {P : Type 0} (s : Format P) where
  not_at_end : IsLawful s → (xs : List ℕ) (budget : Option ℕ) → xs ≡ []
      → NoneRead (ReadsPlace s) xs budget
  not_at_end lawful [] budget none None n c r fits = let f = r.0 in cc
  not_at_end lawful [] budget none (Some p) n c r fits =
      omega (arith, lawful.within [] p n c r.0.1, lawful.positive r.1 [] p n c r.0.1)
  not_at_end lawful (x ∷ xs) budget none p n c r fits = cc

  not_empty : (xs : List ℕ) (budget : Option ℕ) → (take 1 xs ≡ break ∷ [] → ⊥)
      → s.never_empty ≡ false → NoneRead (ReadsPlace s) xs budget
  not_empty xs budget other empty None n c r fits = other r.0
  not_empty xs budget other empty (Some p) n c r fits = let f = sym empty ∙ r.1 in cc

  not_part : (xs : List ℕ) (budget : Option ℕ) → (take 1 xs ≡ break ∷ [] → ⊥)
      → NoneRead s.reads xs budget → NoneRead (ReadsPlace s) xs budget
  not_part xs budget other none None n c r fits = other r.0
  not_part xs budget other none (Some p) n c r fits = none p n c r.0.1 fits

  -- the end of the input
  pub place_end : {E : Type 0} {exact : Bool} (name : List ℕ) {l m : View} {e : DecodeError E}
      → (IsTrue exact → IsLawful s)
      → Runs {V = Bool} break_at l m (Err e) → is_out_of_memory e ≡ false
      → DecodesIf exact (place_format name s) l m (Err e)
  place_end name {l = l} lawful q memory =
      err_of (place_format name s) q memory (λ xs z ys t. let b = break_rejected xs ys z t in
      record {
        none = λ is. not_at_end (lawful is) xs l.budget b.0;
        rejects = no_byte b.0 b.1 b.2;
        begins = no_byte b.0 b.1 b.2;
      })

  -- parts may read nothing
  pub place_nothing : {E : Type 0} {exact : Bool} (name : Bor (List ℕ)) {l m : View}
      → s.never_empty ≡ false → Stands l m
      → DecodesIf {E = E} exact (place_format name.now s) l m (Err (RequireLength name
      Indefinite))
  place_nothing name {l = l} empty stays = search (rules, err_if, not_empty, may_read_nothing)

  -- a part is rejected
  pub place_part : {E : Type 0} {exact : Bool} (name : List ℕ) {l m b : View} {e : DecodeError E}
      → IsTrue s.never_empty → Stands l m → DecodesIf exact s m b (Err e)
      → DecodesIf exact (place_format name s) l b (Err e)
  place_part name {l = l} some stays t =
      err_after s (place_format name s) stays.kept (λ xs known.
      let f = stays.at xs known in (
        xs,
        f.0,
        record {
          none = λ is. not_part xs l.budget f.2;
          rejects = λ z zs. part_rejected f.1 f.2 some;
          begins = λ z zs. part_rejected f.1 f.2 some;
        },
      )) (λ o. o) (λ takes. takes) t
