-- Parts that a look shows.
use Rattle.std.proofs.Common.{◌≡◌, ℕ, ◌+◌, ◌-◌, ◌≤◌, List, [], ◌∷◌, ◌++◌, length, take, drop, Bool}
use Rattle.std.proofs.Common.{true, false, IsTrue, refl, sym, ap, ◌∙◌, subst, arith, max}
use Rattle.std.proofs.Common.{Some, ◌≢◌, inl, inr, append_assoc, length-append, get_or, rules}
use Rattle.std.specs.Prelude.{MatchBool}
use Rattle.std.proofs.lemmas.List.{append-nil, length-drop, take_all, take-append-drop}
use Rattle.std.proofs.lemmas.List.{drop-append-le}
use Rattle.cbor4ii_rw.specs.Reader.{Shows, Advances, IsPrefix}
use Rattle.cbor4ii_rw.specs.View.{View, IfKnown}
use Rattle.cbor4ii_items.specs.Budget.{CostFits}
use Rattle.cbor4ii_items.specs.Containers.{BeginsNull, ReadsOption}
use Rattle.cbor4ii_items.specs.Decoding.{Reads, Format, Sound}
use Rattle.cbor4ii_items.specs.Head.{IsBytes}
use Rattle.cbor4ii_items.specs.Laws.Answering.{fits_zero}
use Rattle.cbor4ii_items.specs.Laws.Contents.{lends_prefix}
use Rattle.cbor4ii_items.specs.Laws.SequenceParts.{Begun, count_more, count_onto, fits_less}
use Rattle.cbor4ii_items.specs.Laws.SequenceParts.{parts_more}
use Rattle.cbor4ii_items.specs.Lent.{Stays}
use Rattle.cbor4ii_items.specs.Moves.{Kept}
use Rattle.cbor4ii_items.specs.Sequences.{ReadsElements, ReadsPair}
use Rattle.cbor4ii_items.specs.ShownLeaf.{IsShownLeaf}
use Rattle.cbor4ii.specs.Stepped.{Stepped}
use Rattle.cbor4ii.specs.ShownParts.{PutsParts, TookParts}

-- what follows the first n of the shown bytes
after : (n : ℕ) (shown : List ℕ) → take (length shown - n) (drop n shown) ≡ drop n shown
after n shown = take_all _ _ (omega (arith, length-drop n shown))

-- it is read where it stands
read_after : {V : Type 0} {reads : Reads V} (n : ℕ) (shown : List ℕ) {steps m : ℕ} {v : V}
    → n ≤ length shown
    → (leaf : IsShownLeaf reads (take (length shown - n) (drop n shown)) steps (v, m))
    → (rest : List ℕ) → reads (drop n (shown ++ rest)) v m leaf.cost
read_after {reads = reads} n shown {m = m} {v = v} within leaf rest =
    subst (λ xs. reads xs v m leaf.cost)
    (ap (λ xs. xs ++ rest) (after n shown) ∙ sym (drop-append-le n shown rest within))
    (leaf.read rest)

module _ {P : Type 0} (reads : Reads P) {shown : List ℕ} {steps : ℕ} where
  pub puts_none : (ps : List P) → PutsParts reads shown steps ps ps 0
  puts_none ps = record {
    parts = [];
    added = sym (append-nil ps);
    within = omega arith;
    cost = 0;
    fits = omega arith;
    read = λ rest. (refl, refl);
  }

  -- one more, which begins what follows
  pub puts_more : {before mid after : List P} {n m : ℕ} {p : P}
      → PutsParts reads shown steps before mid n
      → IsShownLeaf reads (take (length shown - n) (drop n shown)) steps (p, m)
      → after ≡ mid ++ p ∷ [] → PutsParts reads shown steps before after (n + m)
  puts_more {before = before} {n = n} {m = m} {p = p} h leaf is = record {
    parts = h.parts ++ p ∷ [];
    added = is ∙ (ap (λ qs. qs ++ p ∷ []) h.added ∙ append_assoc before h.parts (p ∷ []));
    within = omega (arith, h.within, leaf.within, ap length (after n shown), length-drop n shown);
    cost = _;
    fits = omega (arith, h.fits, leaf.fits);
    read = λ rest. parts_more reads (shown ++ rest) h.parts p n h.cost m leaf.cost (h.read rest)
        (read_after n shown h.within leaf rest);
  }

-- a key, and a value after it
pub pair_shown : {K V : Type 0} {keys : Reads K} {values : Reads V} {shown : List ℕ} {steps : ℕ}
    {key : K} {value : V} {n m : ℕ} → IsShownLeaf keys shown steps (key, n)
    → IsShownLeaf values (take (length shown - n) (drop n shown)) steps (value, m)
    → IsShownLeaf (ReadsPair keys values) shown steps ((key, value), n + m)
pair_shown {shown = shown} {n = n} {m = m} h t = record {
  some = omega (arith, h.some);
  within = omega (arith, h.within, t.within, ap length (after n shown), length-drop n shown);
  cost = max h.cost t.cost;
  fits = omega (arith, h.fits, t.fits);
  read = λ rest. record {
    key_size = n;
    key_cost = h.cost;
    key = h.read rest;
    value_size = m;
    value_cost = t.cost;
    value = read_after n shown h.within t rest;
    size = refl;
    cost = refl;
  };
}

not_null : (shown rest : List ℕ) → 1 ≤ length shown → get_or shown 0 0 ≢ 0xf6
    → get_or shown 0 0 ≢ 0xf7 → BeginsNull (shown ++ rest) → ⊥
not_null [] rest some null undefined h = omega arith
not_null (b ∷ bs) rest some null undefined (inl e) =
    null (let f : b ∷ [] ≡ 0xf6 ∷ [] = e in cc)
not_null (b ∷ bs) rest some null undefined (inr e) =
    undefined (let f : b ∷ [] ≡ 0xf7 ∷ [] = e in cc)

-- a value that begins with no null
pub some_shown : {V : Type 0} {reads : Reads V} {shown : List ℕ} {steps left : ℕ} {v : V} {n : ℕ}
    → get_or shown 0 0 ≢ 0xf6 → get_or shown 0 0 ≢ 0xf7 → 1 + left ≤ steps
    → IsShownLeaf reads shown left (v, n)
    → IsShownLeaf (ReadsOption (Stepped reads)) shown steps (Some v, n)
some_shown {shown = shown} null undefined less h = record {
  some = h.some;
  within = h.within;
  cost = 1 + h.cost;
  fits = omega (arith, h.fits, less);
  read = λ rest. (
    not_null shown rest (omega (arith, h.some, h.within)) null undefined,
    omega (arith, h.some, h.within, length-append shown rest),
    (h.cost, h.read rest, refl),
  );
}

-- what was put was taken
pub takes_run : {P : Type 0} (reads : Reads P) {shown : List ℕ} {want steps n : ℕ} {a m b : View}
    {before after : List P} (has_memory : Bool) → Shows shown a m
    → IfKnown a.known (IsPrefix want shown) → n ≤ length shown → IsBytes (take n shown)
    → CostFits steps a.budget
    → (IsTrue has_memory → PutsParts reads shown steps before after n) → Advances n m b
    → MatchBool has_memory (TookParts reads a b before after) (Kept a b)
takes_run reads {shown = shown} {steps = steps} {n = n} {a = a} true s prefix within bytes fits put
    adv =
    let h = put refl in
    let l = lends_prefix {content = take n shown} s prefix within bytes refl adv in
    record {
      kept = l.kept;
      parts = h.parts;
      added = h.added;
      sound = record {
        at = λ xs known.
            let rest = drop (length shown) xs in
            let begins = ap (λ zs. zs ++ rest) (sym (prefix xs known).begins) in
            let whole : shown ++ rest ≡ xs = begins ∙ take-append-drop (length shown) xs in
            record {
              count = n;
              cost = h.cost;
              read = subst (λ zs. ReadsElements reads zs h.parts n h.cost) whole (h.read rest);
              fits = fits_less h.cost steps a.budget h.fits fits;
              left = (l.at xs known).1;
            };
      };
    }
takes_run reads {shown = shown} {n = n} false s prefix within bytes fits put adv =
    (lends_prefix {content = take n shown} s prefix within bytes refl adv).kept

-- ---- the parts so far

module _ {P : Type 0} (s : Format P) where
  pub begun_none : {a m : View} {ps : List P} → ps ≡ [] → Stays a m → Begun s (length ps) a m ps
  begun_none {a = a} {m = m} {ps = ps} none stays = search (rules, fits_zero)

  -- those of one look after them
  pub begun_run : {a m b : View} {i : ℕ} {ps qs : List P} → Begun s i a m ps
      → TookParts s.reads m b ps qs → Begun s (length qs) a b qs
  begun_run h t =
      let all = count_onto s h t.kept t.sound t.added in
      record { kept = all.kept; count = refl; parts = all.parts }

  -- one after them
  pub begun_one : {a m b : View} {i : ℕ} {ps qs : List P} {p : P} → Begun s i a m ps → Kept m b
      → Sound s.reads m b p → qs ≡ ps ++ p ∷ [] → Begun s (length qs) a b qs
  begun_one h kept t added =
      let all = count_more s h kept t added in
      record { kept = all.kept; count = refl; parts = all.parts }
