-- Content of definite length, prefix by prefix.
use Rattle.std.proofs.Common.{◌≡◌, ℕ, zero, suc, ◌+◌, ◌-◌, ◌<◌, ◌≤◌, List, [], ◌∷◌, ◌++◌, length}
use Rattle.std.proofs.Common.{get_or, take, drop, Option, Some, Ok, Bool, true, false, refl}
use Rattle.std.proofs.Common.{sym, ap, ap₂, ◌∙◌, subst, arith, ltb, ltb-true, ltb-false}
use Rattle.std.proofs.Common.{append_assoc, rules}
use Rattle.std.proofs.lemmas.List.{length-drop, length-take-le, append-nil}
use Rattle.std.proofs.Math.Seq.{take-add}
use Rattle.cbor4ii_rw.specs.View.{View, IfKnown, place_of}
use Rattle.cbor4ii_items.specs.Lent.{Lends, IsOfInput, Stays}
use denote.Ref.{Bor}
use Rattle.std.specs.Prelude.{MatchOption}
use Rattle.cbor4ii_rw.specs.Reference.{bytes_of, IsSubslice}
use Rattle.cbor4ii_rw.specs.declared.read.Reference.{Reference}
use Rattle.cbor4ii_rw.specs.declared.read.Reference.TheVariants.{Long}
use Rattle.cbor4ii_rw.specs.Reader.{Shows, ReaderFails, Advances, IsPrefix, counts}
use Rattle.cbor4ii_items.specs.Head.{IsBytes}
use Rattle.cbor4ii_items.specs.Moves.{Kept, Took}
use Rattle.cbor4ii_items.specs.Reading.{Reading, Reaches, Runs}
use Rattle.cbor4ii_items.specs.Contents.{TakesOnto}
use Rattle.cbor4ii_items.specs.ReadStrings.{content_on}
use Rattle.cbor4ii_items.specs.Laws.DefiniteContent.{content_short, content_whole}
use Rattle.cbor4ii_items.specs.Laws.Prefixes.{drop_more}
use Rattle.cbor4ii_items.specs.Laws.Steps.{kept_then}

-- nothing was taken by one call, nor by the next
pub stays_then : {a b c : View} → Stays a b → Stays b c → Stays a c
stays_then p q = record {
  kept = kept_then p.kept q.kept;
  known = λ xs known. q.known xs (p.known xs known);
}

two_parts : (i count : ℕ) (before xs : List ℕ) → i ≤ count
    → (before ++ take i xs) ++ take (count - i) (drop i xs) ≡ before ++ take count xs
two_parts i count before xs h =
    let e : i + (count - i) ≡ count = omega (arith, h) in
    append_assoc before (take i xs) (take (count - i) (drop i xs))
    ∙ ap (λ z. before ++ z) (sym (take-add i (count - i) xs) ∙ ap (λ j. take j xs) e)

more_by : (t : Bool) (name : List ℕ) (count i : ℕ) (before xs : List ℕ) → i ≤ count → i ≤ length xs
    → ltb (length xs) count ≡ t
    → content_on name count before xs ≡ content_on name (count - i) (before ++ take i xs)
    (drop i xs)
more_by true name count i before xs h k e = search (rules, ltb-true, length-drop, content_short)
more_by false name count i before xs h k e =
    search (rules, ltb-false, content_whole, two_parts, drop_more, length-drop)

-- a prefix of the content was taken
pub content_more : (name : List ℕ) (count i : ℕ) (before xs : List ℕ) → i ≤ count → i ≤ length xs
    → content_on name count before xs ≡ content_on name (count - i) (before ++ take i xs)
    (drop i xs)
content_more name count i before xs h k =
    more_by (ltb (length xs) count) name count i before xs h k refl

pub content_none : (name : List ℕ) (before xs : List ℕ)
    → content_on name 0 before xs ≡ Ok (before, xs)
content_none name before xs = search (rules, content_whole, append-nil)

pub reaches_content : {f : Reading (List ℕ)} (name : List ℕ) {missing n : ℕ} {before after : List ℕ}
    {a m b : View} → Reaches f (content_on name missing before) a m
    → TakesOnto missing n before after m b
    → Reaches f (content_on name (missing - n) after) a b
reaches_content name {missing = missing} {n = n} {before = before} {after = after} p t = record {
  kept = kept_then p.kept t.kept;
  leads = λ xs known.
      let s = p.leads xs known in
      let u = t.at s.0 s.1 in (
        drop n s.0,
        u.1,
        s.2 ∙ (content_more name missing n before s.0 t.most u.0
            ∙ ap (λ z. content_on name (missing - n) z (drop n s.0)) (sym u.2)),
      );
}

pub content_ends : {E : Type 0} {f : Reading (List ℕ)} (name : List ℕ) {missing : ℕ}
    {content : List ℕ} {a b : View} → missing ≡ 0 → Reaches f (content_on name missing content) a b
    → Runs {E = E} f a b (Ok content)
content_ends name {missing = missing} {content = content} none p = search (rules, content_none)

-- ---- a prefix that was shown and taken

pub IsBytes-from : (bs : List ℕ) → ((i d : ℕ) → i < length bs → get_or bs i d < 256) → IsBytes bs
IsBytes-from [] f = tt
IsBytes-from (b ∷ bs) f =
    (f 0 0 (omega arith), IsBytes-from bs (λ i d h. f (suc i) d (omega (arith, h))))

pub IsBytes-append : (xs ys : List ℕ) → IsBytes (xs ++ ys) → IsBytes ys
IsBytes-append [] ys h = h
IsBytes-append (x ∷ xs) ys h = IsBytes-append xs ys h.1

take_take : (n m : ℕ) (xs : List ℕ) → n ≤ m → take n (take m xs) ≡ take n xs
take_take zero m xs h = refl
take_take (suc n) zero xs h = absurd (omega arith)
take_take (suc n) (suc m) [] h = refl
take_take (suc n) (suc m) (x ∷ xs) h = ap (λ zs. x ∷ zs) (take_take n m xs (omega arith))

prefix_is : (want n : ℕ) (shown xs : List ℕ) → IsPrefix want shown xs → n ≤ length shown
    → take n shown ≡ take n xs
prefix_is want n shown xs prefix h = search (rules, take_take)

took_prefix : (want n : ℕ) (shown xs : List ℕ) (new : Option (List ℕ)) → IsPrefix want shown xs
    → n ≤ length shown → IsBytes (take n shown) → new ≡ Some (drop n xs) → Took xs new n
took_prefix want n shown xs new prefix h bytes left = record {
  left = left;
  within = omega (arith, h, prefix.within);
  bytes = subst IsBytes (prefix_is want n shown xs prefix h) bytes;
}

counts_prefix : (n : ℕ) (xs ys : List ℕ) (a m b : View) → n ≤ length xs → ys ≡ drop n xs
    → m.taken ≡ a.taken → b.taken ≡ counts n m.taken → (k : ℕ) → k + length ys ≡ length xs
    → b.taken ≡ counts k a.taken
counts_prefix n xs ys a m b h e first second k gone = search (rules, length-drop)

-- what was shown, and a part of it taken, is a reader's move
prefix_kept : {want n : ℕ} {shown : List ℕ} {a m b : View} → Shows shown a m
    → IfKnown a.known (IsPrefix want shown) → n ≤ length shown → IsBytes (take n shown)
    → Advances n m b → Kept a b
prefix_kept {want = want} {n = n} {shown = shown} {a = a} {m = m} {b = b} s prefix within fresh
    adv = record {
      rest = λ xs known. (
        n,
        took_prefix want n shown xs b.known (prefix xs known) within fresh
            (adv.known xs (s.known xs known)),
      );
      counted = λ xs known ys left k gone.
          let e : ys ≡ drop n xs = let d = adv.known xs (s.known xs known) in cc in
          counts_prefix n xs ys a m b (omega (arith, within, (prefix xs known).within)) e s.taken
          adv.taken k gone;
      bound = omega (arith, s.bound, adv.bound);
      budget = adv.budget ∙ s.budget;
      failures = adv.failures ∙ s.failures;
      zero_copy = λ h. adv.zero_copy (s.zero_copy h);
      remembers = λ h. adv.remembers (s.remembers h);
      ends_at = adv.ends_at ∙ s.ends_at;
    }

pub takes_prefix : {want missing n : ℕ} {shown before after : List ℕ} {a m b : View}
    → Shows shown a m → IfKnown a.known (IsPrefix want shown) → 1 ≤ n → n ≤ missing
    → n ≤ length shown → IsBytes after → after ≡ before ++ take n shown → Advances n m b
    → TakesOnto missing n before after a b
takes_prefix {want = want} {missing = missing} {n = n} {shown = shown} {before = before}
    {after = after} {a = a} {m = m} {b = b} s prefix some most within bytes is adv =
    let fresh : IsBytes (take n shown) =
    IsBytes-append before (take n shown) (subst IsBytes is bytes) in
    record {
      kept = prefix_kept s prefix within fresh adv;
      some = some;
      most = most;
      at = λ xs known. (
        omega (arith, within, (prefix xs known).within),
        adv.known xs (s.known xs known),
        is ∙ ap (λ z. before ++ z) (prefix_is want n shown xs (prefix xs known) within),
      );
    }

-- ---- a prefix that was lent and taken

pub prefix_shown : (a b : View) (answer : Option Reference) (lent : Reference)
    (shown : Bor (List ℕ))
    → answer ≡ Some lent → lent ≡ Long shown
    → MatchOption answer (ReaderFails a b) (λ s. Shows (bytes_of s) a b) → Shows shown.now a b
prefix_shown a b answer lent shown e f h = search rules

pub lends_prefix : {want n : ℕ} {shown content : List ℕ} {a m b : View} → Shows shown a m
    → IfKnown a.known (IsPrefix want shown) → n ≤ length shown → IsBytes (take n shown)
    → content ≡ take n shown → Advances n m b → Lends n content a b
lends_prefix {want = want} {n = n} {shown = shown} {a = a} {m = m}
    {b = b} s prefix within fresh is adv = record {
      kept = prefix_kept s prefix within fresh adv;
      at = λ xs known. (
        omega (arith, within, (prefix xs known).within),
        adv.known xs (s.known xs known),
        is ∙ prefix_is want n shown xs (prefix xs known) within,
      );
    }

-- the beginning of what was lent is the input's own, as all of that is
pub prefix_is_of_input : {want n : ℕ} {shown content : Bor (List ℕ)} {a m b : View}
    → Shows shown.now a m → IfKnown a.known (IsPrefix want shown.now) → n ≤ length shown.now
    → IsSubslice (Long shown) a → place_of content ≡ place_of shown → content.now ≡ take n shown.now
    → Advances n m b → IsOfInput content a b
prefix_is_of_input {want = want} {n = n} {shown = shown} s prefix within part same is adv xs
    known end
    ends ys left =
    let e : ys ≡ drop n xs = let d = adv.known xs (s.known xs known) in cc in
    part end (sym (adv.ends_at ∙ s.ends_at) ∙ ends) xs known
    ∙ ap₂ (λ i j. (i, j)) (sym (ap (λ (p : ℕ × ℕ). p.0) same))
    (omega (
      arith,
      ap (λ (p : ℕ × ℕ). p.1) same,
      ap length is,
      length-take-le n shown.now within,
      ap length e,
      length-drop n xs,
      within,
      (prefix xs known).within,
    ))

pub first_bytes : (k : ℕ) (bs : List ℕ) → ((i : ℕ) → get_or bs i 0 < 256) → IsBytes (take k bs)
first_bytes zero bs f = tt
first_bytes (suc k) [] f = tt
first_bytes (suc k) (b ∷ bs) f = (f 0, first_bytes k bs (λ i. f (suc i)))
