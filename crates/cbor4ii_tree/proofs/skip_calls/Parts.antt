-- Items that are skipped one after another.
use Rattle.std.proofs.Common.{◌≡◌, ◌≢◌, ℕ, ◌+◌, ◌<◌, List, [], ◌∷◌, ◌++◌, true, false, refl, sym}
use Rattle.std.proofs.Common.{ap, ap₂, ◌∙◌, take, drop, arith, subst, ◌≤◌, append-nil, suc, ◌*◌}
use Rattle.std.proofs.Common.{◌/◌, ◌%◌, Bool, cond, not, inl, inr, append_assoc, rules}
use Rattle.cbor4ii_items.specs.{Head.break, Strings.ReadsBreak}
use Rattle.cbor4ii_tree.proofs.parts.Pushed.{join, count-join, each-join, bytes-join, push}
use Rattle.cbor4ii_tree.proofs.parts.Pushed.{count-push, each-push, bytes-push}
use Rattle.cbor4ii_tree.proofs.{parts.Rejecting.in_count, parts.Prefixes.paired}
use Rattle.cbor4ii_tree.specs.Inner.Skipping.{SkipsOne, RejectsSkippingOne, SkipsItems}
use Rattle.cbor4ii_tree.specs.Inner.Skipping.{RejectsSkippingItems, SkipsIndefinite}
use Rattle.cbor4ii_tree.specs.Inner.Skipping.{RejectsSkippingIndefinite, SkipsPairs}
use Rattle.cbor4ii_tree.specs.{Inner.Skipping.RejectsSkippingPairs, Calls.SkippingRejects.Skippable}
use Rattle.cbor4ii_tree.specs.{Basis.Cost.Budget, Basis.InputError.InputError, Inner.Ahead.NotBreak}
use Rattle.cbor4ii_tree.specs.Inner.Ahead.{in_map, IsIndefinite, RejectsSome}
use Rattle.cbor4ii_tree.specs.Calls.Rejections.{Rejection, Each, NoBreak, EachPair}
use Rattle.cbor4ii_tree.specs.Basis.Tree.{Trees, no_trees, tree, count, bytes, bytes_all, Tree}
use Rattle.cbor4ii_tree.specs.Basis.Tree.{Pairs, no_pairs, pair, bytes_pairs}

-- whole items
abbrev pub SkippedEach : Budget → List ℕ → List ℕ → Type 0
SkippedEach budget xs ys = (ts : Trees) × Each (Skippable budget) ts × (xs ≡ bytes_all ts ++ ys)

pub items_join : (n m : ℕ) (budget : Budget) (xs ys zs : List ℕ) → SkipsItems n budget xs ys
    → SkipsItems m budget ys zs → SkipsItems (n + m) budget xs zs
items_join n m budget xs ys zs h k = search (rules, count-join, ◌+◌, each-join, bytes-join)

pub each_join : (m : ℕ) (budget : Budget) (xs ys zs : List ℕ) → SkippedEach budget xs ys
    → SkipsItems m budget ys zs → SkippedEach budget xs zs
each_join m budget xs ys zs h k =
    let r = items_join (count h.0) m budget xs ys zs (h.0, refl, h.1, h.2) k in (r.0, r.2, r.3)

pub items_none : (budget : Budget) (xs : List ℕ) → SkipsItems 0 budget xs xs
items_none budget xs = (no_trees, refl, tt, refl)

pub each_none : (budget : Budget) (xs : List ℕ) → SkippedEach budget xs xs
each_none budget xs = (no_trees, tt, refl)

pub items_more : (n : ℕ) (budget : Budget) (xs ys zs : List ℕ) → SkipsItems n budget xs ys
    → SkipsOne budget ys zs → SkipsItems (n + 1) budget xs zs
items_more n budget xs ys zs h k = (
  push h.0 k.0,
  count-push h.0 k.0 ∙ ap (λ j. j + 1) h.1,
  each-push (Skippable budget) h.0 k.0 h.2 (k.1.loose, k.1.fits),
  h.3 ∙ ap (λ r. bytes_all h.0 ++ r) k.1.begins ∙ sym (bytes-push h.0 k.0 zs),
)

pub items_one : (budget : Budget) (xs ys : List ℕ) → SkipsOne budget xs ys
    → SkipsItems 1 budget xs ys
items_one budget xs ys k = items_more 0 budget xs xs ys (items_none budget xs) k

pub items_stop : (i n : ℕ) (budget : Budget) (xs ys : List ℕ) (e : InputError) (rest : List ℕ)
    → i < n → SkipsItems i budget xs ys → RejectsSkippingOne budget ys e rest
    → RejectsSkippingItems n budget xs e rest
items_stop i n budget xs ys e rest lt h s = in_count h.0 ys (omega (arith, h.1)) h.2 h.3 s

-- so many, and one of as many more that is rejected
pub items_later : (n m total : ℕ) (budget : Budget) (xs ys : List ℕ) (e : InputError)
    (rest : List ℕ) → n + m ≡ total → SkipsItems n budget xs ys
    → RejectsSkippingItems m budget ys e rest → RejectsSkippingItems total budget xs e rest
items_later n m total budget xs ys e rest sum h k =
    in_count (join h.0 k.prefix) k.after (omega (arith, count-join h.0 k.prefix, h.1, k.few, sum))
    (each-join (Skippable budget) h.0 k.prefix h.2 k.whole) (h.3 ∙ ap (λ r. bytes_all h.0 ++ r) k.is
    ∙ sym (bytes-join h.0 k.prefix k.after)) k.rejected

pub first_stop : (n : ℕ) (budget : Budget) (xs : List ℕ) (e : InputError) (rest : List ℕ) → 1 ≤ n
    → RejectsSkippingOne budget xs e rest → RejectsSkippingItems n budget xs e rest
first_stop n budget xs e rest some s =
    items_stop 0 n budget xs xs e rest (omega (arith, some)) (items_none budget xs) s

pub only_one : (budget : Budget) (xs ys : List ℕ) → SkipsItems 1 budget xs ys
    → SkipsOne budget xs ys
only_one budget xs ys (no_trees, c, w, is) = absurd (omega (arith, c))
only_one budget xs ys (tree t no_trees, c, w, is) = search (rules, append-nil)
only_one budget xs ys (tree t (tree u us), c, w, is) = absurd (omega (arith, c))

-- the first of one is rejected
pub first_of : (budget : Budget) (xs : List ℕ) (e : InputError) (rest : List ℕ)
    → RejectsSkippingItems 1 budget xs e rest → RejectsSkippingOne budget xs e rest
first_of budget xs e rest h = at_first h.prefix h.few h.is
  where
    at_first : (ts : Trees) → count ts < 1 → xs ≡ bytes_all ts ++ h.after
        → RejectsSkippingOne budget xs e rest
    at_first no_trees f is = subst (λ x. RejectsSkippingOne budget x e rest) (sym is) h.rejected
    at_first (tree t ts) f is = absurd (omega (arith, f))

pub no_break : (S : Rejection) (ys : List ℕ) (e : InputError) (rest : List ℕ) → NotBreak ys
    → S ys e rest → NoBreak S ys e rest
no_break S [] e rest other s = absurd (other.0 refl)
no_break S (b ∷ bs) e rest other s = ((λ f. other.1 bs (ap (λ c. c ∷ bs) f)), s)

pub indefinite_stop : (budget : Budget) (xs ys : List ℕ) (e : InputError) (rest : List ℕ)
    → SkippedEach budget xs ys → NoBreak (RejectsSkippingOne budget) ys e rest
    → RejectsSkippingIndefinite budget xs e rest
indefinite_stop budget xs ys e rest h s =
    record { prefix = h.0; after = ys; whole = h.1; is = h.2; rejected = s }

pub indefinite_done : (budget : Budget) (xs ys zs : List ℕ) → SkippedEach budget xs ys
    → ys ≡ break ∷ zs → SkipsIndefinite budget xs zs
indefinite_done budget xs ys zs h e = (h.0, h.1, h.2 ∙ ap (λ r. bytes_all h.0 ++ r) e)

-- ---- breaks

pub after_break : (xs : List ℕ) (n c : ℕ) → ReadsBreak xs true n c → xs ≡ break ∷ drop n xs
after_break [] n c r = let e = r.0 in cc
after_break (x ∷ xs) n c r =
    let e = r.0 in let f : x ≡ break = cc in ap₂ ◌∷◌ f (ap (λ j. drop j (x ∷ xs)) (sym r.1))

abbrev pub IsOther : List ℕ → List ℕ → Type 0
IsOther xs ys = (ys ≡ xs) × (xs ≢ []) × ((bs : List ℕ) → xs ≡ break ∷ bs → ⊥)

pub other_byte : (xs : List ℕ) (n c : ℕ) → ReadsBreak xs false n c → IsOther xs (drop n xs)
other_byte xs n c r = (ap (λ j. drop j xs) r.2, r.0, λ bs e. r.1 (ap (take 1) e))

-- ---- maps: so many items are whole pairs, or whole pairs and a key

odd_pairs : (W : Tree → Type 0) (n : ℕ) (ts : Trees) → count ts ≡ 2 * n + 1 → Each W ts
    → (ps : Pairs) × (k : Tree) × EachPair W ps × W k × (bytes_all ts ≡ bytes_pairs ps ++ bytes k)
odd_pairs W n (tree k no_trees) c w = (no_pairs, k, tt, w.0, append-nil (bytes k))
odd_pairs W (suc n) (tree k (tree v ts)) c w =
    let r = odd_pairs W n ts (omega (arith, c)) w.1.1 in (
      pair k v r.0,
      r.1,
      (w.0, w.1.0, r.2),
      r.3,
      rw r.4 (simp append_assoc),
    )
odd_pairs W _ _ c w = absurd (omega (arith, c))

-- ---- in a map of indefinite length

-- so many items that a key is left without its value, or none is
abbrev pub Keyed : Bool → Budget → List ℕ → List ℕ → Type 0
Keyed keyed budget xs ys = (n : ℕ) × (n % 2 ≡ cond keyed 1 0) × SkipsItems n budget xs ys

pub keyed_none : (budget : Budget) (xs : List ℕ) → Keyed false budget xs xs
keyed_none budget xs = (0, refl, items_none budget xs)

-- as many more that it is the other way
pub keyed_turned : (keyed : Bool) (m : ℕ) (budget : Budget) (xs ys zs : List ℕ) → m % 2 ≡ 1
    → Keyed keyed budget xs ys → SkipsItems m budget ys zs → Keyed (not keyed) budget xs zs
keyed_turned true m budget xs ys zs odd h k =
    (h.0 + m, omega (arith, h.1, odd), items_join h.0 m budget xs ys zs h.2 k)
keyed_turned false m budget xs ys zs odd h k =
    (h.0 + m, omega (arith, h.1, odd), items_join h.0 m budget xs ys zs h.2 k)

-- or as it was
pub keyed_kept : (keyed : Bool) (m : ℕ) (budget : Budget) (xs ys zs : List ℕ) → (m % 2 ≡ 1 → ⊥)
    → Keyed keyed budget xs ys → SkipsItems m budget ys zs → Keyed keyed budget xs zs
keyed_kept keyed m budget xs ys zs even h k =
    (h.0 + m, omega (arith, h.1, even), items_join h.0 m budget xs ys zs h.2 k)

pub keyed_done : (keyed : Bool) (budget : Budget) (xs ys zs : List ℕ) → Keyed keyed budget xs ys
    → IsIndefinite (in_map keyed) × (ys ≡ break ∷ zs) → SkipsPairs budget xs zs
keyed_done true budget xs ys zs h e = absurd e.0
keyed_done false budget xs ys zs (n, even, k) e =
    let r = paired (Skippable budget) (n / 2) k.0 (omega (arith, k.1, even)) k.2 in
    (r.0, r.2, k.3 ∙ ap₂ ◌++◌ (sym r.3) e.1)

pub keyed_stop : (keyed : Bool) (budget : Budget) (xs ys : List ℕ) (e : InputError)
    (rest : List ℕ) → Keyed keyed budget xs ys → RejectsSome (in_map keyed) budget ys e rest
    → RejectsSkippingPairs budget xs e rest
keyed_stop false budget xs ys e rest (n, even, k) s =
    let r = paired (Skippable budget) (n / 2) k.0 (omega (arith, k.1, even)) k.2 in record {
      prefix = r.0;
      after = ys;
      whole = r.2;
      is = k.3 ∙ ap (λ x. x ++ ys) (sym r.3);
      rejected = inl s;
    }
keyed_stop true budget xs ys e rest (n, odd, k) s =
    let r = odd_pairs (Skippable budget) (n / 2) k.0 (omega (arith, k.1, odd)) k.2 in record {
      prefix = r.0;
      after = bytes r.1 ++ ys;
      whole = r.2;
      is = k.3 ∙ ap (λ x. x ++ ys) r.4 ∙ append_assoc (bytes_pairs r.0) (bytes r.1) ys;
      rejected = inr (record { key = r.1; after = ys; whole = r.3; is = refl; rejected = s });
    }
