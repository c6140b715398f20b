-- A stable sort has one answer: that of inserting each element before the first that is not less.
use Rattle.std.proofs.Common.{rules}
use Rattle.std.proofs.Common.{◌≡◌, ℕ, suc, ◌<◌, ◌≤◌, List, [], ◌∷◌, length, get_or, Bool, true}
use Rattle.std.proofs.Common.{false, cond, not, ◌&&◌, filter, refl, sym, ap, ◌∙◌, subst, arith}
use Rattle.std.proofs.lemmas.List.Sorted.{sorted_far}
use Rattle.std.specs.Cmp.{IsStrictWeakOrder}
use Rattle.std.specs.List.Sorted.{IsSortedBy, IsStableBy, ties}

module _ {X : Type 0} (lt : X → X → Bool) where
  abbrev pub put : X → List X → List X
  put x [] = x ∷ []
  put x (y ∷ ys) = cond (lt y x) (y ∷ put x ys) (x ∷ y ∷ ys)

  abbrev pub put_all : List X → List X
  put_all [] = []
  put_all (x ∷ xs) = put x (put_all xs)

  -- none of them is less than x
  abbrev Above : X → List X → Type 0
  Above x [] = Unit {0}
  Above x (y ∷ ys) = (lt y x ≡ false) × Above x ys

  abbrev Up : List X → Type 0
  Up [] = Unit {0}
  Up (x ∷ xs) = Above x xs × Up xs

module _ {X : Type 0} (lt : X → X → Bool) (o : IsStrictWeakOrder lt) where
  not_less : (x : X) → lt x x ≡ false
  not_less x = by (lt x x) refl
    where
      by : (b : Bool) → lt x x ≡ b → lt x x ≡ false
      by true e = o.one_way x x e
      by false e = e

  tie : (x y : X) → lt x y ≡ false → lt y x ≡ false → ties lt x y ≡ true
  tie x y e f = rw (e, f) refl

  -- ---- what is sorted goes up

  above_from : (x : X) (xs : List X)
      → ((k : ℕ) → k < length xs → lt (get_or xs k x) x ≡ false) → Above lt x xs
  above_from x [] h = tt
  above_from x (y ∷ ys) h =
      (h 0 (omega arith), above_from x ys (λ k p. h (suc k) (omega arith)))

  up_from : (xs : List X) → ((i j : ℕ) (d : X) → i ≤ j → j < length xs
      → lt (get_or xs j d) (get_or xs i d) ≡ false) → Up lt xs
  up_from [] h = tt
  up_from (x ∷ xs) h = (
    above_from x xs (λ k p. h 0 (suc k) x (omega arith) (omega arith)),
    up_from xs (λ i j d p q. h (suc i) (suc j) d (omega arith) (omega arith)),
  )

  above_put : (x y : X) (ys : List X) → lt x y ≡ false → Above lt y ys → Above lt y (put lt x ys)
  above_put x y [] e h = (e, tt)
  above_put x y (z ∷ zs) e h = by (lt z x) (above_put x y zs e h.1)
    where
      by : (b : Bool) → Above lt y (put lt x zs)
          → Above lt y (cond b (z ∷ put lt x zs) (x ∷ z ∷ zs))
      by true more = (h.0, more)
      by false more = (e, h)

  above_more : (x y : X) (zs : List X) → lt y x ≡ false → Above lt y zs → Above lt x zs
  above_more x y [] e h = tt
  above_more x y (z ∷ zs) e h = (o.chain z y x h.0 e, above_more x y zs e h.1)

  up_put : (x : X) (ys : List X) → Up lt ys → Up lt (put lt x ys)
  up_put x [] u = (tt, tt)
  up_put x (y ∷ ys) u = by (lt y x) refl (up_put x ys u.1)
    where
      by : (b : Bool) → lt y x ≡ b → Up lt (put lt x ys)
          → Up lt (cond b (y ∷ put lt x ys) (x ∷ y ∷ ys))
      by true e more = (above_put x y ys (o.one_way y x e) u.0, more)
      by false e more = ((e, above_more x y ys e u.0), u)

  up_put_all : (xs : List X) → Up lt (put_all lt xs)
  up_put_all [] = tt
  up_put_all (x ∷ xs) = up_put x (put_all lt xs) (up_put_all xs)

  -- ---- what ties keeps its order

  both : (a b : Bool) → not a && not b ≡ true → (a ≡ false) × (b ≡ false)
  both false false e = (refl, refl)
  both true b e = cc
  both false true e = cc

  -- two that tie with one do not come one before the other
  apart : (a x y : X) → lt y x ≡ true → ties lt a x ≡ true → ties lt a y ≡ false
  apart a x y e f = by (ties lt a y) refl
    where
      by : (b : Bool) → ties lt a y ≡ b → ties lt a y ≡ false
      by false g = g
      by true g =
          let first = both (lt a x) (lt x a) f in
          let second = both (lt a y) (lt y a) g in
          let no : lt y x ≡ false = o.chain y a x second.1 first.0 in
          cc

  kept_put : (a x : X) (ys : List X)
      → filter (ties lt a) (put lt x ys) ≡ filter (ties lt a) (x ∷ ys)
  kept_put a x [] = refl
  kept_put a x (y ∷ ys) = by (lt y x) refl (ties lt a x) refl (kept_put a x ys)
    where
      with_first : Bool → List X → List X
      with_first c zs = cond c (x ∷ zs) zs

      by : (b : Bool) → lt y x ≡ b → (c : Bool) → ties lt a x ≡ c
          → filter (ties lt a) (put lt x ys) ≡ with_first (ties lt a x) (filter (ties lt a) ys)
          → filter (ties lt a) (cond b (y ∷ put lt x ys) (x ∷ y ∷ ys))
          ≡ with_first (ties lt a x) (filter (ties lt a) (y ∷ ys))
      by false e c f more = refl
      by true e true f more = rw (apart a x y e f) more
      by true e false f more =
          rw (f, more ∙ ap (λ t. with_first t (filter (ties lt a) ys)) f) refl

  kept_all : (a : X) (xs : List X) → filter (ties lt a) (put_all lt xs) ≡ filter (ties lt a) xs
  kept_all a [] = refl
  kept_all a (x ∷ xs) = search (rules, kept_put, (kept_all a xs))

  -- ---- one answer

  -- none that passes the test is less than what all are above
  among : (test : X → Bool) (y z : X) (zs r : List X) → filter test zs ≡ y ∷ r → Above lt z zs
      → lt y z ≡ false
  among test y z [] r e h = cc
  among test y z (w ∷ ws) r e h = by (test w) e (λ f. among test y z ws r f h.1)
    where
      by : (b : Bool) → cond b (w ∷ filter test ws) (filter test ws) ≡ y ∷ r
          → (filter test ws ≡ y ∷ r → lt y z ≡ false) → lt y z ≡ false
      by true f more = let same : w ≡ y = cc in subst (λ v. lt v z ≡ false) same h.0
      by false f more = more f

  rest_same : (b : Bool) (y : X) (r s : List X) → cond b (y ∷ r) r ≡ cond b (y ∷ s) s → r ≡ s
  rest_same true y r s e = cc
  rest_same false y r s e = e

  itself : (x : X) (xs : List X) → filter (ties lt x) (x ∷ xs) ≡ x ∷ filter (ties lt x) xs
  itself x xs = rw (tie x x (not_less x) (not_less x)) refl

  one_answer : (ys zs : List X) → Up lt ys → Up lt zs
      → ((x : X) → filter (ties lt x) ys ≡ filter (ties lt x) zs) → ys ≡ zs
  one_answer [] [] u w s = refl
  one_answer [] (z ∷ zs) u w s = let e = s z ∙ itself z zs in cc
  one_answer (y ∷ ys) [] u w s = let e = sym (itself y ys) ∙ s y in cc
  one_answer (y ∷ ys) (z ∷ zs) u w s =
      let left : filter (ties lt y) (z ∷ zs) ≡ y ∷ filter (ties lt y) ys =
      sym (s y) ∙ itself y ys in
      let right : filter (ties lt z) (y ∷ ys) ≡ z ∷ filter (ties lt z) zs =
      s z ∙ itself z zs in
      let no_less =
      among (ties lt y) y z (z ∷ zs) (filter (ties lt y) ys) left (not_less z, w.0) in
      let no_more =
      among (ties lt z) z y (y ∷ ys) (filter (ties lt z) zs) right (not_less y, u.0) in
      let first : filter (ties lt y) (z ∷ zs) ≡ z ∷ filter (ties lt y) zs =
      ap (λ t. cond t (z ∷ filter (ties lt y) zs) (filter (ties lt y) zs))
      (tie y z no_less no_more) in
      let same : y ≡ z = cc in
      let rest : ys ≡ zs =
      one_answer ys zs u.1 w.1 (λ x. rest_same (ties lt x y) y (filter (ties lt x) ys)
      (filter (ties lt x) zs) (s x ∙ ap (λ v. cond (ties lt x v) (v ∷ filter (ties lt x) zs)
      (filter (ties lt x) zs)) (sym same))) in
      cc

  pub stable_sort : (xs ys : List X) → IsSortedBy lt ys → IsStableBy lt xs ys
      → ys ≡ put_all lt xs
  stable_sort xs ys up stable =
      one_answer ys (put_all lt xs) (up_from ys (sorted_far lt o ys up)) (up_put_all xs)
      (λ x. stable x ∙ sym (kept_all x xs))
