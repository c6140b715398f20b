-- Whole items, one after another, are read back, whatever follows them.
use Rattle.std.proofs.Common.{◌≡◌, ℕ, zero, suc, ◌<◌, ◌≤◌, List, ◌∷◌, ◌++◌, length, Ok, refl, ap}
use Rattle.std.proofs.Common.{◌∙◌, arith, subst, ne_eqb, append_assoc, length-append}
use Rattle.cbor4ii_items.specs.Head.{break}
use Rattle.cbor4ii_tree.specs.{Laws.Initials.{BeginsNoBreak, length-bytes-pos}, Calls.Parse.Parser}
use Rattle.cbor4ii_tree.specs.Calls.Parse.{◌>>=◌, trees_at, pairs_at, indefinite_trees_at}
use Rattle.cbor4ii_tree.specs.{Calls.Parse.indefinite_pairs_at, Calls.Rejections.{Each, EachPair}}
use Rattle.cbor4ii_tree.specs.Basis.Tree.{Tree, Trees, no_trees, tree, Pairs, no_pairs, pair, count}
use Rattle.cbor4ii_tree.specs.Basis.Tree.{pair_count, bytes, bytes_all, bytes_pairs}

-- below so many bytes, whole items are read back
abbrev pub Again : Parser Tree → (Tree → Type 0) → ℕ → Type 0
Again item Whole bound =
    (t : Tree) (x : List ℕ) → Whole t → length (bytes t ++ x) < bound
    → item (bytes t ++ x) ≡ Ok (t, x)

abbrev pub StartNoBreak : (Tree → Type 0) → Type 0
StartNoBreak Whole = (t : Tree) → Whole t → BeginsNoBreak (bytes t)

pub shorter : (a b : List ℕ) (bound : ℕ) → length (a ++ b) < bound → length b < bound
shorter a b bound h = omega (arith, length-append a b)

pub pair_split : (a b c x : List ℕ) → (a ++ (b ++ c)) ++ x ≡ a ++ (b ++ (c ++ x))
pair_split a b c x = simp append_assoc

-- a turn of an indefinite-length sequence reads an item
pub indefinite_turn : (item : Parser Tree) (n : ℕ) (bs x : List ℕ) → BeginsNoBreak bs
    → indefinite_trees_at item (suc n)
    (bs ++ x) ≡ (item (bs ++ x) >>= λ p. indefinite_trees_at item n p.1 >>= λ q. Ok
    (tree p.0 q.0, q.1))
unfolding indefinite_trees_at
indefinite_turn item n bs x h = rw (h.2, ne_eqb h.0 255 (omega arith)) refl

pub indefinite_pair_turn : (item : Parser Tree) (n : ℕ) (bs x : List ℕ) → BeginsNoBreak bs
    → indefinite_pairs_at item (suc n) (bs ++ x) ≡ (item (bs ++ x) >>= λ k. item k.1
    >>= λ v. indefinite_pairs_at item n v.1 >>= λ q. Ok (pair k.0 v.0 q.0, q.1))
unfolding indefinite_pairs_at
indefinite_pair_turn item n bs x h = rw (h.2, ne_eqb h.0 255 (omega arith)) refl

module _ (item : Parser Tree) (Whole : Tree → Type 0) (bound : ℕ) (a : Again item Whole bound) where
  pub trees_again : (ts : Trees) (x : List ℕ) → Each Whole ts → length (bytes_all ts ++ x) < bound
      → trees_at item (count ts) (bytes_all ts ++ x) ≡ Ok (ts, x)
  unfolding trees_at
  trees_again no_trees x w lt = refl
  trees_again (tree t ts) x w lt =
      let lt2 : length (bytes t ++ (bytes_all ts ++ x)) < bound =
      subst (λ y. length y < bound) (append_assoc (bytes t) (bytes_all ts) x) lt in
      rw (
        append_assoc (bytes t) (bytes_all ts) x,
        a t (bytes_all ts ++ x) w.0 lt2,
        trees_again ts x w.1 (shorter (bytes t) (bytes_all ts ++ x) bound lt2),
      ) refl

  pub pairs_again : (ps : Pairs) (x : List ℕ) → EachPair Whole ps
      → length (bytes_pairs ps ++ x) < bound
      → pairs_at item (pair_count ps) (bytes_pairs ps ++ x) ≡ Ok (ps, x)
  unfolding pairs_at
  pairs_again no_pairs x w lt = refl
  pairs_again (pair k v ps) x w lt =
      let rest : List ℕ = bytes_pairs ps ++ x in
      let same = pair_split (bytes k) (bytes v) (bytes_pairs ps) x in
      let lt2 : length (bytes k ++ (bytes v ++ rest)) < bound =
      subst (λ y. length y < bound) same lt in
      let lt3 : length (bytes v ++ rest) < bound = shorter (bytes k) (bytes v ++ rest) bound lt2 in
      rw (
        same,
        a k (bytes v ++ rest) w.0 lt2,
        a v rest w.1 lt3,
        pairs_again ps x w.2 (shorter (bytes v) rest bound lt3),
      ) refl

  module _ (s : StartNoBreak Whole) where
    -- where the bytes are no more than the turns, these are enough
    pub indefinite_trees_again : (ts : Trees) (n : ℕ) (x : List ℕ)
        → Each Whole ts → length (bytes_all ts ++ break ∷ x) ≤ n
        → length (bytes_all ts ++ break ∷ x) < bound
        → indefinite_trees_at item n (bytes_all ts ++ break ∷ x) ≡ Ok (ts, x)
    unfolding indefinite_trees_at
    indefinite_trees_again no_trees zero x w more lt = absurd (omega arith)
    indefinite_trees_again no_trees (suc n) x w more lt = refl
    indefinite_trees_again (tree t ts) zero x w more lt =
        absurd (omega (arith, length-append (bytes t ++ bytes_all ts) (break ∷ x)))
    indefinite_trees_again (tree t ts) (suc n) x w more lt =
        let rest : List ℕ = bytes_all ts ++ break ∷ x in
        let same : (bytes t ++ bytes_all ts) ++ break ∷ x ≡ bytes t ++ rest =
        append_assoc (bytes t) (bytes_all ts) (break ∷ x) in
        let lt2 : length (bytes t ++ rest) < bound = subst (λ y. length y < bound) same lt in
        let fewer : length rest ≤ n =
        omega (arith, ap length same, length-append (bytes t) rest, length-bytes-pos t) in
        ap (indefinite_trees_at item (suc n)) same
        ∙ (indefinite_turn item n (bytes t) rest (s t w.0) ∙ rw (
          a t rest w.0 lt2,
          indefinite_trees_again ts n x w.1 fewer (shorter (bytes t) rest bound lt2),
        ) refl)

    pub indefinite_pairs_again : (ps : Pairs) (n : ℕ) (x : List ℕ)
        → EachPair Whole ps → length (bytes_pairs ps ++ break ∷ x) ≤ n
        → length (bytes_pairs ps ++ break ∷ x) < bound
        → indefinite_pairs_at item n (bytes_pairs ps ++ break ∷ x) ≡ Ok (ps, x)
    unfolding indefinite_pairs_at
    indefinite_pairs_again no_pairs zero x w more lt = absurd (omega arith)
    indefinite_pairs_again no_pairs (suc n) x w more lt = refl
    indefinite_pairs_again (pair k v ps) zero x w more lt =
        absurd (omega (arith, length-append (bytes k ++ (bytes v ++ bytes_pairs ps)) (break ∷ x)))
    indefinite_pairs_again (pair k v ps) (suc n) x w more lt =
        let rest : List ℕ = bytes_pairs ps ++ break ∷ x in
        let same : (bytes k ++ (bytes v ++ bytes_pairs ps)) ++ break ∷ x ≡ bytes k
        ++ (bytes v ++ rest) = pair_split (bytes k) (bytes v) (bytes_pairs ps) (break ∷ x) in
        let lt2 : length (bytes k ++ (bytes v ++ rest)) < bound =
        subst (λ y. length y < bound) same lt in
        let lt3 : length (bytes v ++ rest) < bound =
        shorter (bytes k) (bytes v ++ rest) bound lt2 in
        let fewer : length rest ≤ n =
        omega (arith, ap length same, length-append {A = ℕ}, length-bytes-pos) in
        ap (indefinite_pairs_at item (suc n)) same
        ∙ (indefinite_pair_turn item n (bytes k) (bytes v ++ rest) (s k w.0)
        ∙ rw (
          a k (bytes v ++ rest) w.0 lt2,
          a v rest w.1 lt3,
          indefinite_pairs_again ps n x w.2 fewer (shorter (bytes v) rest bound lt3),
        ) refl)
