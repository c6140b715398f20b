-- One more item after others, and one more pair.
use Rattle.std.proofs.Common.{◌≡◌, ℕ, ◌+◌, ◌*◌, List, [], ◌++◌, refl, ap, ◌∙◌, arith, append_assoc}
use Rattle.std.proofs.Common.{rules}
use Rattle.cbor4ii_tree.specs.Basis.Tree.{Tree, Trees, no_trees, tree, Pairs, no_pairs, pair, count}
use Rattle.cbor4ii_tree.specs.Basis.Tree.{pair_count, bytes, bytes_all, bytes_pairs}
use Rattle.cbor4ii_tree.specs.Calls.Rejections.{Each, EachPair}

-- ---- items after others, and pairs after others

unfoldable pub join : Trees → Trees → Trees
join no_trees us = us
join (tree t ts) us = tree t (join ts us)

pub count-join : (ts us : Trees) → count (join ts us) ≡ count ts + count us
unfolding join
count-join no_trees us = omega arith
count-join (tree t ts) us = omega (arith, count-join ts us)

pub each-join : (W : Tree → Type 0) (ts us : Trees) → Each W ts → Each W us → Each W (join ts us)
unfolding join
each-join W no_trees us h k = k
each-join W (tree t ts) us h k = (h.0, each-join W ts us h.1 k)

pub bytes_all-join : (ts us : Trees) → bytes_all (join ts us) ≡ bytes_all ts ++ bytes_all us
unfolding join
bytes_all-join no_trees us = refl
bytes_all-join (tree t ts) us = search (rules, append_assoc, (bytes_all-join ts us))

pub bytes-join : (ts us : Trees) (x : List ℕ)
    → bytes_all (join ts us) ++ x ≡ bytes_all ts ++ (bytes_all us ++ x)
bytes-join ts us x = rw (bytes_all-join ts us) (append_assoc (bytes_all ts) (bytes_all us) x)

unfoldable pub join_pairs : Pairs → Pairs → Pairs
join_pairs no_pairs qs = qs
join_pairs (pair k v ps) qs = pair k v (join_pairs ps qs)

pub each-join_pairs : (W : Tree → Type 0) (ps qs : Pairs) → EachPair W ps → EachPair W qs
    → EachPair W (join_pairs ps qs)
unfolding join_pairs
each-join_pairs W no_pairs qs h k = k
each-join_pairs W (pair j u ps) qs h k = (h.0, h.1, each-join_pairs W ps qs h.2 k)

pub bytes_pairs-join : (ps qs : Pairs)
    → bytes_pairs (join_pairs ps qs) ≡ bytes_pairs ps ++ bytes_pairs qs
unfolding join_pairs
bytes_pairs-join no_pairs qs = refl
bytes_pairs-join (pair j u ps) qs =
    ap (λ r. bytes j ++ (bytes u ++ r)) (bytes_pairs-join ps qs) ∙ simp append_assoc

unfoldable pub push : Trees → Tree → Trees
push no_trees t = tree t no_trees
push (tree u us) t = tree u (push us t)

pub count-push : (ts : Trees) (t : Tree) → count (push ts t) ≡ count ts + 1
unfolding push
count-push no_trees t = omega arith
count-push (tree u us) t = omega (arith, count-push us t)

pub each-push : (W : Tree → Type 0) (ts : Trees) (t : Tree) → Each W ts → W t → Each W (push ts t)
unfolding push
each-push W no_trees t h l = (l, tt)
each-push W (tree u us) t h l = (h.0, each-push W us t h.1 l)

pub bytes-push : (ts : Trees) (t : Tree) (x : List ℕ)
    → bytes_all (push ts t) ++ x ≡ bytes_all ts ++ (bytes t ++ x)
unfolding push
bytes-push no_trees t x = append_assoc (bytes t) [] x
bytes-push (tree u us) t x = search (rules, append_assoc, (bytes-push us t x))

-- the keys and the values, in turn
unfoldable pub flat : Pairs → Trees
flat no_pairs = no_trees
flat (pair k v ps) = tree k (tree v (flat ps))

pub count-flat : (ps : Pairs) → count (flat ps) ≡ 2 * pair_count ps
unfolding flat
count-flat no_pairs = refl
count-flat (pair k v ps) = omega (arith, count-flat ps)

pub each-flat : (W : Tree → Type 0) (ps : Pairs) → EachPair W ps → Each W (flat ps)
unfolding flat
each-flat W no_pairs h = tt
each-flat W (pair k v ps) h = (h.0, (h.1, each-flat W ps h.2))

pub bytes-flat : (ps : Pairs) → bytes_all (flat ps) ≡ bytes_pairs ps
unfolding flat
bytes-flat no_pairs = refl
bytes-flat (pair k v ps) = ap (λ r. bytes k ++ (bytes v ++ r)) (bytes-flat ps)
