-- Trees one after another.
use Rattle.std.proofs.Common.{◌≡◌, ◌<◌, ◌+◌, ℕ, List, [], ◌∷◌, ◌++◌, length, drop, get_or}
use Rattle.std.proofs.Common.{Ok, Err, refl, sym, ap, rules}
use Rattle.std.proofs.lemmas.List.{append_assoc, map-append}
use Rattle.cbor4ii_tree.specs.Basis.View.{view, items_view, pairs_view}
use Rattle.cbor4ii_tree.specs.declared.value.Value.{Value}
use Rattle.cbor4ii.specs.Laws.Shown.{items_from, pairs_from}
use Rattle.cbor4ii_examples.specs.Told.{Told, told_as, told_then}
use Rattle.cbor4ii_examples.specs.Tree.{Node, NodeFields, node_pairs_at, children_at}
use Rattle.cbor4ii_examples.specs.Tree.{with_node_pair, node_at}
use Rattle.cbor4ii_examples.specs.Tree.{nodes_at}
use Rattle.cbor4ii_examples.specs.Tree.{tree_node, tree_nodes}
use Rattle.cbor4ii_examples.specs.declared.tree.Tree.{Tree}

-- a pair more
pub pairs-next : (ms : List (Value × Value)) (i : ℕ) (m : Value × Value) (s : NodeFields)
    (o : Told NodeFields) → i < length ms → m ≡ get_or ms i m
    → with_node_pair s (view m.0) (view m.1) (children_at (view m.1)) ≡ o
    → node_pairs_at (pairs_view (drop i ms)) s
    ≡ told_then (node_pairs_at (pairs_view (drop (i + 1) ms))) o
pairs-next ms i m s o lt is e = search (rules, pairs_from)

-- nodes, and those after them
abbrev pub after : List Node → Told (List Node) → Told (List Node)
after ns = told_as (λ ms. ns ++ ms)

abbrev pub more_told : Told Node → Told (List Node) → Told (List Node)
more_told told ns = told_then (λ n. told_as (λ ms. n ∷ ms) ns) told

-- a node more
pub nodes-next : (vs : List Value) (i : ℕ) (v : Value) (o : Told Node) → i < length vs
    → v ≡ get_or vs i v → node_at (view v) ≡ o
    → nodes_at (items_view (drop i vs)) ≡ more_told o (nodes_at (items_view (drop (i + 1) vs)))
nodes-next vs i v o lt is e = search (rules, items_from)

after-more : (ns : List Node) (n : Node) (o : Told (List Node))
    → after ns (more_told (Ok n) o) ≡ after (ns ++ n ∷ []) o
after-more ns n (Err words) = refl
after-more ns n (Ok ms) = ap Ok (sym (append_assoc ns (n ∷ []) ms))

-- the same where its tree was put after those that were there
pub after-pushed : (trees : List Tree) (tree : Tree) (pushed : List Tree) (o : Told (List Node))
    → pushed ≡ trees ++ tree ∷ []
    → after (tree_nodes trees) (more_told (Ok (tree_node tree)) o) ≡ after (tree_nodes pushed) o
after-pushed trees tree pushed o e = search (rules, after-more, map-append)
