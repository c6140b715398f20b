-- That what is written for a tree is read back.
use Rattle.std.proofs.Common.{◌≡◌, ◌∙◌, ◌^◌, ℕ, List, [], ◌∷◌, map, Ok, Err, refl, sym}
use Rattle.std.proofs.Common.{ap, ap₂, subst, arith}
use Rattle.std.proofs.lemmas.Bool.{lt-ltb}
use Rattle.std.specs.Prelude.{if◌then◌else◌, codes}
use Rattle.cbor4ii_tree.specs.Basis.Item.{ItemPairs, text, sequence, item_pair, no_item_pairs}
use Rattle.cbor4ii_ser.specs.Item.{Encoding}
use Rattle.cbor4ii.specs.Held.{IsWrittenAs, AreWrittenAs}
use Rattle.cbor4ii.specs.Laws.Held.{unsigned_as, string_as, vector_as, no_parts, part_before}
use Rattle.cbor4ii.specs.Laws.Held.{field_before, no_pairs_written, struct_as}
use Rattle.cbor4ii.specs.declared.serde.de.place.Single.TheVariants.{Absent, Present}
use Rattle.cbor4ii_examples.specs.Told.{told_as, told_then, IsToldBack}
use Rattle.cbor4ii_examples.specs.Tree.{Node, node, Nodes, no_nodes, more, nodes_of, node_step}
use Rattle.cbor4ii_examples.specs.Tree.{tree_node, tree_step, tree_item, node_at, nodes_at}
use Rattle.cbor4ii_examples.specs.Tree.{node_pairs_at, node_from, node_item, nodes_items, IsNode}
use Rattle.cbor4ii_examples.specs.Tree.{AreNodes}
use Rattle.cbor4ii_examples.specs.declared.tree.Tree.{Tree, roll-Tree, map-Tree}
use Rattle.cbor4ii_examples.specs.declared.tree.Tree.TheFolds.{ind-Tree, fold-roll-Tree}
use Rattle.cbor4ii_examples.specs.declared.tree.Tree.TheOpen.{Tree-F}

-- ---- the item of a node stands for it

abbrev list_of : Nodes → List Node
list_of no_nodes = []
list_of (more n ns) = n ∷ list_of ns

nodes_of_list : (ns : Nodes) → nodes_of (list_of ns) ≡ ns
nodes_of_list no_nodes = refl
nodes_of_list (more n ns) = ap (more n) (nodes_of_list ns)

abbrev after_id : List ℕ → Nodes → ItemPairs
after_id name ns = item_pair (text (codes "name")) (text name)
    (item_pair (text (codes "children")) (sequence (nodes_items ns)) no_item_pairs)

mutual
  node_read : (n : Node) → IsNode n → node_at (node_item n) ≡ Ok n
  node_read (node id name ns) h =
      ap (λ t. told_then node_from (told_then (node_pairs_at (after_id name ns)) (told_as (λ n.
      record { id = Present n; name = Absent; children = Absent })
      (if t then Ok id else Err (codes "an id is a number below 2^64")))))
      (lt-ltb id (2 ^ 64) h.0)
      ∙ ap (λ o. told_then node_from (told_then (node_pairs_at no_item_pairs) (told_as (λ below.
      record { id = Present id; name = Present name; children = Present below }) o)))
      (nodes_read ns h.1)
      ∙ ap (λ below. Ok (node id name below)) (nodes_of_list ns)

  nodes_read : (ns : Nodes) → AreNodes ns → nodes_at (nodes_items ns) ≡ Ok (list_of ns)
  nodes_read no_nodes h = refl
  nodes_read (more n ns) h = ap₂ (λ a o. told_then (λ n. told_as (λ ns. n ∷ ns) o) a)
      (node_read n h.0) (nodes_read ns h.1)

-- ---- a tree is written as the item of its node

abbrev NodeIsWritten : Encoding → Node → Type 0
NodeIsWritten encoding n = IsNode n → IsWrittenAs encoding (node_item n)

abbrev IsTreeWritten : Tree → Type 0
IsTreeWritten t = NodeIsWritten (tree_item t) (tree_node t)

abbrev AreWritten : List Tree → Type 0
AreWritten ts = AreNodes (nodes_of (map tree_node ts))
    → AreWrittenAs (map tree_item ts) (nodes_items (nodes_of (map tree_node ts)))

children_written : (ts : List ((t : Tree) × IsTreeWritten t)) → AreWritten (map (λ e. e.0) ts)
children_written [] h = no_parts
children_written (e ∷ ts) h = part_before (e.1 h.0) (children_written ts h.1)

module _ (x : Tree-F Tree) (below : AreWritten x.children.items) where
  layer_written : NodeIsWritten (tree_step (map-Tree Tree Encoding tree_item x))
      (node_step (map-Tree Tree Node tree_node x))
  layer_written h =
      struct_as (field_before (codes "id") refl (unsigned_as x.id h.0)
      (field_before (codes "name") refl (string_as x.name)
      (field_before (codes "children") refl (vector_as tree_item x.children (below h.1))
      no_pairs_written))) (omega arith)

  rolled_written : IsTreeWritten (roll-Tree x)
  rolled_written =
      subst (λ (e : Encoding). NodeIsWritten e (tree_node (roll-Tree x)))
      (sym (fold-roll-Tree Encoding tree_step x))
      (subst (NodeIsWritten (tree_step (map-Tree Tree Encoding tree_item x)))
      (sym (fold-roll-Tree Node node_step x)) layer_written)

-- y is x with a proof beside each node below it
tree_written : (t : Tree) → IsTreeWritten t
tree_written = ind-Tree IsTreeWritten (λ x y is.
    rolled_written x
    (subst (λ z. AreWritten z.children.items) is (children_written y.children.items)))

-- a tree is read back
pub tree_back : IsToldBack node_at tree_node tree_item node_item IsNode
tree_back = record { written = tree_written; read = node_read }
