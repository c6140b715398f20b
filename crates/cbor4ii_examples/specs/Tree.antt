-- Nodes below a node, as maps in a map: how they are written, and which items are read as such.
use Rattle.std.specs.Prelude.{ℕ, ◌^◌, ◌<◌, pos, List, [], ◌∷◌, Ok, Err}
use Rattle.std.specs.Prelude.{codes, bytes_eq, if◌then◌else◌, string_bytes, map}
use Rattle.std.specs.declared.alloc.Global.{Global}
use Rattle.std.specs.declared.vec.Vec.{Vec}
use Rattle.cbor4ii_items.specs.Numbers.{shortest_head}
use Rattle.cbor4ii_items.specs.Strings.{definite_string}
use Rattle.cbor4ii_tree.specs.Basis.Item.{Item, Items, ItemPairs, integer, text, sequence, mapping}
use Rattle.cbor4ii_tree.specs.Basis.Item.{item}
use Rattle.cbor4ii_tree.specs.Basis.Item.{no_items, item_pair, no_item_pairs}
use Rattle.cbor4ii_ser.specs.Item.{Encoding, encoded, field, struct_encoding, array_encoding}
use Rattle.cbor4ii.specs.Places.{put_only}
use Rattle.cbor4ii.specs.Presence.{both_or_words}
use Rattle.cbor4ii.specs.declared.serde.de.place.Single.{Single}
use Rattle.cbor4ii.specs.declared.serde.de.place.Single.TheVariants.{Absent}
use Rattle.cbor4ii_examples.specs.Told.{Told, told_as, told_then, number_at, text_at, the_one}
use Rattle.cbor4ii_examples.specs.Told.{single_as}
use Rattle.cbor4ii_examples.specs.declared.tree.Found.{Found}
use Rattle.cbor4ii_examples.specs.declared.tree.Tree.{Tree, fold-Tree}
use Rattle.cbor4ii_examples.specs.declared.tree.Tree.TheOpen.{Tree-F}

-- ---- trees

-- a tree, wherever it lies in memory
mutual
  pub data Node : Type 0 where
    node : ℕ → List ℕ → Nodes → Node

  pub data Nodes : Type 0 where
    no_nodes : Nodes
    more : Node → Nodes → Nodes

abbrev pub nodes_of : List Node → Nodes
nodes_of [] = no_nodes
nodes_of (n ∷ ns) = more n (nodes_of ns)

abbrev pub node_step : Tree-F Node → Node
node_step t = node t.id (string_bytes t.name) (nodes_of t.children.items)

abbrev pub tree_node : Tree → Node
tree_node = fold-Tree Node node_step

abbrev pub tree_nodes : List Tree → List Node
tree_nodes trees = map tree_node trees

abbrev pub vector_nodes : Vec Tree Global → List Node
vector_nodes trees = tree_nodes trees.items

-- ---- written

-- one node, with what is written for each node below it in its place
abbrev pub tree_step : Tree-F Encoding → Encoding
tree_step tree = struct_encoding (field (codes "id") (encoded (shortest_head 0 tree.id))
    ∷ field (codes "name") (encoded (definite_string 3 (string_bytes tree.name)))
    ∷ field (codes "children") (array_encoding (λ item. item) tree.children.items) ∷ [])

abbrev pub tree_item : Tree → Encoding
tree_item = fold-Tree Encoding tree_step

-- ---- read

-- the fields of a node that were seen so far
pub record NodeFields : Type 0 where
  pub id : Single ℕ
  pub name : Single (List ℕ)
  pub children : Single (List Node)

abbrev pub node_fields : Found → NodeFields
node_fields f = record {
  id = f.id;
  name = single_as string_bytes f.name;
  children = single_as vector_nodes f.children;
}

abbrev pub nothing_seen : NodeFields
nothing_seen = record { id = Absent; name = Absent; children = Absent }

-- the fields after one more, of which the nodes that its value may stand for are given
abbrev pub with_node_field : NodeFields → List ℕ → Item → Told (List Node) → Told NodeFields
with_node_field s name v below = if bytes_eq name (codes "id")
    then told_as (λ n. record s { id = put_only n s.id })
    (number_at 18446744073709551616 (codes "an id is a number below 2^64") v)
    else (if bytes_eq name (codes "name")
    then told_as (λ bs. record s { name = put_only bs s.name })
    (text_at (codes "a name is a text") v)
    else (if bytes_eq name (codes "children")
    then told_as (λ ns. record s { children = put_only ns s.children }) below
    else Ok s))

abbrev pub with_node_pair : NodeFields → Item → Item → Told (List Node) → Told NodeFields
with_node_pair s k v below = told_then (λ name. with_node_field s name v below)
    (text_at (codes "the name of a field is a text") k)

-- a node has each of its fields once
abbrev pub node_from : NodeFields → Told Node
node_from s = told_as (λ parts. node parts.0 parts.1.0 (nodes_of parts.1.1))
    (both_or_words (the_one (codes "a tree has one id") s.id)
    (both_or_words (the_one (codes "a tree has one name") s.name)
    (the_one (codes "a tree has one list of children") s.children)))

-- What an item stands for is that of a struct of a number, a text and an array of nodes, level by
-- level: a map from texts, in any order, of which other names are skipped.
abbrev mutual
  pub node_at : Item → Told Node
  node_at (mapping ms) = told_then node_from (node_pairs_at ms nothing_seen)
  node_at _ = Err (codes "a tree is a map")

  pub node_pairs_at : ItemPairs → NodeFields → Told NodeFields
  node_pairs_at no_item_pairs s = Ok s
  node_pairs_at (item_pair k v ms) s =
      told_then (node_pairs_at ms) (with_node_pair s k v (children_at v))

  pub children_at : Item → Told (List Node)
  children_at (sequence vs) = nodes_at vs
  children_at _ = Err (codes "children are an array")

  pub nodes_at : Items → Told (List Node)
  nodes_at no_items = Ok []
  nodes_at (item v vs) = told_then (λ n. told_as (λ ns. n ∷ ns) (nodes_at vs)) (node_at v)

-- ---- read back

-- the item of a node: what stands for it, and is written for it
abbrev mutual
  pub node_item : Node → Item
  node_item (node id name children) =
      mapping (item_pair (text (codes "id")) (integer (pos id))
      (item_pair (text (codes "name")) (text name)
      (item_pair (text (codes "children")) (sequence (nodes_items children)) no_item_pairs)))

  pub nodes_items : Nodes → Items
  nodes_items no_nodes = no_items
  nodes_items (more n ns) = item (node_item n) (nodes_items ns)

-- each number is one of the program's
abbrev mutual
  pub IsNode : Node → Type 0
  IsNode (node id name children) = (id < 2 ^ 64) × AreNodes children

  pub AreNodes : Nodes → Type 0
  AreNodes no_nodes = Unit {0}
  AreNodes (more n ns) = IsNode n × AreNodes ns
