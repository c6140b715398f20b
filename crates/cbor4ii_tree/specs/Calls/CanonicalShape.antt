-- One encoding a value. A tree of canonical shape has every head shortest (RFC 8949 section 4.1),
-- no string in chunks, no array or map without a length, and null only as null. A canonical tree is
-- plain and has this shape.
use Rattle.std.specs.Prelude.{◌≡◌, ◌≢◌, ℕ, List, ◌++◌, length}
use Rattle.cbor4ii_items.specs.{Head.shortest_width, Initial.simple_undefined, Budget.CostFits}
use Rattle.cbor4ii_tree.specs.Basis.Tree.{Tree, int, string, chunked, array, array_indefinite}
use Rattle.cbor4ii_tree.specs.Basis.Tree.{map_of, map_indefinite, tagged, simple, bits, Trees}
use Rattle.cbor4ii_tree.specs.Basis.Tree.{no_trees, tree, Pairs, no_pairs, pair, count, pair_count}
use Rattle.cbor4ii_tree.specs.Basis.{Tree.{bytes, Plain}, Item.{Item, IsItem}, Meaning.value}
use Rattle.cbor4ii_tree.specs.Basis.{Cost.{cost, Budget}, Canonical.with_bignums}

abbrev mutual
  pub CanonicalShape : Tree → Type 0
  CanonicalShape (int s n w) = w ≡ shortest_width n
  CanonicalShape (string k w content) = w ≡ shortest_width (length content)
  CanonicalShape (chunked k ts) = ⊥
  CanonicalShape (array w ts) = (w ≡ shortest_width (count ts)) × CanonicalShapeAll ts
  CanonicalShape (array_indefinite ts) = ⊥
  CanonicalShape (map_of w ps) = (w ≡ shortest_width (pair_count ps)) × CanonicalShapePairs ps
  CanonicalShape (map_indefinite ps) = ⊥
  CanonicalShape (tagged n w t) = (w ≡ shortest_width n) × CanonicalShape t
  CanonicalShape (simple s) = s ≢ simple_undefined
  CanonicalShape (bits p n) = Unit {0}

  pub CanonicalShapeAll : Trees → Type 0
  CanonicalShapeAll no_trees = Unit {0}
  CanonicalShapeAll (tree t ts) = CanonicalShape t × CanonicalShapeAll ts

  pub CanonicalShapePairs : Pairs → Type 0
  CanonicalShapePairs no_pairs = Unit {0}
  CanonicalShapePairs (pair k v ps) = CanonicalShape k × CanonicalShape v × CanonicalShapePairs ps

abbrev pub CanonicalTree : Tree → Type 0
CanonicalTree t = Plain t × CanonicalShape t

-- Larger integers are read as tags (section 3.4.3).
-- A value that reading gives: one of the program whose integers all have a head.
abbrev pub IsDecoded : Item → Type 0
IsDecoded v = IsItem v × (with_bignums v ≡ v)

-- The text is the bytes of a canonical tree of the value, which takes so many steps to read.
pub record EncodesCanonically (encoding : List ℕ) (v : Item) (steps : ℕ) : Type 0 where
  pub of_tree : Tree
  pub canonical : CanonicalTree of_tree
  pub bytes_are : bytes of_tree ≡ encoding
  pub value_is : value of_tree ≡ v
  pub cost_is : cost of_tree ≡ steps

-- The bytes of a canonical tree whose cost fits begin the input, and the rest follows them.
pub record DecodesCanonically (input : List ℕ) (budget : Budget) (v : Item)
    (rest : List ℕ) : Type 0 where
  pub encoding : List ℕ
  pub steps : ℕ
  pub encodes : EncodesCanonically encoding v steps
  pub fits : CostFits steps budget
  pub begins : input ≡ encoding ++ rest
