-- What it is for the bytes that are written to be one item (RFC 8949 section 1.2: encoded data
-- item): they are those of one tree.
use Rattle.std.specs.Prelude.{◌≡◌, ℕ, List, ◌++◌, length, Option}
use Rattle.cbor4ii_items.specs.Head.{shortest_width}
use Rattle.cbor4ii_tree.specs.Basis.Tree.{Tree, int, string, chunked, array, array_indefinite}
use Rattle.cbor4ii_tree.specs.Basis.Tree.{map_of}
use Rattle.cbor4ii_tree.specs.Basis.Tree.{map_indefinite}
use Rattle.cbor4ii_tree.specs.Basis.Tree.{tagged, simple, bits, Trees, no_trees, tree, Pairs}
use Rattle.cbor4ii_tree.specs.Basis.Tree.{no_pairs}
use Rattle.cbor4ii_tree.specs.Basis.Tree.{pair, count, pair_count, bytes, Plain}
use Rattle.cbor4ii_tree.specs.Basis.Item.{Item}
use Rattle.cbor4ii_tree.specs.Basis.Cost.{Budget}
use Rattle.cbor4ii_tree.specs.Basis.Encodings.{Encodes, DecodesTo, Skips}
use Rattle.cbor4ii_tree.specs.Calls.CanonicalShape.{CanonicalTree, EncodesCanonically}
use Rattle.cbor4ii_tree.specs.Calls.CanonicalShape.{DecodesCanonically}
use Rattle.cbor4ii_items.specs.Budget.{CostFits}
use Rattle.cbor4ii_ser.specs.Item.{Encoding, encoded, one_then, IfEncoded}
use Rattle.cbor4ii_ser.specs.Counts.{container_head, container_end}

-- Every head of the tree is the shortest (RFC 8949 section 4.1). A length may be indefinite.
abbrev mutual
  pub ShortestHeads : Tree → Type 0
  ShortestHeads (int s n w) = w ≡ shortest_width n
  ShortestHeads (string k w content) = w ≡ shortest_width (length content)
  ShortestHeads (chunked k ts) = AllShortestHeads ts
  ShortestHeads (array w ts) = (w ≡ shortest_width (count ts)) × AllShortestHeads ts
  ShortestHeads (array_indefinite ts) = AllShortestHeads ts
  ShortestHeads (map_of w ps) = (w ≡ shortest_width (pair_count ps)) × PairsShortestHeads ps
  ShortestHeads (map_indefinite ps) = PairsShortestHeads ps
  ShortestHeads (tagged n w t) = (w ≡ shortest_width n) × ShortestHeads t
  ShortestHeads (simple s) = Unit {0}
  ShortestHeads (bits p n) = Unit {0}

  pub AllShortestHeads : Trees → Type 0
  AllShortestHeads no_trees = Unit {0}
  AllShortestHeads (tree t ts) = ShortestHeads t × AllShortestHeads ts

  pub PairsShortestHeads : Pairs → Type 0
  PairsShortestHeads no_pairs = Unit {0}
  PairsShortestHeads (pair k v ps) = ShortestHeads k × ShortestHeads v × PairsShortestHeads ps

-- how an item is encoded: by shortest heads alone, or canonically, in which every length is given
pub data Form : Type 0 where
  shortest_heads canonical : Form

-- a plain tree of this form
abbrev pub IsOfForm : Form → Tree → Type 0
IsOfForm shortest_heads t = Plain t × ShortestHeads t
IsOfForm canonical t = CanonicalTree t

-- The bytes are those of one tree of this form.
pub record OneItem (form : Form) (encoding : List ℕ) : Type 0 where
  pub of_tree : Tree
  pub formed : IsOfForm form of_tree
  pub bytes_are : bytes of_tree ≡ encoding

-- what is written, where no value is rejected, is one item of this form
abbrev pub IsOneItem : Form → Encoding → Type 0
IsOneItem form item = IfEncoded item (OneItem form)

-- The bytes are those of two trees of this form, a key and its value after it.
pub record OnePair (form : Form) (encoding : List ℕ) : Type 0 where
  pub key : Tree
  pub held : Tree
  pub key_formed : IsOfForm form key
  pub held_formed : IsOfForm form held
  pub bytes_are : bytes key ++ bytes held ≡ encoding

-- what is written, where no value is rejected, is one pair of a map, of this form
abbrev pub IsOnePair : Form → Encoding → Type 0
IsOnePair form entry = IfEncoded entry (OnePair form)

-- an array (4) or a map (5) around parts written in turn: so many, or any number up to a break
abbrev pub collected_encoding : ℕ → Option ℕ → Encoding → Encoding
collected_encoding major len inner =
    one_then (encoded (container_head major len)) (one_then inner (encoded (container_end len)))

-- The bytes encode the value, are read as it and skipped, whatever follows, where the steps fit.
pub record IsReadWhole (encoding : List ℕ) (v : Item) (steps : ℕ) : Type 0 where
  pub encodes : Encodes encoding v steps
  pub reads : (rest : List ℕ) (budget : Budget) → CostFits steps budget
      → DecodesTo (encoding ++ rest) budget v rest
  pub skips : (rest : List ℕ) (budget : Budget) → CostFits steps budget
      → (t : Tree) × Skips (encoding ++ rest) budget t rest

-- The bytes encode the value canonically, and are read so, whatever follows, where the steps fit.
pub record IsReadCanonically (encoding : List ℕ) (v : Item) (steps : ℕ) : Type 0 where
  pub encodes : EncodesCanonically encoding v steps
  pub reads : (rest : List ℕ) (budget : Budget) → CostFits steps budget
      → DecodesCanonically (encoding ++ rest) budget v rest
