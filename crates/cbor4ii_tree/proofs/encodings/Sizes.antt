-- A value is no larger than the bytes that encode it.
use Rattle.std.proofs.Common.{◌≡◌, ℕ, suc, ◌+◌, ◌^◌, ◌<◌, ◌≤◌, List, length, refl, ap, subst, arith}
use Rattle.std.proofs.Common.{length-append, lt-ltb}
use Rattle.cbor4ii_items.specs.Initial.{Sign, unsigned, negative, Kind, byte_string, text_string}
use Rattle.cbor4ii_items.specs.{Initial.simple_false, Laws.Heads.argument_below, Head.in_first}
use Rattle.cbor4ii_tree.specs.{Basis.Encodings.Encodes, Basis.Item.{Item, integer, item_count}}
use Rattle.cbor4ii_tree.specs.Basis.Item.{item_pair_count, IsItem, AreItems, AreItemPairs, size}
use Rattle.cbor4ii_tree.specs.{Basis.Item.{size_all, size_pairs}, Laws.Initials.length-bytes-pos}
use Rattle.cbor4ii_tree.specs.Basis.Meaning.{value, values, pair_values_of, content_item, number}
use Rattle.cbor4ii_tree.specs.Basis.Tree.{Tree, int, string, chunked, array, array_indefinite}
use Rattle.cbor4ii_tree.specs.Basis.Tree.{map_of, map_indefinite, tagged, simple, bits, Trees}
use Rattle.cbor4ii_tree.specs.Basis.Tree.{no_trees, tree, Pairs, no_pairs, pair, count, pair_count}
use Rattle.cbor4ii_tree.specs.Basis.Tree.{bytes, bytes_all, bytes_pairs, joined_chunks, Loose}
use Rattle.cbor4ii_tree.specs.Basis.Tree.{LooseAll, LoosePairs, SoundStrings, SoundStringsAll}
use Rattle.cbor4ii_tree.specs.Basis.Tree.{SoundStringsPairs, TextIsUtf8, AreChunks}
use Rattle.cbor4ii_tree.specs.Basis.Canonical.{canonical_tree, canonical_trees, canonical_pairs}
use Rattle.cbor4ii_tree.specs.{Basis.Canonical.integer_tree, Basis.Cost.{cost, chunks_cost}}
use Rattle.cbor4ii_tree.specs.Basis.Cost.{greatest_cost, greatest_pair_cost, skip_cost}
use Rattle.cbor4ii_tree.specs.Basis.Cost.{greatest_skip_cost, greatest_pair_skip_cost}

-- ---- skipping takes no more steps than reading, and the canonical encoding no more than any other

skip_cost-chunks : (k : Kind) (ts : Trees) → AreChunks k ts → greatest_skip_cost ts ≤ 1
skip_cost-chunks k no_trees h = omega arith
skip_cost-chunks k (tree (string j w content) ts) h = omega (arith, skip_cost-chunks k ts h.1)
skip_cost-chunks k (tree _ ts) h = absurd h.0

skip_cost-chunked : (k : Kind) (ts : Trees) → AreChunks k ts
    → 1 + greatest_skip_cost ts ≤ chunks_cost ts
skip_cost-chunked k no_trees h = omega arith
skip_cost-chunked k (tree t ts) h = omega (arith, skip_cost-chunks k (tree t ts) h)

mutual
  pub skip_cost-le : (t : Tree) → SoundStrings t → skip_cost t ≤ cost t
  skip_cost-le (chunked k ts) h = skip_cost-chunked k ts h.0
  skip_cost-le (array w ts) h = omega (arith, skip_cost-le_all ts h)
  skip_cost-le (array_indefinite ts) h = omega (arith, skip_cost-le_all ts h)
  skip_cost-le (map_of w ps) h = omega (arith, skip_cost-le_pairs ps h)
  skip_cost-le (map_indefinite ps) h = omega (arith, skip_cost-le_pairs ps h)
  skip_cost-le (tagged n w t) h = omega (arith, skip_cost-le t h)
  skip_cost-le _ h = omega arith

  skip_cost-le_all : (ts : Trees) → SoundStringsAll ts → greatest_skip_cost ts ≤ greatest_cost ts
  skip_cost-le_all no_trees h = omega arith
  skip_cost-le_all (tree t ts) h = omega (arith, skip_cost-le t h.0, skip_cost-le_all ts h.1)

  skip_cost-le_pairs : (ps : Pairs) → SoundStringsPairs ps
      → greatest_pair_skip_cost ps ≤ greatest_pair_cost ps
  skip_cost-le_pairs no_pairs h = omega arith
  skip_cost-le_pairs (pair k v ps) h =
      omega (arith, skip_cost-le k h.0, skip_cost-le v h.1, skip_cost-le_pairs ps h.2)

cost-integer_tree : (s : Sign) (n : ℕ) → n < 2 ^ 64 → cost (integer_tree s n) ≤ 1
cost-integer_tree s n h = rw (lt-ltb n (2 ^ 64) h) (omega arith)

cost-canonical_encoding-integer : (s : Sign) (n : ℕ) → n < 2 ^ 64
    → cost (canonical_tree (value (int s n in_first))) ≤ 1
cost-canonical_encoding-integer unsigned n h = cost-integer_tree unsigned n h
cost-canonical_encoding-integer negative n h = cost-integer_tree negative n h

cost-canonical_encoding-content : (k : Kind) (ts : Trees)
    → cost (canonical_tree (content_item k (joined_chunks ts))) ≤ chunks_cost ts
cost-canonical_encoding-content byte_string no_trees = omega arith
cost-canonical_encoding-content text_string no_trees = omega arith
cost-canonical_encoding-content byte_string (tree t ts) = omega arith
cost-canonical_encoding-content text_string (tree t ts) = omega arith

mutual
  -- of all encodings of a value that is read, the canonical one costs least
  pub cost-canonical_encoding : (t : Tree) → Loose t → cost (canonical_tree (value t)) ≤ cost t
  cost-canonical_encoding (int s n w) h = cost-canonical_encoding-integer s n (argument_below w n h)
  cost-canonical_encoding (string byte_string w content) h = omega arith
  cost-canonical_encoding (chunked k ts) h = cost-canonical_encoding-content k ts
  cost-canonical_encoding (array w ts) h = omega (arith, cost-canonical_all ts h.1)
  cost-canonical_encoding (array_indefinite ts) h = omega (arith, cost-canonical_all ts h)
  cost-canonical_encoding (map_of w ps) h = omega (arith, cost-canonical_pairs ps h.1)
  cost-canonical_encoding (map_indefinite ps) h = omega (arith, cost-canonical_pairs ps h)
  cost-canonical_encoding (tagged n w t) h = omega (arith, cost-canonical_encoding t h.1)
  cost-canonical_encoding (simple simple_false) h = omega arith
  cost-canonical_encoding _ h = omega arith

  cost-canonical_all : (ts : Trees) → LooseAll ts
      → greatest_cost (canonical_trees (values ts)) ≤ greatest_cost ts
  cost-canonical_all no_trees h = omega arith
  cost-canonical_all (tree t ts) h =
      omega (arith, cost-canonical_encoding t h.0, cost-canonical_all ts h.1)

  cost-canonical_pairs : (ps : Pairs) → LoosePairs ps
      → greatest_pair_cost (canonical_pairs (pair_values_of ps)) ≤ greatest_pair_cost ps
  cost-canonical_pairs no_pairs h = omega arith
  cost-canonical_pairs (pair k v ps) h =
      omega (
        arith,
        cost-canonical_encoding k h.0,
        cost-canonical_encoding v h.1,
        cost-canonical_pairs ps h.2,
      )

size-content : (k : Kind) (content : List ℕ) → size (content_item k content) ≤ 1 + length content
size-content byte_string content = omega arith
size-content text_string content = omega arith

length-joined : (ts : Trees) → length (joined_chunks ts) ≤ length (bytes_all ts)
length-joined no_trees = omega arith
length-joined (tree (string k w content) ts) =
    simp length-append (omega (arith, length-joined ts))
length-joined (tree t ts) = simp length-append (omega (arith, length-joined ts))

mutual
  pub size-value : (t : Tree) → size (value t) ≤ length (bytes t)
  size-value (string k w content) = simp length-append (omega (arith, size-content k content))
  size-value (chunked k ts) =
      simp length-append (omega (arith, size-content k (joined_chunks ts), length-joined ts))
  size-value (array w ts) = simp length-append (omega (arith, size-values ts))
  size-value (array_indefinite ts) = simp length-append (omega (arith, size-values ts))
  size-value (map_of w ps) = simp length-append (omega (arith, size-pair_values ps))
  size-value (map_indefinite ps) = simp length-append (omega (arith, size-pair_values ps))
  size-value (tagged n w t) = simp length-append (omega (arith, size-value t))
  size-value (simple simple_false) = omega arith
  size-value _ = omega arith

  size-values : (ts : Trees) → size_all (values ts) ≤ length (bytes_all ts)
  size-values no_trees = omega arith
  size-values (tree t ts) = simp length-append (omega (arith, size-value t, size-values ts))

  size-pair_values : (ps : Pairs) → size_pairs (pair_values_of ps) ≤ length (bytes_pairs ps)
  size-pair_values no_pairs = omega arith
  size-pair_values (pair k v ps) =
      simp length-append (omega (arith, size-value k, size-value v, size-pair_values ps))

-- ---- so fewer than 2 ^ 64 bytes encode a value of the program

pub integer-value : (s : Sign) (n : ℕ) → n < 2 ^ 64 → IsItem (integer (number s n))
integer-value unsigned n h = omega arith
integer-value negative n h = omega arith

pub content-value : (k : Kind) (content : List ℕ) → TextIsUtf8 k content → length content < 2 ^ 64
    → IsItem (content_item k content)
content-value byte_string content h lt = lt
content-value text_string content h lt = (lt, h)

pub item_count-values : (ts : Trees) → item_count (values ts) ≡ count ts
item_count-values no_trees = refl
item_count-values (tree t ts) = ap suc (item_count-values ts)

pub pair_count-values : (ps : Pairs) → item_pair_count (pair_values_of ps) ≡ pair_count ps
pair_count-values no_pairs = refl
pair_count-values (pair k v ps) = ap suc (pair_count-values ps)

count-le : (ts : Trees) → count ts ≤ length (bytes_all ts)
count-le no_trees = omega arith
count-le (tree t ts) = simp length-append (omega (arith, length-bytes-pos t, count-le ts))

pair_count-le : (ps : Pairs) → pair_count ps ≤ length (bytes_pairs ps)
pair_count-le no_pairs = omega arith
pair_count-le (pair k v ps) =
    simp length-append (omega (arith, length-bytes-pos k, pair_count-le ps))

mutual
  pub IsItem-value : (t : Tree) → Loose t → SoundStrings t → length (bytes t) < 2 ^ 64
      → IsItem (value t)
  IsItem-value (int s n w) l s' lt = integer-value s n (argument_below w n l)
  IsItem-value (string k w content) l s lt =
      content-value k content s (argument_below w (length content) l)
  IsItem-value (chunked k ts) l s lt =
      content-value k (joined_chunks ts) s.1
      (omega (arith, length-joined ts, simp length-append at lt))
  IsItem-value (array w ts) l s lt = (
    omega (arith, item_count-values ts, argument_below w (count ts) l.0),
    AreItems-values ts l.1 s (omega (arith, simp length-append at lt)),
  )
  IsItem-value (array_indefinite ts) l s lt =
      let less : length (bytes_all ts) < 2 ^ 64 = omega (arith, simp length-append at lt) in
      (omega (arith, item_count-values ts, count-le ts), AreItems-values ts l s less)
  IsItem-value (map_of w ps) l s lt = (
    omega (arith, pair_count-values ps, argument_below w (pair_count ps) l.0),
    ArePairs-values ps l.1 s (omega (arith, simp length-append at lt)),
  )
  IsItem-value (map_indefinite ps) l s lt =
      let less : length (bytes_pairs ps) < 2 ^ 64 = omega (arith, simp length-append at lt) in
      (omega (arith, pair_count-values ps, pair_count-le ps), ArePairs-values ps l s less)
  IsItem-value (tagged n w t) l s lt = (
    argument_below w n l.0,
    IsItem-value t l.1 s (omega (arith, simp length-append at lt)),
  )
  IsItem-value (simple simple_false) l s lt = tt
  IsItem-value (simple _) l s lt = tt
  IsItem-value (bits p n) l s lt = l

  AreItems-values : (ts : Trees) → LooseAll ts → SoundStringsAll ts → length (bytes_all ts) < 2 ^ 64
      → AreItems (values ts)
  AreItems-values no_trees l s lt = tt
  AreItems-values (tree t ts) l s lt = (
    IsItem-value t l.0 s.0 (omega (arith, simp length-append at lt)),
    AreItems-values ts l.1 s.1 (omega (arith, simp length-append at lt)),
  )

  ArePairs-values : (ps : Pairs) → LoosePairs ps → SoundStringsPairs ps
      → length (bytes_pairs ps) < 2 ^ 64 → AreItemPairs (pair_values_of ps)
  ArePairs-values no_pairs l s lt = tt
  ArePairs-values (pair k v ps) l s lt = (
    IsItem-value k l.0 s.0 (omega (arith, simp length-append at lt)),
    IsItem-value v l.1 s.1 (omega (arith, simp length-append at lt)),
    ArePairs-values ps l.2 s.2 (omega (arith, simp length-append at lt)),
  )

pub size-of_tree : (encoding : List ℕ) (v : Item) (steps : ℕ) → Encodes encoding v steps
    → size v ≤ length encoding
size-of_tree encoding v steps s =
    subst (λ w. size w ≤ length encoding) s.value_is
    (subst (λ r. size (value s.of_tree) ≤ length r) s.bytes_are (size-value s.of_tree))
