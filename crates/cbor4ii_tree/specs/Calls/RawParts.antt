-- The items and the pairs of a kept item, one after another, and what a key or a place finds there
-- (RFC 8949 sections 3.1 and 3.2).
use denote.Ref.{Bor}
use Rattle.std.specs.Prelude.{◌≡◌, ◌≢◌, ℕ, zero, suc, ◌<◌, ◌≤◌, ℤ, List, [], ◌∷◌, ◌++◌, Bool, true}
use Rattle.std.specs.Prelude.{false, ◌&&◌, if◌then◌else◌, length, Option, Some, None, IsSomeAnd}
use Rattle.std.specs.{Prelude.get_or, Ordering.int_eq}
use Rattle.cbor4ii_items.specs.Head.{Width, HeadFits, head, indefinite_head, break}
use Rattle.cbor4ii_items.specs.Initial.{text_string}
use Rattle.cbor4ii_tree.specs.Basis.Tree.{Tree, int, string, chunked, array, array_indefinite}
use Rattle.cbor4ii_tree.specs.Basis.Tree.{map_of, map_indefinite, Trees, no_trees, tree, Pairs}
use Rattle.cbor4ii_tree.specs.Basis.Tree.{no_pairs, pair, count, pair_count, bytes, bytes_all}
use Rattle.cbor4ii_tree.specs.Basis.Tree.{bytes_pairs, joined_chunks, Loose, LooseAll, LoosePairs}
use Rattle.cbor4ii_tree.specs.{Basis.Item.{Item, Items, no_items, item}, Calls.ItemEquality.text_eq}
use Rattle.cbor4ii_tree.specs.{Basis.Encodings.Encodes, Basis.Meaning.number, Calls.Raw.raw_content}
use Rattle.cbor4ii_tree.specs.{declared.raw.RawValue.RawValue, declared.raw_head.Head.Head}
use Rattle.cbor4ii_tree.specs.{declared.raw_parts.Parts.Parts, declared.raw_parts.RawItems.RawItems}
use Rattle.cbor4ii_tree.specs.declared.raw_parts.RawPairs.{RawPairs}

-- ---- what an answer has

-- none is there, and none is answered; or what is answered has R to what is there
abbrev pub Agrees : {A B : Type 0} → (A → B → Type 0) → Option A → Option B → Type 0
Agrees R None answer = answer ≡ None
Agrees R (Some a) answer = IsSomeAnd answer (R a)

-- the item as skipping takes it: its bytes are those of this loose tree
pub record KeepsItem (t : Tree) (raw : RawValue) : Type 0 where
  pub loose : Loose t
  pub bytes_are : raw_content raw ≡ bytes t

-- a kept item's bytes are an encoding of the value, which takes at most so many steps to read
abbrev pub KeepsEncoding : ℕ → Item → RawValue → Type 0
KeepsEncoding steps v raw = (c : ℕ) × Encodes (raw_content raw) v c × (c ≤ steps)

-- ---- keys

-- whether each tree is a text with a length
abbrev pub are_whole_texts : Trees → Bool
are_whole_texts no_trees = true
are_whole_texts (tree (string text_string w content) ts) = are_whole_texts ts
are_whole_texts (tree _ ts) = false

-- whether the chunks are texts with a length, and this text when they are joined (section 3.2.3)
abbrev pub chunks_mean : List ℕ → Trees → Bool
chunks_mean key ts = are_whole_texts ts && text_eq (joined_chunks ts) key

-- whether the item is this text, with a length or in chunks
abbrev pub means_text : List ℕ → Tree → Bool
means_text key (string text_string w content) = text_eq content key
means_text key (chunked text_string ts) = chunks_mean key ts
means_text key _ = false

-- whether the item is this integer, in a head of any width; a bignum is a tag
abbrev pub means_integer : ℤ → Tree → Bool
means_integer z (int s n w) = int_eq (number s n) z
means_integer z _ = false

-- ---- parts

-- the items of an array alone
abbrev pub array_trees : Tree → Option Trees
array_trees (array w ts) = Some ts
array_trees (array_indefinite ts) = Some ts
array_trees _ = None

-- the pairs of a map alone
abbrev pub map_pairs : Tree → Option Pairs
map_pairs (map_of w ps) = Some ps
map_pairs (map_indefinite ps) = Some ps
map_pairs _ = None

-- the value of the first pair whose key passes the test
abbrev pub first_value : (Tree → Bool) → Pairs → Option Tree
first_value test no_pairs = None
first_value test (pair k v ps) = if test k then Some v else first_value test ps

-- the item at this place, the first at 0
abbrev pub indexed_tree : ℕ → Trees → Option Tree
indexed_tree i no_trees = None
indexed_tree zero (tree t ts) = Some t
indexed_tree (suc i) (tree t ts) = indexed_tree i ts

-- the value at this place, the first at 0
abbrev pub indexed_value : ℕ → Items → Option Item
indexed_value i no_items = None
indexed_value zero (item v vs) = Some v
indexed_value (suc i) (item v vs) = indexed_value i vs

-- ---- what is still to come

-- a break stands first
pub record BeginsWithBreak (shown : List ℕ) : Type 0 where
  pub some : 1 ≤ length shown
  pub is : get_or shown 0 0 ≡ break

-- what is to come: by a length so many parts of these bytes, else such parts up to a break
abbrev pub IsRest : Option ℕ → List ℕ → ℕ → List ℕ → Type 0
IsRest (Some left) rest n bs = (left ≡ n) × (rest ≡ bs)
IsRest None rest n bs = rest ≡ bs ++ break ∷ []

-- so many parts of these bytes are to come, and no others
abbrev pub AreToCome : Parts → ℕ → List ℕ → Type 0
AreToCome parts n bs = IsRest parts.left parts.rest.now n bs

-- what is left of a length, or of none, after the next part of the bytes to come
abbrev pub IsNextLength : Option ℕ → List ℕ → Option (Option ℕ) → Type 0
IsNextLength (Some zero) rest answer = answer ≡ None
IsNextLength (Some (suc left)) rest answer = answer ≡ Some (Some left)
IsNextLength None rest answer =
    (BeginsWithBreak rest → answer ≡ None) × (¬ BeginsWithBreak rest → answer ≡ Some None)

-- one part fewer is left after the next, and none comes where none is left or at a break
abbrev pub IsLeftAfter : Parts → Option (Option ℕ) → Type 0
IsLeftAfter parts answer = IsNextLength parts.left parts.rest.now answer

-- these items are to come
pub record ItemsToCome (ts : Trees) (items : RawItems) : Type 0 where
  pub loose : LooseAll ts
  pub come : AreToCome items.0 (count ts) (bytes_all ts)

-- these pairs are to come
pub record PairsToCome (ps : Pairs) (pairs : RawPairs) : Type 0 where
  pub loose : LoosePairs ps
  pub come : AreToCome pairs.0 (pair_count ps) (bytes_pairs ps)

-- the first item is given, and the others are to come
abbrev pub GivesItem : Trees → RawItems → Option RawValue → Type 0
GivesItem no_trees new answer = (answer ≡ None) × ItemsToCome no_trees new
GivesItem (tree t ts) new answer = IsSomeAnd answer (KeepsItem t) × ItemsToCome ts new

-- the first pair is given, and the others are to come
abbrev pub GivesPair : Pairs → RawPairs → Option (RawValue × RawValue) → Type 0
GivesPair no_pairs new answer = (answer ≡ None) × PairsToCome no_pairs new
GivesPair (pair k v ps) new answer =
    IsSomeAnd answer (λ p. KeepsItem k p.0 × KeepsItem v p.1) × PairsToCome ps new

-- how many bytes of items are to come
abbrev pub item_bytes_left : RawItems → ℕ
item_bytes_left items = length items.0.rest.now

-- how many bytes of pairs are to come
abbrev pub pair_bytes_left : RawPairs → ℕ
pair_bytes_left pairs = length pairs.0.rest.now

-- ---- bytes taken apart

-- the head has this major type and this argument, and these bytes follow it
abbrev pub IsHead : ℕ → Option ℕ → List ℕ → Head → Type 0
IsHead major argument rest found =
    (found.major ≡ major) × (found.argument ≡ argument) × (found.rest.now ≡ rest)

-- what follows the front; none where the text begins otherwise
abbrev pub IsStripped : List ℕ → List ℕ → Option (Bor (List ℕ)) → Type 0
IsStripped text front None = (back : List ℕ) → text ≢ front ++ back
IsStripped text front (Some back) = text ≡ front ++ back.now

-- the content of a text with a length and what follows it; none of another item
abbrev pub IsChunkSplit : Tree → List ℕ → Option (Bor (List ℕ) × Bor (List ℕ)) → Type 0
IsChunkSplit (string text_string w content) rest answer =
    IsSomeAnd answer (λ split. (split.0.now ≡ content) × (split.1.now ≡ rest))
IsChunkSplit _ rest answer = answer ≡ None

-- the item and what follows it
abbrev pub IsSplitItem : Tree → List ℕ → Option (RawValue × Bor (List ℕ)) → Type 0
IsSplitItem t rest answer =
    IsSomeAnd answer (λ split. (raw_content split.0 ≡ bytes t) × (split.1.now ≡ rest))

-- the head that begins the bytes is found, with its argument or of an indefinite length
pub record SplitsHeads (xs : List ℕ) (answer : Option Head) : Type 0 where
  pub sized : (major n : ℕ) (w : Width) (rest : List ℕ) → major < 8 → HeadFits w n →
      xs ≡ head major n w ++ rest → IsSomeAnd answer (IsHead major (Some n) rest)
  pub indefinite : (major : ℕ) (rest : List ℕ) → major < 8 → xs ≡ indefinite_head major ∷ rest →
      IsSomeAnd answer (IsHead major None rest)
