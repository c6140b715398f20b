-- Keys of kept items, walks over their parts, and what is found there.
use Rattle.std.proofs.Common.{rules}
use Rattle.std.proofs.Common.{◌≡◌, ◌≢◌, ℕ, suc, ◌<◌, ℤ, pos, negsuc, List, [], ◌∷◌, ◌++◌, length}
use Rattle.std.proofs.Common.{Option, Some, None, Bool, true, false, refl, sym, ap, ◌∙◌, subst}
use Rattle.std.proofs.Common.{arith, append_assoc, length-append, take, drop, take_at, drop_at, ap₂}
use Rattle.std.proofs.Common.{eqb, get_or, ◌≤◌, ◌-ℤ◌, ◌^◌, nat_eq, ◌+◌, ◌*◌, ◌/◌, ◌%◌, zero, ◌-◌}
use Rattle.std.proofs.lemmas.{Int.{ints, to_z-of_z, to_z_pos}, List.append-nil}
use denote.Ref.{Bor}
use Rattle.std.specs.{Bool.Decides, Cmp.{unsigned_Decides, signed_Decides}, Int.bytes_high_first}
use Rattle.std.specs.{Ordering.int_eq, Prelude.{◌==◌, ◌&&◌, IsSomeAnd, if◌then◌else◌}}
use Rattle.std.specs.Prelude.{option_and_then}
use lib.Pointwise.{pointwise}
use mir.Syntax.{w128}
use mir.Val.{SFits, of_z, to_z}
use Rattle.cbor4ii_items.specs.Head.{Width, in_first, two, four, eight, head, break, additional}
use Rattle.cbor4ii_items.specs.{Head.{byte_count, LacksArgument}, Initial.{unsigned, negative}}
use Rattle.cbor4ii_items.specs.Initial.{sign_major, byte_string, text_string, kind_major, Simple}
use Rattle.cbor4ii_items.specs.Initial.{simple_false, simple_true, simple_null, simple_undefined}
use Rattle.cbor4ii_items.specs.Initial.{Precision, half, single, double}
use Rattle.cbor4ii_items.specs.Laws.Heads.{argument_below, length-bytes_high_first}
use Rattle.cbor4ii_tree.specs.Basis.Cost.{cost, greatest_cost, greatest_pair_cost}
use Rattle.cbor4ii_tree.specs.Basis.{Encodings.Encodes, Item.{text, Item, ItemPairs, no_item_pairs}}
use Rattle.cbor4ii_tree.specs.Basis.{Item.{item_pair, integer}, Meaning.{value, values}}
use Rattle.cbor4ii_tree.specs.Basis.{Meaning.pair_values_of, Tree.{no_trees, tree, joined_chunks}}
use Rattle.cbor4ii_tree.specs.Basis.Tree.{Tree, int, string, chunked, array, array_indefinite}
use Rattle.cbor4ii_tree.specs.Basis.Tree.{map_of, map_indefinite, tagged, simple, bits, bytes}
use Rattle.cbor4ii_tree.specs.Basis.Tree.{bytes_all, bytes_pairs, count, pair_count, Loose}
use Rattle.cbor4ii_tree.specs.Basis.Tree.{LooseAll, Trees, Pairs, no_pairs, pair, LoosePairs, Plain}
use Rattle.cbor4ii_tree.specs.Basis.Tree.{SoundStrings, SoundStringsAll, SoundStringsPairs}
use Rattle.cbor4ii_tree.specs.{Basis.Tree.AreChunks, Calls.Access.{as_array, as_map, find_text}}
use Rattle.cbor4ii_tree.specs.Calls.{Access.find_value, ItemEquality.{item_eq-Decides, text_eq}}
use Rattle.cbor4ii_tree.specs.Calls.{ItemEquality.item_eq, Raw.raw_content}
use Rattle.cbor4ii_tree.specs.Calls.RawParts.{BeginsWithBreak, IsChunkSplit, are_whole_texts}
use Rattle.cbor4ii_tree.specs.Calls.RawParts.{IsHead, SplitsHeads, chunks_mean, means_integer}
use Rattle.cbor4ii_tree.specs.Calls.RawParts.{means_text, Agrees, AreToCome, GivesItem, GivesPair}
use Rattle.cbor4ii_tree.specs.Calls.RawParts.{IsLeftAfter, IsNextLength, IsRest, ItemsToCome}
use Rattle.cbor4ii_tree.specs.Calls.RawParts.{PairsToCome, array_trees, map_pairs, KeepsEncoding}
use Rattle.cbor4ii_tree.specs.Calls.RawParts.{KeepsItem, first_value, indexed_tree, indexed_value}
use Rattle.cbor4ii_tree.specs.Laws.Initials.{begins, kind_below, sign_below, BeginsNoBreak}
use Rattle.cbor4ii_tree.specs.{Laws.Numbers.additional-lt, declared.raw.RawValue.RawValue}
use Rattle.cbor4ii_tree.specs.declared.{raw_head.Head.Head, raw_parts.RawItems.RawItems}
use Rattle.cbor4ii_tree.specs.declared.raw_parts.RawPairs.{RawPairs}

-- Keys of kept items, compared by their heads.

-- ---- the head that begins some bytes, split off

module _ (xs trailing : List ℕ) (b : ℕ) (found : Head) (is : xs ≡ b ∷ trailing)
    (major_is : found.major ≡ b / 32) where
  -- the parts of a first byte
  parts : (major i : ℕ) → i < 32 → b ≡ 32 * major + i → (found.major ≡ major) × (b % 32 ≡ i)
  parts major i lt e = (major_is ∙ omega arith, omega arith)

  pub splits_none : LacksArgument (b % 32) trailing → found.argument ≡ None
      → found.rest.now ≡ trailing → SplitsHeads xs (Some found)
  splits_none lacks argument rest_is = record {
    sized = λ major n w rest lt h e.
        let first : b ≡ 32 * major + additional w n = cc in
        let next : trailing ≡ bytes_high_first (byte_count w) n ++ rest = cc in
        let p = parts major (additional w n) (additional-lt n w h) first in
        absurd (lacks n (byte_count w) (record {
          width = w;
          fits = h;
          says = sym p.1;
          size = refl;
          is = next ∙ ap (λ z. bytes_high_first (byte_count w) n ++ z)
              (sym (rest_of n w rest next));
        }));
    indefinite = λ major rest lt e.
        let first : b ≡ 32 * major + 31 = cc in
        let next : trailing ≡ rest = cc in
        let p = parts major 31 (omega arith) first in (p.0, argument, rest_is ∙ next);
  }
    where
      rest_of : (n : ℕ) (w : Width) (rest : List ℕ)
          → trailing ≡ bytes_high_first (byte_count w) n ++ rest
          → drop (byte_count w) trailing ≡ rest
      rest_of n w rest e =
          ap (drop (byte_count w)) e ∙ drop_at (bytes_high_first (byte_count w) n) rest
          (byte_count w) (length-bytes_high_first (byte_count w) n)

-- ---- the head of a tree

abbrev pub tree_major : Tree → ℕ
tree_major (int s n w) = sign_major s
tree_major (string k w content) = kind_major k
tree_major (chunked k ts) = kind_major k
tree_major (array w ts) = 4
tree_major (array_indefinite ts) = 4
tree_major (map_of w ps) = 5
tree_major (map_indefinite ps) = 5
tree_major (tagged n w t) = 6
tree_major (simple s) = 7
tree_major (bits p n) = 7

abbrev pub simple_argument : Simple → ℕ
simple_argument simple_false = 20
simple_argument simple_true = 21
simple_argument simple_null = 22
simple_argument simple_undefined = 23

abbrev pub tree_argument : Tree → Option ℕ
tree_argument (int s n w) = Some n
tree_argument (string k w content) = Some (length content)
tree_argument (array w ts) = Some (count ts)
tree_argument (map_of w ps) = Some (pair_count ps)
tree_argument (tagged n w t) = Some n
tree_argument (simple s) = Some (simple_argument s)
tree_argument (bits p n) = Some n
tree_argument _ = None

abbrev pub tree_content : Tree → List ℕ
tree_content (string k w content) = content
tree_content (chunked k ts) = bytes_all ts ++ break ∷ []
tree_content (array w ts) = bytes_all ts
tree_content (array_indefinite ts) = bytes_all ts ++ break ∷ []
tree_content (map_of w ps) = bytes_pairs ps
tree_content (map_indefinite ps) = bytes_pairs ps ++ break ∷ []
tree_content (tagged n w t) = bytes t
tree_content _ = []

module _ (answer : Option Head) (rest : List ℕ) where
  abbrev Begins : Tree → Type 0
  Begins t = SplitsHeads (bytes t ++ rest) answer
      → IsSomeAnd answer (IsHead (tree_major t) (tree_argument t) (tree_content t ++ rest))

  simple_begins : (s : Simple) → Begins (simple s)
  simple_begins simple_false h = h.sized 7 20 in_first rest (omega arith) (omega arith) refl
  simple_begins simple_true h = h.sized 7 21 in_first rest (omega arith) (omega arith) refl
  simple_begins simple_null h = h.sized 7 22 in_first rest (omega arith) (omega arith) refl
  simple_begins simple_undefined h = h.sized 7 23 in_first rest (omega arith) (omega arith) refl

  bits_begin : (p : Precision) (n : ℕ) → Loose (bits p n) → Begins (bits p n)
  bits_begin half n l h = h.sized 7 n two rest (omega arith) l refl
  bits_begin single n l h = h.sized 7 n four rest (omega arith) l refl
  bits_begin double n l h = h.sized 7 n eight rest (omega arith) l refl

  tree_begins : (t : Tree) → Loose t → Begins t
  tree_begins (int s n w) l h = h.sized (sign_major s) n w rest (omega (arith, sign_below s)) l refl
  tree_begins (string k w content) l h = search (rules, kind_below, append_assoc)
  tree_begins (chunked k ts) l h = search (rules, kind_below)
  tree_begins (array w ts) l h =
      h.sized 4 (count ts) w (bytes_all ts ++ rest) (omega arith) l.0 (simp append_assoc)
  tree_begins (array_indefinite ts) l h =
      h.indefinite 4 ((bytes_all ts ++ break ∷ []) ++ rest) (omega arith) refl
  tree_begins (map_of w ps) l h =
      h.sized 5 (pair_count ps) w (bytes_pairs ps ++ rest) (omega arith) l.0 (simp append_assoc)
  tree_begins (map_indefinite ps) l h =
      h.indefinite 5 ((bytes_pairs ps ++ break ∷ []) ++ rest) (omega arith) refl
  tree_begins (tagged n w t) l h =
      h.sized 6 n w (bytes t ++ rest) (omega arith) l.0 (append_assoc (head 6 n w) (bytes t) rest)
  tree_begins (simple s) l h = simple_begins s h
  tree_begins (bits p n) l h = bits_begin p n l h

-- the head that was split off a tree
pub head_is : (t : Tree) (xs rest : List ℕ) (answer : Option Head) (h : Head) → Loose t
    → xs ≡ bytes t ++ rest → SplitsHeads xs answer → answer ≡ Some h
    → IsHead (tree_major t) (tree_argument t) (tree_content t ++ rest) h
head_is t xs rest answer h l e split found =
    subst (λ (o : Option Head). IsSomeAnd o (IsHead (tree_major t) (tree_argument t)
    (tree_content t ++ rest))) found
    (tree_begins answer rest t l (subst (λ z. SplitsHeads z answer) e split))

pub head_some : (t : Tree) (xs rest : List ℕ) (answer : Option Head) → Loose t
    → xs ≡ bytes t ++ rest → SplitsHeads xs answer → answer ≡ None → ⊥
head_some t xs rest answer l e split none =
    subst (λ (o : Option Head). IsSomeAnd o (IsHead (tree_major t) (tree_argument t)
    (tree_content t ++ rest))) none
    (tree_begins answer rest t l (subst (λ z. SplitsHeads z answer) e split))

-- a break is no text
pub no_break : (xs rest : List ℕ) (answer : Option Head) (h : Head) → xs ≡ break ∷ rest
    → SplitsHeads xs answer → answer ≡ Some h → h.major ≡ 3 → ⊥
no_break xs rest answer h e split found three =
    let p = subst (λ (o : Option Head). IsSomeAnd o (IsHead 7 None rest)) found
    (split.indefinite 7 rest (omega arith) e) in
    omega (arith, p.0, three)

-- the same of a whole item
pub whole_head : (t : Tree) (xs : List ℕ) (answer : Option Head) (h : Head) → Loose t
    → xs ≡ bytes t → SplitsHeads xs answer → answer ≡ Some h
    → IsHead (tree_major t) (tree_argument t) (tree_content t) h
whole_head t xs answer h l e split found =
    let p = head_is t xs [] answer h l (e ∙ sym (append-nil (bytes t))) split found in
    (p.0, p.1, p.2 ∙ append-nil (tree_content t))

pub whole_some : (t : Tree) (xs : List ℕ) (answer : Option Head) → Loose t → xs ≡ bytes t
    → SplitsHeads xs answer → answer ≡ None → ⊥
whole_some t xs answer l e split none =
    head_some t xs [] answer l (e ∙ sym (append-nil (bytes t))) split none

-- ---- texts

-- a text with so many bytes
pub record IsSized (t : Tree) (n : ℕ) : Type 0 where
  pub width : Width
  pub content : List ℕ
  pub is : t ≡ string text_string width content
  pub size : n ≡ length content

pub sized : (t : Tree) (n : ℕ) → tree_major t ≡ 3 → tree_argument t ≡ Some n → IsSized t n
sized (int unsigned n w) m e a = absurd (omega arith)
sized (string text_string w content) m e a = search rules
sized (chunked k ts) m e a = cc
sized (array_indefinite ts) m e a = cc
sized (map_indefinite ps) m e a = cc
sized _ m e a = absurd (omega arith)

pub text_sized : (key : List ℕ) (t : Tree) (n : ℕ) → tree_major t ≡ 3 → tree_argument t ≡ Some n
    → means_text key t ≡ text_eq (tree_content t) key
text_sized key t n m e =
    subst (λ u. means_text key u ≡ text_eq (tree_content u) key) (sym (sized t n m e).is) refl

-- a text in chunks
pub record InChunks (key : List ℕ) (t : Tree) : Type 0 where
  pub chunks : Trees
  pub loose : LooseAll chunks
  pub content : tree_content t ≡ bytes_all chunks ++ break ∷ []
  pub means : means_text key t ≡ chunks_mean key chunks

pub text_in_chunks : (key : List ℕ) (t : Tree) → Loose t → tree_major t ≡ 3
    → tree_argument t ≡ None → InChunks key t
text_in_chunks key (chunked byte_string ts) l e a = absurd (omega arith)
text_in_chunks key (chunked text_string ts) l e a =
    record { chunks = ts; loose = l; content = refl; means = refl }
text_in_chunks key (array_indefinite ts) l e a = absurd (omega arith)
text_in_chunks key (map_indefinite ps) l e a = absurd (omega arith)
text_in_chunks key _ l e a = cc

pub text_other : (key : List ℕ) (t : Tree) → tree_major t ≢ 3 → means_text key t ≡ false
text_other key (string text_string w content) n = absurd (n refl)
text_other key (chunked text_string ts) n = absurd (n refl)
text_other key _ n = refl

-- ---- texts compared

pub pointwise_is : (a b : List ℕ) → pointwise eqb a b ≡ text_eq a b
pointwise_is (b ∷ bs) (c ∷ cs) = ap (λ r. (b == c) && r) (pointwise_is bs cs)
pointwise_is _ _ = refl

text_decides : (a b : List ℕ) → Decides (text_eq a b) (a ≡ b)
text_decides a b = let d = item_eq-Decides (text a) (text b) in (
  λ e. let same : text a ≡ text b = d.0 e in cc,
  λ e. d.1 (ap text e),
)

pub differ : (a b : List ℕ) → pointwise eqb a b ≡ false → a ≢ b
differ a b none e = search (rules, text_decides, pointwise_is)

not_true : (r : Bool) → (r ≡ true → ⊥) → r ≡ false
not_true true f = absurd (f refl)
not_true false f = refl

text_differs : (a b : List ℕ) → a ≢ b → text_eq a b ≡ false
text_differs a b n = not_true (text_eq a b) (λ e. n ((text_decides a b).0 e))

text_fronts : (a x y : List ℕ) → text_eq (a ++ x) (a ++ y) ≡ text_eq x y
text_fronts [] x y = refl
text_fronts (b ∷ a) x y = rw ((unsigned_Decides b b).1 refl) (text_fronts a x y)

-- ---- chunks split off

pub other_chunk : (t : Tree) (rest : List ℕ) (answer : Option (Bor (List ℕ) × Bor (List ℕ)))
    → answer ≡ None → tree_major t ≢ 3 → IsChunkSplit t rest answer
other_chunk (string text_string w content) rest answer e n = absurd (n refl)
other_chunk _ rest answer e n = e

pub open_chunk : (t : Tree) (rest : List ℕ) (answer : Option (Bor (List ℕ) × Bor (List ℕ)))
    → answer ≡ None → tree_argument t ≡ None → IsChunkSplit t rest answer
open_chunk (string text_string w content) rest answer e n = cc
open_chunk _ rest answer e n = e

pub content_fits : (t : Tree) (n : ℕ) (xs rest : List ℕ) → IsSized t n
    → xs ≡ tree_content t ++ rest → n ≤ length xs
content_fits t n xs rest s e = search (rules, length-append)

pub whole_chunk : (t : Tree) (n : ℕ) (xs rest : List ℕ) (split : Bor (List ℕ) × Bor (List ℕ))
    → IsSized t n → xs ≡ tree_content t ++ rest → split.0.now ≡ take n xs
    → split.1.now ≡ drop n xs → IsChunkSplit t rest (Some split)
whole_chunk t n xs rest split s e front back = search (rules, take_at, drop_at)

-- what is left of chunks, and of the text that they are to be
pub record ChunksLeftOf (ts : Trees) (key rest left : List ℕ) : Type 0 where
  pub more : Trees
  pub loose : LooseAll more
  pub is : rest ≡ bytes_all more ++ break ∷ []
  pub same : chunks_mean key ts ≡ chunks_mean left more

abbrev pub ChunksLeft : List ℕ → List ℕ → List ℕ → List ℕ → Type 0
ChunksLeft chunks key rest left =
    (ts : Trees) → LooseAll ts → chunks ≡ bytes_all ts ++ break ∷ [] → ChunksLeftOf ts key rest left

module _ (ts : Trees) (key rest left : List ℕ) (i : ChunksLeftOf ts key rest left)
    (answer : Option (Bor (List ℕ) × Bor (List ℕ)))
    (item : (t : Tree) (back : List ℕ) → Loose t → rest ≡ bytes t ++ back
    → IsChunkSplit t back answer)
    (ended : (back : List ℕ) → rest ≡ break ∷ back → answer ≡ None) where
  -- a chunk was split off
  abbrev Next : Bor (List ℕ) × Bor (List ℕ) → Type 0
  Next split = (more : Trees) × LooseAll more × (split.1.now ≡ bytes_all more ++ break ∷ [])
      × (are_whole_texts i.more ≡ are_whole_texts more)
      × (joined_chunks i.more ≡ split.0.now ++ joined_chunks more)

  next_of : (split : Bor (List ℕ) × Bor (List ℕ)) → answer ≡ Some split → (more : Trees)
      → i.more ≡ more → LooseAll more → rest ≡ bytes_all more ++ break ∷ [] → Next split
  next_of split e no_trees m l is = let none = ended [] is in cc
  next_of split e (tree t us) m l is =
      by_tree t us m l.1 (subst (IsChunkSplit t (bytes_all us ++ break ∷ [])) e
      (item t (bytes_all us ++ break ∷ []) l.0
      (is ∙ append_assoc (bytes t) (bytes_all us) (break ∷ []))))
    where
      by_tree : (t : Tree) (us : Trees) → i.more ≡ tree t us → LooseAll us
          → IsChunkSplit t (bytes_all us ++ break ∷ []) (Some split) → Next split
      by_tree (string text_string w content) us m l h = (
        us,
        l,
        h.1,
        ap are_whole_texts m,
        ap joined_chunks m ∙ ap (λ z. z ++ joined_chunks us) (sym h.0),
      )
      by_tree (string byte_string w content) us m l h = cc
      by_tree _ us m l h = cc

  next : (split : Bor (List ℕ) × Bor (List ℕ)) → answer ≡ Some split → Next split
  next split e = next_of split e i.more refl i.loose i.is

  pub chunk_goes_on : (split : Bor (List ℕ) × Bor (List ℕ)) (back : List ℕ) → answer ≡ Some split
      → left ≡ split.0.now ++ back → ChunksLeftOf ts key split.1.now back
  chunk_goes_on split back e front = let n = next split e in record {
    more = n.0;
    loose = n.1;
    is = n.2;
    same = i.same ∙ ap₂ (λ x y. x && y) n.3
        (ap₂ text_eq n.4 front ∙ text_fronts split.0.now (joined_chunks n.0) back);
  }

  pub chunk_differs : (split : Bor (List ℕ) × Bor (List ℕ)) → answer ≡ Some split
      → ((back : List ℕ) → left ≢ split.0.now ++ back) → false ≡ chunks_mean key ts
  chunk_differs split e front =
      let n = next split e in
      let other : text_eq (joined_chunks i.more) left ≡ false =
      text_differs (joined_chunks i.more) left (λ same. front (joined_chunks n.0)
      (sym same ∙ n.4)) in
      sym (i.same ∙ (ap (λ r. are_whole_texts i.more && r) other
      ∙ and_false (are_whole_texts i.more)))
    where
      and_false : (b : Bool) → (b && false) ≡ false
      and_false true = refl
      and_false false = refl

  -- no chunk was split off
  empty_is : (xs : List ℕ) → text_eq [] xs ≡ (length xs == 0)
  empty_is [] = refl
  empty_is (x ∷ xs) = search (rules, not_true, unsigned_Decides)

  pub chunks_end : BeginsWithBreak rest → (length left == 0) ≡ chunks_mean key ts
  chunks_end b = sym (i.same ∙ at_end i.more i.loose i.is)
    where
      at_end : (more : Trees) → LooseAll more → rest ≡ bytes_all more ++ break ∷ []
          → chunks_mean left more ≡ (length left == 0)
      at_end no_trees l is = empty_is left
      at_end (tree t us) l is =
          let p = begins t l.0 in
          let first : rest ≡ p.0 ∷ ((p.1 ++ bytes_all us) ++ break ∷ []) =
          is ∙ ap (λ z. (z ++ bytes_all us) ++ break ∷ []) p.2 in
          let byte : get_or rest 0 0 ≡ p.0 = ap (λ z. get_or z 0 0) first in
          absurd (omega (arith, byte, b.is, p.3))

  pub chunks_stop : answer ≡ None → (BeginsWithBreak rest → ⊥) → false ≡ chunks_mean key ts
  chunks_stop none b = sym (i.same ∙ at_stop i.more i.loose i.is)
    where
      by_tree : (t : Tree) (us : Trees) → IsChunkSplit t (bytes_all us ++ break ∷ []) None
          → chunks_mean left (tree t us) ≡ false
      by_tree (string text_string w content) us h = absurd h
      by_tree _ us h = refl

      at_stop : (more : Trees) → LooseAll more → rest ≡ bytes_all more ++ break ∷ []
          → chunks_mean left more ≡ false
      at_stop no_trees l is =
          absurd (b (record { some = omega (arith, ap length is); is = ap (λ z. get_or z 0 0) is }))
      at_stop (tree t us) l is = search (rules, append_assoc)

-- ---- integers

bool_same : (b c : Bool) → (b ≡ true → c ≡ true) → (c ≡ true → b ≡ true) → b ≡ c
bool_same true false p q = sym (p refl)
bool_same false true p q = q refl
bool_same _ _ p q = refl

same_bits : (y z : ℤ) → SFits w128 y → SFits w128 z
    → nat_eq (of_z w128 y) (of_z w128 z) ≡ int_eq y z
same_bits y z f g = search (rules, bool_same, unsigned_Decides, signed_Decides, to_z-of_z)

pub unsigned_is : (n : ℕ) (z : ℤ) → n < 2 ^ 64 → SFits w128 z
    → nat_eq n (of_z w128 z) ≡ int_eq (pos n) z
unsigned_is n z lt g = same_bits (pos n) z (record { sfits = omega arith }) g

one_less : (n : ℕ) → negsuc 0 -ℤ pos n ≡ negsuc n
one_less n = omega (arith, ints)

pub negative_is : (n : ℕ) (z : ℤ) → n < 2 ^ 64 → SFits w128 z
    → nat_eq (of_z w128 (negsuc 0 -ℤ to_z w128 n)) (of_z w128 z) ≡ int_eq (negsuc n) z
negative_is n z lt g = search (rules, to_z_pos, one_less, same_bits)

pub integer_unsigned : (z : ℤ) (t : Tree) (n : ℕ) → tree_major t ≡ 0 → tree_argument t ≡ Some n
    → means_integer z t ≡ int_eq (pos n) z
integer_unsigned z (int unsigned m w) n e a =
    let same : m ≡ n = cc in ap (λ j. int_eq (pos j) z) same
integer_unsigned z (string byte_string w content) n e a = absurd (omega arith)
integer_unsigned z (chunked k ts) n e a = cc
integer_unsigned z (array_indefinite ts) n e a = cc
integer_unsigned z (map_indefinite ps) n e a = cc
integer_unsigned z _ n e a = absurd (omega arith)

pub integer_negative : (z : ℤ) (t : Tree) (n : ℕ) → tree_major t ≡ 1 → tree_argument t ≡ Some n
    → means_integer z t ≡ int_eq (negsuc n) z
integer_negative z (int negative m w) n e a =
    let same : m ≡ n = cc in ap (λ j. int_eq (negsuc j) z) same
integer_negative z (string byte_string w content) n e a = absurd (omega arith)
integer_negative z (chunked k ts) n e a = cc
integer_negative z (array_indefinite ts) n e a = cc
integer_negative z (map_indefinite ps) n e a = cc
integer_negative z _ n e a = absurd (omega arith)

pub integer_other : (z : ℤ) (t : Tree) → tree_major t ≢ 0 → tree_major t ≢ 1
    → means_integer z t ≡ false
integer_other z (int unsigned m w) p q = absurd (p refl)
integer_other z (int negative m w) p q = absurd (q refl)
integer_other z _ p q = refl

pub integer_open : (z : ℤ) (t : Tree) → tree_argument t ≡ None → means_integer z t ≡ false
integer_open z (int s n w) e = cc
integer_open z _ e = refl

pub integer_below : (t : Tree) (n : ℕ) → Loose t → tree_major t < 2 → tree_argument t ≡ Some n
    → n < 2 ^ 64
integer_below (int s n w) m l lt e =
    let same : n ≡ m = cc in subst (λ j. j < 2 ^ 64) same (argument_below w n l)
integer_below (string byte_string w content) n l lt e = absurd (omega arith)
integer_below (chunked k ts) n l lt e = cc
integer_below (array_indefinite ts) n l lt e = cc
integer_below (map_indefinite ps) n l lt e = cc
integer_below _ n l lt e = absurd (omega arith)

pub test_false : (m n : ℕ) → m ≢ n → nat_eq m n ≡ false
test_false m n h = not_true (nat_eq m n) (λ e. h ((unsigned_Decides m n).0 e))

-- The parts of kept arrays and maps, one after another.

-- ---- an array or a map that is opened

rest_sized : (o : Option ℕ) (n : ℕ) (xs bs : List ℕ) → o ≡ Some n → xs ≡ bs → IsRest o xs n bs
rest_sized o n xs bs e f = subst (λ l. IsRest l xs n bs) (sym e) (refl, f)

open_ended : (o : Option ℕ) (n : ℕ) (xs bs : List ℕ) → o ≡ None → xs ≡ bs ++ break ∷ []
    → IsRest o xs n bs
open_ended o n xs bs e f = subst (λ l. IsRest l xs n bs) (sym e) f

pub array_opens : (t : Tree) (h : Head) → IsHead (tree_major t) (tree_argument t) (tree_content t) h
    → h.major ≡ 4 → Agrees (λ ts parts. AreToCome parts (count ts) (bytes_all ts)) (array_trees t)
    (Some (record { left = h.argument; rest = h.rest }))
array_opens (array w ts) h p m = rest_sized h.argument (count ts) h.rest.now (bytes_all ts) p.1 p.2
array_opens (array_indefinite ts) h p m =
    open_ended h.argument (count ts) h.rest.now (bytes_all ts) p.1 p.2
array_opens (int unsigned n w) h p m = absurd (omega (arith, p.0))
array_opens (string byte_string w content) h p m = absurd (omega (arith, p.0))
array_opens (chunked byte_string ts) h p m = absurd (omega (arith, p.0))
array_opens _ h p m = absurd (omega (arith, p.0))

pub map_opens : (t : Tree) (h : Head) → IsHead (tree_major t) (tree_argument t) (tree_content t) h
    → h.major ≡ 5 → Agrees (λ ps parts. AreToCome parts (pair_count ps) (bytes_pairs ps))
    (map_pairs t) (Some (record { left = h.argument; rest = h.rest }))
map_opens (map_of w ps) h p m = rest_sized h.argument (pair_count ps) h.rest.now (bytes_pairs ps)
    p.1 p.2
map_opens (map_indefinite ps) h p m =
    open_ended h.argument (pair_count ps) h.rest.now (bytes_pairs ps) p.1 p.2
map_opens (int unsigned n w) h p m = absurd (omega (arith, p.0))
map_opens (string byte_string w content) h p m = absurd (omega (arith, p.0))
map_opens (chunked byte_string ts) h p m = absurd (omega (arith, p.0))
map_opens _ h p m = absurd (omega (arith, p.0))

pub no_array : (t : Tree) {B : Type 0} (R : Trees → B → Type 0) (answer : Option B)
    → answer ≡ None → tree_major t ≢ 4 → Agrees R (array_trees t) answer
no_array (array w ts) R answer e n = absurd (n refl)
no_array (array_indefinite ts) R answer e n = absurd (n refl)
no_array _ R answer e n = e

pub no_map : (t : Tree) {B : Type 0} (R : Pairs → B → Type 0) (answer : Option B)
    → answer ≡ None → tree_major t ≢ 5 → Agrees R (map_pairs t) answer
no_map (map_of w ps) R answer e n = absurd (n refl)
no_map (map_indefinite ps) R answer e n = absurd (n refl)
no_map _ R answer e n = e

-- ---- the next part

-- what follows a part
abbrev tail_of : Option ℕ → List ℕ → List ℕ
tail_of (Some n) bs = bs
tail_of None bs = bs ++ break ∷ []

no_break_begins : (xs first bs : List ℕ) → BeginsNoBreak first → xs ≡ first ++ bs → BeginsWithBreak
    xs → ⊥
no_break_begins xs first bs p e b = search rules

module _ (left : Option ℕ) (rest : List ℕ) (answer : Option (Option ℕ))
    (next : IsNextLength left rest answer) where
  -- where none is left, none comes
  none_left : (n : ℕ) (first bs : List ℕ) → BeginsNoBreak first → IsRest left rest (suc n)
      (first ++ bs) → answer ≡ None → ⊥
  none_left n first bs p r e = by_left left next r
    where
      by_left : (left : Option ℕ) → IsNextLength left rest answer
          → IsRest left rest (suc n) (first ++ bs) → ⊥
      by_left (Some zero) x r = omega (arith, r.0)
      by_left (Some (suc k)) x r = let same : Some (Some k) ≡ None = sym x ∙ e in cc
      by_left None x r =
          let some : answer ≡ Some None = x.1 (no_break_begins rest first (bs ++ break ∷ []) p
          (r ∙ append_assoc first bs (break ∷ []))) in cc

  rest_is : (n : ℕ) (first bs : List ℕ) → IsRest left rest n (first ++ bs)
      → rest ≡ first ++ tail_of left bs
  rest_is n first bs r = by_left left r
    where
      by_left : (left : Option ℕ) → IsRest left rest n (first ++ bs)
          → rest ≡ first ++ tail_of left bs
      by_left (Some k) r = r.1
      by_left None r = r ∙ append_assoc first bs (break ∷ [])

  goes_on : (n : ℕ) (first bs after : List ℕ) (o : Option ℕ) → BeginsNoBreak first
      → IsRest left rest (suc n) (first ++ bs) → answer ≡ Some o → after ≡ tail_of left bs
      → IsRest o after n bs
  goes_on n first bs after o p r e is = by_left left next r is
    where
      by_left : (left : Option ℕ) → IsNextLength left rest answer
          → IsRest left rest (suc n) (first ++ bs) → after ≡ tail_of left bs → IsRest o after n bs
      by_left (Some zero) x r is = absurd (omega (arith, r.0))
      by_left (Some (suc k)) x r is =
          let same : o ≡ Some k = cc in
          subst (λ l. IsRest l after n bs) (sym same) (omega (arith, r.0), is)
      by_left None x r is =
          let some : answer ≡ Some None = x.1 (no_break_begins rest first (bs ++ break ∷ []) p
          (r ∙ append_assoc first bs (break ∷ []))) in
          let same : o ≡ None = cc in subst (λ l. IsRest l after n bs) (sym same) is

-- ---- items

module _ (items : RawItems) (after : Option (Option ℕ)) (left_is : IsLeftAfter items.0 after) where
  pub items_end : (answer : Option RawValue) → after ≡ None → answer ≡ None → (ts : Trees)
      → ItemsToCome ts items → GivesItem ts items answer
  items_end answer e none no_trees i = (none, i)
  items_end answer e none (tree t ts) i =
      absurd (none_left items.0.left items.0.rest.now after left_is (count ts) (bytes t)
      (bytes_all ts) (begins t i.loose.0) i.come e)

-- ---- pairs

module _ (pairs : RawPairs) (after : Option (Option ℕ)) (left_is : IsLeftAfter pairs.0 after) where
  pub pairs_end : (answer : Option (RawValue × RawValue)) → after ≡ None → answer ≡ None
      → (ps : Pairs) → PairsToCome ps pairs → GivesPair ps pairs answer
  pairs_end answer e none no_pairs i = (none, i)
  pairs_end answer e none (pair k v ps) i =
      absurd (none_left pairs.0.left pairs.0.rest.now after left_is (pair_count ps) (bytes k)
      (bytes v ++ bytes_pairs ps) (begins k i.loose.0) i.come e)

-- What is found in an encoding is what is found in its value.

-- ---- keys

chunks_are_texts : (ts : Trees) → AreChunks text_string ts → are_whole_texts ts ≡ true
chunks_are_texts no_trees a = refl
chunks_are_texts (tree (string text_string w content) ts) a = chunks_are_texts ts a.1
chunks_are_texts (tree (string byte_string w content) ts) a = cc
chunks_are_texts (tree _ ts) a = absurd a.0

text_is : (key : List ℕ) (t : Tree) → SoundStrings t
    → means_text key t ≡ item_eq (value t) (text key)
text_is key (string byte_string w content) p = refl
text_is key (chunked text_string ts) p =
    ap (λ b. b && text_eq (joined_chunks ts) key) (chunks_are_texts ts p.0)
text_is key (simple simple_false) p = refl
text_is key _ p = refl

integer_is : (z : ℤ) (t : Tree) → SoundStrings t
    → means_integer z t ≡ item_eq (value t) (integer z)
integer_is z (int s n w) p = refl
integer_is z (string byte_string w content) p = refl
integer_is z (chunked byte_string ts) p = refl
integer_is z (simple simple_false) p = refl
integer_is z _ p = refl

find_same : (key : List ℕ) (ms : ItemPairs) → find_value (text key) ms ≡ find_text key ms
find_same key no_item_pairs = refl
find_same key (item_pair k v ms) =
    ap (λ o. if item_eq k (text key) then Some v else o) (find_same key ms)

-- ---- what is found

encoded : (t : Tree) (n : ℕ) (raw : RawValue) → Plain t → cost t ≤ n → KeepsItem t raw
    → KeepsEncoding n (value t) raw
encoded t n raw p le k = (
  cost t,
  record {
    of_tree = t;
    plain = p;
    bytes_are = sym k.bytes_are;
    value_is = refl;
    cost_is = refl;
  },
  le,
)

some_encoded : (t : Tree) (n : ℕ) (answer : Option RawValue) → Plain t → cost t ≤ n
    → IsSomeAnd answer (KeepsItem t) → IsSomeAnd answer (KeepsEncoding n (value t))
some_encoded t n (Some raw) p le k = encoded t n raw p le k
some_encoded t n None p le k = absurd k

module _ (n : ℕ) (answer : Option RawValue) where
  module _ (test : Tree → Bool) (key : Item)
      (same : (t : Tree) → SoundStrings t → test t ≡ item_eq (value t) key) where
    by_test : (v : Tree) (ps : Pairs) (ms : ItemPairs) (b : Bool) → Plain v → cost v ≤ n
        → (Agrees KeepsItem (first_value test ps) answer
        → Agrees (KeepsEncoding n) (find_value key ms) answer)
        → Agrees KeepsItem (if b then Some v else first_value test ps) answer
        → Agrees (KeepsEncoding n) (if b then Some (value v) else find_value key ms) answer
    by_test v ps ms true p le later h = some_encoded v n answer p le h
    by_test v ps ms false p le later h = later h

    found : (ps : Pairs) → LoosePairs ps → SoundStringsPairs ps → greatest_pair_cost ps ≤ n
        → Agrees KeepsItem (first_value test ps) answer
        → Agrees (KeepsEncoding n) (find_value key (pair_values_of ps)) answer
    found no_pairs l s le h = h
    found (pair k v ps) l s le h = search (rules, by_test, (found ps l.2 s.2 (omega arith)))

    found_in : (t : Tree) → Plain t → cost t ≤ n
        → Agrees KeepsItem (option_and_then (first_value test) (map_pairs t)) answer
        → Agrees (KeepsEncoding n) (option_and_then (find_value key) (as_map (value t))) answer
    found_in (map_of w ps) p le h = found ps p.0.1 p.1 (omega arith) h
    found_in (map_indefinite ps) p le h = found ps p.0 p.1 (omega arith) h
    found_in (string byte_string w content) p le h = h
    found_in (chunked byte_string ts) p le h = h
    found_in (simple simple_false) p le h = h
    found_in _ p le h = h

  placed : (i : ℕ) (ts : Trees) → LooseAll ts → SoundStringsAll ts → greatest_cost ts ≤ n
      → Agrees KeepsItem (indexed_tree i ts) answer
      → Agrees (KeepsEncoding n) (indexed_value i (values ts)) answer
  placed i no_trees l s le h = h
  placed zero (tree t ts) l s le h = some_encoded t n answer (l.0, s.0) (omega arith) h
  placed (suc i) (tree t ts) l s le h = placed i ts l.1 s.1 (omega arith) h

  placed_in : (i : ℕ) (t : Tree) → Plain t → cost t ≤ n
      → Agrees KeepsItem (option_and_then (indexed_tree i) (array_trees t)) answer
      → Agrees (KeepsEncoding n) (option_and_then (indexed_value i) (as_array (value t))) answer
  placed_in i (array w ts) p le h = placed i ts p.0.1 p.1 (omega arith) h
  placed_in i (array_indefinite ts) p le h = placed i ts p.0 p.1 (omega arith) h
  placed_in i (string byte_string w content) p le h = h
  placed_in i (chunked byte_string ts) p le h = h
  placed_in i (simple simple_false) p le h = h
  placed_in i _ p le h = h

-- ---- of an encoding

-- the tree that an encoding keeps
kept : (raw : RawValue) (v : Item) (steps : ℕ) (e : Encodes (raw_content raw) v steps)
    → KeepsItem e.of_tree raw
kept raw v steps e = record { loose = e.plain.0; bytes_are = sym e.bytes_are }

at_most : (m n : ℕ) → m ≡ n → m ≤ n
at_most m n e = omega arith

find_in : (key : List ℕ) (o : Option ItemPairs)
    → option_and_then (find_value (text key)) o ≡ option_and_then (find_text key) o
find_in key None = refl
find_in key (Some ms) = find_same key ms

module _ (raw : RawValue) (answer : Option RawValue) (v : Item) (steps : ℕ)
    (e : Encodes (raw_content raw) v steps) where
  pub text_found : (key : List ℕ) → ((t : Tree) → KeepsItem t raw → Agrees KeepsItem
      (option_and_then (first_value (means_text key)) (map_pairs t)) answer)
      → Agrees (KeepsEncoding steps) (option_and_then (find_text key) (as_map v)) answer
  text_found key h =
      subst (λ o. Agrees (KeepsEncoding steps) o answer)
      (ap (λ w. option_and_then (find_value (text key)) (as_map w)) e.value_is
      ∙ find_in key (as_map v)) (found_in steps answer (means_text key) (text key) (text_is key)
      e.of_tree e.plain (at_most (cost e.of_tree) steps e.cost_is)
      (h e.of_tree (kept raw v steps e)))

  pub integer_found : (z : ℤ) → ((t : Tree) → KeepsItem t raw → Agrees KeepsItem
      (option_and_then (first_value (means_integer z)) (map_pairs t)) answer)
      → Agrees (KeepsEncoding steps) (option_and_then (find_value (integer z)) (as_map v)) answer
  integer_found z h =
      subst (λ w. Agrees (KeepsEncoding steps) (option_and_then (find_value (integer z))
      (as_map w)) answer) e.value_is (found_in steps answer (means_integer z) (integer z)
      (integer_is z) e.of_tree e.plain (at_most (cost e.of_tree) steps e.cost_is)
      (h e.of_tree (kept raw v steps e)))

  pub place_found : (i : ℕ) → ((t : Tree) → KeepsItem t raw → Agrees KeepsItem
      (option_and_then (indexed_tree i) (array_trees t)) answer)
      → Agrees (KeepsEncoding steps) (option_and_then (indexed_value i) (as_array v)) answer
  place_found i h = search (rules, placed_in, at_most, kept)

-- Keys and places that are looked for, part by part.

-- ---- by a key

-- what is found among these pairs is found among those to come
pub record FoundLater (test : Tree → Bool) (ps : Pairs) (pairs : RawPairs) : Type 0 where
  pub more : Pairs
  pub come : PairsToCome more pairs
  pub same : first_value test ps ≡ first_value test more

abbrev pub Searches : (Tree → Bool) → RawPairs → RawPairs → Type 0
Searches test initial pairs = (ps : Pairs) → PairsToCome ps initial → FoundLater test ps pairs

module _ (test : Tree → Bool) (initial old new : RawPairs)
    (answer : Option (RawValue × RawValue)) (searches : Searches test initial old)
    (gives : (ps : Pairs) → PairsToCome ps old → GivesPair ps new answer) (ps : Pairs)
    (p : PairsToCome ps initial) where
  abbrev here : FoundLater test ps old
  here = searches ps p

  -- what was given is the next of these
  next_pair : (more : Pairs) → GivesPair more new answer → (found : RawValue × RawValue)
      → answer ≡ Some found → (k v : Tree) × (qs : Pairs) × (more ≡ pair k v qs)
      × KeepsItem k found.0 × KeepsItem v found.1 × PairsToCome qs new
  next_pair no_pairs g found e = let none = g.0 in cc
  next_pair (pair k v qs) g found e = search rules

  pub search_ends : answer ≡ None → Agrees KeepsItem (first_value test ps) None
  search_ends e =
      subst (λ o. Agrees KeepsItem o None)
      (sym (here.same ∙ by_more here.more (gives here.more here.come))) refl
    where
      by_more : (more : Pairs) → GivesPair more new answer → first_value test more ≡ None
      by_more no_pairs g = refl
      by_more (pair k v qs) g =
          absurd (subst (λ (o : Option (RawValue × RawValue)). IsSomeAnd o
          (λ p. KeepsItem k p.0 × KeepsItem v p.1)) e g.0)

  -- where the test of its key says so
  tested : {more qs : Pairs} {k v : Tree} {b : Bool} → first_value test ps ≡ first_value test more
      → more ≡ pair k v qs → test k ≡ b
      → first_value test ps ≡ (if b then Some v else first_value test qs)
  tested {qs = qs} {v = v} same is e =
      same ∙ ap (first_value test) is ∙ ap (λ b. if b then Some v else first_value test qs) e

  pub search_goes_on : (found : RawValue × RawValue) → answer ≡ Some found
      → ((k : Tree) → KeepsItem k found.0 → test k ≡ false) → FoundLater test ps new
  search_goes_on found e f =
      let n = next_pair here.more (gives here.more here.come) found e in
      record { more = n.2; come = n.6; same = tested here.same n.3 (f n.0 n.4) }

  pub search_finds : (found : RawValue × RawValue) → answer ≡ Some found
      → ((k : Tree) → KeepsItem k found.0 → test k ≡ true)
      → Agrees KeepsItem (first_value test ps) (Some found.1)
  search_finds found e f = search (rules, next_pair, tested)

-- ---- by a place

-- the item at this place of these is at that place of those to come
pub record PlacedLater (index place : ℕ) (ts : Trees) (items : RawItems) : Type 0 where
  pub more : Trees
  pub come : ItemsToCome more items
  pub same : indexed_tree index ts ≡ indexed_tree place more

abbrev pub Counts : ℕ → ℕ → RawItems → RawItems → Type 0
Counts index counter initial items =
    (ts : Trees) → ItemsToCome ts initial → PlacedLater index (index - counter) ts items

module _ (index place : ℕ) (ts : Trees) (new : RawItems) (answer : Option RawValue) where
  item_passes : (more : Trees) (after : ℕ) → place ≡ suc after
      → indexed_tree index ts ≡ indexed_tree place more → GivesItem more new answer
      → (found : RawValue) → answer ≡ Some found → PlacedLater index after ts new
  item_passes no_trees after next same g found e = let none = g.0 in cc
  item_passes (tree t us) after next same g found e = search rules

  item_is : (more : Trees) → place ≡ 0 → indexed_tree index ts ≡ indexed_tree place more
      → GivesItem more new answer → Agrees KeepsItem (indexed_tree index ts) answer
  item_is no_trees zeroth same g = subst (λ o. Agrees KeepsItem o answer) (sym same) g.0
  item_is (tree t us) zeroth same g = search rules

module _ (index counter : ℕ) (initial old new : RawItems) (answer : Option RawValue)
    (counts : Counts index counter initial old)
    (gives : (ts : Trees) → ItemsToCome ts old → GivesItem ts new answer) (ts : Trees)
    (p : ItemsToCome ts initial) where
  abbrev there : PlacedLater index (index - counter) ts old
  there = counts ts p

  pub count_goes_on : (found : RawValue) → answer ≡ Some found → counter < index
      → PlacedLater index (index - (counter + 1)) ts new
  count_goes_on found e lt = search (rules, item_passes)

  pub count_finds : counter ≡ index → Agrees KeepsItem (indexed_tree index ts) answer
  count_finds e = search (rules, item_is)

-- ---- in what was opened

pub within : {A B : Type 0} (K : A → B → Type 0) (find : A → Option Tree) (o : Option A)
    (opened : Option B) (kept : B) (answer : Option RawValue) → Agrees K o opened
    → opened ≡ Some kept → ((x : A) → K x kept → Agrees KeepsItem (find x) answer)
    → Agrees KeepsItem (option_and_then find o) answer
within K find None opened kept answer h e f = cc
within {B = B} K find (Some x) opened kept answer h e f =
    f x (subst (λ (o : Option B). IsSomeAnd o (K x)) e h)
