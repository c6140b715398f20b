-- A tree that is taken whole is given back, whatever follows it.
use Rattle.std.proofs.Common.{rules, ◌≡◌, ℕ, zero, suc, ◌+◌, ◌*◌, ◌<◌, List, [], ◌∷◌, ◌++◌, length}
use Rattle.std.proofs.Common.{Ok, refl, ap, ◌∙◌, arith, append_assoc, length-append, Bool, true}
use Rattle.std.proofs.{Common.false, lemmas.Str.is_utf8-from_IsUtf8}
use Rattle.std.specs.Int.{bytes_high_first}
use Rattle.cbor4ii_items.specs.Head.{Width, HeadFits, byte_count, break, additional}
use Rattle.cbor4ii_items.specs.Initial.{sign_major, Kind, byte_string, text_string, kind_major}
use Rattle.cbor4ii_items.specs.Initial.{precision_bytes, Initial, starts_string, initial}
use Rattle.cbor4ii_items.specs.Sequences.{after_step}
use Rattle.cbor4ii_tree.specs.Basis.{Cost.Budget, InputError.tag_name, Tree.{Tree, int, string}}
use Rattle.cbor4ii_tree.specs.Basis.Tree.{chunked, array, array_indefinite, map_of, map_indefinite}
use Rattle.cbor4ii_tree.specs.Basis.Tree.{tagged, simple, bits, count, pair_count, bytes, bytes_all}
use Rattle.cbor4ii_tree.specs.{Basis.Tree.bytes_pairs, Calls.ItemAt.{tested_string, string_tree_at}}
use Rattle.cbor4ii_tree.specs.Calls.ItemAt.{chunk_tree_by, chunk_tree_at, item_by, item_from}
use Rattle.cbor4ii_tree.specs.Calls.{ItemAt.item_within, ItemRejects.{Profile, ChunkOf}}
use Rattle.cbor4ii_tree.specs.{Calls.Parse.Parser, Laws.Binds.step_left}
use Rattle.cbor4ii_tree.specs.Laws.HeadsAgain.{prefix_again, argument_again, number_again}
use Rattle.cbor4ii_tree.specs.Laws.Initials.{begins, initial_int, initial_string, initial_array}
use Rattle.cbor4ii_tree.specs.Laws.Initials.{initial_map, initial_tag, initial_chunks}
use Rattle.cbor4ii_tree.specs.Laws.Initials.{initial_simple, initial_bits, initial_indefinite_array}
use Rattle.cbor4ii_tree.specs.Laws.{Initials.initial_indefinite_map, PartsAgain.Again}
use Rattle.cbor4ii_tree.specs.Laws.PartsAgain.{StartNoBreak, trees_again, pairs_again}
use Rattle.cbor4ii_tree.specs.Laws.PartsAgain.{indefinite_trees_again, indefinite_pairs_again}
use Rattle.cbor4ii_tree.specs.Laws.Profiles.{Tested, HasWholeParts, IsLawfulProfile}

-- after the initial byte, and after the head
pub following_head : (xs ys x : List ℕ) (n : ℕ) → suc (length ((xs ++ ys) ++ x)) < suc n
    → length (ys ++ x) < n
following_head xs ys x n h =
    omega (arith, length-append (xs ++ ys) x, length-append xs ys, length-append ys x)

pub after_indefinite : (xs x : List ℕ) (n : ℕ) → suc (length ((xs ++ break ∷ []) ++ x)) < suc n
    → length (xs ++ break ∷ x) < n
after_indefinite xs x n h = omega (arith, ap length (append_assoc xs (break ∷ []) x))

-- ---- strings

tested_again : (tests : Bool) (k : Kind) (content : List ℕ) (t : Tree) (x : List ℕ)
    → Tested tests k content → tested_string tests k content t x ≡ Ok (t, x)
tested_again true text_string content t x h = rw (is_utf8-from_IsUtf8 content h) refl
tested_again _ _ content t x h = refl

string_again : (name : List ℕ) (k : Kind) (w : Width) (content x : List ℕ)
    → HeadFits w (length content) → string_tree_at name w (32 * kind_major k + additional w
    (length content)) (bytes_high_first (byte_count w) (length content) ++ (content ++ x))
    ≡ Ok (content, x)
string_again name k w content x l = search (rules, argument_again, prefix_again)

chunk_by_again : (j k : Kind) (w : Width) (content x : List ℕ) → j ≡ k
    → HeadFits w (length content) → chunk_tree_by k (starts_string j w) (32 * kind_major j
    + additional w (length content)) (bytes_high_first (byte_count w) (length content)
    ++ (content ++ x)) ≡ Ok (string j w content, x)
chunk_by_again byte_string byte_string w content x e l =
    rw (string_again _ byte_string w content x l) refl
chunk_by_again text_string text_string w content x e l =
    rw (string_again _ text_string w content x l) refl
chunk_by_again _ _ w content x e l = cc

pub chunk_again : (tests : Bool) (k : Kind) (b : Budget) (item : Parser Tree)
    (Whole : Tree → Type 0) (bound : ℕ) → Again item Whole bound
    → Again (chunk_tree_at tests k b item) (ChunkOf tests k b Whole) bound
chunk_again false k b item Whole bound a t x h lt = a t x h lt
chunk_again true k b item Whole bound a (string j w content) x h lt =
    search (rules, step_left, initial_string, append_assoc, chunk_by_again)
chunk_again true k b item Whole bound a _ x h lt = absurd h.1

pub chunks_start : (tests : Bool) (k : Kind) (b : Budget) (Whole : Tree → Type 0)
    → StartNoBreak Whole → StartNoBreak (ChunkOf tests k b Whole)
chunks_start true k b Whole s t w = begins t w.0
chunks_start false k b Whole s t w = s t w

-- ---- items

module _ (p : Profile) (l : IsLawfulProfile p) where
  pub starts : (b : Budget) → StartNoBreak (p.Whole b)
  starts b t w = begins t (l.loose b t w)

  by_initial : (item : Budget → Parser Tree) (c : Budget) (b : ℕ) (bs : List ℕ) (i : Initial)
      → initial b ≡ i → item_from p item c (b ∷ bs) ≡ item_by p item c i b bs
  by_initial item c b bs i e = ap (λ j. item_by p item c j b bs) e

  from_again : (item : Budget → Parser Tree) (n : ℕ) (b : Budget)
      → ((c : Budget) → Again (item c) (p.Whole c) n) → (t : Tree) (x : List ℕ) → HasWholeParts p b
      t
      → length (bytes t ++ x) < suc n → item_from p item b (bytes t ++ x) ≡ Ok (t, x)
  from_again item n b a (int s m w) x h lt =
      by_initial item b _ _ _ (initial_int s m w h)
      ∙ rw (argument_again p.asks (p.of_int s) (sign_major s) m w x h) refl
  from_again item n b a (string k w content) x h lt =
      search (rules, by_initial, initial_string, append_assoc, string_again, tested_again)
  from_again item n b a (chunked k ts) x h lt =
      search (rules, by_initial, initial_chunks, append_assoc, indefinite_trees_again, chunk_again, chunks_start, starts, after_indefinite, tested_again)
  from_again item n b a (array w ts) x h lt =
      let c : Budget = h.1.0 in
      by_initial item b _ _ _ (initial_array (count ts) w h.0)
      ∙ rw (
        h.1.1,
        append_assoc (bytes_high_first (byte_count w) (count ts)) (bytes_all ts) x,
        argument_again _ p.of_array 4 (count ts) w (bytes_all ts ++ x) h.0,
        trees_again (item c) (p.Whole c) n (a c) ts x h.1.2
            (following_head (bytes_high_first (byte_count w) (count ts)) (bytes_all ts) x n lt),
      ) refl
  from_again item n b a (array_indefinite ts) x h lt =
      search (rules, by_initial, initial_indefinite_array, append_assoc, indefinite_trees_again, starts, after_indefinite)
  from_again item n b a (map_of w ps) x h lt =
      let c : Budget = h.1.0 in
      let top : List ℕ = bytes_high_first (byte_count w) (pair_count ps) in
      by_initial item b _ _ _ (initial_map (pair_count ps) w h.0)
      ∙ rw (
        h.1.1,
        append_assoc top (bytes_pairs ps) x,
        argument_again _ p.of_map 5 (pair_count ps) w (bytes_pairs ps ++ x) h.0,
        pairs_again (item c) (p.Whole c) n (a c) ps x h.1.2
            (following_head top (bytes_pairs ps) x n lt),
      ) refl
  from_again item n b a (map_indefinite ps) x h lt =
      search (rules, by_initial, initial_indefinite_map, append_assoc, indefinite_pairs_again, starts, after_indefinite)
  from_again item n b a (tagged m w t) x h lt =
      by_initial item b _ _ _ (initial_tag m w h.0)
      ∙ rw (
        append_assoc (bytes_high_first (byte_count w) m) (bytes t) x,
        argument_again _ tag_name 6 m w (bytes t ++ x) h.0,
        a b t x h.1 (following_head (bytes_high_first (byte_count w) m) (bytes t) x n lt),
      ) refl
  from_again item n b a (simple v) x h lt = by_initial item b _ _ _ (initial_simple v)
  from_again item n b a (bits f m) x h lt =
      by_initial item b _ _ _ (initial_bits f)
      ∙ rw (number_again p.asks (p.of_float f) (precision_bytes f) m x h) refl

  pub item_again : (n : ℕ) (budget : Budget) → Again (item_within p n budget) (p.Whole budget) n
  unfolding item_within
  item_again zero budget t x w lt = absurd (omega arith)
  item_again (suc n) budget t x w lt =
      rw (step_left budget (l.costs budget t w))
      (from_again (item_within p n) n (after_step budget) (item_again n) t x (l.opens budget t w)
      lt)
