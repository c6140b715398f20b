-- A text in pieces is one item.
use Rattle.std.proofs.Common.{◌≡◌, ℕ, ◌<◌, ◌≤◌, ◌^◌, List, [], ◌∷◌, ◌++◌, length, Bool, true, false}
use Rattle.std.proofs.Common.{refl, sym, ap, ◌∙◌, subst, rules}
use Rattle.std.specs.Prelude.{All, IsUtf8}
use Rattle.cbor4ii_items.specs.Head.{shortest_width}
use Rattle.cbor4ii_items.specs.Initial.{text_string}
use Rattle.cbor4ii_items.specs.Laws.Heads.{shortest_fits}
use Rattle.cbor4ii_items.specs.Strings.{joined_content, definite_string, open_head, break_bytes}
use Rattle.cbor4ii_tree.specs.Basis.Tree.{string, chunked, Trees, no_trees, tree, bytes_all}
use Rattle.cbor4ii_tree.specs.Basis.Tree.{joined_chunks, LooseAll, AreChunks}
use Rattle.cbor4ii_ser.specs.OneItem.{AllShortestHeads, Form, shortest_heads, OneItem, IsOneItem}
use Rattle.cbor4ii_ser.specs.Pieces.{chunk_most, without_empty, Chunks, one, several}
use Rattle.cbor4ii_ser.specs.Pieces.{definite_chunks}
use Rattle.cbor4ii_ser.specs.TextState.{text_encoding}
use Rattle.cbor4ii_ser.specs.Laws.OneItem.{text_is_item}
use Rattle.cbor4ii_ser.proofs.Greedy.{joined_without_empty, chunks_written}
use Rattle.cbor4ii_ser.proofs.PiecesBack.{AllShort, all_short, utf8_joined, short_without_empty}
use Rattle.cbor4ii_ser.proofs.PiecesBack.{short_cut, joined_cut}

abbrev chunk_trees : List (List ℕ) → Trees
chunk_trees [] = no_trees
chunk_trees (c ∷ cs) = tree (string text_string (shortest_width (length c)) c) (chunk_trees cs)

loose_chunks : (cs : List (List ℕ)) → AllShort cs → LooseAll (chunk_trees cs)
loose_chunks [] h = tt
loose_chunks (c ∷ cs) h = (shortest_fits (length c) h.0, loose_chunks cs h.1)

are_chunks : (cs : List (List ℕ)) → AreChunks text_string (chunk_trees cs)
are_chunks [] = tt
are_chunks (c ∷ cs) = (refl, are_chunks cs)

shortest_chunks : (cs : List (List ℕ)) → AllShortestHeads (chunk_trees cs)
shortest_chunks [] = tt
shortest_chunks (c ∷ cs) = (refl, shortest_chunks cs)

joined_trees : (cs : List (List ℕ)) → joined_chunks (chunk_trees cs) ≡ joined_content cs
joined_trees [] = refl
joined_trees (c ∷ cs) = ap (λ zs. c ++ zs) (joined_trees cs)

bytes_trees : (cs : List (List ℕ)) → bytes_all (chunk_trees cs) ≡ definite_chunks cs
bytes_trees [] = refl
bytes_trees (c ∷ cs) = ap (λ zs. definite_string 3 c ++ zs) (bytes_trees cs)

chunks_are_item : (cs : List (List ℕ)) → AllShort cs → IsUtf8 (joined_content cs)
    → OneItem shortest_heads (open_head 3 ++ definite_chunks cs ++ break_bytes)
chunks_are_item cs short utf8 = record {
  of_tree = chunked text_string (chunk_trees cs);
  formed = search (rules, loose_chunks, are_chunks, joined_trees, shortest_chunks);
  bytes_are = ap (λ zs. open_head 3 ++ (zs ++ break_bytes)) (bytes_trees cs);
}

pieces_are_item : (pieces : List (List ℕ)) (bytes : List ℕ) → length (joined_content pieces) < 2 ^
    64
    → All IsUtf8 pieces → Chunks pieces bytes → OneItem shortest_heads bytes
pieces_are_item pieces bytes fits utf8 (one short e) = search (rules, text_is_item, utf8_joined)
pieces_are_item pieces bytes fits utf8 (several cs long cut e) =
    let is : joined_content pieces ≡ joined_content cs =
    sym (joined_without_empty pieces) ∙ joined_cut (without_empty pieces) cs cut in
    subst (OneItem shortest_heads) (sym e) (chunks_are_item cs
    (short_cut (without_empty pieces) cs cut (short_without_empty pieces (all_short pieces fits)))
    (subst IsUtf8 is (utf8_joined pieces utf8)))

pub text_in_pieces_is_item : (fails_itself : Bool) (pieces : List (List ℕ))
    → length (joined_content pieces) < 2 ^ 64 → All IsUtf8 pieces
    → IsOneItem shortest_heads (text_encoding fails_itself pieces)
text_in_pieces_is_item true pieces fits utf8 = tt
text_in_pieces_is_item false pieces fits utf8 = search (rules, pieces_are_item, chunks_written)

short_are_item : (form : Form) (pieces : List (List ℕ)) (bytes : List ℕ)
    → length (joined_content pieces) ≤ chunk_most → All IsUtf8 pieces → Chunks pieces bytes
    → OneItem form bytes
short_are_item form pieces bytes fits utf8 (one short e) =
    search (rules, text_is_item, utf8_joined)
short_are_item form pieces bytes fits utf8 (several cs long cut e) = search rules

pub short_text_is_item : (form : Form) (fails_itself : Bool) (pieces : List (List ℕ))
    → length (joined_content pieces) ≤ chunk_most → All IsUtf8 pieces
    → IsOneItem form (text_encoding fails_itself pieces)
short_text_is_item form true pieces fits utf8 = tt
short_text_is_item form false pieces fits utf8 = search (rules, short_are_item, chunks_written)
