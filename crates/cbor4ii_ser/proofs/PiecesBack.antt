-- A text in pieces is read as the pieces joined.
use Rattle.std.proofs.Common.{◌≡◌, ℕ, suc, ◌+◌, ◌<◌, ◌≤◌, ◌^◌, List, [], ◌∷◌, ◌++◌, length, take}
use Rattle.std.proofs.Common.{drop, refl, sym, ap, ap₂, ◌∙◌, inl, inr, arith, append_assoc}
use Rattle.std.proofs.Common.{length-append, subst}
use Rattle.std.specs.Prelude.{All, IsUtf8}
use Rattle.std.proofs.Math.Seq.{drop-append_seam}
use Rattle.std.proofs.lemmas.List.{append-nil}
use Rattle.std.proofs.lemmas.List.Elements.{All-head, All-tail}
use Rattle.std.proofs.lemmas.Str.{IsUtf8-nil, IsUtf8-append}
use Rattle.cbor4ii_items.specs.Strings.{joined_content, definite_string, open_head, break_bytes}
use Rattle.cbor4ii_items.specs.Strings.{ReadsDefiniteString, ReadsChunks, ReadsIndefiniteString}
use Rattle.cbor4ii_items.specs.Strings.{ReadsTextAs, chunk_cost}
use Rattle.cbor4ii_items.specs.ReadBack.{ReadsBack}
use Rattle.cbor4ii_items.specs.Laws.LeavesBack.{definite_back}
use Rattle.cbor4ii_ser.specs.Pieces.{without_empty, IsChunkOf, IsCut, Chunks, one, several}
use Rattle.cbor4ii_ser.specs.Pieces.{definite_chunks}
use Rattle.cbor4ii_ser.proofs.Determined.{joined_append}
use Rattle.cbor4ii_ser.proofs.Greedy.{joined_without_empty}

-- each piece is so short that its length can be said
abbrev pub AllShort : List (List ℕ) → Type 0
AllShort [] = Unit {0}
AllShort (piece ∷ pieces) = (length piece < 2 ^ 64) × AllShort pieces

pub all_short : (ps : List (List ℕ)) → length (joined_content ps) < 2 ^ 64 → AllShort ps
all_short [] h = tt
all_short (p ∷ ps) h =
    let e = length-append p (joined_content ps) in
    (omega (arith, h, e), all_short ps (omega (arith, h, e)))

pub utf8_joined : (ps : List (List ℕ)) → All IsUtf8 ps → IsUtf8 (joined_content ps)
utf8_joined [] h = IsUtf8-nil
utf8_joined (p ∷ ps) h =
    IsUtf8-append p (joined_content ps) (All-head IsUtf8 p ps h)
    (utf8_joined ps (All-tail IsUtf8 p ps h))

chunks_back : (cs : List (List ℕ)) (rest : List ℕ) → AllShort cs
    → ReadsChunks 3 cs (definite_chunks cs ++ rest) (length (definite_chunks cs))
chunks_back [] rest h = refl
chunks_back (c ∷ cs) rest h =
    let whole : (definite_string 3 c ++ definite_chunks cs) ++ rest ≡ definite_string 3 c
    ++ (definite_chunks cs ++ rest) =
    append_assoc (definite_string 3 c) (definite_chunks cs) rest in
    let left : drop (length (definite_string 3 c))
    ((definite_string 3 c ++ definite_chunks cs) ++ rest) ≡ definite_chunks cs ++ rest =
    ap (drop (length (definite_string 3 c))) whole
    ∙ drop-append_seam (definite_string 3 c) (definite_chunks cs ++ rest) in (
      length (definite_string 3 c),
      length (definite_chunks cs),
      subst (λ z. ReadsDefiniteString 3 z c (length (definite_string 3 c))) (sym whole)
          (definite_back 3 c (definite_chunks cs ++ rest) h.0),
      subst (λ z. ReadsChunks 3 cs z (length (definite_chunks cs))) (sym left)
          (chunks_back cs rest h.1),
      length-append (definite_string 3 c) (definite_chunks cs),
    )

short_prefix : (ps qs : List (List ℕ)) → AllShort (ps ++ qs) → AllShort ps
short_prefix [] qs h = tt
short_prefix (p ∷ ps) qs h = (h.0, short_prefix ps qs h.1)

short_rest : (ps qs : List (List ℕ)) → AllShort (ps ++ qs) → AllShort qs
short_rest [] qs h = h
short_rest (p ∷ ps) qs h = short_rest ps qs h.1

pub short_without_empty : (ps : List (List ℕ)) → AllShort ps → AllShort (without_empty ps)
short_without_empty [] h = tt
short_without_empty ([] ∷ ps) h = short_without_empty ps h.1
short_without_empty ((b ∷ bs) ∷ ps) h = (h.0, short_without_empty ps h.1)

short_one : (c : List ℕ) (run : List (List ℕ)) → length run ≡ 1 → c ≡ joined_content run
    → AllShort run
    → length c < 2 ^ 64
short_one c [] e is h = absurd (omega (arith, e))
short_one c (p ∷ []) e is h = omega (arith, h.0, ap length (is ∙ append-nil p))
short_one c (p ∷ (q ∷ run)) e is h = absurd (omega (arith, e))

short_chunk : (c : List ℕ) (run : List (List ℕ)) → IsChunkOf c run → AllShort run
    → length c < 2 ^ 64
short_chunk c run is h = elim is.short [
  | inl short ↦ omega (arith, short)
  | inr single ↦ short_one c run single is.joins h
]

pub short_cut : (ps cs : List (List ℕ)) → IsCut ps cs → AllShort ps → AllShort cs
short_cut ps [] p h = tt
short_cut ps (c ∷ cs) p h =
    let all : AllShort (p.0 ++ p.1) = subst AllShort p.2 h in (
      short_chunk c p.0 p.3 (short_prefix p.0 p.1 all),
      short_cut p.1 cs p.5
          (short_rest p.0 p.1 all),
    )

pub joined_cut : (ps cs : List (List ℕ)) → IsCut ps cs → joined_content ps ≡ joined_content cs
joined_cut ps [] p = ap joined_content p
joined_cut ps (c ∷ cs) p =
    ap joined_content p.2
    ∙ (joined_append p.0 p.1 ∙ ap₂ (λ u v. u ++ v) (sym p.3.joins) (joined_cut p.1 cs p.5))

drop_after : (b : ℕ) (xs : List ℕ) (n : ℕ) → drop (1 + n) (b ∷ xs) ≡ drop n xs
drop_after b xs n = let e : 1 + n ≡ suc n = omega arith in ap (λ j. drop j (b ∷ xs)) e

indefinite_back : (ps cs : List (List ℕ)) (rest : List ℕ) → joined_content ps ≡ joined_content cs
    → AllShort cs
    → ReadsIndefiniteString 3 ((open_head 3 ++ definite_chunks cs ++ break_bytes) ++ rest)
    (joined_content ps)
    (length (open_head 3 ++ definite_chunks cs ++ break_bytes)) (chunk_cost cs)
indefinite_back ps cs rest is h =
    let n = length (definite_chunks cs) in
    let whole : (definite_chunks cs ++ break_bytes) ++ rest ≡ definite_chunks cs ++
    (break_bytes ++ rest) =
    append_assoc (definite_chunks cs) break_bytes rest in
    let left : drop n ((definite_chunks cs ++ break_bytes) ++ rest) ≡ break_bytes ++ rest =
    ap (drop n) whole ∙ drop-append_seam (definite_chunks cs) (break_bytes ++ rest) in
    record {
      begins = refl;
      chunks = cs;
      between = n;
      read = subst (λ z. ReadsChunks 3 cs z n) (sym whole) (chunks_back cs (break_bytes ++ rest) h);
      ends = ap (take 1) (drop_after 127 ((definite_chunks cs ++ break_bytes) ++ rest) n ∙ left);
      value = is;
      size =
          (let m : length (definite_chunks cs ++ break_bytes) ≡ n + 1 =
          length-append (definite_chunks cs) break_bytes in omega (arith, m));
      cost = refl;
    }

one_step : (cs : List (List ℕ)) → chunk_cost cs ≤ 1
one_step [] = omega arith
one_step (c ∷ cs) = omega arith

-- what a text in pieces costs to read
abbrev pub pieces_cost : (pieces : List (List ℕ)) (bytes : List ℕ) → Chunks pieces bytes → ℕ
pieces_cost pieces bytes (one short e) = 0
pieces_cost pieces bytes (several cs long cut e) = chunk_cost cs

pub pieces_cost_small : (pieces : List (List ℕ)) (bytes : List ℕ) (is : Chunks pieces bytes)
    → pieces_cost pieces bytes is ≤ 1
pieces_cost_small pieces bytes (one short e) = omega arith
pieces_cost_small pieces bytes (several cs long cut e) = one_step cs

module _ {V : Type 0} (content : V → List ℕ) (v : V) (pieces : List (List ℕ)) (bytes : List ℕ)
    (fits : length (joined_content pieces) < 2 ^ 64) where
  pub pieces_back : content v ≡ joined_content pieces → All IsUtf8 pieces
      → (is : Chunks pieces bytes)
      → ReadsBack (ReadsTextAs content) bytes v (pieces_cost pieces bytes is)
  pieces_back has utf8 (one short e) rest = (
    inl (
      subst (λ z. ReadsDefiniteString 3 (bytes ++ rest) z (length bytes)) (sym has)
          (subst (λ z. ReadsDefiniteString 3 (z ++ rest) (joined_content pieces) (length z)) (sym e)
          (definite_back 3 (joined_content pieces) rest fits)),
      refl,
    ),
    subst IsUtf8 (sym has) (utf8_joined pieces utf8),
  )
  pieces_back has utf8 (several cs long cut e) rest =
      let is : joined_content pieces ≡ joined_content cs =
      sym (joined_without_empty pieces) ∙ joined_cut (without_empty pieces) cs cut in
      let read = indefinite_back pieces cs rest is (short_cut (without_empty pieces) cs cut
      (short_without_empty pieces (all_short pieces fits))) in (
        inr (subst (λ z. ReadsIndefiniteString 3 (bytes ++ rest) z (length bytes) (chunk_cost cs))
            (sym has) (subst (λ z. ReadsIndefiniteString 3 (z ++ rest) (joined_content pieces)
            (length z)
            (chunk_cost cs)) (sym e) read)),
        subst IsUtf8 (sym has) (utf8_joined pieces utf8),
      )
