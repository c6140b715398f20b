-- What is written piece by piece is cut into chunks.
use Rattle.std.proofs.Common.{◌≡◌, ℕ, ◌+◌, ◌<◌, ◌≤◌, Bool, true, false, nat_le, List, [], ◌∷◌, ◌++◌}
use Rattle.std.proofs.Common.{length, refl, sym, ap, ◌∙◌, inl, inr, arith, append_assoc}
use Rattle.std.proofs.Common.{length-append, subst, rules}
use Rattle.std.proofs.lemmas.List.{append-nil}
use Rattle.std.proofs.lemmas.Bool.{leb-false, leb-true}
use Rattle.cbor4ii_items.specs.Strings.{joined_content, definite_string, open_head, break_bytes}
use Rattle.cbor4ii_ser.specs.Pieces.{chunk_most, without_empty, IsFull, IsCut, Chunks, several}
use Rattle.cbor4ii_ser.specs.Pieces.{definite_chunks, Pending, piece_fits_after, run_bytes}
use Rattle.cbor4ii_ser.specs.Pieces.{long_bytes}
use Rattle.cbor4ii_ser.specs.Pieces.{piece_bytes, piece_pending, held_piece, pieces_bytes, after}
use Rattle.cbor4ii_ser.specs.Pieces.{last_bytes}
use Rattle.cbor4ii_ser.specs.Pieces.{text_bytes}
use Rattle.cbor4ii_ser.proofs.Determined.{joined_append}

without_empty_append : (ps qs : List (List ℕ))
    → without_empty (ps ++ qs) ≡ without_empty ps ++ without_empty qs
without_empty_append [] qs = refl
without_empty_append ([] ∷ ps) qs = without_empty_append ps qs
without_empty_append ((b ∷ bs) ∷ ps) qs = ap (λ z. (b ∷ bs) ∷ z) (without_empty_append ps qs)

pub joined_without_empty : (ps : List (List ℕ)) → joined_content (without_empty ps) ≡ joined_content
    ps
joined_without_empty [] = refl
joined_without_empty ([] ∷ ps) = joined_without_empty ps
joined_without_empty ((b ∷ bs) ∷ ps) = ap (λ z. (b ∷ bs) ++ z) (joined_without_empty ps)

none_without_empty : (ps : List (List ℕ)) → joined_content ps ≡ [] → without_empty ps ≡ []
none_without_empty [] e = refl
none_without_empty ([] ∷ ps) e = none_without_empty ps e
none_without_empty ((b ∷ bs) ∷ ps) e = absurd (cc)

-- what is still to be written, and the end
abbrev of_tree : Pending → List (List ℕ) → List ℕ
of_tree p ps = pieces_bytes p ps ++ last_bytes (after p ps)

abbrev encoded_at : Bool → Pending → List ℕ → List (List ℕ) → List ℕ
encoded_at t p a ps =
    (piece_bytes t p a ++ pieces_bytes (piece_pending t p a) ps)
    ++ last_bytes (after (piece_pending t p a) ps)

encoded_cons : (p : Pending) (a : List ℕ) (ps : List (List ℕ))
    → of_tree p (a ∷ ps) ≡ encoded_at (piece_fits_after p a) p a ps
unfolding pieces_bytes after
encoded_cons p a ps = refl

encoded_nil : (p : Pending) → of_tree p [] ≡ last_bytes p
unfolding pieces_bytes after
encoded_nil p = refl

abbrev run_of : Bool → List ℕ → Pending
run_of begun run = record { begun = begun; run = run }

-- chunks of these pieces, and the bytes after the beginning
abbrev Cuts : List (List ℕ) → List ℕ → Type 0
Cuts pieces bytes =
    (chunks : List (List ℕ)) × IsCut pieces chunks × (bytes ≡ definite_chunks chunks ++ break_bytes)

cuts_as : {ps qs : List (List ℕ)} {a b : List ℕ} → ps ≡ qs → a ≡ b → Cuts ps a → Cuts qs b
cuts_as {ps = ps} {qs = qs} {a = a} {b = b} e f p = search rules

-- a run that is held back, as a chunk before others
with_run : (fs : List (List ℕ)) (run : List ℕ) (rest : List (List ℕ)) (bytes : List ℕ)
    → run ≡ joined_content fs → (run ≡ [] → fs ≡ []) → length run ≤ chunk_most → IsFull run rest
    → Cuts rest bytes → Cuts (fs ++ rest) (run_bytes run ++ bytes)
with_run fs [] rest bytes is empty short full p = search rules
with_run [] (b ∷ bs) rest bytes is empty short full p = absurd (cc)
with_run (f ∷ fs) (b ∷ bs) rest bytes is empty short full p =
    let some : 0 < length (f ∷ fs) = omega arith in (
      (b ∷ bs) ∷ p.0,
      (f ∷ fs, rest, refl, record { some = some; joins = is; short = inl short }, full, p.1),
      ap (λ z. definite_string 3 (b ∷ bs) ++ z) p.2
          ∙ sym (append_assoc (definite_string 3 (b ∷ bs)) (definite_chunks p.0) break_bytes),
    )

with_held : (us rest : List (List ℕ)) (bytes : List ℕ) → length (joined_content us) ≤ chunk_most
    → IsFull (joined_content us) rest → Cuts rest bytes
    → Cuts (without_empty us ++ rest) (run_bytes (joined_content us) ++ bytes)
with_held us rest bytes short full p =
    search (rules, with_run, joined_without_empty, none_without_empty)

-- a long piece, as a chunk before others
with_long : (a : List ℕ) (rest : List (List ℕ)) (bytes : List ℕ) → IsFull a rest → Cuts rest bytes
    → Cuts (a ∷ rest) (definite_string 3 a ++ bytes)
with_long a rest bytes full p =
    let some : 0 < length (a ∷ []) = omega arith in (
      a ∷ p.0,
      (
        a ∷ [],
        rest,
        refl,
        record { some = some; joins = sym (append-nil a); short = inr refl },
        full,
        p.1,
      ),
      ap (λ z. definite_string 3 a ++ z) p.2
          ∙ sym (append_assoc (definite_string 3 a) (definite_chunks p.0) break_bytes),
    )

full_long : (a : List ℕ) (rest : List (List ℕ)) → chunk_most < length a → IsFull a rest
full_long a [] h = tt
full_long a (p ∷ rest) h = omega (arith, h, length-append a p)

joined_one : (us : List (List ℕ)) (a : List ℕ) → joined_content (us ++ (a ∷ [])) ≡ joined_content us
    ++ a
joined_one us a = joined_append us (a ∷ []) ∙ ap (λ z. joined_content us ++ z) (append-nil a)

-- a piece that does not fit after the run
trailing : (u : Bool) (us : List (List ℕ)) (b : ℕ) (bs : List ℕ) (ps : List (List ℕ))
    → nat_le (length (b ∷ bs)) chunk_most ≡ u → length (joined_content us) ≤ chunk_most
    → chunk_most < length (joined_content us) + length (b ∷ bs)
    → ((vs : List (List ℕ)) → length (joined_content vs) ≤ chunk_most
    → Cuts (without_empty vs ++ without_empty ps) (of_tree (run_of true (joined_content vs)) ps))
    → Cuts (without_empty us ++ without_empty ((b ∷ bs) ∷ ps))
    ((run_bytes (joined_content us) ++ long_bytes u (b ∷ bs))
    ++ of_tree (run_of true (held_piece u (b ∷ bs))) ps)
trailing true us b bs ps is short long rec =
    let fit : length (joined_content ((b ∷ bs) ∷ [])) ≤ chunk_most =
    omega (arith, leb-true (length (b ∷ bs)) chunk_most is, ap length (append-nil (b ∷ bs))) in
    let full : chunk_most < length (joined_content us ++ (b ∷ bs)) =
    omega (arith, long, length-append (joined_content us) (b ∷ bs)) in
    cuts_as refl (sym (append_assoc (run_bytes (joined_content us)) []
    (of_tree (run_of true (b ∷ bs)) ps)))
    (with_held us ((b ∷ bs) ∷ without_empty ps) (of_tree (run_of true (b ∷ bs)) ps) short full
    (cuts_as refl (ap (λ z. of_tree (run_of true z) ps) (append-nil (b ∷ bs)))
    (rec ((b ∷ bs) ∷ []) fit)))
trailing false us b bs ps is short long rec =
    let big : chunk_most < length (b ∷ bs) = leb-false (length (b ∷ bs)) chunk_most is in
    let full : chunk_most < length (joined_content us ++ (b ∷ bs)) =
    omega (arith, long, length-append (joined_content us) (b ∷ bs)) in
    let none : 0 ≤ chunk_most = omega arith in
    cuts_as refl (sym (append_assoc (run_bytes (joined_content us)) (definite_string 3 (b ∷ bs))
    (of_tree (run_of true []) ps)))
    (with_held us ((b ∷ bs) ∷ without_empty ps)
    (definite_string 3 (b ∷ bs) ++ of_tree (run_of true []) ps) short full
    (with_long (b ∷ bs) (without_empty ps) (of_tree (run_of true []) ps)
    (full_long (b ∷ bs) (without_empty ps) big) (rec [] none)))

cut_at : (t : Bool) (us : List (List ℕ)) (a : List ℕ) (ps : List (List ℕ))
    → piece_fits_after (run_of true (joined_content us)) a ≡ t → length (joined_content us) ≤
    chunk_most
    → ((vs : List (List ℕ)) → length (joined_content vs) ≤ chunk_most
    → Cuts (without_empty vs ++ without_empty ps) (of_tree (run_of true (joined_content vs)) ps))
    → Cuts (without_empty us ++ without_empty (a ∷ ps))
    (encoded_at t (run_of true (joined_content us)) a ps)
cut_at true us a ps is short rec =
    let fit : length (joined_content (us ++ (a ∷ []))) ≤ chunk_most =
    search (rules, leb-true, joined_one, length-append) in
    cuts_as (ap (λ z. z ++ without_empty ps) (without_empty_append us (a ∷ []))
    ∙ (append_assoc (without_empty us) (without_empty (a ∷ [])) (without_empty ps)
    ∙ ap (λ z. without_empty us ++ z) (sym (without_empty_append (a ∷ []) ps))))
    (ap (λ z. of_tree (run_of true z) ps) (joined_one us a)) (rec (us ++ (a ∷ [])) fit)
cut_at false us [] ps is short rec = search rules
cut_at false us (b ∷ bs) ps is short rec =
    let long : chunk_most < length (joined_content us) + length (b ∷ bs) =
    leb-false (length (joined_content us) + length (b ∷ bs)) chunk_most is in
    let u = nat_le (length (b ∷ bs)) chunk_most in
    cuts_as refl (sym (append_assoc (run_bytes (joined_content us) ++ long_bytes u (b ∷ bs))
    (pieces_bytes (run_of true (held_piece u (b ∷ bs))) ps)
    (last_bytes (after (run_of true (held_piece u (b ∷ bs))) ps))))
    (trailing u us b bs ps refl short long rec)

-- where a text of indefinite length has begun
cut_on : (ps us : List (List ℕ)) → length (joined_content us) ≤ chunk_most
    → Cuts (without_empty us ++ without_empty ps) (of_tree (run_of true (joined_content us)) ps)
cut_on [] us short =
    cuts_as refl (sym (encoded_nil (run_of true (joined_content us))))
    (with_held us [] break_bytes short tt ([], refl, refl))
cut_on (a ∷ ps) us short =
    cuts_as refl (sym (encoded_cons (run_of true (joined_content us)) a ps))
    (cut_at (piece_fits_after (run_of true (joined_content us)) a) us a ps refl short
    (λ vs h. cut_on ps vs h))

-- where none has begun
begun_at : (run a : List ℕ) (ps : List (List ℕ)) → encoded_at false (run_of false run) a ps
    ≡ open_head 3 ++ encoded_at false (run_of true run) a ps
begun_at run a ps = refl

chunks_at : (t : Bool) (us : List (List ℕ)) (a : List ℕ) (ps : List (List ℕ))
    → piece_fits_after (run_of true (joined_content us)) a ≡ t → length (joined_content us) ≤
    chunk_most
    → ((vs : List (List ℕ)) → length (joined_content vs) ≤ chunk_most
    → Chunks (vs ++ ps) (of_tree (run_of false (joined_content vs)) ps))
    → Chunks (us ++ (a ∷ ps)) (encoded_at t (run_of false (joined_content us)) a ps)
chunks_at true us a ps is short rec =
    let fit : length (joined_content (us ++ (a ∷ []))) ≤ chunk_most =
    search (rules, leb-true, joined_one, length-append) in
    subst (λ z. Chunks z (of_tree (run_of false (joined_content us ++ a)) ps))
    (append_assoc us (a ∷ []) ps)
    (subst (λ z. Chunks ((us ++ (a ∷ [])) ++ ps) (of_tree (run_of false z) ps)) (joined_one us a)
    (rec (us ++ (a ∷ [])) fit))
chunks_at false us a ps is short rec =
    let long : chunk_most < length (joined_content us) + length a =
    leb-false (length (joined_content us) + length a) chunk_most is in
    let total : chunk_most < length (joined_content (us ++ (a ∷ ps))) =
    search (rules, joined_append, length-append) in
    let p = cut_at false us a ps is short (λ vs h. cut_on ps vs h) in
    several p.0 total (subst (λ z. IsCut z p.0) (sym (without_empty_append us (a ∷ ps))) p.1)
    (begun_at (joined_content us) a ps ∙ (ap (λ z. open_head 3 ++ z) p.2
    ∙ sym (append_assoc (open_head 3) (definite_chunks p.0) break_bytes)))

chunks_on : (ps us : List (List ℕ)) → length (joined_content us) ≤ chunk_most
    → Chunks (us ++ ps) (of_tree (run_of false (joined_content us)) ps)
chunks_on [] us short = search (rules, append-nil, encoded_nil)
chunks_on (a ∷ ps) us short =
    subst (Chunks (us ++ (a ∷ ps))) (sym (encoded_cons (run_of false (joined_content us)) a ps))
    (chunks_at (piece_fits_after (run_of false (joined_content us)) a) us a ps refl short
    (λ vs h. chunks_on ps vs h))

-- what is written is a text of these pieces
pub chunks_written : (pieces : List (List ℕ)) → Chunks pieces (text_bytes pieces)
chunks_written pieces = let none : 0 ≤ chunk_most = omega arith in chunks_on pieces [] none
