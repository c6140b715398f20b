-- Numbers are read back from what is written.
use Rattle.std.proofs.Common.{◌≡◌, ℕ, zero, suc, ◌^◌, ◌<◌, ◌≤◌, ◌⊎◌, inl, inr, List, [], ◌∷◌, ◌++◌}
use Rattle.std.proofs.Common.{length, drop, take, Bool, true, false, IsTrue, refl, sym, ap, ◌∙◌}
use Rattle.std.proofs.Common.{subst, arith, append_assoc, cond, Option, Some, None, IfSome, ltb}
use Rattle.std.proofs.Common.{ltb-true, lt-ltb, length-append, rules}
use Rattle.std.specs.Prelude.{ℤ, pos, negsuc}
use Rattle.std.specs.Int.{byte_at as number_byte, bytes_high_first}
use Rattle.std.proofs.Math.Seq.{take-append_seam, drop-append_seam, take-length}
use Rattle.cbor4ii_items.specs.Head.{Width, in_first, one as w_one, two, four, eight, byte_count}
use Rattle.cbor4ii_items.specs.Head.{shortest_width, IsBytes}
use Rattle.cbor4ii_items.specs.Heads.{ReadsHead}
use Rattle.cbor4ii_items.specs.Laws.Heads.{length-bytes_high_first, number_again, byte_count-le}
use Rattle.cbor4ii_items.specs.ReadHead.{number_on}
use Rattle.cbor4ii_items.specs.Magnitude.{number_of, without_leading_zeros, magnitude}
use Rattle.cbor4ii_items.specs.Numbers.{ReadsArgument, ReadsSigned, IsWithin, ReadsMagnitude}
use Rattle.cbor4ii_items.specs.Numbers.{ReadsBignum, ReadsU128, ReadsI128, shortest_head}
use Rattle.cbor4ii_items.specs.Numbers.{signed_head, definite_string, bignum_bytes, unsigned_bytes}
use Rattle.cbor4ii_items.specs.Numbers.{signed_bytes}
use Rattle.cbor4ii_items.specs.ReadBack.{ReadsBack, NoneBeginsAnother}
use Rattle.cbor4ii_items.specs.Laws.Outcome.{same_value}
use Rattle.cbor4ii_items.specs.InputError.{InputError, input_error_of}
use Rattle.cbor4ii_rw.specs.View.{View}
use Rattle.cbor4ii_rw.specs.declared.error.DecodeError.{DecodeError}
use Rattle.cbor4ii_items.specs.Laws.Bignums.{number_taken}
use Rattle.cbor4ii_items.specs.Laws.Lawful.{IsOneReading}
use Rattle.cbor4ii_items.specs.Decoding.{Reads, Sound, NoneRead, Complete}
use Rattle.cbor4ii_items.specs.Budget.{CostFits}

-- ---- the shortest head

at_most : (a : Bool) (w u : Width) (n : ℕ) → byte_count w ≤ n → byte_count u ≤ n
    → byte_count (cond a w u) ≤ n
at_most true w u n p q = p
at_most false w u n p q = q

-- no smaller width fits
least : (v : ℕ) (wide : Width) → v < 256 ^ byte_count wide
    → byte_count (shortest_width v) ≤ byte_count wide
least v in_first h = let t : ltb v 24 ≡ true = lt-ltb v 24 (omega arith) in rw t (omega arith)
least v w_one h = search (rules, lt-ltb, at_most, w_one)
least v two h = search (rules, lt-ltb, at_most, w_one)
least v four h = search (rules, lt-ltb, at_most, w_one, four)
least v eight h = byte_count-le (shortest_width v)

greatest : (v : ℕ) (wide : Width) → v < 256 ^ byte_count wide → v < 256 ^ 8
greatest v in_first h = omega arith
greatest v w_one h = omega arith
greatest v two h = omega arith
greatest v four h = omega arith
greatest v eight h = h

pub head_back : (major : ℕ) (wide : Width) (v : ℕ) → v < 256 ^ byte_count wide → (rest : List ℕ)
    → ReadsHead major (byte_count wide)
    (shortest_head major v ++ rest) v (length (shortest_head major v))
head_back major wide v h rest = search rules

pub argument_back : (major : ℕ) (wide : Width) (v : ℕ) → v < 256 ^ byte_count wide
    → ReadsBack (ReadsArgument major (byte_count wide)) (shortest_head major v) v 0
argument_back major wide v h rest = (head_back major wide v h rest, refl)

pub signed_back : (wide : Width) (limit : ℕ) (v : ℤ) → limit ≤ 256 ^ byte_count wide
    → IsWithin limit v → ReadsBack (ReadsSigned (byte_count wide) limit) (signed_head v) v 0
signed_back wide limit (pos k) le h rest = (head_back 0 wide k (omega (arith, le, h)) rest, h, refl)
signed_back wide limit (negsuc k) le h rest =
    (head_back 1 wide k (omega (arith, le, h)) rest, h, refl)

-- ---- byte strings without leading zeros

number_kept : (bs : List ℕ) → number_of (without_leading_zeros bs) ≡ number_of bs
number_kept [] = refl
number_kept (zero ∷ bs) = number_kept bs
number_kept (suc b ∷ bs) = refl

pub length-without_leading_zeros : (bs : List ℕ) → length (without_leading_zeros bs) ≤ length bs
length-without_leading_zeros [] = omega arith
length-without_leading_zeros (zero ∷ bs) = omega (arith, length-without_leading_zeros bs)
length-without_leading_zeros (suc b ∷ bs) = omega arith

still_bytes : (bs : List ℕ) → IsBytes bs → IsBytes (without_leading_zeros bs)
still_bytes [] h = tt
still_bytes (zero ∷ bs) h = still_bytes bs h.1
still_bytes (suc b ∷ bs) h = h

byte_small : (k n : ℕ) → number_byte k n < 256
byte_small zero n = omega arith
byte_small (suc k) n = omega arith

all_bytes : (k n : ℕ) → IsBytes (bytes_high_first k n)
all_bytes zero n = tt
all_bytes (suc k) n = (byte_small k n, all_bytes k n)

number_of_bytes : (k n : ℕ) → n < 256 ^ k → number_of (bytes_high_first k n) ≡ n
number_of_bytes k n h =
    let bs = bytes_high_first k n in
    let long : length bs ≡ k = length-bytes_high_first k n in
    let prefix : take k (bs ++ []) ≡ bs =
    ap (λ j. take j (bs ++ [])) (sym long) ∙ take-append_seam bs [] in
    let room : k ≤ length (bs ++ []) = omega (arith, length-append bs [], long) in
    let same = same_value (number_on [] 0 k 0 (bs ++ [])) (number_again [] 0 k n [] h)
    (number_taken [] 0 k 0 (bs ++ []) room) in
    sym (same.0 ∙ ap number_of prefix)

string_back : (content rest : List ℕ) → length content ≤ 16 → IsBytes content
    → ReadsMagnitude (definite_string 2 content ++ rest) (number_of content)
    (length (definite_string 2 content))
string_back content rest short bytes = search (rules, take-append_seam, length-append)

bignum_back : (tag v : ℕ) → tag < 256 → v < 256 ^ 16 → (rest : List ℕ)
    → ReadsBignum tag (bignum_bytes tag v ++ rest) v (length (bignum_bytes tag v))
bignum_back tag v small fits rest =
    let start = shortest_head 6 tag in
    let content = magnitude v in
    let whole : bignum_bytes tag v ++ rest ≡ start ++ (definite_string 2 content ++ rest) =
    append_assoc start (definite_string 2 content) rest in
    let trailing : drop (length start)
    (bignum_bytes tag v ++ rest) ≡ definite_string 2 content ++ rest =
    ap (drop (length start)) whole
    ∙ drop-append_seam start (definite_string 2 content ++ rest) in
    let number : number_of content ≡ v =
    number_kept (bytes_high_first 16 v) ∙ number_of_bytes 16 v fits in
    let short : length content ≤ 16 =
    omega (
      arith,
      length-without_leading_zeros (bytes_high_first 16 v),
      length-bytes_high_first 16 v,
    ) in
    let back =
    string_back content rest short (still_bytes (bytes_high_first 16 v) (all_bytes 16 v)) in
    record {
      before = length start;
      tagged =
          subst (λ zs. ReadsHead 6 1 zs tag (length start)) (sym whole)
          (head_back 6 w_one tag small (definite_string 2 content ++ rest));
      size = length (definite_string 2 content);
      magnitude =
          subst (λ zs. ReadsMagnitude zs v (length (definite_string 2 content))) (sym trailing)
          (subst (λ k. ReadsMagnitude (definite_string 2 content ++ rest) k
          (length (definite_string 2 content))) number back);
      total = length-append start (definite_string 2 content);
    }

-- an integer as a head's argument where it fits, else as a bignum
integer_back : (t : Bool) (major tag v : ℕ) → ltb v (2 ^ 64) ≡ t → tag < 256 → v < 256 ^ 16
    → (rest : List ℕ)
    → let bytes =
    cond t (shortest_head major v) (bignum_bytes tag v) in
    ReadsHead major 8 (bytes ++ rest) v (length bytes)
    ⊎ ReadsBignum tag (bytes ++ rest) v (length bytes)
integer_back true major tag v e small fits rest =
    inl (head_back major eight v (ltb-true v (2 ^ 64) e) rest)
integer_back false major tag v e small fits rest = inr (bignum_back tag v small fits rest)

pub u128_back : (v : ℕ) → v < 2 ^ 128 → ReadsBack ReadsU128 (unsigned_bytes v) v 0
u128_back v h rest = (integer_back (ltb v (2 ^ 64)) 0 2 v refl (omega arith) h rest, refl)

in_range : {A B : Type 0} (k : ℕ) → k < 2 ^ 127 → A ⊎ B → A ⊎ (B × (k < 2 ^ 127))
in_range k h (inl a) = inl a
in_range k h (inr b) = inr (b, h)

pub i128_back : (v : ℤ) → IsWithin (2 ^ 127) v → ReadsBack ReadsI128 (signed_bytes v) v 0
i128_back (pos k) h rest = (
  in_range k h (integer_back (ltb k (2 ^ 64)) 0 2 k refl (omega arith) (omega (arith, h)) rest),
  refl,
)
i128_back (negsuc k) h rest = (
  in_range k h (integer_back (ltb k (2 ^ 64)) 1 3 k refl (omega arith) (omega (arith, h)) rest),
  refl,
)

-- ---- no encoding begins another

nothing_more : (xs more : List ℕ) → length xs ≡ length (xs ++ more) → more ≡ []
nothing_more xs [] e = refl
nothing_more xs (m ∷ more) e = absurd (omega (arith, e, length-append xs (m ∷ more)))

pub none_begins : {V : Type 0} (reads : Reads V) (same : V → V → Type 0) (closed : Bool)
    → IsOneReading reads same
    → (IsTrue closed → (xs ys : List ℕ) (v : V) (n c : ℕ) → reads xs v n c
    → reads (take n xs ++ ys) v n c) → IsTrue closed → NoneBeginsAnother reads
none_begins reads same closed one alone e xs more v w c d p q =
    let whole : take (length xs) xs ≡ xs = take-length xs in
    let p' = subst (λ zs. reads (zs ++ more) v (length xs) c) whole
    (alone e xs more v (length xs) c p) in
    nothing_more xs more (one (xs ++ more) v w (length xs) (length (xs ++ more)) c d p' q).0

-- ---- what is written is decoded

module _ {V : Type 0} (reads : Reads V) where
  pub decoded : (same : V → V → Type 0) → IsOneReading reads same
      → (bytes rest : List ℕ) (v w : V) (cost : ℕ) (old new : View) → ReadsBack reads bytes v cost
      → old.known ≡ Some (bytes ++ rest) → Sound reads old new w
      → same v w × (new.known ≡ Some rest)
  decoded same one bytes rest v w cost old new back known sound =
      let t = sound.at (bytes ++ rest) known in
      let s = one (bytes ++ rest) v w (length bytes) t.count cost t.cost (back rest) t.read in (
        s.2,
        t.left ∙ ap (λ n. Some (drop n (bytes ++ rest))) (sym s.0)
            ∙ ap Some (drop-append_seam bytes rest),
      )

  rejected_none : (o : Option InputError) (xs : List ℕ) (budget : Option ℕ) (v : V) (n c : ℕ)
      → reads xs v n c → CostFits c budget → IfSome o (λ z. NoneRead reads xs budget) → o ≡ None
  rejected_none None xs budget v n c r fits none = refl
  rejected_none (Some z) xs budget v n c r fits none = absurd (none v n c r fits)

  pub not_rejected : {E : Type 0} (bytes rest : List ℕ) (v : V) (cost : ℕ) (old : View)
      (error : DecodeError E) → ReadsBack reads bytes v cost → CostFits cost old.budget
      → old.known ≡ Some (bytes ++ rest) → Complete reads old error → input_error_of error ≡ None
  not_rejected bytes rest v cost old error back fits known is_complete =
      rejected_none (input_error_of error) (bytes ++ rest) old.budget v (length bytes) cost
      (back rest)
      fits (is_complete.at (bytes ++ rest) known)
