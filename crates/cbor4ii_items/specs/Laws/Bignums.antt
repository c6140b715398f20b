-- Integers of sixteen bytes are read exactly as they are encoded.
use Rattle.std.proofs.Common.{◌≡◌, ℕ, zero, suc, ◌+◌, ◌*◌, ◌/◌, ◌^◌, ◌<◌, ◌≤◌, inl, inr, List, []}
use Rattle.std.proofs.Common.{◌∷◌, ◌++◌, length, drop, take, Ok, false, refl, sym, ap, ◌∙◌, subst}
use Rattle.std.proofs.Common.{arith, ltb, le-ltb, rules}
use Rattle.std.specs.Prelude.{ℤ, pos, negsuc, codes, fold}
use Rattle.std.proofs.lemmas.List.{length-drop, length-append, length-take-le}
use Rattle.cbor4ii_items.specs.Head.{IsBytes}
use Rattle.cbor4ii_items.specs.Reading.{give, go_on, ◌>=>◌}
use Rattle.cbor4ii_items.specs.ReadHead.{head_at, number_on}
use Rattle.cbor4ii_items.specs.ReadNumber.{as_positive, as_negative, magnitude_by}
use Rattle.cbor4ii_items.specs.ReadNumber.{magnitude_at, unsigned_bignum_at, u128_by, u128_at}
use Rattle.cbor4ii_items.specs.ReadNumber.{small_magnitude_at, signed_bignum_at, i128_by, i128_at}
use Rattle.cbor4ii_items.specs.Magnitude.{number_of}
use Rattle.cbor4ii_items.specs.Numbers.{ReadsMagnitude, ReadsBignum, ReadsU128, ReadsI128}
use Rattle.cbor4ii_items.specs.Laws.Lawful.{head_kept}
use Rattle.cbor4ii_items.specs.Laws.Prefixes.{drop_more, the_prefix}
use Rattle.cbor4ii_items.specs.Laws.Heads.{head_read, head_alone}
use Rattle.cbor4ii_items.specs.Laws.Arguments.{ReadBy, leaf_one, leaf_within, leaf_positive}
use Rattle.cbor4ii_items.specs.Laws.Strings.{length_known}
use Rattle.cbor4ii_items.specs.Laws.Signed.{starts, first_says, says_head, below_again}

-- ---- byte strings as numbers

pub number_taken : (name : List ℕ) (expect k high : ℕ) (xs : List ℕ) → k ≤ length xs
    → number_on name expect k high xs ≡ Ok (fold (λ h b. h * 256 + b) high (take k xs), drop k xs)
number_taken name expect zero high xs h = refl
number_taken name expect (suc k) high [] h = absurd (omega arith)
number_taken name expect (suc k) high (x ∷ xs) h =
    number_taken name expect k (high * 256 + x) xs (omega arith)

pub magnitude_again : (name : List ℕ) (xs : List ℕ) (v n : ℕ) → ReadsMagnitude xs v n
    → ReadBy (magnitude_at name) xs v n 0
magnitude_again name xs v n p =
    let h = head_read name 2 8 xs p.count p.before (omega arith) p.counted in
    let t : ltb 16 p.count ≡ false = le-ltb 16 p.count p.short in
    let long : p.count ≤ length (drop p.before xs) =
    omega (arith, length-drop p.before xs, p.within) in
    let taken : number_on name p.count p.count 0 (drop p.before xs) ≡ Ok (v, drop n xs) =
    number_taken name p.count p.count 0 (drop p.before xs) long
    ∙ (ap (λ (k : ℕ). Ok (k, drop p.count (drop p.before xs))) (sym p.value)
    ∙ ap (λ (zs : List ℕ). Ok (v, zs))
    (drop_more p.count p.before xs ∙ ap (λ j. drop j xs) (sym p.size))) in
    record {
      answer =
          ap (λ z. go_on z (magnitude_by name))
          (length_known name 2 xs p.count p.before (omega arith) p.counted) ∙ rw t taken;
      within = omega (arith, p.size, p.within);
      positive = omega (arith, p.size, h.2);
      cost = refl;
    }

magnitude_alone : (xs ys : List ℕ) (v n : ℕ) → ReadsMagnitude xs v n
    → ReadsMagnitude (take n xs ++ ys) v n
magnitude_alone xs ys v n p =
    let h = head_kept 2 8 xs ys p.count p.before p.count n (omega arith) p.counted p.size in
    let trailing = drop p.before xs in
    let long : p.count ≤ length trailing = omega (arith, length-drop p.before xs, p.within) in
    let content : take p.count (drop p.before (take n xs ++ ys)) ≡ take p.count trailing =
    ap (take p.count) h.1 ∙ the_prefix p.count trailing ys long in
    record {
      count = p.count;
      before = p.before;
      counted = h.0;
      short = p.short;
      within =
          omega (
            arith,
            length-append (take n xs) ys,
            length-take-le n xs (omega (arith, p.size, p.within)),
            p.size,
          );
      bytes = subst IsBytes (sym content) p.bytes;
      value = p.value ∙ ap number_of (sym content);
      size = p.size;
    }

-- ---- bignums

record BignumRead (tag : ℕ) (xs : List ℕ) (v n : ℕ) : Type 0 where
  before : ℕ
  tagged : (name : List ℕ) → head_at name 6 1 xs ≡ Ok (tag, drop before xs)
  inner : (name : List ℕ) → magnitude_at name (drop before xs) ≡ Ok (v, drop n xs)
  within : n ≤ length xs
  positive : 1 ≤ n

bignum_read : (tag : ℕ) (xs : List ℕ) (v n : ℕ) → ReadsBignum tag xs v n → BignumRead tag xs v n
bignum_read tag xs v n p =
    let h = head_read [] 6 1 xs tag p.before (omega arith) p.tagged in
    let m = magnitude_again [] (drop p.before xs) v p.size p.magnitude in
    let rest : drop p.size (drop p.before xs) ≡ drop n xs =
    drop_more p.size p.before xs ∙ ap (λ j. drop j xs) (sym p.total) in
    record {
      before = p.before;
      tagged = λ name. (head_read name 6 1 xs tag p.before (omega arith) p.tagged).0;
      inner = λ name. (magnitude_again name (drop p.before xs) v p.size p.magnitude).answer
          ∙ ap (λ (zs : List ℕ). Ok (v, zs)) rest;
      within = omega (arith, p.total, m.within, h.1, length-drop p.before xs);
      positive = omega (arith, p.total, h.2);
    }

bignum_alone : (tag : ℕ) (xs ys : List ℕ) (v n : ℕ) → ReadsBignum tag xs v n
    → ReadsBignum tag (take n xs ++ ys) v n
bignum_alone tag xs ys v n p =
    let h = head_kept 6 1 xs ys tag p.before p.size n (omega arith) p.tagged p.total in
    record {
      before = p.before;
      tagged = h.0;
      size = p.size;
      magnitude =
          subst (λ zs. ReadsMagnitude zs v p.size) (sym h.1)
          (magnitude_alone (drop p.before xs) ys v p.size p.magnitude);
      total = p.total;
    }

-- ---- u128

pub u128_unsigned : (b : ℕ) → b / 32 ≡ 0 → u128_by b ≡ head_at (codes "u64") 0 8
u128_unsigned b e = let t : b / 32 ≡ 0 = e in rw t refl

u128_bignum : (b : ℕ) → b / 32 ≡ 6 → u128_by b ≡ (head_at (codes "u128") 6 1 >=> unsigned_bignum_at)
u128_bignum b e = let t : b / 32 ≡ 6 = e in rw t refl

pub u128_again : (xs : List ℕ) (v n c : ℕ) → ReadsU128 xs v n c → ReadBy u128_at xs v n c
u128_again xs v n c (inl h, cost) =
    search (rules, starts, says_head, first_says, u128_unsigned, head_read)
u128_again xs v n c (inr p, cost) =
    let s = starts 6 1 xs 2 p.before p.tagged in
    let r = bignum_read 2 xs v n p in
    record {
      answer =
          first_says (codes "u128") u128_by _ s.first s.others xs s.is
          (u128_bignum s.first s.type) ∙ (ap (λ z. go_on z unsigned_bignum_at)
          (r.tagged (codes "u128")) ∙ r.inner (codes "u128::bytes"));
      within = r.within;
      positive = r.positive;
      cost = cost;
    }

pub u128_one : (xs : List ℕ) (v w n m c d : ℕ) → ReadsU128 xs v n c → ReadsU128 xs w m d
    → (n ≡ m) × (c ≡ d) × (v ≡ w)
u128_one = leaf_one u128_at ReadsU128 u128_again

pub u128_within : (xs : List ℕ) (v n c : ℕ) → ReadsU128 xs v n c → n ≤ length xs
u128_within = leaf_within u128_at ReadsU128 u128_again

pub u128_positive : (xs : List ℕ) (v n c : ℕ) → ReadsU128 xs v n c → 1 ≤ n
u128_positive = leaf_positive u128_at ReadsU128 u128_again

pub u128_alone : (xs ys : List ℕ) (v n c : ℕ) → ReadsU128 xs v n c
    → ReadsU128 (take n xs ++ ys) v n c
u128_alone xs ys v n c (inl h, cost) = (inl (head_alone 0 8 xs ys v n h), cost)
u128_alone xs ys v n c (inr p, cost) = (inr (bignum_alone 2 xs ys v n p), cost)

-- ---- i128

pub i128_positive_by : (b : ℕ) → b / 32 ≡ 0
    → i128_by b ≡ (head_at (codes "u64") 0 8 >=> as_positive)
i128_positive_by b e = let t : b / 32 ≡ 0 = e in rw t refl

pub i128_negative_by : (b : ℕ) → b / 32 ≡ 1
    → i128_by b ≡ (head_at (codes "i128") 1 8 >=> as_negative)
i128_negative_by b e = let t : b / 32 ≡ 1 = e in rw t refl

i128_bignum : (b : ℕ) → b / 32 ≡ 6 → i128_by b ≡ (head_at (codes "i128") 6 1 >=> signed_bignum_at)
i128_bignum b e = let t : b / 32 ≡ 6 = e in rw t refl

small_again : (name : List ℕ) (xs : List ℕ) (v : ℕ) (ys : List ℕ)
    → magnitude_at name xs ≡ Ok (v, ys) → v < 2 ^ 127 → small_magnitude_at name xs ≡ Ok (v, ys)
small_again name xs v ys e small = search (rules, below_again)

-- of a bignum below the limit, with its sign
signed_bignum : (tag : ℕ) (name : List ℕ) (sign : ℕ → ℤ) (xs : List ℕ) (k n c : ℕ)
    → ((ys : List ℕ) → signed_bignum_at tag ys
    ≡ go_on (small_magnitude_at name ys) (λ j. give (sign j)))
    → ReadsBignum tag xs k n → k < 2 ^ 127 → c ≡ 0 → ReadBy i128_at xs (sign k) n c
signed_bignum tag name sign xs k n c is p small cost =
    let s = starts 6 1 xs tag p.before p.tagged in
    let r = bignum_read tag xs k n p in
    record {
      answer =
          first_says (codes "i128") i128_by _ s.first s.others xs s.is (i128_bignum s.first s.type)
          ∙ (ap (λ z. go_on z signed_bignum_at) (r.tagged (codes "i128"))
          ∙ (is (drop r.before xs) ∙ ap (λ z. go_on z (λ j. give (sign j)))
          (small_again name (drop r.before xs) k (drop n xs) (r.inner name) small)));
      within = r.within;
      positive = r.positive;
      cost = cost;
    }

pub i128_again : (xs : List ℕ) (v : ℤ) (n c : ℕ) → ReadsI128 xs v n c → ReadBy i128_at xs v n c
i128_again xs (pos k) n c (inl h, cost) =
    search (rules, starts, says_head, first_says, i128_positive_by, head_read)
i128_again xs (pos k) n c (inr p, cost) =
    signed_bignum 2 (codes "+i128::bytes") pos xs k n c (λ ys. refl) p.0 p.1 cost
i128_again xs (negsuc k) n c (inl h, cost) =
    search (rules, starts, says_head, first_says, i128_negative_by, head_read)
i128_again xs (negsuc k) n c (inr p, cost) =
    signed_bignum 3 (codes "-i128::bytes") negsuc xs k n c (λ ys. refl) p.0 p.1 cost

pub i128_one : (xs : List ℕ) (v w : ℤ) (n m c d : ℕ) → ReadsI128 xs v n c → ReadsI128 xs w m d
    → (n ≡ m) × (c ≡ d) × (v ≡ w)
i128_one = leaf_one i128_at ReadsI128 i128_again

pub i128_within : (xs : List ℕ) (v : ℤ) (n c : ℕ) → ReadsI128 xs v n c → n ≤ length xs
i128_within = leaf_within i128_at ReadsI128 i128_again

pub i128_positive : (xs : List ℕ) (v : ℤ) (n c : ℕ) → ReadsI128 xs v n c → 1 ≤ n
i128_positive = leaf_positive i128_at ReadsI128 i128_again

pub i128_alone : (xs ys : List ℕ) (v : ℤ) (n c : ℕ) → ReadsI128 xs v n c
    → ReadsI128 (take n xs ++ ys) v n c
i128_alone xs ys (pos k) n c (inl h, cost) = (inl (head_alone 0 8 xs ys k n h), cost)
i128_alone xs ys (pos k) n c (inr p, cost) = (inr (bignum_alone 2 xs ys k n p.0, p.1), cost)
i128_alone xs ys (negsuc k) n c (inl h, cost) = (inl (head_alone 1 8 xs ys k n h), cost)
i128_alone xs ys (negsuc k) n c (inr p, cost) = (inr (bignum_alone 3 xs ys k n p.0, p.1), cost)
