-- How canonical encodings compare: as their heads do, and then as what follows.
use Rattle.std.proofs.Common.{rules}
use Rattle.std.proofs.Common.{◌≡◌, ◌≢◌, ℕ, zero, suc, ◌+◌, ◌*◌, ◌/◌, ◌%◌, ◌^◌, ◌<◌, ◌≤◌, List, []}
use Rattle.std.proofs.Common.{◌∷◌, ◌++◌, length, Bool, true, false, cond, refl, sym, ap, ap₂, ◌∙◌}
use Rattle.std.proofs.Common.{subst, subst₂, arith, append_assoc, append-nil, ltb, ltb-true, pos}
use Rattle.std.proofs.Common.{negsuc, ℤ, mul-le-mul_right, pow-suc, mul_comm, mod-eq_of_lt, lt-ltb}
use Rattle.std.proofs.{Common.{le-ltb, ◌⊎◌, inl, inr}, Math.Arith.mod-mul}
use Rattle.std.proofs.Math.Nat.{pow-le-pow_right}
use Rattle.std.specs.{declared.cmp.Ordering.Ordering, declared.cmp.Ordering.TheVariants.Less}
use Rattle.std.specs.{declared.cmp.Ordering.TheVariants.{Equal, Greater}, Cmp.{ranks, nat_cmp_is}}
use Rattle.std.specs.{Cmp.then_flip, Cmp.Lexicographic.{slice_cmp, nat_list_cmp_total}, Int.byte_at}
use Rattle.std.specs.{Int.bytes_high_first, Ordering.{MatchOrdering, nat_cmp, ordering_then}}
use Rattle.std.specs.Ordering.{ordering_reverse}
use Rattle.cbor4ii_items.specs.Laws.Heads.{shortest_fits, additional-lt, info-additional, same_wide}
use Rattle.cbor4ii_items.specs.{Numbers.definite_string, Head.{Width, in_first, one, two, four}}
use Rattle.cbor4ii_items.specs.Head.{eight, HeadFits, additional, byte_count, head, shortest_width}
use Rattle.cbor4ii_items.specs.Initial.{Sign, unsigned, negative, sign_major, half, single, double}
use Rattle.cbor4ii_items.specs.Initial.{info_of}
use Rattle.cbor4ii_tree.specs.Basis.Canonical.{canonical_encoding, canonical_trees, canonical_pairs}
use Rattle.cbor4ii_tree.specs.{Basis.Canonical.{bignum, magnitude, sign_tag}, Basis.Item.Item}
use Rattle.cbor4ii_tree.specs.Basis.Item.{null, boolean, integer, float, bytes_item, text, sequence}
use Rattle.cbor4ii_tree.specs.Basis.Item.{mapping, tag, item_count, item_pair_count}
use Rattle.cbor4ii_tree.specs.Calls.Order.{Compares, shortest_parts, integer_parts, head_of}
use Rattle.cbor4ii_tree.specs.Calls.Order.{HasHead, after_head, integer_major, major_of}
use Rattle.cbor4ii_tree.specs.{Calls.Order.{elements_of, pairs_of}, Basis.Tree.{int, bytes}}
use Rattle.cbor4ii_tree.specs.Basis.Tree.{bytes_all, bytes_pairs}
use Rattle.cbor4ii_tree.proofs.encodings.CanonicalShape.{count-canonical_encoding, count-pairs}
use Rattle.cbor4ii_tree.proofs.encodings.CanonicalShape.{tag_fits, additional-shortest}

-- ---- one comparison, and then another

pub then-Equal : (r : Ordering) → ordering_then r Equal ≡ r
then-Equal Less = refl
then-Equal _ = refl

then_assoc : (r s t : Ordering) → ordering_then (ordering_then r s) t
    ≡ ordering_then r (ordering_then s t)
then_assoc Less s t = refl
then_assoc _ s t = refl

-- bytes that compare so alone compare so as lists
pub compares_alone : {r : Ordering} {s t : List ℕ} → Compares r s t → r ≡ slice_cmp nat_cmp s t
compares_alone {r} {s} {t} c =
    sym (then-Equal r) ∙ sym (c.before [] [])
    ∙ ap₂ (slice_cmp nat_cmp) (append-nil s) (append-nil t)

pub compares_then : {r o : Ordering} {s t u v : List ℕ} → Compares r s t → Compares o u v
    → Compares (ordering_then r o) (s ++ u) (t ++ v)
compares_then {r} {o} {s} {t} {u} {v} a b = search (rules, append_assoc, then_assoc)

decides : (r : Ordering) → r ≢ Equal → (o p : Ordering) → ordering_then r o ≡ ordering_then r p
decides Equal n o p = absurd (n refl)
decides _ n o p = refl

-- what differs decides
pub compares_first : {r : Ordering} {s t : List ℕ} (u v : List ℕ) → r ≢ Equal → Compares r s t
    → Compares r (s ++ u) (t ++ v)
compares_first {r} {s} {t} u v n a = search (rules, append_assoc, decides)

pub compares_nothing : Compares Equal [] []
compares_nothing = record { before = λ x y. refl }

pub compares_back : {r : Ordering} {s t : List ℕ} → Compares r s t
    → Compares (ordering_reverse r) t s
compares_back {r} {s} {t} a = record {
  before = λ x y.
      nat_list_cmp_total.antisymm (t ++ x) (s ++ y) ∙ ap ordering_reverse (a.before y x) ∙ sym
      (then_flip r (slice_cmp nat_cmp y x)) ∙ ap (ordering_then (ordering_reverse r)) (sym
      (nat_list_cmp_total.antisymm x y));
}

-- the first byte, and then the rest
first_then : (o r before after : Ordering) → (o ≡ Equal → before ≡ ordering_then r after)
    → ordering_then o before ≡ ordering_then (ordering_then o r) after
first_then Equal r before after h = h refl
first_then _ r before after h = refl

nat_cmp-Equal : (b c : ℕ) → nat_cmp b c ≡ Equal → b ≡ c
nat_cmp-Equal b c e = subst (λ o. MatchOrdering o (b < c) (b ≡ c) (c < b)) e (ranks b c)

nat_cmp-same : (n m : ℕ) → n ≡ m → nat_cmp n m ≡ Equal
nat_cmp-same n m e = sym (nat_cmp_is n m Equal e)

pub compares_cons : (b c : ℕ) {r : Ordering} {s t : List ℕ} → (b ≡ c → Compares r s t)
    → Compares (ordering_then (nat_cmp b c) r) (b ∷ s) (c ∷ t)
compares_cons b c {r} {s} {t} h = search (rules, first_then, nat_cmp-Equal)

-- bytes of one length
pub compares_bytes : (s t : List ℕ) → length s ≡ length t → Compares (slice_cmp nat_cmp s t) s t
compares_bytes [] [] e = compares_nothing
compares_bytes (b ∷ s) (c ∷ t) e = compares_cons b c (λ _. compares_bytes s t (omega arith))
compares_bytes _ _ e = absurd (omega arith)

-- ---- numbers as bytes

below : (q p r t unit : ℕ) → q < p → r < unit → q * unit + r < p * unit + t
below q p r t unit h k =
    let more : suc q * unit ≤ p * unit = mul-le-mul_right unit h in omega (arith, more)

digits_by : (o : Ordering) (q p r t unit : ℕ) → MatchOrdering o (q < p) (q ≡ p) (p < q) → r < unit
    → t < unit → nat_cmp (q * unit + r) (p * unit + t) ≡ ordering_then o (nat_cmp r t)
digits_by Less q p r t unit h k l =
    sym (nat_cmp_is (q * unit + r) (p * unit + t) Less (below q p r t unit h k))
digits_by Equal q p r t unit h k l = rw h (sum_by (nat_cmp r t) (ranks r t))
  where
    sum_by : (o : Ordering) → MatchOrdering o (r < t) (r ≡ t) (t < r)
        → nat_cmp (p * unit + r) (p * unit + t) ≡ o
    sum_by Less m = sym (nat_cmp_is (p * unit + r) (p * unit + t) Less (omega (arith, m)))
    sum_by Equal m = sym (nat_cmp_is (p * unit + r) (p * unit + t) Equal (omega (arith, m)))
    sum_by Greater m = sym (nat_cmp_is (p * unit + r) (p * unit + t) Greater (omega (arith, m)))
digits_by Greater q p r t unit h k l =
    sym (nat_cmp_is (q * unit + r) (p * unit + t) Greater (below p q t r unit h l))

byte_up : (k n : ℕ) → byte_at k n * 256 ^ k + n % 256 ^ k ≡ n % 256 ^ suc k
byte_up zero n = omega arith
byte_up (suc k) n = search (rules, pow-suc, mul_comm, pow-le-pow_right, mod-mul)

low_digits : (k n m : ℕ) → Compares (nat_cmp (n % 256 ^ k) (m % 256 ^ k)) (bytes_high_first k n)
    (bytes_high_first k m)
low_digits zero n m = search (rules, nat_cmp-same, compares_nothing)
low_digits (suc k) n m =
    subst (λ o. Compares o (bytes_high_first (suc k) n) (bytes_high_first (suc k) m))
    (sym (digits_by (nat_cmp (byte_at k n) (byte_at k m)) (byte_at k n) (byte_at k m) (n % 256 ^ k)
    (m % 256 ^ k) (256 ^ k) (ranks (byte_at k n) (byte_at k m)) (mod_below n) (mod_below m))
    ∙ ap₂ nat_cmp (byte_up k n) (byte_up k m))
    (compares_cons (byte_at k n) (byte_at k m) (λ _. low_digits k n m))
  where
    mod_below : (j : ℕ) → j % 256 ^ k < 256 ^ k
    mod_below j =
        omega (arith, pow-le-pow_right {n = 256} (omega arith) {i = 0} {j = k} (omega arith))

-- numbers of so many bytes compare as these do
digits : (k n m : ℕ) → n < 256 ^ k → m < 256 ^ k
    → Compares (nat_cmp n m) (bytes_high_first k n) (bytes_high_first k m)
digits k n m h l =
    subst (λ o. Compares o (bytes_high_first k n) (bytes_high_first k m))
    (ap₂ nat_cmp (mod-eq_of_lt h) (mod-eq_of_lt l)) (low_digits k n m)

-- ---- heads

arguments : (w : Width) (n m : ℕ) → HeadFits w n → HeadFits w m → additional w n ≡ additional w m
    → Compares (nat_cmp n m) (bytes_high_first (byte_count w) n) (bytes_high_first (byte_count w) m)
arguments in_first n m h l e =
    subst (λ o. Compares o [] []) (sym (nat_cmp-same n m e)) compares_nothing
arguments one n m h l e = digits 1 n m (omega arith) (omega arith)
arguments two n m h l e = digits 2 n m h l
arguments four n m h l e = digits 4 n m h l
arguments eight n m h l e = digits 8 n m h l

abbrev initial_byte : ℕ → ℕ → Width → ℕ
initial_byte major n w = 32 * major + additional w n

compares_heads : (a n : ℕ) (w : Width) (b m : ℕ) (u : Width) → HeadFits w n → HeadFits u m
    → Compares (ordering_then (nat_cmp (initial_byte a n w) (initial_byte b m u)) (nat_cmp n m))
    (head a n w) (head b m u)
compares_heads a n w b m u h l = compares_cons (initial_byte a n w) (initial_byte b m u) (λ e.
    let same : additional w n ≡ additional u m =
    omega (arith, e, additional-lt n w h, additional-lt m u l) in
    let width : w ≡ u =
    same_wide w u (sym (info-additional n w h) ∙ ap info_of same ∙ info-additional m u l) in
    by_width w u width h l same)
  where
    by_width : (w u : Width) → w ≡ u → HeadFits w n → HeadFits u m → additional w n ≡ additional u m
        → Compares (nat_cmp n m) (bytes_high_first (byte_count w) n) (bytes_high_first
        (byte_count u) m)
    by_width w u e h l same =
        subst (λ j. HeadFits j m → additional w n ≡ additional j m
        → Compares (nat_cmp n m) (bytes_high_first (byte_count w) n)
        (bytes_high_first (byte_count j) m)) e (arguments w n m h) l same

-- ---- an encoding as its head, and what follows

record Headed (encoding : List ℕ) (parts : ℕ × ℕ) (after : List ℕ) : Type 0 where
  major : ℕ
  argument : ℕ
  wide : Width
  fits : HeadFits wide argument
  parts_are : (initial_byte major argument wide, argument) ≡ parts
  is : head major argument wide ++ after ≡ encoding

headed_by : (major n : ℕ) (w : Width) (after : List ℕ) → HeadFits w n
    → Headed (head major n w ++ after) (initial_byte major n w, n) after
headed_by major n w after h = search rules

headed_as : {s t after : List ℕ} {parts : ℕ × ℕ} → s ≡ t → Headed s parts after
    → Headed t parts after
headed_as {after = after} {parts = parts} e h = subst (λ z. Headed z parts after) e h

headed_integer : (s : Sign) (n : ℕ) (b : Bool) → ltb n (2 ^ 64) ≡ b
    → Headed (bytes (cond b (int s n (shortest_width n)) (bignum s n)))
    (cond b (shortest_parts (sign_major s) n) (shortest_parts 6 (sign_tag s)))
    (cond b [] (definite_string 2 (magnitude n)))
headed_integer s n true e =
    search (rules, headed_as, append-nil, headed_by, shortest_fits, ltb-true)
headed_integer s n false e = search (rules, headed_by, tag_fits)

headed : (v : Item) → HasHead v → Headed (canonical_encoding v) (head_of v) (after_head v)
headed null h = headed_by 7 22 in_first [] (omega arith)
headed (boolean false) h = headed_by 7 20 in_first [] (omega arith)
headed (boolean true) h = headed_by 7 21 in_first [] (omega arith)
headed (integer (pos n)) h = headed_integer unsigned n (ltb n (2 ^ 64)) refl
headed (integer (negsuc n)) h = headed_integer negative n (ltb n (2 ^ 64)) refl
headed (float half n) h = headed_as (append-nil _) (headed_by 7 n two [] h)
headed (float single n) h = headed_as (append-nil _) (headed_by 7 n four [] h)
headed (float double n) h = headed_as (append-nil _) (headed_by 7 n eight [] h)
headed (bytes_item bs) h =
    headed_by 2 (length bs) (shortest_width (length bs)) bs (shortest_fits (length bs) h)
headed (text bs) h =
    headed_by 3 (length bs) (shortest_width (length bs)) bs (shortest_fits (length bs) h)
headed (sequence vs) h =
    rw (count-canonical_encoding vs) (headed_by 4 (item_count vs) _ _ (shortest_fits _ h))
headed (mapping ms) h =
    rw (count-pairs ms) (headed_by 5 (item_pair_count ms) _ _ (shortest_fits _ h))
headed (tag n v) h = headed_by 6 n (shortest_width n) (canonical_encoding v) (shortest_fits n h)

-- how the program compares heads
abbrev pub heads_cmp : ℕ × ℕ → ℕ × ℕ → Ordering
heads_cmp p q = ordering_then (nat_cmp p.0 q.0) (nat_cmp p.1 q.1)

headed_heads : {s t x y : List ℕ} {p q : ℕ × ℕ} (a : Headed s p x) (b : Headed t q y)
    → Compares (heads_cmp p q) (head a.major a.argument a.wide) (head b.major b.argument b.wide)
headed_heads a b = search (rules, subst₂, compares_heads)

-- where the heads differ
pub other_heads : (v w : Item) (r : Ordering) → HasHead v → HasHead w
    → r ≡ heads_cmp (head_of v) (head_of w) → r ≢ Equal
    → Compares r (canonical_encoding v) (canonical_encoding w)
other_heads v w r h l e n =
    let a = headed _ h in
    let b = headed _ l in
    subst₂ (Compares r) a.is b.is (compares_first _ _ n (subst (λ o. Compares o (head a.major
    a.argument a.wide) (head b.major b.argument b.wide)) (sym e) (headed_heads a b)))

-- where they are equal
pub same_heads : (v w : Item) (r : Ordering) → HasHead v → HasHead w
    → heads_cmp (head_of v) (head_of w) ≡ Equal → Compares r (after_head v) (after_head w)
    → Compares r (canonical_encoding v) (canonical_encoding w)
same_heads v w r h l e c =
    let a = headed v h in
    let b = headed w l in
    subst₂ (Compares r) a.is b.is (compares_then (subst (λ o. Compares o (head a.major a.argument
    a.wide) (head b.major b.argument b.wide)) e (headed_heads a b)) c)

-- ---- the major type of a head

major_is : (major n : ℕ) → (shortest_parts major n).0 / 32 ≡ major
major_is major n = omega (arith, additional-shortest n)

integer_major_is : (s : Sign) (n : ℕ) → (integer_parts s n).0 / 32 ≡ integer_major s n
integer_major_is s n = by (ltb n (2 ^ 64))
  where
    by : (b : Bool) → (cond b (shortest_parts (sign_major s) n) (shortest_parts 6 (sign_tag s))).0
        / 32 ≡ cond b (sign_major s) 6
    by true = major_is (sign_major s) n
    by false = major_is 6 (sign_tag s)

pub major_of_head : (v : Item) → (head_of v).0 / 32 ≡ major_of v
major_of_head (boolean false) = refl
major_of_head (integer (pos n)) = integer_major_is unsigned n
major_of_head (integer (negsuc n)) = integer_major_is negative n
major_of_head (float half n) = refl
major_of_head (bytes_item bs) = major_is 2 (length bs)
major_of_head (text bs) = major_is 3 (length bs)
major_of_head (sequence vs) = major_is 4 (item_count vs)
major_of_head (mapping ms) = major_is 5 (item_pair_count ms)
major_of_head (tag n v) = major_is 6 n
major_of_head _ = refl

pub same_major : (v w : Item) → head_of v ≡ head_of w → major_of v ≡ major_of w
same_major v w e = sym (major_of_head v) ∙ ap (λ h. h.0 / 32) e ∙ major_of_head w

-- ---- what follows a head, by its major type

-- an integer is of major type 0 or 1, or a tag
not_integer : {P : Type 0} (s : Sign) (n : ℕ) → 2 ≤ integer_major s n → integer_major s n ≢ 6 → P
not_integer s n lo other = absurd (by s (ltb n (2 ^ 64)) lo other)
  where
    by : (s : Sign) (b : Bool) → 2 ≤ cond b (sign_major s) 6 → cond b (sign_major s) 6 ≢ 6 → ⊥
    by unsigned true lo other = omega arith
    by negative true lo other = omega arith
    by s false lo other = other refl

pub after_array : (v : Item) → major_of v ≡ 4 → (item_count (elements_of v) ≡ (head_of v).1)
    × (after_head v ≡ bytes_all (canonical_trees (elements_of v)))
after_array (sequence vs) e = (refl, refl)
after_array (integer (pos n)) e = not_integer unsigned n (omega arith) (omega arith)
after_array (integer (negsuc n)) e = not_integer negative n (omega arith) (omega arith)
after_array _ e = absurd (omega arith)

pub after_map : (v : Item) → major_of v ≡ 5 → (item_pair_count (pairs_of v) ≡ (head_of v).1)
    × (after_head v ≡ bytes_pairs (canonical_pairs (pairs_of v)))
after_map (mapping ms) e = (refl, refl)
after_map (integer (pos n)) e = not_integer unsigned n (omega arith) (omega arith)
after_map (integer (negsuc n)) e = not_integer negative n (omega arith) (omega arith)
after_map _ e = absurd (omega arith)

after_by : (s : Sign) (n : ℕ) (b : Bool) → cond b (sign_major s) 6 ≤ 1
    → cond b [] (definite_string 2 (magnitude n)) ≡ []
after_by s n true e = refl
after_by s n false e = absurd (omega arith)

-- nothing follows the head of an integer that has one
pub after_small : (v : Item) → major_of v ≤ 1 → after_head v ≡ []
after_small (integer (pos n)) e = after_by unsigned n (ltb n (2 ^ 64)) e
after_small (integer (negsuc n)) e = after_by negative n (ltb n (2 ^ 64)) e
after_small _ e = absurd (omega arith)

-- ---- integers by the number that stands for them

-- the tag of an integer's bignum, and the number of its bytes
abbrev pub PartsOf : ℤ → ℕ × ℕ → Type 0
PartsOf z parts =
    ((z ≡ pos parts.1) × (parts.0 ≡ 2)) ⊎ ((z ≡ negsuc parts.1) × (parts.0 ≡ 3))

small_by : (s : Sign) (n : ℕ) → n < 2 ^ 64 → integer_major s n ≤ 1
small_by unsigned n h = rw (lt-ltb n (2 ^ 64) h) (omega arith)
small_by negative n h = rw (lt-ltb n (2 ^ 64) h) (omega arith)

pub small_integer : (z : ℤ) (parts : ℕ × ℕ) → PartsOf z parts → parts.1 < 2 ^ 64
    → major_of (integer z) ≤ 1
small_integer z parts (inl e) h = rw e.0 (small_by unsigned parts.1 h)
small_integer z parts (inr e) h = rw e.0 (small_by negative parts.1 h)

big_by : (s : Sign) (n : ℕ) → 2 ^ 64 ≤ n → integer_major s n ≡ 6
big_by s n h = rw (le-ltb n (2 ^ 64) h) refl

pub big_integer : (z : ℤ) (parts : ℕ × ℕ) → PartsOf z parts → 2 ^ 64 ≤ parts.1
    → major_of (integer z) ≡ 6
big_integer z parts (inl e) h = rw e.0 (big_by unsigned parts.1 h)
big_integer z parts (inr e) h = rw e.0 (big_by negative parts.1 h)

tag_by : (s : Sign) (n : ℕ) (b : Bool) → cond b (sign_major s) 6 ≡ 6
    → cond b [] (definite_string 2 (magnitude n)) ≡ definite_string 2 (magnitude n)
tag_by unsigned n true e = absurd (omega arith)
tag_by negative n true e = absurd (omega arith)
tag_by s n false e = refl

-- the byte string of a bignum follows its tag
pub after_tag : (z : ℤ) (parts : ℕ × ℕ) → PartsOf z parts → major_of (integer z) ≡ 6
    → after_head (integer z) ≡ definite_string 2 (magnitude parts.1)
after_tag z parts (inl e) h = search (rules, tag_by)
after_tag z parts (inr e) h = search (rules, tag_by)
