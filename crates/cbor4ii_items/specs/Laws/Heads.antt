-- Heads are read from the beginning of bytes exactly as they are encoded there.
use Rattle.std.proofs.Common.{◌≡◌, ◌≢◌, ℕ, zero, suc, ◌+◌, ◌-◌, ◌*◌, ◌/◌, ◌%◌, ◌^◌, ◌<◌, ◌≤◌, List}
use Rattle.std.proofs.Common.{[], ◌∷◌, ◌++◌, length, drop, take, Ok, Bool, true, false, refl, sym}
use Rattle.std.proofs.Common.{ap, ap₂, ◌∙◌, subst, arith, pow-suc, mul_comm, mod-eq_of_lt, lt-ltb}
use Rattle.std.proofs.Common.{le-leb, ltb, leb, eqb, eq-eqb, eqb-true, ltb-true, ltb-false}
use Rattle.std.proofs.Common.{leb-true, length-append, fold, cond, mul-le-mul_right, rules}
use Rattle.std.specs.Int.{byte_at as number_byte, bytes_high_first}
use Rattle.std.proofs.lemmas.Nat.{div-mul-add}
use Rattle.std.proofs.lemmas.List.{length-drop}
use Rattle.std.proofs.Math.Nat.{pow-le-pow_right}
use Rattle.std.proofs.Math.Arith.{mod-mul}
use Rattle.std.proofs.Math.Seq.{drop-append_seam, take-append_seam}
use Rattle.cbor4ii_items.specs.Head.{Width, in_first, one as w_one, two, four, eight, byte_count}
use Rattle.cbor4ii_items.specs.Head.{HeadFits, additional, head, IsBytes, shortest_width}
use Rattle.cbor4ii_items.specs.Initial.{wide as in_width, info_of}
use Rattle.cbor4ii_items.specs.InputError.{mismatch}
use Rattle.cbor4ii_items.specs.Reading.{give, reject}
use Rattle.cbor4ii_items.specs.Heads.{ReadsHead, Begins}
use Rattle.cbor4ii_items.specs.ReadHead.{head_at, argument_at, number_on, argument_size}
use Rattle.cbor4ii_items.specs.ReadHead.{allowed_info}
use Rattle.cbor4ii_items.specs.Laws.Outcome.{same_value}

-- one more byte in front of the low k bytes
byte_on : (k n high : ℕ)
    → (high * 256 + number_byte k n) * 256 ^ k + n % 256 ^ k ≡ high * 256 ^ suc k + n % 256 ^ suc k
byte_on zero n high = omega arith
byte_on (suc k) n high =
    let unit = 256 ^ suc k in
    let wider : 256 ^ suc (suc k) ≡ 256 * unit = pow-suc 256 (suc k) ∙ mul_comm unit 256 in
    let some : 0 < unit =
    pow-le-pow_right {n = 256} (omega arith) {i = 0} {j = suc k} (omega arith) in
    rw (wider, mod-mul n {m = 256} {c = unit} (omega arith) some) (omega arith)

number_read : (name : List ℕ) (expect k n high : ℕ) (ys : List ℕ) → number_on name expect k high
    (bytes_high_first k n ++ ys) ≡ Ok (high * 256 ^ k + n % 256 ^ k, ys)
number_read name expect zero n high ys =
    let e : high * 256 ^ 0 + n % 256 ^ 0 ≡ high = omega arith in rw e refl
number_read name expect (suc k) n high ys =
    search (rules, byte_on, (number_read name expect k n (high * 256 + number_byte k n) ys))

pub number_again : (name : List ℕ) (expect k n : ℕ) (ys : List ℕ) → n < 256 ^ k
    → number_on name expect k 0 (bytes_high_first k n ++ ys) ≡ Ok (n, ys)
number_again name expect k n ys h = search (rules, mod-eq_of_lt, number_read)

pub length-bytes_high_first : (k n : ℕ) → length (bytes_high_first k n) ≡ k
length-bytes_high_first zero n = refl
length-bytes_high_first (suc k) n = ap suc (length-bytes_high_first k n)

argument_again : (name : List ℕ) (w : Width) (v width b : ℕ) (ys : List ℕ) → b % 32 ≡ additional w v
    → HeadFits w v → byte_count w ≤ width
    → argument_at name width b (bytes_high_first (byte_count w) v ++ ys) ≡ Ok (v, ys)
argument_again name in_first v width b ys e h le =
    let t : ltb v 24 ≡ true = lt-ltb v 24 (omega arith) in rw (e, t) refl
argument_again name w_one v width b ys e h le = search (rules, le-leb, number_again)
argument_again name two v width b ys e h le =
    let t : leb 2 width ≡ true = le-leb 2 width le in rw (e, t) (number_again name 2 2 v ys h)
argument_again name four v width b ys e h le =
    let t : leb 4 width ≡ true = le-leb 4 width le in rw (e, t) (number_again name 4 4 v ys h)
argument_again name eight v width b ys e h le =
    let t : leb 8 width ≡ true = le-leb 8 width le in rw (e, t) (number_again name 8 8 v ys h)

pub additional-lt : (v : ℕ) (w : Width) → HeadFits w v → additional w v < 28
additional-lt n in_first h = omega arith
additional-lt n w_one h = omega arith
additional-lt n two h = omega arith
additional-lt n four h = omega arith
additional-lt n eight h = omega arith

-- the additional information of a head says its width
pub info-additional : (n : ℕ) (w : Width) → HeadFits w n → info_of (additional w n) ≡ in_width w
info-additional n in_first h = let t : ltb n 24 ≡ true = lt-ltb n 24 (omega arith) in rw t refl
info-additional n _ h = refl

pub if_cases : {A : Type 0} (P : A → Type 0) (b : Bool) (x y : A) → (b ≡ true → P x)
    → (b ≡ false → P y)
    → P (cond b x y)
if_cases P true x y f g = f refl
if_cases P false x y f g = g refl

pub shortest_fits : (n : ℕ) → n < 2 ^ 64 → HeadFits (shortest_width n) n
shortest_fits n h = search (rules, if_cases, ltb-true)

pub argument_below : (w : Width) (n : ℕ) → HeadFits w n → n < 2 ^ 64
argument_below in_first n h = omega arith
argument_below w_one n h = omega arith
argument_below two n h = omega arith
argument_below four n h = omega arith
argument_below eight n h = omega arith

pub same_wide : (w u : Width) → in_width w ≡ in_width u → w ≡ u
same_wide w u e = cc

pub byte_count-le : (w : Width) → byte_count w ≤ 8
byte_count-le in_first = omega arith
byte_count-le w_one = omega arith
byte_count-le two = omega arith
byte_count-le four = omega arith
byte_count-le eight = omega arith

pub head_again : (name : List ℕ) (w : Width) (major v width : ℕ) (ys : List ℕ) → HeadFits w v
    → byte_count w ≤ width → head_at name major width (head major v w ++ ys) ≡ Ok (v, ys)
head_again name w major v width ys h le = search (rules, additional-lt, eq-eqb, argument_again)

pub following_head : (w : Width) (major v n : ℕ) (ys : List ℕ) → n ≡ suc (byte_count w)
    → (drop n (head major v w ++ ys) ≡ ys) × (n ≤ length (head major v w ++ ys))
following_head w major v n ys e =
    search (rules, length-bytes_high_first, drop-append_seam, length-append)

-- what follows a head that begins the input
pub rest_after_head : (major width : ℕ) (xs : List ℕ) (v n : ℕ) → (h : ReadsHead major width xs v n)
    → drop n xs ≡ h.rest
rest_after_head major width xs v n h =
    ap (drop n) h.is ∙ (following_head h.wide major v n h.rest h.count).0

-- a head that begins the input is the one that is read
pub head_read : (name : List ℕ) (major width : ℕ) (xs : List ℕ) (v n : ℕ) → major < 8
    → ReadsHead major width xs v n
    → (head_at name major width xs ≡ Ok (v, drop n xs)) × (n ≤ length xs) × (1 ≤ n)
head_read name major width xs v n m h =
    search (rules, following_head, head_again, rest_after_head)

abbrev pub onto : ℕ → List ℕ → ℕ
onto high bs = fold (λ h b. h * 256 + b) high bs

one_more : (high b unit low : ℕ)
    → (high * 256 + b) * unit + low ≡ high * (unit * 256) + ((0 * 256 + b) * unit + low)
one_more high b unit low = omega arith

onto_high : (bs : List ℕ) (high : ℕ) → onto high bs ≡ high * 256 ^ length bs + onto 0 bs
onto_high [] high = omega arith
onto_high (b ∷ bs) high =
    let unit = 256 ^ length bs in
    let wider : 256 ^ suc (length bs) ≡ unit * 256 = pow-suc 256 (length bs) in
    let tail : onto 0 (b ∷ bs) ≡ (0 * 256 + b) * unit + onto 0 bs = onto_high bs (0 * 256 + b) in
    onto_high bs (high * 256 + b)
    ∙ (one_more high b unit (onto 0 bs) ∙ sym (ap₂ (λ u t. high * u + t) wider tail))

pub onto-lt : (bs : List ℕ) → IsBytes bs → onto 0 bs < 256 ^ length bs
onto-lt [] h = omega arith
onto-lt (b ∷ bs) h = search (rules, pow-suc, onto_high, mul-le-mul_right, (onto-lt bs h.1))

byte_at_top : (k high low : ℕ) → low < 256 ^ k → number_byte k (high * 256 ^ k + low) ≡ high % 256
byte_at_top zero high low h = let e : high * 1 + low ≡ high = omega arith in rw e refl
byte_at_top (suc k) high low h = rw (div-mul-add high (256 ^ suc k) low h) refl

pub bytes_onto : (bs : List ℕ) (high : ℕ) → IsBytes bs
    → bytes_high_first (length bs) (onto high bs) ≡ bs
bytes_onto [] high h = refl
bytes_onto (b ∷ bs) high h =
    search (rules, ◌∷◌, onto_high, byte_at_top, onto-lt, (bytes_onto bs (high * 256 + b) h.1))

pub number_inverse : (name : List ℕ) (expect k high v : ℕ) (bs ys : List ℕ)
    → number_on name expect k high bs ≡ Ok (v, ys)
    → (bs ≡ take k bs ++ ys) × (length (take k bs) ≡ k) × (v ≡ onto high (take k bs))
number_inverse name expect zero high v bs ys e = search (rules, same_value)
number_inverse name expect (suc k) high v [] ys e = cc
number_inverse name expect (suc k) high v (b ∷ bs) ys e =
    search (rules, (number_inverse name expect k (high * 256 + b) v bs ys e))

-- the argument's bytes, and how great it can be
pub number_is : (name : List ℕ) (expect k v : ℕ) (bs ys : List ℕ) → IsBytes (take k bs)
    → number_on name expect k 0 bs ≡ Ok (v, ys) → (bs ≡ bytes_high_first k v ++ ys) × (v < 256 ^ k)
number_is name expect k v bs ys h e = search (rules, number_inverse, bytes_onto, onto-lt)

-- the width that the additional information i says
pub record Wide (i : ℕ) : Type 0 where
  pub wide : Width
  pub count : byte_count wide ≡ argument_size i
  pub info : (v : ℕ) → additional wide v ≡ i
  pub fits : (v : ℕ) → v < 256 ^ argument_size i → HeadFits wide v

wide_at : (k : ℕ) → k < 4 → Wide (24 + k)
wide_at zero h = record { wide = w_one; count = refl; info = λ v. refl; fits = λ v h. omega arith }
wide_at (suc zero) h = record { wide = two; count = refl; info = λ v. refl; fits = λ v h. h }
wide_at (suc (suc zero)) h = record { wide = four; count = refl; info = λ v. refl; fits = λ v h. h }
wide_at (suc (suc (suc zero))) h =
    record { wide = eight; count = refl; info = λ v. refl; fits = λ v h. h }
wide_at (suc (suc (suc (suc k)))) h = absurd (omega arith)

pub wide_of : (i : ℕ) → 24 ≤ i → i < 28 → Wide i
wide_of i p q =
    let e : 24 + (i - 24) ≡ i = omega arith in subst Wide e (wide_at (i - 24) (omega arith))

pub two_parts : (b major : ℕ) → b / 32 ≡ major → b ≡ 32 * major + b % 32
two_parts b major e = omega arith

pub IsBytes-take : (k n : ℕ) (bs : List ℕ) → k ≤ n → IsBytes (take n bs) → IsBytes (take k bs)
IsBytes-take zero n bs le h = tt
IsBytes-take (suc k) zero bs le h = absurd (omega arith)
IsBytes-take (suc k) (suc n) [] le h = tt
IsBytes-take (suc k) (suc n) (b ∷ bs) le h = (h.0, IsBytes-take k n bs (omega arith) h.1)

allowed_by : (t : Bool) (i k width : ℕ) → ltb i 28 ≡ t → cond t (leb k width) false ≡ true
    → (i < 28) × (k ≤ width)
allowed_by true i k width h e = (ltb-true i 28 h, leb-true k width e)
allowed_by false i k width h e = cc

pub allowed_parts : (width i : ℕ) → allowed_info width i ≡ true → (i < 28)
    × (argument_size i ≤ width)
allowed_parts width i e = allowed_by (ltb i 28) i (argument_size i) width refl e

long_number : (name : List ℕ) (major width b v n k : ℕ) (bs : List ℕ) → b / 32 ≡ major → 24 ≤ b % 32
    → b % 32 < 28 → argument_size (b % 32) ≤ width → k ≡ argument_size (b % 32)
    → n ≤ length (b ∷ bs) → IsBytes (take n (b ∷ bs))
    → number_on name k k 0 bs ≡ Ok (v, drop n (b ∷ bs)) → ReadsHead major width (b ∷ bs) v n
long_number name major width b v n k bs m lo hi le kk room bytes e =
    let w = wide_of (b % 32) lo hi in
    let inv = number_inverse name k k 0 v bs (drop n (b ∷ bs)) e in
    let many : suc k ≡ n = omega (
      arith,
      ap length inv.0,
      length-append (take k bs) (drop n (b ∷ bs)),
      inv.1,
      length-drop n (b ∷ bs),
    ) in
    let seen : IsBytes (take k bs) = (subst (λ j. IsBytes (take j (b ∷ bs))) (sym many) bytes).1 in
    let r = number_is name k k v bs (drop n (b ∷ bs)) seen e in
    let ck : byte_count w.wide ≡ k = w.count ∙ sym kk in
    let first : b ≡ 32 * major + additional w.wide v =
    two_parts b major m ∙ ap (λ j. 32 * major + j) (sym (w.info v)) in
    record {
      wide = w.wide;
      allowed = omega (arith, w.count, le);
      fits = w.fits v (subst (λ j. v < 256 ^ j) kk r.1);
      rest = drop n (b ∷ bs);
      is = ap₂ ◌∷◌ first (r.0 ∙ ap (λ j. bytes_high_first j v ++ drop n (b ∷ bs)) (sym ck));
      count = omega (arith, many, ck);
    }

argument_by : (s t : Bool) (name : List ℕ) (major width b v n : ℕ) (bs : List ℕ)
    → ltb (b % 32) 24 ≡ s → allowed_info width (b % 32) ≡ t → b / 32 ≡ major → n ≤ length (b ∷ bs)
    → IsBytes (take n (b ∷ bs))
    → cond s (give (b % 32))
    (cond t (number_on name (argument_size (b % 32)) (argument_size (b % 32)) 0)
    (reject (mismatch name b))) bs ≡ Ok (v, drop n (b ∷ bs))
    → ReadsHead major width (b ∷ bs) v n
argument_by true t name major width b v n bs es et m room bytes e =
    search (rules, same_value, ltb-true, two_parts, length-drop)
argument_by false false name major width b v n bs es et m room bytes e = cc
argument_by false true name major width b v n bs es et m room bytes e =
    search (rules, allowed_parts, long_number, ltb-false)

head_by_inverse : (t : Bool) (name : List ℕ) (major width b v n : ℕ) (bs : List ℕ)
    → eqb (b / 32) major ≡ t → n ≤ length (b ∷ bs) → IsBytes (take n (b ∷ bs))
    → cond t (argument_at name width b) (reject (mismatch name b)) bs ≡ Ok (v, drop n (b ∷ bs))
    → ReadsHead major width (b ∷ bs) v n
head_by_inverse true name major width b v n bs h room bytes e =
    search (rules, argument_by, eqb-true)
head_by_inverse false name major width b v n bs h room bytes e = cc

pub read_head : (name : List ℕ) (major width : ℕ) (xs : List ℕ) (v n : ℕ)
    → head_at name major width xs ≡ Ok (v, drop n xs) → n ≤ length xs → IsBytes (take n xs)
    → ReadsHead major width xs v n
read_head name major width [] v n e room bytes = cc
read_head name major width (b ∷ bs) v n e room bytes =
    head_by_inverse (eqb (b / 32) major) name major width b v n bs refl room bytes e

pub head_one : (major width : ℕ) (xs : List ℕ) (v w n m : ℕ) → major < 8
    → ReadsHead major width xs v n → ReadsHead major width xs w m → (n ≡ m) × (v ≡ w)
head_one major width xs v w n m h p q = search (rules, head_read, same_value, length-drop)

head_prefix : (w : Width) (major v n : ℕ) (rest : List ℕ) → n ≡ suc (byte_count w) → (xs : List ℕ)
    → xs ≡ head major v w ++ rest → take n xs ≡ head major v w
head_prefix w major v n rest e xs is = search (rules, length-bytes_high_first, take-append_seam)

-- a head is read whatever follows it
pub head_alone : (major width : ℕ) (xs ys : List ℕ) (v n : ℕ) → ReadsHead major width xs v n
    → ReadsHead major width (take n xs ++ ys) v n
head_alone major width xs ys v n h = search (rules, head_prefix)

-- ---- cut heads

abbrev zeros : ℕ → List ℕ
zeros zero = []
zeros (suc k) = 0 ∷ zeros k

length-zeros : (k : ℕ) → length (zeros k) ≡ k
length-zeros zero = refl
length-zeros (suc k) = ap suc (length-zeros k)

some_zeros : (k : ℕ) → 0 < k → zeros k ≢ []
some_zeros zero some e = omega arith
some_zeros (suc k) some e = cc

then_zeros : (bs : List ℕ) (k : ℕ) → IsBytes bs → IsBytes (bs ++ zeros k)
then_zeros [] zero h = tt
then_zeros [] (suc k) h = (omega arith, then_zeros [] k tt)
then_zeros (b ∷ bs) k h = (h.0, then_zeros bs k h.1)

fits_below : (wide : Width) (n : ℕ) → 0 < byte_count wide → n < 256 ^ byte_count wide
    → HeadFits wide n
fits_below in_first n some h = absurd (omega arith)
fits_below w_one n some h = omega arith
fits_below _ n some h = h

same_additional : (wide : Width) (n m : ℕ) → 0 < byte_count wide
    → additional wide n ≡ additional wide m
same_additional in_first n m some = absurd (omega arith)
same_additional _ n m some = refl

-- some head of this width begins with these bytes, and has more
pub record Completes (major : ℕ) (wide : Width) (xs : List ℕ) : Type 0 where
  pub argument : ℕ
  pub fits : HeadFits wide argument
  pub missing : List ℕ
  pub some : missing ≢ []
  pub joined : head major argument wide ≡ xs ++ missing

-- a first byte with fewer bytes after it than the argument has is the beginning of a head
pub cut_head : (major width b : ℕ) (bs : List ℕ) (wide : Width) → Begins major width b wide
    → length bs < byte_count wide → IsBytes bs → Completes major wide (b ∷ bs)
cut_head major width b bs wide begins short bytes =
    let more = byte_count wide - length bs in
    let all : List ℕ = bs ++ zeros more in
    let long : length all ≡ byte_count wide =
    omega (arith, length-append bs (zeros more), length-zeros more, short) in
    let every : IsBytes all = then_zeros bs more bytes in
    let small : onto 0 all < 256 ^ byte_count wide =
    subst (λ k. onto 0 all < 256 ^ k) long (onto-lt all every) in
    let some : 0 < byte_count wide = omega (arith, short) in
    record {
      argument = onto 0 all;
      fits = fits_below wide (onto 0 all) some small;
      missing = zeros more;
      some = some_zeros more (omega (arith, short));
      joined =
          ap₂ ◌∷◌ (ap (λ i. 32 * major + i) (same_additional wide (onto 0 all) begins.argument some)
          ∙ sym begins.is)
          (ap (λ k. bytes_high_first k (onto 0 all)) (sym long) ∙ bytes_onto all 0 every);
    }
