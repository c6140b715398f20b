-- Integers of sixteen bytes, one part after another.
use Rattle.std.proofs.Common.{◌≡◌, ◌≢◌, ℕ, ◌/◌, ◌^◌, ◌<◌, ◌≤◌, List, [], ◌∷◌, Some, Result, Ok}
use Rattle.std.proofs.Common.{false, refl, ap, ◌∙◌, arith, eqb, ne_eqb, ltb, le-ltb, rules}
use Rattle.std.specs.Prelude.{codes, ℤ, pos, negsuc}
use Rattle.std.proofs.lemmas.Int.{to_z-of_z}
use mir.Val.{to_z, of_z}
use mir.Syntax.{w128}
use Rattle.cbor4ii_rw.specs.View.{View}
use Rattle.cbor4ii_rw.specs.declared.error.DecodeError.{DecodeError}
use Rattle.cbor4ii_items.specs.Reading.{Runs, peek_at, ◌>=>◌}
use Rattle.cbor4ii_items.specs.ReadHead.{head_at, length_at, number_on}
use Rattle.cbor4ii_items.specs.ReadNumber.{magnitude_by, magnitude_at, unsigned_bignum_at, u128_by}
use Rattle.cbor4ii_items.specs.ReadNumber.{u128_at, signed_bignum_at, i128_by, i128_at, as_positive}
use Rattle.cbor4ii_items.specs.ReadNumber.{as_negative}
use Rattle.cbor4ii_items.specs.Laws.Running.{runs_as, runs_then, runs_with}
use Rattle.cbor4ii_items.proofs.SignedRuns.{first_major, runs_where}
use Rattle.cbor4ii_items.specs.Laws.Bignums.{i128_positive_by, i128_negative_by, u128_unsigned}

short_by : (name : List ℕ) (count : ℕ) → count ≤ 16
    → magnitude_by name (Some count) ≡ number_on name count count 0
short_by name count h = let t : ltb 16 count ≡ false = le-ltb 16 count h in rw t refl

pub runs_magnitude : {E : Type 0} (name : List ℕ) (count : ℕ) {a m b : View}
    {r : Result ℕ (DecodeError E)} → count ≤ 16
    → Runs {E = E} (length_at name 2) a m (Ok (Some count))
    → Runs (number_on name count count 0) m b r → Runs (magnitude_at name) a b r
runs_magnitude name count h p q =
    runs_then (magnitude_by name) p (runs_as (short_by name count h) q)

-- ---- u128

u128_tag : (b : ℕ) → b / 32 ≢ 0 → u128_by b ≡ (head_at (codes "u128") 6 1 >=> unsigned_bignum_at)
u128_tag b e = let t : eqb (b / 32) 0 ≡ false = ne_eqb (b / 32) 0 e in rw t refl

pub runs_u128_unsigned : {E : Type 0} (b : ℕ) {a m c : View} {r : Result ℕ (DecodeError E)}
    → b / 32 ≡ 0 → Runs {E = E} (peek_at (codes "u128") 1) a m (Ok b)
    → Runs (head_at (codes "u64") 0 8) m c r → Runs u128_at a c r
runs_u128_unsigned b e p q = runs_then u128_by p (runs_as (u128_unsigned b e) q)

pub runs_u128_tag : {E : Type 0} (b : ℕ) {a m c : View} {r : Result ℕ (DecodeError E)} → b / 32 ≢ 0
    → Runs {E = E} (peek_at (codes "u128") 1) a m (Ok b)
    → Runs (head_at (codes "u128") 6 1 >=> unsigned_bignum_at) m c r → Runs u128_at a c r
runs_u128_tag b e p q = runs_then u128_by p (runs_as (u128_tag b e) q)

-- ---- i128

i128_tag : (b : ℕ) → b / 32 ≢ 0 → b / 32 ≢ 1
    → i128_by b ≡ (head_at (codes "i128") 6 1 >=> signed_bignum_at)
i128_tag b p q = search (rules, ne_eqb)

pub runs_i128_positive : {E : Type 0} (b : ℕ) {a m c : View} {r : Result ℤ (DecodeError E)}
    → b / 32 ≡ 0 → Runs {E = E} (peek_at (codes "i128") 1) a m (Ok b)
    → Runs (head_at (codes "u64") 0 8 >=> as_positive) m c r → Runs i128_at a c r
runs_i128_positive b e p q = runs_then i128_by p (runs_as (i128_positive_by b e) q)

pub runs_i128_negative : {E : Type 0} (b : ℕ) {a m c : View} {r : Result ℤ (DecodeError E)}
    → b / 32 ≡ 1 → Runs {E = E} (peek_at (codes "i128") 1) a m (Ok b)
    → Runs (head_at (codes "i128") 1 8 >=> as_negative) m c r → Runs i128_at a c r
runs_i128_negative b e p q = runs_then i128_by p (runs_as (i128_negative_by b e) q)

pub runs_i128_tag : {E : Type 0} (b : ℕ) {a m c : View} {r : Result ℤ (DecodeError E)} → b / 32 ≢ 0
    → b / 32 ≢ 1 → Runs {E = E} (peek_at (codes "i128") 1) a m (Ok b)
    → Runs (head_at (codes "i128") 6 1 >=> signed_bignum_at) m c r → Runs i128_at a c r
runs_i128_tag b s t p q = runs_then i128_by p (runs_as (i128_tag b s t) q)

-- ---- numbers as signed ones

pub positive_is : (r : ℤ) (k : ℕ) → k < 2 ^ 127 → r ≡ pos k → to_z w128 (of_z w128 r) ≡ pos k
positive_is r k h e =
    ap (λ z. to_z w128 (of_z w128 z)) e ∙ to_z-of_z w128 (pos k) (record { sfits = h })

pub negative_is : (r : ℤ) (k : ℕ) → k < 2 ^ 127 → r ≡ negsuc k → to_z w128 (of_z w128 r) ≡ negsuc k
negative_is r k h e =
    ap (λ z. to_z w128 (of_z w128 z)) e ∙ to_z-of_z w128 (negsuc k) (record { sfits = h })

pub small_argument : (v : ℕ) → v < 256 ^ 8 → v < 2 ^ 127
small_argument v h = omega (arith, h)

-- ---- heads that were taken whole

as_u128 : (v : ℕ) (xs ys : List ℕ) → head_at (codes "u64") 0 8 xs ≡ Ok (v, ys)
    → u128_at xs ≡ head_at (codes "u64") 0 8 xs
as_u128 v [] ys e = cc
as_u128 v (b ∷ bs) ys e =
    ap (λ f. f (b ∷ bs)) (u128_unsigned b (first_major (codes "u64") 0 8 v b bs ys e))

pub u128_whole : {E : Type 0} {v : ℕ} {a m : View}
    → Runs {E = E} (head_at (codes "u64") 0 8) a m (Ok v) → Runs {E = E} u128_at a m (Ok v)
u128_whole {v = v} p = runs_where (λ xs known. let s = p.answers xs known in as_u128 v xs s.0 s.2) p

as_plus : (v : ℕ) (xs ys : List ℕ) → head_at (codes "u64") 0 8 xs ≡ Ok (v, ys)
    → i128_at xs ≡ (head_at (codes "u64") 0 8 >=> as_positive) xs
as_plus v [] ys e = cc
as_plus v (b ∷ bs) ys e =
    ap (λ f. f (b ∷ bs)) (i128_positive_by b (first_major (codes "u64") 0 8 v b bs ys e))

as_minus : (v : ℕ) (xs ys : List ℕ) → head_at (codes "i128") 1 8 xs ≡ Ok (v, ys)
    → i128_at xs ≡ (head_at (codes "i128") 1 8 >=> as_negative) xs
as_minus v [] ys e = cc
as_minus v (b ∷ bs) ys e =
    ap (λ f. f (b ∷ bs)) (i128_negative_by b (first_major (codes "i128") 1 8 v b bs ys e))

pub plus_whole : {E : Type 0} {v : ℕ} {z : ℤ} {a m : View} → z ≡ pos v
    → Runs {E = E} (head_at (codes "u64") 0 8) a m (Ok v) → Runs {E = E} i128_at a m (Ok z)
plus_whole {v = v} e p =
    runs_where (λ xs known. let s = p.answers xs known in as_plus v xs s.0 s.2) (runs_with pos e p)

pub minus_whole : {E : Type 0} {v : ℕ} {z : ℤ} {a m : View} → z ≡ negsuc v
    → Runs {E = E} (head_at (codes "i128") 1 8) a m (Ok v) → Runs {E = E} i128_at a m (Ok z)
minus_whole {v = v} e p = search (rules, runs_where, as_minus, runs_with)
