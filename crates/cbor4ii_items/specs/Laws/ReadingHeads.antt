-- Heads, byte by byte: numbers and how great they can be.
use Rattle.std.proofs.Common.{◌≡◌, ◌≢◌, ℕ, suc, ◌+◌, ◌-◌, ◌*◌, ◌/◌, ◌^◌, ◌<◌, ◌≤◌, List, Option}
use Rattle.std.proofs.Common.{Some, Result, Ok, Err, Bool, true, false, refl, arith, eqb, rules}
use Rattle.std.proofs.Common.{eq-eqb, ne_eqb, cond, leb-true, pow-suc, zero, [], ◌∷◌, length}
use Rattle.std.specs.Prelude.{nat_lt, nat_le}
use Rattle.std.proofs.Math.Nat.{pow-le-pow_right}
use Rattle.cbor4ii_rw.specs.View.{View}
use Rattle.cbor4ii_rw.specs.declared.error.DecodeError.{DecodeError}
use Rattle.cbor4ii_rw.specs.declared.error.Len.TheVariants.{Small}
use Rattle.cbor4ii_items.specs.Head.{indefinite_head}
use Rattle.cbor4ii_items.specs.Reading.{give, ◌>=>◌, byte_at, Runs, Reaches}
use Rattle.cbor4ii_items.specs.ReadHead.{number_on, argument_at, head_by, head_at, length_by}
use Rattle.cbor4ii_items.specs.ReadHead.{length_at, argument_size, allowed_info}
use Rattle.cbor4ii_items.specs.Laws.Running.{runs_give, runs_as, runs_then, runs_err, reaches_start}
use Rattle.cbor4ii_items.specs.InputError.{InputError, eof}
use Rattle.cbor4ii_items.specs.Laws.Outcome.{same_input_error}

-- ---- numbers

-- one more byte of a number
pub one_more_byte : (v b i : ℕ) → v < 256 ^ i → b < 256 → v * 256 + b < 256 ^ (i + 1)
one_more_byte v b i h k =
    let e : 256 ^ suc i ≡ 256 ^ i * 256 = pow-suc 256 i in
    let s : i + 1 ≡ suc i = omega arith in
    rw s (omega (arith, e))

pub small_number : (v i : ℕ) → v < 256 ^ i → i ≤ 16 → v < 2 ^ 128
small_number v i h le = omega (arith, pow-le-pow_right {n = 256} (omega arith) {i = i} {j = 16} le)

-- a byte more of the number, of which some are left
pub number_more : (name : List ℕ) (expect k i high : ℕ) → i < k → number_on name expect (k - i) high
    ≡ (byte_at name expect >=> λ b. number_on name expect (k - (i + 1)) (high * 256 + b))
number_more name expect k i high h = let e : k - i ≡ suc (k - (i + 1)) = omega arith in rw e refl

-- a number is rejected only where too few bytes follow
pub number_cut : (name : List ℕ) (expect k high : ℕ) (bs : List ℕ) (z : InputError) (ys : List ℕ)
    → number_on name expect k high bs ≡ Err (z, ys)
    → (length bs < k) × (z ≡ eof name (Small expect)) × (ys ≡ [])
number_cut name expect zero high bs z ys e = cc
number_cut name expect (suc k) high [] z ys e = search (rules, same_input_error)
number_cut name expect (suc k) high (b ∷ bs) z ys e =
    search (rules, (number_cut name expect k (high * 256 + b) bs z ys e))

pub number_start : (name : List ℕ) (k : ℕ) (a : View)
    → Reaches (number_on name k k 0) (number_on name k (k - 0) 0) a a
number_start name k a =
    let e : k - 0 ≡ k = omega arith in rw e (reaches_start (number_on name k k 0) a)

-- ---- how great the argument can be

pub small_argument : (i width : ℕ) → i < 24 → 1 ≤ width → i < 256 ^ width
small_argument i width h w =
    omega (arith, pow-le-pow_right {n = 256} (omega arith) {i = 1} {j = width} w)

le_of : (t : Bool) (k width : ℕ) → cond t (nat_le k width) false ≡ true → k ≤ width
le_of true k width e = leb-true k width e
le_of false k width e = cc

pub allowed_le : (width i : ℕ) → allowed_info width i ≡ true → argument_size i ≤ width
allowed_le width i e = le_of (nat_lt i 28) (argument_size i) width e

pub wider : (v k width : ℕ) → k ≤ width → v < 256 ^ k → v < 256 ^ width
wider v k width le h =
    omega (arith, h, pow-le-pow_right {n = 256} (omega arith) {i = k} {j = width} le)

-- ---- the major type

this_major : (name : List ℕ) (major width b : ℕ) → b / 32 ≡ major
    → head_by name major width b ≡ argument_at name width b
this_major name major width b e =
    let t : eqb (b / 32) major ≡ true = eq-eqb (b / 32) major e in rw t refl

pub runs_head : {E : Type 0} (name : List ℕ) (major width b : ℕ) {a m c : View}
    {r : Result ℕ (DecodeError E)} → b / 32 ≡ major → Runs {E = E} (byte_at name 1) a m (Ok b)
    → Runs (argument_at name width b) m c r
    → Runs (head_at name major width) a c r
runs_head name major width b e p q =
    runs_then (head_by name major width) p (runs_as (this_major name major width b e) q)

-- ---- lengths

counted : (name : List ℕ) (major b : ℕ) → b ≢ indefinite_head major → b / 32 ≡ major
    → length_by name major b ≡ (argument_at name 8 b >=> λ n. give (Some n))
counted name major b other e = search (rules, ne_eqb, this_major)

pub runs_length_err : {E : Type 0} (name : List ℕ) (major b : ℕ) {a m c : View} {e : DecodeError E}
    → b ≢ indefinite_head major → b / 32 ≡ major → Runs {E = E} (byte_at name 1) a m (Ok b)
    → Runs {V = ℕ} (argument_at name 8 b) m c (Err e)
    → Runs {V = Option ℕ} (length_at name major) a c (Err e)
runs_length_err name major b other is p q = search (rules, runs_then, runs_as, counted, runs_err)

pub runs_length : {E : Type 0} (name : List ℕ) (major b v : ℕ) {a m c : View} →
    b ≢ indefinite_head major
    → b / 32 ≡ major → Runs {E = E} (byte_at name 1) a m (Ok b)
    → Runs {E = E} (argument_at name 8 b) m c (Ok v)
    → Runs {V = Option ℕ} {E = E} (length_at name major) a c (Ok (Some v))
runs_length name major b v {c = c} other is p q =
    search (rules, runs_then, runs_as, counted, runs_give)
