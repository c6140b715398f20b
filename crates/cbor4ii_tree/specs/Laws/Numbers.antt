-- Heads, read back.
use Rattle.std.proofs.Common.{◌≡◌, ℕ, zero, suc, ◌+◌, ◌*◌, ◌/◌, ◌%◌, ◌^◌, ◌<◌, fold, refl, ◌∙◌}
use Rattle.std.proofs.{Common.{arith, pow-suc, mul_comm, lt-ltb}, Math.Nat.pow-le-pow_right}
use Rattle.std.proofs.Math.Arith.{mod-mul}
use Rattle.std.specs.Int.{byte_at, bytes_high_first}
use Rattle.cbor4ii_items.specs.{Head.{Width, in_first, HeadFits, additional}, Initial.wide}
use Rattle.cbor4ii_items.specs.{Initial.{info_of, initial, by_major}, Magnitude.number_of}

-- one more byte in front of the low k bytes
byte_on : (k n high : ℕ)
    → (high * 256 + byte_at k n) * 256 ^ k + n % 256 ^ k ≡ high * 256 ^ suc k + n % 256 ^ suc k
byte_on zero n high = omega arith
byte_on (suc k) n high =
    let unit = 256 ^ suc k in
    let wider : 256 ^ suc (suc k) ≡ 256 * unit = pow-suc 256 (suc k) ∙ mul_comm unit 256 in
    let some : 0 < unit =
    pow-le-pow_right {n = 256} (omega arith) {i = 0} {j = suc k} (omega arith) in
    rw (wider, mod-mul n {m = 256} {c = unit} (omega arith) some) (omega arith)

bytes_read : (k n high : ℕ)
    → fold (λ h byte. h * 256 + byte) high (bytes_high_first k n) ≡ high * 256 ^ k + n % 256 ^ k
bytes_read zero n high = omega arith
bytes_read (suc k) n high = bytes_read k n (high * 256 + byte_at k n) ∙ byte_on k n high

pub low_bytes : (k n : ℕ) → number_of (bytes_high_first k n) ≡ n % 256 ^ k
low_bytes k n = bytes_read k n 0 ∙ omega arith

pub additional-lt : (n : ℕ) (w : Width) → HeadFits w n → additional w n < 32
additional-lt n in_first h = omega arith
additional-lt n _ h = omega arith

pub info-additional : (n : ℕ) (w : Width) → HeadFits w n → info_of (additional w n) ≡ wide w
info-additional n in_first h = rw (lt-ltb n 24 (omega arith)) refl
info-additional n _ h = refl

-- the two parts of an initial byte
pub initial_parts : (major i : ℕ) → i < 32 → initial (32 * major + i) ≡ by_major major i
unfolding initial
initial_parts major i h =
    let high : (32 * major + i) / 32 ≡ major = omega arith in
    let low : (32 * major + i) % 32 ≡ i = omega arith in
    rw (high, low) refl

pub initial-head : (major n : ℕ) (w : Width) → HeadFits w n
    → initial (32 * major + additional w n) ≡ by_major major (additional w n)
initial-head major n w h = initial_parts major (additional w n) (additional-lt n w h)
