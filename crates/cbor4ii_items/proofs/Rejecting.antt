-- How a head is rejected.
use Rattle.std.proofs.Common.{◌≡◌, ◌≢◌, ℕ, ◌/◌, ◌%◌, ◌<◌, ◌≤◌, inl, inr, List, [], ◌∷◌}
use Rattle.std.proofs.Common.{Err, Bool, true, false, refl, sym, arith, ltb, lt-ltb}
use Rattle.std.proofs.Common.{le-leb, eqb, eq-eqb, eqb-true, ltb-false, cond, rules}
use Rattle.std.proofs.Math.Nat.{pow-le-pow_right}
use Rattle.cbor4ii_items.specs.Head.{Width, in_first, one as w_one, two, four, eight, byte_count}
use Rattle.cbor4ii_items.specs.Head.{HeadFits, additional}
use Rattle.cbor4ii_items.specs.InputError.{InputError, mismatch}
use Rattle.cbor4ii_items.specs.Reading.{give, reject, byte_at}
use Rattle.cbor4ii_items.specs.Laws.Outcome.{same_input_error}
use Rattle.cbor4ii_items.specs.Heads.{Begins, NotAHead, CutHead, RejectsHead}
use Rattle.cbor4ii_items.specs.ReadHead.{head_at, argument_at, number_on, argument_size}
use Rattle.cbor4ii_items.specs.ReadHead.{allowed_info}
use Rattle.cbor4ii_items.specs.Laws.Heads.{additional-lt, allowed_parts, two_parts, wide_of}
use Rattle.cbor4ii_items.specs.Laws.ReadingHeads.{number_cut}

parts_of : (major width b : ℕ) (wide : Width) (h : Begins major width b wide)
    → (b / 32 ≡ major) × (b % 32 ≡ additional wide h.argument)
parts_of major width b wide h = search (rules, additional-lt)

allowed_at : (width i k : ℕ) → i < 28 → argument_size i ≡ k → k ≤ width → allowed_info width i
    ≡ true
allowed_at width i k lt e le = search (rules, lt-ltb, le-leb)

-- a width that the head's byte says is allowed
begun_allowed : (wide : Width) (width i n : ℕ) → 24 ≤ i → i ≡ additional wide n → HeadFits wide n
    → byte_count wide ≤ width → allowed_info width i ≡ true
begun_allowed in_first width i n lo e fits le = absurd (omega arith)
begun_allowed w_one width i n lo e fits le = rw e (allowed_at width 24 1 (omega arith) refl le)
begun_allowed two width i n lo e fits le = rw e (allowed_at width 25 2 (omega arith) refl le)
begun_allowed four width i n lo e fits le = rw e (allowed_at width 26 4 (omega arith) refl le)
begun_allowed eight width i n lo e fits le = rw e (allowed_at width 27 8 (omega arith) refl le)

cut_at : (name : List ℕ) (major width b : ℕ) (bs : List ℕ) (z : InputError) (ys : List ℕ)
    → b / 32 ≡ major → 24 ≤ b % 32 → b % 32 < 28 → argument_size (b % 32) ≤ width
    → number_on name (argument_size (b % 32)) (argument_size (b % 32)) 0 bs ≡ Err (z, ys)
    → CutHead name major width b bs z ys
cut_at name major width b bs z ys m lo hi le e =
    search (rules, wide_of, number_cut, pow-le-pow_right, two_parts)

not_allowed : (name : List ℕ) (major width b : ℕ) (bs : List ℕ) (z : InputError) (ys : List ℕ)
    → 24 ≤ b % 32 → allowed_info width (b % 32) ≡ false
    → reject {V = ℕ} (mismatch name b) bs ≡ Err (z, ys) → NotAHead name major width b bs z ys
not_allowed name major width b bs z ys lo other e =
    search (rules, same_input_error, begun_allowed)

argument_rejects : (s t : Bool) (name : List ℕ) (major width b : ℕ) (bs : List ℕ) (z : InputError)
    (ys : List ℕ) → ltb (b % 32) 24 ≡ s → allowed_info width (b % 32) ≡ t → b / 32 ≡ major
    → cond s (give (b % 32))
    (cond t (number_on name (argument_size (b % 32)) (argument_size (b % 32)) 0)
    (reject (mismatch name b))) bs ≡ Err (z, ys) → RejectsHead name major width (b ∷ bs) z ys
argument_rejects true t name major width b bs z ys es et m e = cc
argument_rejects false false name major width b bs z ys es et m e =
    inl (not_allowed name major width b bs z ys (ltb-false (b % 32) 24 es) et e)
argument_rejects false true name major width b bs z ys es et m e =
    search (rules, allowed_parts, inr, cut_at, ltb-false)

other_major : (name : List ℕ) (major width b : ℕ) (bs : List ℕ) (z : InputError) (ys : List ℕ)
    → b / 32 ≢ major → reject {V = ℕ} (mismatch name b) bs ≡ Err (z, ys)
    → NotAHead name major width b bs z ys
other_major name major width b bs z ys other e = search (rules, same_input_error)

head_by_rejects : (t : Bool) (name : List ℕ) (major width b : ℕ) (bs : List ℕ) (z : InputError)
    (ys : List ℕ) → eqb (b / 32) major ≡ t
    → cond t (argument_at name width b) (reject (mismatch name b)) bs ≡ Err (z, ys)
    → RejectsHead name major width (b ∷ bs) z ys
head_by_rejects true name major width b bs z ys h e = search (rules, argument_rejects, eqb-true)
head_by_rejects false name major width b bs z ys h e = search (rules, inl, other_major, eq-eqb)

-- an error of the program is the head's
pub head_rejects : (name : List ℕ) (major width : ℕ) (xs : List ℕ) (z : InputError) (ys : List ℕ)
    → head_at name major width xs ≡ Err (z, ys) → RejectsHead name major width xs z ys
head_rejects name major width [] z ys e =
    let p = same_input_error (byte_at name 1 []) refl e in (sym p.0, sym p.1)
head_rejects name major width (b ∷ bs) z ys e =
    head_by_rejects (eqb (b / 32) major) name major width b bs z ys refl e
