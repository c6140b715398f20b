-- Signed integers of at most eight bytes, one part after another.
use Rattle.std.proofs.Common.{◌≡◌, ℕ, ◌/◌, ◌==◌, ◌^◌, ◌<◌, ◌≤◌, List, [], ◌∷◌, Bool, true, false}
use Rattle.std.proofs.Common.{if◌then◌else◌, Result, Ok, Err, refl, ap, ◌∙◌, rules}
use Rattle.std.proofs.lemmas.Bool.{eqb-true, lt-ltb, le-ltb}
use Rattle.std.specs.Prelude.{ℤ, pos, negsuc}
use Rattle.std.proofs.lemmas.Int.{to_z-of_z}
use mir.Val.{to_z, of_z}
use mir.Syntax.{w64}
use Rattle.cbor4ii_rw.specs.View.{View, IfKnown}
use Rattle.cbor4ii_rw.specs.declared.error.DecodeError.{DecodeError}
use Rattle.cbor4ii_rw.specs.declared.error.DecodeError.TheVariants.{CastOverflow}
use denote.Ref.{Bor}
use Rattle.cbor4ii_items.specs.InputError.{InputError}
use Rattle.cbor4ii_items.specs.Reading.{Reading, Runs, reject, peek_at, ◌>=>◌}
use Rattle.cbor4ii_items.specs.ReadHead.{head_at, argument_at}
use Rattle.cbor4ii_items.specs.ReadNumber.{below, head_below_at, signed_at, as_positive}
use Rattle.cbor4ii_items.specs.ReadNumber.{as_negative}
use Rattle.cbor4ii_items.specs.Laws.Running.{as_of, runs_as, runs_then, runs_err, runs_with}
use Rattle.cbor4ii_items.specs.Laws.Running.{runs_give, runs_reject}
use Rattle.cbor4ii_items.specs.Laws.Signed.{signed_positive_by, signed_negative_by}

pub runs_positive : {E : Type 0} (name plus minus : List ℕ) (width limit b : ℕ) {a m c : View}
    {r : Result ℤ (DecodeError E)} → b / 32 ≡ 0 → Runs {E = E} (peek_at name 1) a m (Ok b)
    → Runs (head_below_at plus 0 width limit >=> as_positive) m c r
    → Runs (signed_at name plus minus width limit) a c r
runs_positive name plus minus width limit b e p q =
    search (rules, runs_then, runs_as, signed_positive_by)

pub runs_negative : {E : Type 0} (name plus minus : List ℕ) (width limit b : ℕ) {a m c : View}
    {r : Result ℤ (DecodeError E)} → b / 32 ≡ 1 → Runs {E = E} (peek_at name 1) a m (Ok b)
    → Runs (head_below_at minus 1 width limit >=> as_negative) m c r
    → Runs (signed_at name plus minus width limit) a c r
runs_negative name plus minus width limit b e p q =
    search (rules, runs_then, runs_as, signed_negative_by)

-- ---- numbers as signed ones

pub positive_is : (r : ℤ) (k : ℕ) → k < 2 ^ 63 → r ≡ pos k → to_z w64 (of_z w64 r) ≡ pos k
positive_is r k h e =
    ap (λ z. to_z w64 (of_z w64 z)) e ∙ to_z-of_z w64 (pos k) (record { sfits = h })

pub negative_is : (r : ℤ) (k : ℕ) → k < 2 ^ 63 → r ≡ negsuc k → to_z w64 (of_z w64 r) ≡ negsuc k
negative_is r k h e =
    ap (λ z. to_z w64 (of_z w64 z)) e ∙ to_z-of_z w64 (negsuc k) (record { sfits = h })

-- ---- a head that was taken whole

read_where : (t : Bool) (f : Reading ℕ) (err : InputError) (xs ys : List ℕ) (v : ℕ)
    → (if t then f else reject err) xs ≡ Ok (v, ys) → t ≡ true
read_where true f err xs ys v e = refl
read_where false f err xs ys v e = cc

-- a head that is read begins with its major type
pub first_major : (name : List ℕ) (major width v b : ℕ) (bs ys : List ℕ)
    → head_at name major width (b ∷ bs) ≡ Ok (v, ys) → b / 32 ≡ major
first_major name major width v b bs ys e =
    eqb-true (b / 32) major (read_where ((b / 32) == major) (argument_at name width b) _ bs ys v e)

-- where a head of major type 0 is read, a signed number begins with it
as_plus : (name plus minus : List ℕ) (width limit v : ℕ) (xs ys : List ℕ)
    → head_at plus 0 width xs ≡ Ok (v, ys) → signed_at name plus minus width limit xs
    ≡ (head_below_at plus 0 width limit >=> as_positive) xs
as_plus name plus minus width limit v [] ys e = cc
as_plus name plus minus width limit v (b ∷ bs) ys e =
    search (rules, signed_positive_by, first_major)

as_minus : (name plus minus : List ℕ) (width limit v : ℕ) (xs ys : List ℕ)
    → head_at minus 1 width xs ≡ Ok (v, ys) → signed_at name plus minus width limit xs
    ≡ (head_below_at minus 1 width limit >=> as_negative) xs
as_minus name plus minus width limit v [] ys e = cc
as_minus name plus minus width limit v (b ∷ bs) ys e =
    search (rules, signed_negative_by, first_major)

pub runs_where : {V E : Type 0} {f g : Reading V} {a b : View} {r : Result V (DecodeError E)}
    → IfKnown a.known (λ xs. f xs ≡ g xs) → Runs g a b r → Runs f a b r
runs_where {f = f} {g = g} {b = b} {r = r} same q = search (rules, as_of)

runs_below : {E : Type 0} (name : List ℕ) (limit v : ℕ) (m : View) → v < limit
    → Runs {E = E} (below name limit v) m m (Ok v)
runs_below name limit v m h = let t = lt-ltb v limit h in runs_as (rw t refl) (runs_give v m)

runs_above : {E : Type 0} (name : Bor (List ℕ)) (limit v : ℕ) (m : View) → limit ≤ v
    → Runs {V = ℕ} {E = E} (below name.now limit v) m m (Err (CastOverflow name))
runs_above name limit v m h = search (rules, le-ltb, runs_as, runs_reject)

module _ {E : Type 0} (name : List ℕ) (half : Bor (List ℕ)) (other : List ℕ) (width limit : ℕ)
    {v : ℕ} {a m : View} where
  pub plus_read : {z : ℤ} → z ≡ pos v → v < limit
      → Runs {E = E} (head_at half.now 0 width) a m (Ok v)
      → Runs {E = E} (signed_at name half.now other width limit) a m (Ok z)
  plus_read e h p = search (rules, runs_where, as_plus, runs_with, runs_then, runs_below)

  pub plus_rejected : limit ≤ v → Runs {E = E} (head_at half.now 0 width) a m (Ok v)
      → Runs {E = E} (signed_at name half.now other width limit) a m (Err (CastOverflow half))
  plus_rejected h p = search (rules, runs_where, as_plus, runs_err, runs_then, runs_above)

  pub minus_read : {z : ℤ} → z ≡ negsuc v → v < limit
      → Runs {E = E} (head_at half.now 1 width) a m (Ok v)
      → Runs {E = E} (signed_at name other half.now width limit) a m (Ok z)
  minus_read e h p = search (rules, runs_where, as_minus, runs_with, runs_then, runs_below)

  pub minus_rejected : limit ≤ v → Runs {E = E} (head_at half.now 1 width) a m (Ok v)
      → Runs {E = E} (signed_at name other half.now width limit) a m (Err (CastOverflow half))
  minus_rejected h p = search (rules, runs_where, as_minus, runs_err, runs_then, runs_above)
