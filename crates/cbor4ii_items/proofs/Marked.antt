-- Items that begin with one of a few bytes, and false and true.
use Rattle.std.proofs.Common.{◌≡◌, ◌≢◌, ℕ, ◌≤◌, List, [], ◌∷◌, length, drop, take, Result, Ok, Err}
use Rattle.std.proofs.Common.{Bool, true, false, refl, sym, arith, cond, eqb, eqb-true}
use Rattle.std.proofs.Common.{eq-eqb, leb-true, rules}
use Rattle.std.specs.Prelude.{◌&&◌, nat_le}
use Rattle.std.proofs.lemmas.List.{length-drop}
use Rattle.cbor4ii_rw.specs.View.{View}
use Rattle.cbor4ii_items.specs.InputError.{InputError, mismatch}
use Rattle.cbor4ii_items.specs.Reading.{byte_at, Runs}
use Rattle.cbor4ii_items.specs.Laws.Outcome.{same_value, same_input_error}
use Rattle.cbor4ii_items.specs.Laws.Arguments.{ReadBy}
use Rattle.cbor4ii_items.specs.Marked.{NoneBegins, marked_at, within_marks}
use Rattle.cbor4ii_items.specs.Simple.{ReadsBool, RejectsBool, IsBool, bool_byte, bool_at}
use Rattle.cbor4ii_items.specs.Simple.{bool_within, bool_positive}
use Rattle.cbor4ii_items.proofs.Leaves.{IsLeaf}
use Rattle.cbor4ii_items.proofs.SignedLeaf.{sign_given, sign_rejected}

-- ---- a call of the program

marked_byte : (name : List ℕ) (least greatest b : ℕ) (xs ys : List ℕ) → least ≤ b → b ≤ greatest
    → byte_at name 1 xs ≡ Ok (b, ys) → marked_at name least greatest xs ≡ Ok (b, ys)
marked_byte name least greatest b [] ys p q e = cc
marked_byte name least greatest b (x ∷ xs) ys p q e = search (rules, same_value, within_marks)

pub runs_marked : {E : Type 0} (name : List ℕ) (least greatest : ℕ) {b : ℕ} {a c : View} → least ≤ b
    → b ≤ greatest → Runs {E = E} (byte_at name 1) a c (Ok b)
    → Runs {E = E} (marked_at name least greatest) a c (Ok b)
runs_marked name least greatest {b = b} p q r = search (rules, marked_byte)

-- ---- what the program answers

and_parts : (s t : Bool) → (s && t) ≡ true → (s ≡ true) × (t ≡ true)
and_parts true true e = (refl, refl)
and_parts _ _ e = cc

marked_by : (t : Bool) (name : List ℕ) (least greatest x b : ℕ) (xs ys : List ℕ)
    → (nat_le least x && nat_le x greatest) ≡ t
    → cond {A = Result (ℕ × List ℕ) (InputError × List ℕ)} t (Ok (x, xs))
    (Err (mismatch name x, x ∷ xs)) ≡ Ok (b, ys)
    → (x ∷ xs ≡ b ∷ ys) × (least ≤ b) × (b ≤ greatest)
marked_by true name least greatest x b xs ys t e = search (rules, same_value, and_parts, leb-true)
marked_by false name least greatest x b xs ys t e = cc

-- the byte that was taken
pub marked_value : (name : List ℕ) (least greatest b : ℕ) (xs ys : List ℕ)
    → marked_at name least greatest xs ≡ Ok (b, ys) → (xs ≡ b ∷ ys) × (least ≤ b) × (b ≤ greatest)
marked_value name least greatest b [] ys e = cc
marked_value name least greatest b (x ∷ xs) ys e =
    marked_by (nat_le least x && nat_le x greatest) name least greatest x b xs ys refl e

stays_by : (t : Bool) (name : List ℕ) (begins : ℕ → Type 0) (x : ℕ) (xs : List ℕ) (z : InputError)
    (ys : List ℕ) → (begins x → t ≡ true)
    → cond {A = Result (ℕ × List ℕ) (InputError × List ℕ)} t (Ok (x, xs))
    (Err (mismatch name x, x ∷ xs)) ≡ Err (z, ys) → NoneBegins name begins (x ∷ xs) z ys
stays_by true name begins x xs z ys h e = cc
stays_by false name begins x xs z ys h e = search (rules, same_input_error)

-- where it is rejected, none of the type's bytes comes next
pub marked_stays : (name : List ℕ) (least greatest : ℕ) (begins : ℕ → Type 0)
    → ((b : ℕ) → begins b → (least ≤ b) × (b ≤ greatest)) → (xs : List ℕ) (z : InputError)
    (ys : List ℕ) → marked_at name least greatest xs ≡ Err (z, ys) → NoneBegins name begins xs z ys
marked_stays name least greatest begins h [] z ys e =
    let p = same_input_error (marked_at name least greatest []) refl e in (sym p.0, sym p.1)
marked_stays name least greatest begins h (x ∷ xs) z ys e = search (rules, stays_by, within_marks)

-- ---- false and true

byte_of : (t : Bool) (b : ℕ) → eqb b 0xf5 ≡ t → 0xf4 ≤ b → b ≤ 0xf5 → b ≡ bool_byte t
byte_of true b e p q = eqb-true b 0xf5 e
byte_of false b e p q =
    let other : b ≢ 0xf5 = λ s. (let t = eq-eqb b 0xf5 s in cc) in omega (arith, other)

bool_means : (xs : List ℕ) (v : Bool) (n : ℕ) → bool_at xs ≡ Ok (v, drop n xs) → n ≤ length xs
    → ReadsBool xs v n 0
bool_means xs v n e within = search (rules, sign_given, marked_value, length-drop)

bool_answer : (xs : List ℕ) (v : Bool) → take 1 xs ≡ bool_byte v ∷ []
    → bool_at xs ≡ Ok (v, drop 1 xs)
bool_answer [] v e = cc
bool_answer (x ∷ xs) false e = let f : x ≡ 0xf4 = cc in rw f refl
bool_answer (x ∷ xs) true e = let f : x ≡ 0xf5 = cc in rw f refl

bool_again : (xs : List ℕ) (v : Bool) (n c : ℕ) → ReadsBool xs v n c → ReadBy bool_at xs v n c
bool_again xs v n c p = search (rules, bool_answer, bool_within, bool_positive)

bool_bytes : (b : ℕ) → IsBool b → (0xf4 ≤ b) × (b ≤ 0xf5)
bool_bytes b (false, e) = (omega (arith, e), omega (arith, e))
bool_bytes b (true, e) = (omega (arith, e), omega (arith, e))

pub bool_leaf : IsLeaf bool_at ReadsBool RejectsBool
bool_leaf = search (rules, bool_means, bool_again, marked_stays, bool_bytes, sign_rejected)
