-- What a program of two parts answers, and that what it leaves is an end of what it was given.
use Rattle.std.proofs.Common.{◌≡◌, ◌≢◌, ℕ, zero, suc, ◌+◌, ◌-◌, ◌*◌, ◌/◌, ◌<◌, ◌≤◌, ◌⊎◌, inl}
use Rattle.std.proofs.Common.{inr, List, [], ◌∷◌, ◌++◌, length, take, drop, Option, None, Some}
use Rattle.std.proofs.Common.{Result, Ok, Err, Bool, true, false, refl, sym, ap, arith}
use Rattle.std.proofs.Common.{ltb, eqb, eq-eqb, eqb-true, ltb-false, cond, rules}
use Rattle.std.specs.Prelude.{codes}
use Rattle.std.proofs.lemmas.List.{length-drop}
use Rattle.cbor4ii_rw.specs.declared.error.Len.TheVariants.{Small}
use Rattle.cbor4ii_items.specs.Head.{break, indefinite_head}
use Rattle.cbor4ii_items.specs.InputError.{InputError, mismatch, eof, len_of}
use Rattle.cbor4ii_items.specs.Reading.{Reading, give, reject, go_on, ◌>=>◌, byte_at}
use Rattle.cbor4ii_items.specs.Laws.Outcome.{same_value, same_input_error}
use Rattle.cbor4ii_items.specs.ReadHead.{number_on, argument_at, head_by, head_at, length_by}
use Rattle.cbor4ii_items.specs.ReadHead.{length_at}
use Rattle.cbor4ii_items.specs.ReadStrings.{content_on, break_at, chunk_by, chunk_inside_at}
use Rattle.cbor4ii_items.specs.ReadStrings.{chunk_at}
use Rattle.cbor4ii_items.specs.Laws.Prefixes.{drop_more}

-- some bytes were passed
pub record Passed (xs ys : List ℕ) : Type 0 where
  pub count : ℕ
  pub left : ys ≡ drop count xs
  pub within : count ≤ length xs

passed_none : (xs ys : List ℕ) → xs ≡ ys → Passed xs ys
passed_none xs ys e = record { count = 0; left = sym e; within = omega arith }

passed_one : (b : ℕ) (bs ys : List ℕ) → bs ≡ ys → Passed (b ∷ bs) ys
passed_one b bs ys e = record { count = 1; left = sym e; within = omega arith }

pub passed_then : {xs ys zs : List ℕ} → Passed xs ys → Passed ys zs → Passed xs zs
passed_then {xs = xs} {ys = ys} {zs = zs} p q = search (rules, drop_more, length-drop)

pub passed_length : {xs ys : List ℕ} → Passed xs ys → length ys ≤ length xs
passed_length {xs = xs} p = omega (arith, ap length p.left, length-drop p.count xs)

-- ---- the parts of an answer

pub record OkParts {U V : Type 0} (first : Result (U × List ℕ) (InputError × List ℕ))
    (next : U → Reading V) (v : V) (zs : List ℕ) : Type 0 where
  pub value : U
  pub rest : List ℕ
  pub begun : first ≡ Ok (value, rest)
  pub ended : next value rest ≡ Ok (v, zs)

pub ok_parts : {U V : Type 0} (first : Result (U × List ℕ) (InputError × List ℕ))
    (next : U → Reading V) (v : V) (zs : List ℕ) → go_on first next ≡ Ok (v, zs)
    → OkParts first next v zs
ok_parts (Ok p) next v zs e = record { value = p.0; rest = p.1; begun = refl; ended = e }
ok_parts (Err p) next v zs e = cc

pub record ErrParts {U V : Type 0} (first : Result (U × List ℕ) (InputError × List ℕ))
    (next : U → Reading V) (z : InputError) (zs : List ℕ) : Type 0 where
  pub value : U
  pub rest : List ℕ
  pub begun : first ≡ Ok (value, rest)
  pub ended : next value rest ≡ Err (z, zs)

pub err_parts : {U V : Type 0} (first : Result (U × List ℕ) (InputError × List ℕ))
    (next : U → Reading V) (z : InputError) (zs : List ℕ) → go_on first next ≡ Err (z, zs)
    → (first ≡ Err (z, zs)) ⊎ ErrParts first next z zs
err_parts (Ok p) next z zs e = inr (record { value = p.0; rest = p.1; begun = refl; ended = e })
err_parts (Err p) next z zs e =
    let f : p ≡ (z, zs) = cc in inl (ap (λ (q : InputError × List ℕ). Err q) f)

-- ---- a program that leaves an end of what it is given

pub record LeavesEnd {V : Type 0} (program : Reading V) : Type 0 where
  pub ok : (xs : List ℕ) (v : V) (ys : List ℕ) → program xs ≡ Ok (v, ys) → Passed xs ys
  pub err : (xs : List ℕ) (z : InputError) (ys : List ℕ) → program xs ≡ Err (z, ys) → Passed xs ys

pub give_leaves : {V : Type 0} (v : V) → LeavesEnd (give v)
give_leaves v = search (rules, passed_none, same_value)

pub reject_leaves : {V : Type 0} (z : InputError) → LeavesEnd {V = V} (reject z)
reject_leaves {V} z = search (rules, passed_none, same_input_error)

pub if_leaves : {V : Type 0} (t : Bool) {f g : Reading V} → LeavesEnd f → LeavesEnd g
    → LeavesEnd (cond t f g)
if_leaves true p q = p
if_leaves false p q = q

then_err : {U V : Type 0} {f : Reading U} {g : U → Reading V} (xs zs : List ℕ) (z : InputError)
    → LeavesEnd f → ((u : U) → LeavesEnd (g u)) → (f xs ≡ Err (z, zs)) ⊎ ErrParts (f xs) g z zs
    → Passed xs zs
then_err xs zs z p q (inl e) = p.err xs z zs e
then_err xs zs z p q (inr h) =
    passed_then (p.ok xs h.value h.rest h.begun) ((q h.value).err h.rest z zs h.ended)

pub then_leaves : {U V : Type 0} {f : Reading U} {g : U → Reading V} → LeavesEnd f
    → ((u : U) → LeavesEnd (g u)) → LeavesEnd (f >=> g)
then_leaves {f = f} {g = g} p q = record {
  ok = λ xs v zs e. let h = ok_parts (f xs) g v zs e in
      passed_then (p.ok xs h.value h.rest h.begun) ((q h.value).ok h.rest v zs h.ended);
  err = λ xs z zs e. then_err xs zs z p q (err_parts (f xs) g z zs e);
}

byte_ok : (name : List ℕ) (expect : ℕ) (xs : List ℕ) (v : ℕ) (ys : List ℕ)
    → byte_at name expect xs ≡ Ok (v, ys) → Passed xs ys
byte_ok name expect [] v ys e = cc
byte_ok name expect (b ∷ bs) v ys e =
    passed_one b bs ys (same_value (byte_at name expect (b ∷ bs)) refl e).1

byte_err : (name : List ℕ) (expect : ℕ) (xs : List ℕ) (z : InputError) (ys : List ℕ)
    → byte_at name expect xs ≡ Err (z, ys) → Passed xs ys
byte_err name expect [] z ys e =
    passed_none [] ys (same_input_error (byte_at name expect []) refl e).1
byte_err name expect (b ∷ bs) z ys e = cc

pub byte_leaves : (name : List ℕ) (expect : ℕ) → LeavesEnd (byte_at name expect)
byte_leaves name expect = record { ok = byte_ok name expect; err = byte_err name expect }

pub number_leaves : (name : List ℕ) (expect k high : ℕ) → LeavesEnd (number_on name expect k high)
number_leaves name expect zero high = give_leaves high
number_leaves name expect (suc k) high =
    then_leaves (byte_leaves name expect) (λ b. number_leaves name expect k (high * 256 + b))

argument_leaves : (name : List ℕ) (width b : ℕ) → LeavesEnd (argument_at name width b)
argument_leaves name width b =
    search (rules, if_leaves, give_leaves, number_leaves, reject_leaves)

head_by_leaves : (name : List ℕ) (major width b : ℕ) → LeavesEnd (head_by name major width b)
head_by_leaves name major width b =
    if_leaves (eqb (b / 32) major) (argument_leaves name width b) (reject_leaves (mismatch name b))

pub head_leaves : (name : List ℕ) (major width : ℕ) → LeavesEnd (head_at name major width)
head_leaves name major width = then_leaves (byte_leaves name 1) (head_by_leaves name major width)

length_by_leaves : (name : List ℕ) (major b : ℕ) → LeavesEnd (length_by name major b)
length_by_leaves name major b =
    search (rules, if_leaves, give_leaves, then_leaves, head_by_leaves)

pub length_leaves : (name : List ℕ) (major : ℕ) → LeavesEnd (length_at name major)
length_leaves name major = then_leaves (byte_leaves name 1) (length_by_leaves name major)

-- ---- lengths

-- a length takes a byte
pub length_passed : (name : List ℕ) (major : ℕ) (l : Option ℕ) (xs ys : List ℕ)
    → length_at name major xs ≡ Ok (l, ys) → Passed xs ys × (length ys < length xs)
length_passed name major l [] ys e = cc
length_passed name major l (b ∷ bs) ys e =
    let p = (length_by_leaves name major b).ok bs l ys e in
    (passed_then (passed_one b bs bs refl) p, omega (arith, passed_length p))

some_by : (t : Bool) (name : List ℕ) (major b k : ℕ) (bs ys : List ℕ)
    → cond t (give None) (head_by name major 8 b >=> λ n. give (Some n)) bs ≡ Ok (Some k, ys)
    → head_by name major 8 b bs ≡ Ok (k, ys)
some_by true name major b k bs ys e =
    let p = same_value (Ok (None, bs)) refl e in let f : None ≡ Some k = p.0 in cc
some_by false name major b k bs ys e = search (rules, ok_parts, same_value)

-- a known length is the head's
pub length_some : (name : List ℕ) (major k : ℕ) (xs ys : List ℕ)
    → length_at name major xs ≡ Ok (Some k, ys) → head_at name major 8 xs ≡ Ok (k, ys)
length_some name major k [] ys e = cc
length_some name major k (b ∷ bs) ys e =
    some_by (eqb b (indefinite_head major)) name major b k bs ys e

none_by : (t : Bool) (name : List ℕ) (major b : ℕ) (bs ys : List ℕ) → cond t (give None)
    (head_by name major 8 b >=> λ n. give (Some n)) bs ≡ Ok (None, ys) → (t ≡ true) × (ys ≡ bs)
none_by true name major b bs ys e = (refl, sym (same_value (Ok (None, bs)) refl e).1)
none_by false name major b bs ys e = search (rules, ok_parts, same_value)

-- an indefinite length is one byte
pub length_none : (name : List ℕ) (major : ℕ) (xs ys : List ℕ)
    → length_at name major xs ≡ Ok (None, ys)
    → (take 1 xs ≡ indefinite_head major ∷ []) × (ys ≡ drop 1 xs)
length_none name major [] ys e = cc
length_none name major (b ∷ bs) ys e = search (rules, none_by, eqb-true)

-- ---- content

content_by : (t : Bool) (name : List ℕ) (count : ℕ) (before xs v ys : List ℕ)
    → ltb (length xs) count ≡ t → cond {A = Result (List ℕ × List ℕ) (InputError × List ℕ)} t
    (Err (eof name (len_of (count - length xs)), []))
    (Ok (before ++ take count xs, drop count xs)) ≡ Ok (v, ys)
    → (count ≤ length xs) × (v ≡ before ++ take count xs) × (ys ≡ drop count xs)
content_by true name count before xs v ys h e = cc
content_by false name count before xs v ys h e = search (rules, same_value, ltb-false)

pub content_inverse : (name : List ℕ) (count : ℕ) (before xs v ys : List ℕ)
    → content_on name count before xs ≡ Ok (v, ys)
    → (count ≤ length xs) × (v ≡ before ++ take count xs) × (ys ≡ drop count xs)
content_inverse name count before xs v ys e =
    content_by (ltb (length xs) count) name count before xs v ys refl e

content_passed : (name : List ℕ) (count : ℕ) (before xs v ys : List ℕ)
    → content_on name count before xs ≡ Ok (v, ys) → Passed xs ys
content_passed name count before xs v ys e = search (rules, content_inverse)

-- ---- breaks

yes_by : (t : Bool) (b : ℕ) (bs ys : List ℕ)
    → cond {A = Result (Bool × List ℕ) (InputError × List ℕ)} t (Ok (true, bs))
    (Ok (false, b ∷ bs)) ≡ Ok (true, ys) → (t ≡ true) × (ys ≡ bs)
yes_by true b bs ys e = (refl, sym (same_value (Ok (true, bs)) refl e).1)
yes_by false b bs ys e =
    let p = same_value (Ok (false, b ∷ bs)) refl e in let f : false ≡ true = p.0 in cc

pub break_yes : (xs ys : List ℕ) → break_at xs ≡ Ok (true, ys)
    → (take 1 xs ≡ break ∷ []) × (ys ≡ drop 1 xs)
break_yes [] ys e = cc
break_yes (b ∷ bs) ys e =
    let p = yes_by (eqb b break) b bs ys e in (ap (λ z. z ∷ []) (eqb-true b break p.0), p.1)

no_by : (t : Bool) (b : ℕ) (bs ys : List ℕ)
    → cond {A = Result (Bool × List ℕ) (InputError × List ℕ)} t (Ok (true, bs))
    (Ok (false, b ∷ bs)) ≡ Ok (false, ys) → (t ≡ false) × (ys ≡ b ∷ bs)
no_by true b bs ys e = let p = same_value (Ok (true, bs)) refl e in let f : true ≡ false = p.0 in cc
no_by false b bs ys e = (refl, sym (same_value (Ok (false, b ∷ bs)) refl e).1)

pub not_first : (b c : ℕ) (bs : List ℕ) → eqb b c ≡ false → take 1 (b ∷ bs) ≡ c ∷ [] → ⊥
not_first b c bs e p = let f : b ≡ c = cc in let t = eq-eqb b c f in cc

pub break_no : (xs ys : List ℕ) → break_at xs ≡ Ok (false, ys)
    → (xs ≢ []) × (take 1 xs ≡ break ∷ [] → ⊥) × (ys ≡ xs)
break_no [] ys e = cc
break_no (b ∷ bs) ys e =
    let p = no_by (eqb b break) b bs ys e in ((λ f. cc), not_first b break bs p.0, p.1)

no_err_by : (t : Bool) (b : ℕ) (bs ys : List ℕ) (z : InputError)
    → cond {A = Result (Bool × List ℕ) (InputError × List ℕ)} t (Ok (true, bs))
    (Ok (false, b ∷ bs)) ≡ Err (z, ys) → ⊥
no_err_by true b bs ys z e = cc
no_err_by false b bs ys z e = cc

pub break_rejected : (xs ys : List ℕ) (z : InputError) → break_at xs ≡ Err (z, ys)
    → (xs ≡ []) × (z ≡ eof (codes "break") (Small 1)) × (ys ≡ [])
break_rejected [] ys z e = let p = same_input_error (break_at []) refl e in (refl, sym p.0, sym p.1)
break_rejected (b ∷ bs) ys z e = absurd (no_err_by (eqb b break) b bs ys z e)

-- ---- chunks

chunk_by_passed : (name : List ℕ) (before : List ℕ) (l : Option ℕ) (xs v ys : List ℕ)
    → chunk_by name before l xs ≡ Ok (v, ys) → Passed xs ys
chunk_by_passed name before None xs v ys e = cc
chunk_by_passed name before (Some count) xs v ys e = content_passed name count before xs v ys e

inside_passed : (name : List ℕ) (major : ℕ) (before xs v ys : List ℕ)
    → chunk_inside_at name major before xs ≡ Ok (v, ys) → Passed xs ys × (length ys < length xs)
inside_passed name major before xs v ys e =
    let g = ok_parts (length_at name major xs) (chunk_by name before) v ys e in
    let p = length_passed name major g.value xs g.rest g.begun in
    let q = chunk_by_passed name before g.value g.rest v ys g.ended in
    (passed_then p.0 q, omega (arith, p.1, passed_length q))

-- a chunk takes a byte
pub chunk_passed : (name : List ℕ) (major : ℕ) (budget : Option ℕ) (before xs v ys : List ℕ)
    → chunk_at name major budget before xs ≡ Ok (v, ys) → Passed xs ys × (length ys < length xs)
chunk_passed name major None before xs v ys e = inside_passed name major before xs v ys e
chunk_passed name major (Some zero) before xs v ys e = cc
chunk_passed name major (Some (suc left)) before xs v ys e =
    inside_passed name major before xs v ys e
