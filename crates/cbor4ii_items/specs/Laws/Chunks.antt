-- Chunks up to a break, one by one.
use Rattle.std.proofs.Common.{◌≡◌, ℕ, zero, suc, ◌<◌, List, length, Option, Result, Ok, Err, Bool}
use Rattle.std.proofs.Common.{true, false, refl, arith, if◌then◌else◌, rules}
use Rattle.cbor4ii_items.specs.InputError.{InputError}
use Rattle.cbor4ii_items.specs.Reading.{Reading, give, go_on, ◌>=>◌}
use Rattle.cbor4ii_items.specs.ReadStrings.{break_at, chunk_at, chunks_on, chunks_at}
use Rattle.cbor4ii_items.specs.Laws.ProgramEnds.{break_no, chunk_passed}

-- where two programs go on alike, they are alike
same_after : {U V : Type 0} (p q : U → Reading V) (r : Result (U × List ℕ) (InputError × List ℕ))
    → ((u : U) (ys : List ℕ) → r ≡ Ok (u, ys) → p u ys ≡ q u ys) → go_on r p ≡ go_on r q
same_after p q (Ok w) h = h w.0 w.1 refl
same_after p q (Err z) h = refl

-- the content, or another chunk and what follows it
abbrev pub chunks_by : List ℕ → ℕ → Option ℕ → List ℕ → (List ℕ → Reading (List ℕ)) → Bool
    → Reading (List ℕ)
chunks_by name major budget content next ended =
    if ended then give content else (chunk_at name major budget content >=> next)

by_ended : (name : List ℕ) (major : ℕ) (budget : Option ℕ) (content xs : List ℕ)
    (p q : List ℕ → Reading (List ℕ))
    → ((more ys : List ℕ) → length ys < length xs → p more ys ≡ q more ys)
    → (ended : Bool) (ys : List ℕ) → break_at xs ≡ Ok (ended, ys) → chunks_by name major budget
    content p ended ys ≡ chunks_by name major budget content q ended ys
by_ended name major budget content xs p q h true ys e = refl
by_ended name major budget content xs p q h false ys e =
    search (rules, break_no, same_after, chunk_passed)

fuel : (f g : ℕ) (name : List ℕ) (major : ℕ) (budget : Option ℕ) (content xs : List ℕ)
    → length xs < f → length xs < g
    → chunks_on f name major budget content xs ≡ chunks_on g name major budget content xs
fuel zero g name major budget content xs h k = absurd (omega (arith, h))
fuel (suc f) zero name major budget content xs h k = absurd (omega (arith, k))
fuel (suc f) (suc g) name major budget content xs h k =
    same_after (chunks_by name major budget content (chunks_on f name major budget))
    (chunks_by name major budget content (chunks_on g name major budget)) (break_at xs)
    (by_ended name major budget content xs (chunks_on f name major budget)
    (chunks_on g name major budget) (λ more ys short.
    fuel f g name major budget more ys (omega (arith, h, short)) (omega (arith, k, short))))

chunks_here : (name : List ℕ) (major : ℕ) (budget : Option ℕ) (content xs : List ℕ)
    → chunks_at name major budget content xs
    ≡ (break_at >=> chunks_by name major budget content (chunks_at name major budget)) xs
chunks_here name major budget content xs =
    same_after (chunks_by name major budget content (chunks_on (length xs) name major budget))
    (chunks_by name major budget content (chunks_at name major budget)) (break_at xs)
    (by_ended name major budget content xs (chunks_on (length xs) name major budget)
    (chunks_at name major budget) (λ more ys short. fuel (length xs)
    (suc (length ys)) name major budget more ys short (omega arith)))

-- a break, or a chunk and then chunks up to a break
pub chunks_more : (name : List ℕ) (major : ℕ) (budget : Option ℕ) (content : List ℕ)
    → chunks_at name major budget content
    ≡ (break_at >=> chunks_by name major budget content (chunks_at name major budget))
chunks_more name major budget content = λ i xs. chunks_here name major budget content xs i
