-- A program that answers with what is accepted and with what is rejected: so one of the two holds,
-- of one thing.
use Rattle.std.proofs.Common.{◌≡◌, ℕ, List, inl, inr, Ok, Err, refl, rules}
use Rattle.cbor4ii_tree.specs.{Basis.Encodings.{SomeAnswer, AtMostOne}, Basis.InputError.InputError}
use Rattle.cbor4ii_tree.specs.{Laws.Binds.{same_ok, same_err}, Calls.Parse.Answer}

by_answer : {A : Type 0} (r s : Answer A) (Accepts : A → List ℕ → Type 0)
    (Rejects : InputError → List ℕ → Type 0) → r ≡ s
    → ((a : A) (x : List ℕ) → r ≡ Ok (a, x) → Accepts a x)
    → ((e : InputError) (x : List ℕ) → r ≡ Err (e, x) → Rejects e x) → SomeAnswer Accepts Rejects
by_answer r (Ok p) Accepts Rejects is sound errs = inl (p.0, p.1, sound p.0 p.1 is)
by_answer r (Err z) Accepts Rejects is sound errs = inr (z.0, z.1, errs z.0 z.1 is)

-- what the program answers holds
pub some_answer_of : {A : Type 0} (r : Answer A) (Accepts : A → List ℕ → Type 0)
    (Rejects : InputError → List ℕ → Type 0) → ((a : A) (x : List ℕ) → r ≡ Ok (a, x) → Accepts a x)
    → ((e : InputError) (x : List ℕ) → r ≡ Err (e, x) → Rejects e x) → SomeAnswer Accepts Rejects
some_answer_of r Accepts Rejects sound errs = by_answer r r Accepts Rejects refl sound errs

-- what holds is what the program answers
pub at_most_one_of : {A : Type 0} (r : Answer A) (Accepts : A → List ℕ → Type 0)
    (Rejects : InputError → List ℕ → Type 0) → ((a : A) (x : List ℕ) → Accepts a x → r ≡ Ok (a, x))
    → ((e : InputError) (x : List ℕ) → Rejects e x → r ≡ Err (e, x)) → AtMostOne Accepts Rejects
at_most_one_of {A} r Accepts Rejects complete rejects = search (rules, same_ok, same_err)
