-- What a plain program answers: something that is good, or one of these errors with a rest.
use Rattle.std.proofs.Common.{◌≡◌, ℕ, List, Option, Some, None, Ok, Err, refl, subst}
use Rattle.cbor4ii_items.specs.Reading.{go_on}
use Rattle.cbor4ii_tree.specs.{Basis.Cost.Budget, Basis.InputError.InputError, Calls.Parse.Answer}
use Rattle.cbor4ii_tree.specs.{Calls.Parse.{Parser, inside_step}, Calls.Rejections.RejectsAtStep}

abbrev pub Failing : Type 1
Failing = InputError → List ℕ → Type 0

abbrev pub Holds : {A : Type 0} → (A × List ℕ → Type 0) → Failing → Answer A → Type 0
Holds Good Bad (Ok p) = Good p
Holds Good Bad (Err z) = Bad z.0 z.1

pub record Meets {A : Type 0} (Good : A × List ℕ → Type 0) (Bad : Failing)
    (r : Answer A) : Type 0 where
  pub holds : Holds Good Bad r

pub ok_meets : {A : Type 0} {Good : A × List ℕ → Type 0} {Bad : Failing} (p : A × List ℕ) → Good p
    → Meets Good Bad (Ok p)
ok_meets p h = record { holds = h }

pub err_meets : {A : Type 0} {Good : A × List ℕ → Type 0} {Bad : Failing}
    (z : InputError × List ℕ) → Bad z.0 z.1 → Meets Good Bad (Err z)
err_meets z h = record { holds = h }

-- the answer in which another one goes on
pub then_meets : {A B : Type 0} {Good : A × List ℕ → Type 0} {Bad : Failing}
    {Better : B × List ℕ → Type 0} {Worse : Failing} {r : Answer A} {next : A → Parser B}
    → Meets Good Bad r → ((a : A) (x : List ℕ) → Good (a, x) → Meets Better Worse (next a x))
    → ((e : InputError) (rest : List ℕ) → Bad e rest → Worse e rest)
    → Meets Better Worse (go_on r next)
then_meets {r = Ok p} m k c = k p.0 p.1 m.holds
then_meets {r = Err z} m k c = record { holds = c z.0 z.1 m.holds }

-- the same with the same errors
pub and_meets : {A B : Type 0} {Good : A × List ℕ → Type 0} {Bad : Failing}
    {Better : B × List ℕ → Type 0} {r : Answer A} {next : A → Parser B} → Meets Good Bad r
    → ((a : A) (x : List ℕ) → Good (a, x) → Meets Better Bad (next a x))
    → Meets Better Bad (go_on r next)
and_meets m k = then_meets m k (λ e rest f. f)

pub map_meets : {A : Type 0} {Good Better : A × List ℕ → Type 0} {Bad Worse : Failing}
    {r : Answer A} → Meets Good Bad r → ((p : A × List ℕ) → Good p → Better p)
    → ((e : InputError) (rest : List ℕ) → Bad e rest → Worse e rest) → Meets Better Worse r
map_meets {r = Ok p} m k c = record { holds = k p m.holds }
map_meets {r = Err z} m k c = record { holds = c z.0 z.1 m.holds }

pub step_meets : {A : Type 0} {Good : A × List ℕ → Type 0} (name : List ℕ) (step : Option Budget)
    (here : List ℕ) (next : Budget → Answer A) (rejects : Budget → Failing)
    → ((inner : Budget) → step ≡ Some inner → Meets Good (rejects inner) (next inner))
    → Meets Good (RejectsAtStep name step here rejects) (inside_step name step here next)
step_meets name None here next rejects k = record { holds = (refl, refl) }
step_meets name (Some inner) here next rejects k = record { holds = (k inner refl).holds }

-- what follows for an answer that is known
pub met_ok : {A : Type 0} {Good : A × List ℕ → Type 0} {Bad : Failing} (r : Answer A)
    (p : A × List ℕ) → Meets Good Bad r → r ≡ Ok p → Good p
met_ok {Good = Good} {Bad = Bad} r p m e = subst (Holds Good Bad) e m.holds

pub met_err : {A : Type 0} {Good : A × List ℕ → Type 0} {Bad : Failing} (r : Answer A)
    (e : InputError) (rest : List ℕ) → Meets Good Bad r → r ≡ Err (e, rest) → Bad e rest
met_err {Good = Good} {Bad = Bad} r e rest m is = subst (Holds Good Bad) is m.holds
