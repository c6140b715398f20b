-- What the words of a command line choose.
use Rattle.std.proofs.Common.{◌≡◌, Option, Some, Result, Ok, Err, refl, subst, ap}
use Rattle.std.specs.Prelude.{Vec, String, IfOk, IsOkAnd, unwrap_or}
use Rattle.std.specs.declared.alloc.Global.{Global}
use Rattle.cbor4ii_tool.specs.Program.{Chooses, Names, NamesNone}
use Rattle.cbor4ii_tool.specs.declared.command.Command.{Command}
use Rattle.cbor4ii_tool.specs.declared.fault.Fault.{Fault}

-- how the choice of words that are texts is said to be theirs
abbrev pub IsTheirs : {E : Type 0} → Result (Vec (String Global) Global) E
    → Result (Option Command) Fault → Type 0
IsTheirs words choice = IfOk words (λ words. IsOkAnd choice (Chooses words.items))

-- of a choice that is a command
chosen_is : (words : Vec (String Global) Global) (choice : Result (Option Command) Fault)
    (command : Command) → IsOkAnd choice (Chooses words.items) → choice ≡ Ok (Some command)
    → Chooses words.items (Some command)
chosen_is words choice command chosen is =
    subst (λ (o : Result (Option Command) Fault). IsOkAnd o (Chooses words.items)) is chosen

-- where the choice is a command, the words name one
pub named : {E : Type 0} (P : Type 0) (words : Result (Vec (String Global) Global) E)
    (choice : Result (Option Command) Fault) (command : Command) → IsTheirs words choice
    → choice ≡ Ok (Some command) → IfOk words (λ words. NamesNone words.items → P)
named P (Err e) choice command chosen is = tt
named P (Ok words) choice command chosen is = λ none.
    absurd (none command ((chosen_is words choice command chosen is command).0 refl))

-- where the choice is a command, what holds of it holds of the one that the words name
pub is_named : {E : Type 0} (P : Command → Type 0) (words : Result (Vec (String Global) Global) E)
    (choice : Result (Option Command) Fault) (command : Command) → IsTheirs words choice
    → choice ≡ Ok (Some command) → P command
    → IfOk words (λ words. (named : Command) → Names words.items named → P named)
is_named P (Err e) choice command chosen is holds = tt
is_named P (Ok words) choice command chosen is holds = λ named names.
    subst P (ap (λ found. unwrap_or found command)
    ((chosen_is words choice command chosen is named).1 names)) holds

-- words that are texts are not rejected
pub not_rejected : {E : Type 0} (P : Vec (String Global) Global → Type 0)
    (words : Result (Vec (String Global) Global) E) (choice : Result (Option Command) Fault)
    (fault : Fault) → IsTheirs words choice → choice ≡ Err fault → IfOk words P
not_rejected P (Err e) choice fault chosen is = tt
not_rejected P (Ok words) choice fault chosen is =
    absurd (subst (λ (choice : Result (Option Command) Fault). IsOkAnd choice
    (Chooses words.items)) is chosen)
