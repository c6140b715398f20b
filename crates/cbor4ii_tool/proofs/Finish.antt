-- A run after its flush.
use Rattle.std.proofs.Common.{◌≡◌, ℕ, inl, inr, List, ◌++◌, Bool, true, OnOk}
use Rattle.std.proofs.Common.{IfErr, Option, Some, Ok, Err, refl, sym, ap, ◌∙◌, subst}
use Rattle.cbor4ii_rw.specs.View.{View, IfKnown}
use Rattle.cbor4ii_rw.specs.Reader.{Keeps}
use Rattle.cbor4ii_rw.specs.Writer.{Output, Appends, one_more}
use Rattle.cbor4ii_tool.specs.Item.{together}
use Rattle.cbor4ii_tool.specs.Run.{FaultAt, RunsOver, WantsMemory, RunBlames, BlamesAt, Hands}
use Rattle.cbor4ii_tool.specs.Steps.{MovesFailures, FailsAt, first_failure, failed_at, EndsRun}
use Rattle.cbor4ii_tool.specs.Fault.{Outcome}
use Rattle.cbor4ii_tool.specs.declared.command.Command.{Command}
use Rattle.cbor4ii_tool.specs.declared.fault.Kind.{Kind}
use Rattle.cbor4ii_tool.specs.declared.fault.Kind.TheVariants.{Read, OutOfMemory, Write}

-- ---- what is written

kept_bytes : (bytes : List ℕ) (held mid holds : Option (List ℕ)) → Appends bytes held mid
    → Keeps mid holds → Appends bytes held holds
kept_bytes bytes held mid holds appends keeps xs known = keeps (xs ++ bytes) (appends xs known)

kept_fault : (command : Command) (at : ℕ) (kind : Kind) (texts : List (List ℕ))
    (input rest : List ℕ) (old new : View) (held mid holds : Option (List ℕ)) → Keeps mid holds
    → FaultAt command texts input rest old new held mid at kind
    → FaultAt command texts input rest old new held holds at kind
kept_fault command at Read texts input rest old new held mid holds keeps fault =
    (fault.0, kept_bytes (together texts) held mid holds fault.1 keeps)
kept_fault command at Write texts input rest old new held mid holds keeps (inl item) = inl item
kept_fault command at Write texts input rest old new held mid holds keeps (inr flush) =
    inr (flush.0, kept_bytes (together texts) held mid holds flush.1 keeps, flush.2)
kept_fault command at OutOfMemory texts input rest old new held mid holds keeps fault =
    (fault.0, kept_bytes (together texts) held mid holds fault.1 keeps)
kept_fault command at _ texts input rest old new held mid holds keeps fault =
    (fault.0, kept_bytes (together texts) held mid holds fault.1 keeps, fault.2, fault.3, fault.4)

-- a fault of the items, after which the flush failed at `at`
lost_fault : (command : Command) (first at : ℕ) (kind : Kind) (texts : List (List ℕ))
    (input rest : List ℕ) (old new : View) (held mid : Output) (holds : Option (List ℕ))
    → new.taken ≡ Some at → Keeps mid.written holds → FailsAt kind old new held mid
    → WantsMemory command kind
    → FaultAt command texts input rest old new held.written mid.written first kind
    → FaultAt command texts input rest old new held.written holds (first_failure kind first at)
    Write
lost_fault command first at Read texts input rest old new held mid holds taken keeps fails wants
    fault = inr (
      taken,
      kept_bytes (together texts) held.written mid.written holds fault.1 keeps,
      inr (inl fails.0),
    )
lost_fault command first at Write texts input rest old new held mid holds taken keeps fails wants
    fault =
    kept_fault command first Write texts input rest old new held.written mid.written holds keeps
    fault
lost_fault command first at OutOfMemory texts input rest old new held mid holds taken keeps fails
    wants fault = inr (
      taken,
      kept_bytes (together texts) held.written mid.written holds fault.1 keeps,
      inr (inr (inl wants)),
    )
lost_fault command first at kind texts input rest old new held mid holds taken keeps fails wants
    fault = inr (
      taken,
      kept_bytes (together texts) held.written mid.written holds fault.1 keeps,
      inr (inr (inr ((kind, fault.3), fault.4))),
    )

-- after items of which nothing was lost
finished : (command : Command) (input : List ℕ) (old new : View) (held mid : Output)
    (holds : Option (List ℕ)) (outcome : Outcome) → Keeps mid.written holds
    → RunsOver command input old new held.written mid.written outcome
    → RunsOver command input old new held.written holds outcome
finished command input old new held mid holds (Ok _) keeps runs = record {
  texts = runs.texts;
  rest = runs.rest;
  row = runs.row;
  ok = (
    runs.ok.0,
    kept_bytes (together runs.texts) held.written mid.written holds runs.ok.1 keeps,
  );
  err = tt;
}
finished command input old new held mid holds (Err fault) keeps runs = record {
  texts = runs.texts;
  rest = runs.rest;
  row = runs.row;
  ok = tt;
  err = kept_fault command fault.at fault.kind runs.texts input runs.rest old new held.written
      mid.written holds keeps runs.err;
}

-- where the flush failed
lost : (command : Command) (input : List ℕ) (old new : View) (held mid : Output)
    (holds : Option (List ℕ)) (outcome : Outcome) (at : ℕ) → new.taken ≡ Some at
    → Keeps mid.written holds → MovesFailures outcome old new held mid
    → IfErr outcome (λ fault. WantsMemory command fault.kind)
    → RunsOver command input old new held.written mid.written outcome
    → RunsOver command input old new held.written holds
    (Err (record { at = failed_at outcome at; kind = Write }))
lost command input old new held mid holds (Ok _) at taken keeps moves wants runs = record {
  texts = runs.texts;
  rest = runs.rest;
  row = runs.row;
  ok = tt;
  err = inr (
    taken,
    kept_bytes (together runs.texts) held.written mid.written holds runs.ok.1 keeps,
    inl runs.ok.0,
  );
}
lost command input old new held mid holds (Err fault) at taken keeps moves wants runs = record {
  texts = runs.texts;
  rest = runs.rest;
  row = runs.row;
  ok = tt;
  err = lost_fault command fault.at at fault.kind runs.texts input runs.rest old new held mid holds
      taken keeps moves wants runs.err;
}

pub finished_run : (command : Command) (old new : View) (held mid holds : Output)
    (outcome answer : Outcome) (at : ℕ) (flushed : Bool) (m n : ℕ) → new.taken ≡ Some at
    → Keeps mid.written holds.written → MovesFailures outcome old new held mid
    → IfErr outcome (λ fault. WantsMemory command fault.kind)
    → EndsRun outcome answer at flushed m n
    → IfKnown old.known
    (λ input. RunsOver command input old new held.written mid.written outcome)
    → IfKnown old.known
    (λ input. RunsOver command input old new held.written holds.written answer)
finished_run command old new held mid holds outcome answer at flushed m n taken keeps moves wants
    (inl kept) runs input known =
    subst (λ (r : Outcome). RunsOver command input old new held.written holds.written r)
    (sym kept.0)
    (finished command input old new held mid holds.written outcome keeps (runs input known))
finished_run command old new held mid holds outcome answer at flushed m n taken keeps moves wants
    (inr failed) runs input known =
    subst (λ (r : Outcome). RunsOver command input old new held.written holds.written r)
    (sym failed.0)
    (lost command input old new held mid holds.written outcome at taken keeps moves wants
    (runs input known))

pub finished_ok : (outcome answer : Outcome) (at : ℕ) (flushed : Bool) (m n : ℕ) (P : Type 0)
    → OnOk outcome P → EndsRun outcome answer at flushed m n → OnOk answer P
finished_ok outcome answer at flushed m n P holds (inl kept) =
    subst (λ (r : Outcome). OnOk r P) (sym kept.0) holds
finished_ok outcome answer at flushed m n P holds (inr failed) =
    subst (λ (r : Outcome). OnOk r P) (sym failed.0) tt

pub finished_memory : (command : Command) (outcome answer : Outcome) (at : ℕ) (flushed : Bool)
    (m n : ℕ) → IfErr outcome (λ fault. WantsMemory command fault.kind)
    → EndsRun outcome answer at flushed m n
    → IfErr answer (λ fault. WantsMemory command fault.kind)
finished_memory command outcome answer at flushed m n wants (inl kept) =
    subst (λ (r : Outcome). IfErr r (λ fault. WantsMemory command fault.kind)) (sym kept.0) wants
finished_memory command outcome answer at flushed m n wants (inr failed) =
    subst (λ (r : Outcome). IfErr r (λ fault. WantsMemory command fault.kind)) (sym failed.0) tt

-- ---- whom a fault blames

kept_blames : (kind : Kind) (at : ℕ) (flushed : Bool) (old new : View) (held mid holds : Output)
    → FailsAt kind old new held mid → flushed ≡ true → holds.failures ≡ mid.failures
    → BlamesAt kind at flushed old new held holds
kept_blames Read at flushed old new held mid holds fails set same = (fails.0, same ∙ fails.1)
kept_blames Write at flushed old new held mid holds fails set same =
    inl (fails.0, record { between = mid.failures; failed = fails.1; flush = inl (set, same) })
kept_blames _ at flushed old new held mid holds fails set same = (fails.0, same ∙ fails.1)

lost_blames : (kind : Kind) (first at : ℕ) (flushed : Bool) (old new : View)
    (held mid holds : Output) → new.taken ≡ Some at → FailsAt kind old new held mid
    → holds.failures ≡ one_more mid.failures
    → BlamesAt Write (first_failure kind first at) flushed old new held holds
lost_blames Read first at flushed old new held mid holds taken fails more =
    inr (taken, more ∙ ap one_more fails.1, inr fails.0)
lost_blames Write first at flushed old new held mid holds taken fails more =
    inl (fails.0, record { between = mid.failures; failed = fails.1; flush = inr more })
lost_blames _ first at flushed old new held mid holds taken fails more =
    inr (taken, more ∙ ap one_more fails.1, inl fails.0)

run_blames : (outcome : Outcome) (flushed : Bool) (old new : View) (held mid holds : Output)
    → MovesFailures outcome old new held mid → flushed ≡ true → holds.failures ≡ mid.failures
    → RunBlames outcome flushed old new held holds
run_blames (Ok _) flushed old new held mid holds moves set same = (moves.0, same ∙ moves.1)
run_blames (Err fault) flushed old new held mid holds moves set same =
    kept_blames fault.kind fault.at flushed old new held mid holds moves set same

flush_blames : (outcome : Outcome) (at : ℕ) (flushed : Bool) (old new : View)
    (held mid holds : Output) → new.taken ≡ Some at → MovesFailures outcome old new held mid
    → holds.failures ≡ one_more mid.failures
    → BlamesAt Write (failed_at outcome at) flushed old new held holds
flush_blames (Ok _) at flushed old new held mid holds taken moves more =
    inr (taken, more ∙ ap one_more moves.1, inl moves.0)
flush_blames (Err fault) at flushed old new held mid holds taken moves more =
    lost_blames fault.kind fault.at at flushed old new held mid holds taken moves more

pub finished_blames : (outcome answer : Outcome) (at : ℕ) (flushed : Bool) (old new : View)
    (held mid holds : Output) → new.taken ≡ Some at → MovesFailures outcome old new held mid
    → EndsRun outcome answer at flushed mid.failures holds.failures
    → RunBlames answer flushed old new held holds
finished_blames outcome answer at flushed old new held mid holds taken moves (inl kept) =
    subst (λ (r : Outcome). RunBlames r flushed old new held holds) (sym kept.0)
    (run_blames outcome flushed old new held mid holds moves kept.1 kept.2)
finished_blames outcome answer at flushed old new held mid holds taken moves (inr failed) =
    subst (λ (r : Outcome). RunBlames r flushed old new held holds) (sym failed.0)
    (flush_blames outcome at flushed old new held mid holds taken moves failed.1)

handed : (outcome : Outcome) (flushed : Bool) → flushed ≡ true → Hands outcome flushed
handed (Ok _) flushed set = set
handed (Err fault) flushed set = λ _. set

pub finished_hands : (outcome answer : Outcome) (at : ℕ) (flushed : Bool) (m n : ℕ)
    → EndsRun outcome answer at flushed m n → Hands answer flushed
finished_hands outcome answer at flushed m n (inl kept) =
    subst (λ (r : Outcome). Hands r flushed) (sym kept.0) (handed outcome flushed kept.1)
finished_hands outcome answer at flushed m n (inr failed) =
    subst (λ (r : Outcome). Hands r flushed) (sym failed.0) (λ other. absurd (other refl))
