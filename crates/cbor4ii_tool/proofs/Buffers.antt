-- The program's streams after their buffers.
use Rattle.std.proofs.Common.{◌≡◌, ℕ, List, [], length, Option, None, Some, Err, true, false, refl}
use Rattle.std.proofs.Common.{sym, ap, ◌∙◌, subst, append-nil}
use Rattle.std.specs.Prelude.{◌==◌, if◌then◌else◌}
use Rattle.std.specs.Io.KnownBytes.{prepend_known, append_known}
use Rattle.cbor4ii_rw.specs.View.{View, IfKnown}
use Rattle.cbor4ii_rw.specs.Stream.{most_bytes, cut_known}
use Rattle.cbor4ii_tool.specs.Run.{RunsOver}
use Rattle.cbor4ii_tool.specs.Program.{MayEnd}
use Rattle.cbor4ii_tool.specs.Fault.{Outcome}
use Rattle.cbor4ii_tool.specs.declared.command.Command.{Command}
use Rattle.cbor4ii_tool.specs.declared.fault.Kind.TheVariants.{OutOfMemory}

nothing_ahead : (known : Option (List ℕ)) → prepend_known [] known ≡ known
nothing_ahead None = refl
nothing_ahead (Some xs) = refl

nothing_after : (known : Option (List ℕ)) → append_known known [] ≡ known
nothing_after None = refl
nothing_after (Some xs) = ap Some (append-nil xs)

-- a new buffer takes nothing from the stream that it reads
pub read_through : (capacity : ℕ) (ahead : List ℕ) (known : Option (List ℕ)) → capacity ≡ 8192
    → ahead ≡ [] → (if capacity == 0 then None else prepend_known ahead known) ≡ known
read_through capacity ahead known room empty =
    subst (λ (n : ℕ). (if n == 0 then None else prepend_known ahead known) ≡ known) (sym room)
    (subst (λ (xs : List ℕ). prepend_known xs known ≡ known) (sym empty) (nothing_ahead known))

-- a new buffer adds nothing to the stream that it writes
pub written_through : (trailing : List ℕ) (known : Option (List ℕ)) → trailing ≡ []
    → append_known known trailing ≡ known
written_through trailing known empty =
    subst (λ (xs : List ℕ). append_known known xs ≡ known) (sym empty) (nothing_after known)

-- where the input is known, a run of the command over it may have this outcome
abbrev pub RunsSomehow : Command → Option (List ℕ) → Option (List ℕ) → Outcome → Type 0
RunsSomehow command left held outcome = IfKnown left (λ bytes. MayEnd command bytes held outcome)

-- a run over the buffers is one over the streams
pub through_buffers : (command : Command) (old new : View)
    (left known written held holds : Option (List ℕ)) (outcome : Outcome)
    → old.known ≡ cut_known most_bytes left → old.taken ≡ Some 0 → old.budget ≡ Some 256
    → left ≡ known → written ≡ held
    → IfKnown old.known (λ input. RunsOver command input old new written holds outcome)
    → RunsSomehow command (cut_known most_bytes known) held outcome
through_buffers command old new left known written held holds outcome is none steps read same runs =
    λ xs cut. let known = is ∙ (ap (cut_known most_bytes) read ∙ cut) in (
      old,
      record { known = known; taken = none; budget = steps },
      new,
      holds,
      subst (λ (before : Option (List ℕ)). RunsOver command xs old new before holds outcome) same
          (runs xs known),
    )

-- a reader over these bytes
abbrev fresh : List ℕ → View
fresh bytes = record {
  known = Some bytes;
  bound = length bytes;
  advanceable = 0;
  budget = Some 256;
  failures = 0;
  taken = Some 0;
  zero_copy = false;
  remembers = true;
  ends_at = None;
}

-- without a buffer the run ends before the first item
pub no_buffer : (command : Command) (left held : Option (List ℕ))
    → RunsSomehow command left held (Err (record { at = 0; kind = OutOfMemory }))
no_buffer command left held = λ input is. (
  fresh input,
  record { known = refl; taken = refl; budget = refl },
  fresh input,
  held,
  record {
    texts = [];
    rest = input;
    row = refl;
    ok = tt;
    err = (refl, λ xs known. known ∙ ap Some (sym (append-nil xs)));
  },
)
