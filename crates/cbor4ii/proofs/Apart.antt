-- What is rejected under one step, or where a value may be absent, is not read.
use Rattle.std.proofs.Common.{Bool, rules}
use Rattle.std.specs.Prelude.{IsTrue, codes}
use Rattle.cbor4ii_items.specs.Containers.{ReadsOption, RejectsOption}
use Rattle.cbor4ii_items.specs.Decoding.{Reads, RejectsAt}
use Rattle.cbor4ii_items.specs.NeverBoth.{NeverBoth}
use Rattle.cbor4ii_items.specs.Laws.ContainersApart.{option_apart}
use Rattle.cbor4ii.specs.Optional.{ReadsPresence, RejectsPresence}
use Rattle.cbor4ii.specs.Elements.{ReadsNone}
use Rattle.cbor4ii_items.specs.Nothing.{RejectsNothing}
use Rattle.cbor4ii.specs.Stepped.{Stepped, RejectsStepped}
use Rattle.cbor4ii.specs.Typed.{rejects_if_known}
use Rattle.cbor4ii.specs.Laws.TypedOnce.{steps_apart}

absent_apart : {V : Type 0} (reads : Reads V) (rejects : RejectsAt) → NeverBoth reads rejects
    → NeverBoth (ReadsOption (Stepped reads))
    (RejectsOption (RejectsStepped (codes "option") rejects))
absent_apart reads rejects apart = search (rules, option_apart, steps_apart)

said_apart : {V : Type 0} (known : Bool) (reads : Reads V) (rejects : RejectsAt) → IsTrue known
    → NeverBoth reads rejects → NeverBoth reads (rejects_if_known known rejects)
said_apart known reads rejects is apart xs budget err rest s =
    apart xs budget err rest (s is)

pub present_apart : {V : Type 0} (known : Bool) (reads : Reads V) (rejects : RejectsAt)
    → IsTrue known → NeverBoth reads rejects
    → NeverBoth (ReadsOption (Stepped reads)) (RejectsOption
    (RejectsStepped (codes "option") (rejects_if_known known rejects)))
present_apart known reads rejects is apart =
    absent_apart reads (rejects_if_known known rejects) (said_apart known reads rejects is apart)

pub presence_apart : NeverBoth ReadsPresence RejectsPresence
presence_apart =
    absent_apart ReadsNone RejectsNothing (λ xs budget err rest s v n c p fits. s)
