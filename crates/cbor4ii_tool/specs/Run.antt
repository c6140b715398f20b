-- What a run makes of its input.
use Rattle.std.specs.Prelude.{◌≡◌, ◌≢◌, ℕ, ◌+◌, ◌⊎◌, List, [], length, Bool, true, Option, Some}
use Rattle.std.specs.Prelude.{Ok, Err, OnOk, IfErr, IfSome, MatchResult}
use Rattle.cbor4ii_rw.specs.View.{View}
use Rattle.cbor4ii_rw.specs.Reader.{Failed}
use Rattle.cbor4ii_rw.specs.Writer.{Output, Appends, one_more}
use Rattle.cbor4ii_items.specs.Moves.{Counted}
use Rattle.cbor4ii_tool.specs.Item.{IsRow, BeginsItem, ItemIsTaken, RejectsAs, TakesMemory}
use Rattle.cbor4ii_tool.specs.Item.{together}
use Rattle.cbor4ii_tool.specs.Fault.{Outcome}
use Rattle.cbor4ii_tool.specs.declared.command.Command.{Command}
use Rattle.cbor4ii_tool.specs.declared.fault.Kind.{Kind}
use Rattle.cbor4ii_tool.specs.declared.fault.Kind.TheVariants.{Read, OutOfMemory, Write}

-- They are those that were taken before the input, where they are counted, and those of the input
-- before the rest.
-- The rest of the input follows so many bytes in all.
abbrev pub RestStandsAt : Option ℕ → List ℕ → List ℕ → ℕ → Type 0
RestStandsAt taken input rest at = IfSome taken (λ before. at + length rest ≡ before + length input)

-- The reason: nothing is left, the reader failed, memory may have been lacking, or the rest is
-- rejected and begins no item.
-- No item is taken where the rest begins.
abbrev pub NoItemFollows : Command → List ℕ → View → View → Type 0
NoItemFollows command rest old new =
    (rest ≡ []) ⊎ Failed old.failures new.failures ⊎ TakesMemory command
    ⊎ (((kind : Kind) × RejectsAs command old.budget kind rest)
    × ¬ (BeginsItem command old.budget rest))

-- `held` and `holds` are what the writer held before and after. But for `Write`, the fault stands
-- at the rest, and the texts are written. `Read` and `OutOfMemory` say nothing of the rest, and the
-- other kinds are those by which it is rejected. `Write` stands at the rest where the item there
-- was taken and could not be written; of `holds` nothing is said then. Where the flush failed, it
-- follows all that was taken, the texts are written, and no item follows.
-- What a fault says where these texts were to be written and the rest follows their items.
abbrev pub FaultAt : Command → List (List ℕ) → List ℕ → List ℕ → View → View
    → Option (List ℕ) → Option (List ℕ) → ℕ → Kind → Type 0
FaultAt command texts input rest old new held holds at Write =
    (RestStandsAt old.taken input rest at × ItemIsTaken command old.budget rest new.known)
    ⊎ ((new.taken ≡ Some at) × Appends (together texts) held holds
    × NoItemFollows command rest old new)
FaultAt command texts input rest old new held holds at Read =
    RestStandsAt old.taken input rest at × Appends (together texts) held holds
FaultAt command texts input rest old new held holds at OutOfMemory =
    RestStandsAt old.taken input rest at × Appends (together texts) held holds
FaultAt command texts input rest old new held holds at kind =
    RestStandsAt old.taken input rest at × Appends (together texts) held holds × (rest ≢ [])
    × RejectsAs command old.budget kind rest × ¬ (BeginsItem command old.budget rest)

-- Without a fault nothing is left, and the texts of the items are written.
-- The input of the run is a row of items, each under the reader's budget, and a rest.
pub record RunsOver (command : Command) (input : List ℕ) (old new : View)
    (held holds : Option (List ℕ)) (outcome : Outcome) : Type 0 where
  pub texts : List (List ℕ)
  pub rest : List ℕ
  pub row : IsRow command old.budget texts input rest
  pub ok : OnOk outcome ((rest ≡ []) × Appends (together texts) held holds)
  pub err : IfErr outcome
      (λ fault. FaultAt command texts input rest old new held holds fault.at fault.kind)

-- a kind that says nothing of the bytes
abbrev pub IsExcused : Kind → Type 0
IsExcused Read = Unit {0}
IsExcused Write = Unit {0}
IsExcused OutOfMemory = Unit {0}
IsExcused _ = ⊥

-- where the whole input is a row of items, these texts are written, and no fault of it comes
abbrev pub ConvertsWhole : Command → Option ℕ → List ℕ → Option (List ℕ) → Option (List ℕ)
    → Outcome → Type 0
ConvertsWhole command budget input held holds outcome =
    (texts : List (List ℕ)) → IsRow command budget texts input []
    → MatchResult outcome (λ _. Appends (together texts) held holds)
    (λ fault. IsExcused fault.kind)

-- memory is wanted by values alone
abbrev pub WantsMemory : Command → Kind → Type 0
WantsMemory command OutOfMemory = TakesMemory command
WantsMemory command _ = Unit {0}

-- the reader failed, or its count of bytes rose by as many as are gone
abbrev pub FailedOrCounted : View → View → Type 0
FailedOrCounted old new = Failed old.failures new.failures ⊎ Counted old new

-- a flush succeeds, or is one failure more
abbrev pub FlushCounts : Bool → ℕ → ℕ → Type 0
FlushCounts flushed old new = ((flushed ≡ true) × (new ≡ old)) ⊎ (new ≡ one_more old)

-- the writer failed at an item, and then the flush succeeded, or failed once more
pub record FailsAtItem (flushed : Bool) (held holds : ℕ) : Type 0 where
  pub between : ℕ
  pub failed : Failed held between
  pub flush : FlushCounts flushed between holds

-- At `Read` the reader failed, and the writer did not. At `Write` the writer failed at an item, and
-- the reader did not. Or the flush alone failed, after all that was taken, whether or not the
-- reader had failed. At every other kind nobody failed.
-- Whom a fault of this kind blames.
abbrev pub BlamesAt : Kind → ℕ → Bool → View → View → Output → Output → Type 0
BlamesAt Read at flushed old new held holds =
    Failed old.failures new.failures × (holds.failures ≡ held.failures)
BlamesAt Write at flushed old new held holds =
    ((new.failures ≡ old.failures) × FailsAtItem flushed held.failures holds.failures)
    ⊎ ((new.taken ≡ Some at) × (holds.failures ≡ one_more held.failures)
    × ((new.failures ≡ old.failures) ⊎ Failed old.failures new.failures))
BlamesAt _ at flushed old new held holds =
    (new.failures ≡ old.failures) × (holds.failures ≡ held.failures)

-- whom an outcome blames; without a fault nobody failed
abbrev pub RunBlames : Outcome → Bool → View → View → Output → Output → Type 0
RunBlames (Ok _) flushed old new held holds =
    (new.failures ≡ old.failures) × (holds.failures ≡ held.failures)
RunBlames (Err fault) flushed old new held holds =
    BlamesAt fault.kind fault.at flushed old new held holds

-- what was written was handed to the stream, unless the writer failed
abbrev pub Hands : Outcome → Bool → Type 0
Hands (Ok _) flushed = flushed ≡ true
Hands (Err fault) flushed = fault.kind ≢ Write → flushed ≡ true
