-- What `show` of a reader over a line answers, after it waited and lent what has come.
use Rattle.std.proofs.Common.{◌≡◌, ℕ, ◌≤◌, List, rules}
use Rattle.std.specs.Prelude.{Option, Some, None, Result, Ok, Err, IfOk, length, IsTrue}
use Rattle.std.specs.Prelude.{MatchOption, MatchResult}
use Rattle.std.specs.Borrow.{Bor}
use Rattle.cbor4ii_rw.specs.View.{IfKnown}
use Rattle.cbor4ii_rw.specs.Reader.{IsPrefix, IsEnough, Shows, ReaderFails}
use Rattle.cbor4ii_rw.specs.Line.{line_view, line_ready_bytes}
use Rattle.cbor4ii_rw.specs.declared.line_reader.LineReader.{LineReader}

module _ {L E : Type 0} (want : ℕ) (before : LineReader L) where
  abbrev pub Prefix : Result (Bor (List ℕ)) E → Type 0
  Prefix r = IfOk r (λ shown. IfKnown (line_view before).known (IsPrefix want shown.now))

  abbrev pub Bounded : Result (Bor (List ℕ)) E → Type 0
  Bounded r = IfOk r (λ shown. length shown.now ≤ (line_view before).bound)

  abbrev pub Whole : Result (Bor (List ℕ)) E → Type 0
  Whole r = IsTrue (line_view before).zero_copy
      → IfOk r (λ shown. IfKnown (line_view before).known (IsEnough want shown.now))

  abbrev pub Left : LineReader L → Result (Bor (List ℕ)) E → Type 0
  Left after r = MatchResult r (λ shown. Shows shown.now (line_view before) (line_view after))
      (λ _. ReaderFails (line_view before) (line_view after))

  -- what waiting for bytes leaves
  abbrev pub Waits : LineReader L → Option E → Type 0
  Waits waited failure = MatchOption failure
      (Shows (line_ready_bytes waited.ready) (line_view before) (line_view waited))
      (λ _. ReaderFails (line_view before) (line_view waited))

-- a failure, or else the bytes
abbrev pub HandsOn : {E : Type 0} → Option E → Bor (List ℕ) → Result (Bor (List ℕ)) E → Type 0
HandsOn failure bytes r = MatchOption failure (r ≡ Ok bytes) (λ error. r ≡ Err error)

pub record Answers {L E : Type 0} (want : ℕ) (before after : LineReader L)
    (r : Result (Bor (List ℕ)) E) : Type 0 where
  pub prefix : Prefix want before r
  pub bounded : Bounded want before r
  pub whole : Whole want before r
  pub left : Left want before after r

-- no more bytes are shown than can still come
fit : {L : Type 0} (want : ℕ) (before waited : LineReader L) (bytes : Bor (List ℕ))
    → Shows (line_ready_bytes waited.ready) (line_view before) (line_view waited)
    → bytes.now ≡ line_ready_bytes waited.ready → length bytes.now ≤ (line_view before).bound
fit want before waited bytes shows ready = search rules

pub answered : {L E : Type 0} (want : ℕ) (before waited after : LineReader L) (failure : Option E)
    (bytes : Bor (List ℕ)) (r : Result (Bor (List ℕ)) E) → Waits want before waited failure
    → bytes.now ≡ line_ready_bytes waited.ready → line_view after ≡ line_view waited
    → HandsOn failure bytes r → Answers want before after r
answered want before waited after None bytes r waits ready kept told = search rules
answered want before waited after (Some error) bytes r waits ready kept told = search rules
