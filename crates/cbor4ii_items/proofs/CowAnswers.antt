-- A content that is lent, or copied, as what the owned strings read.
use Rattle.std.proofs.Common.{◌≡◌, ℕ, ◌<◌, List, [], length, Option, None, Some, Result, Ok}
use Rattle.std.proofs.Common.{Err, Bool, true, false, IsTrue, refl, sym, subst}
use Rattle.std.proofs.Common.{IfSome, IfOk, ◌+◌, ◌≤◌, rules}
use denote.Ref.{Bor}
use Rattle.cbor4ii_rw.specs.View.{View, IfKnown}
use Rattle.cbor4ii_rw.specs.declared.error.DecodeError.{DecodeError}
use Rattle.cbor4ii_rw.specs.declared.error.DecodeError.TheVariants.{RequireUtf8}
use Rattle.cbor4ii_items.specs.Decoding.{Decodes}
use Rattle.cbor4ii_items.specs.Reading.{Reading, Runs}
use Rattle.cbor4ii_items.specs.ReadHead.{length_at}
use Rattle.cbor4ii_items.specs.ReadStrings.{content_on, string_at}
use Rattle.cbor4ii_items.specs.Laws.DefiniteContent.{content_whole}
use Rattle.cbor4ii_items.specs.Laws.Outcome.{same_value}
use Rattle.cbor4ii_items.specs.Laws.ProgramEnds.{length_none}
use Rattle.cbor4ii_items.specs.Laws.Strings.{length_indefinite}
use Rattle.cbor4ii_items.specs.Strings.{string_format}
use Rattle.cbor4ii_items.specs.Lent.{Lends, Stays}
use Rattle.cbor4ii_items.specs.Cow.{either_format, TakesContent, BorrowsWhereDefinite}
use Rattle.cbor4ii_items.specs.Cow.{IsBorrowedWhereWhole}
use Rattle.cbor4ii_items.proofs.IndefiniteStrings.{string_known}
use Rattle.cbor4ii_items.proofs.WholeHeads.{runs_stayed}
use Rattle.cbor4ii_items.specs.Laws.Calls.{by_ok, by_err}
use Rattle.cbor4ii_items.proofs.StringAnswers.{content_ok, content_err, text_ok, text_err, utf8_err}

-- ---- a content of definite length

-- what is lent is what the program reads
pub lends_runs : {E : Type 0} (name : List ℕ) {count : ℕ} {content : List ℕ} {a b : View}
    → Lends count content a b → Runs {E = E} (content_on name count []) a b (Ok content)
lends_runs name {count = count} l = search (rules, content_whole)

pub takes_still : {V E : Type 0} {program : Reading (List ℕ)} (is_text : Bool)
    (content : V → List ℕ) {a m b : View} (r : Result (Option V) (DecodeError E)) → Stays a m
    → TakesContent program is_text content m b r → TakesContent program is_text content a b r
takes_still is_text content (Ok value) s t = record { by = (t.by.0, runs_stayed s t.by.1, t.by.2) }
takes_still is_text content (Err e) s t = record { by = runs_stayed s t.by }

-- where the bytes are fewer, there is no value
pub few_borrows : {V E : Type 0} (name : List ℕ) (count : ℕ) (is_text : Bool) (content : V → List ℕ)
    (IsBorrowed : V → Type 0) {a m b : View} (r : Result (Option V) (DecodeError E)) → Stays a m
    → (IsTrue a.zero_copy → IfKnown a.known (λ xs. length xs < count))
    → TakesContent (content_on name count []) is_text content m b r
    → IfOk r (λ value. IfSome value (IsBorrowedWhereWhole IsBorrowed a))
few_borrows name count is_text content IsBorrowed (Ok (Some v)) s few t = search rules
few_borrows name count is_text content IsBorrowed _ s few t = tt

-- ---- a string

module _ {V E : Type 0} (name : List ℕ) (major : ℕ) (is_text : Bool) (content : V → List ℕ)
    {a b : View} where
  -- after a head that says the length
  pub either_known : {l : Option ℕ} {count : ℕ} {m : View} (r : Result (Option V) (DecodeError E))
      → Runs {E = E} (length_at name major) a m (Ok l) → l ≡ Some count
      → TakesContent (content_on name count []) is_text content m b r
      → TakesContent (string_at name major a.budget) is_text content a b r
  either_known (Ok value) run is t =
      record { by = (t.by.0, string_known name major run is t.by.1, t.by.2) }
  either_known (Err e) run is t = record { by = string_known name major run is t.by }

module _ {V E : Type 0} (name : List ℕ) (content : V → List ℕ) {a b : View} where
  pub either_ok : (is_text : Bool) (major : ℕ) {v : V} → (IsTrue is_text → major ≡ 3)
      → b.bound + 1 ≤ a.bound
      → TakesContent {E = E} (string_at name major a.budget) is_text content a b (Ok (Some v))
      → Decodes {E = E} (either_format is_text name major content) a b (Ok v)
  either_ok true major text progress t =
      text_ok name content (sym t.by.2.0) (t.by.2.1 refl)
      (subst (λ (j : ℕ). Decodes {E = E} (string_format name j) a b (Ok t.by.0)) (text refl)
      (content_ok name major progress t.by.1))
  either_ok false major text progress t =
      by_ok content (string_format name major) t.by.2.0 (content_ok name major progress t.by.1)

  -- of a text the major type is 3
  pub either_err : (is_text : Bool) (major : ℕ) {e : DecodeError E} → (IsTrue is_text → major ≡ 3)
      → major < 8 → Runs {V = List ℕ} (string_at name major a.budget) a b (Err e)
      → Decodes (either_format is_text name major content) a b (Err e)
  either_err true major {e = e} text small f =
      text_err name content
      (subst (λ (j : ℕ). Decodes (string_format name j) a b (Err e)) (text refl)
      (content_err name major small f))
  either_err false major text small f =
      by_err content (string_format name major) (content_err name major small f)

  -- a content that is to be UTF-8 and is not
  pub other_err : (is_text : Bool) (major : ℕ) {found : Bor (List ℕ)} → found.now ≡ name
      → (IsTrue is_text → major ≡ 3) → b.bound + 1 ≤ a.bound
      → TakesContent {E = E} (string_at name major a.budget) is_text content a b (Ok None)
      → Decodes {E = E} (either_format is_text name major content) a b (Err (RequireUtf8 found))
  other_err true major named text progress t =
      utf8_err name content named t.by.2.1
      (subst (λ (j : ℕ). Decodes {E = E} (string_format name j) a b (Ok t.by.0)) (text refl)
      (content_ok name major progress t.by.1))
  other_err false major named text progress t = let f = t.by.2.0 in cc

-- ---- which strings are borrowed

module _ {V E : Type 0} (name : List ℕ) (major : ℕ) (IsBorrowed IsOwned : V → Type 0) {a m : View}
    {l : Option ℕ} (run : Runs {E = E} (length_at name major) a m (Ok l)) where
  definite_borrows : {count : ℕ} (v : V) → l ≡ Some count → IsBorrowedWhereWhole IsBorrowed m v
      → BorrowsWhereDefinite major IsBorrowed IsOwned a v
  definite_borrows v is h = search (rules, length_indefinite, same_value)

  pub known_borrows : {count : ℕ} (r : Result (Option V) (DecodeError E)) → l ≡ Some count
      → IfOk r (λ value. IfSome value (IsBorrowedWhereWhole IsBorrowed m))
      → IfOk r (λ value. IfSome value (BorrowsWhereDefinite major IsBorrowed IsOwned a))
  known_borrows (Ok (Some v)) is h = definite_borrows v is h
  known_borrows _ is h = tt

  pub joined_owns : (value : Option V) → l ≡ None → IfSome value IsOwned
      → IfSome value (BorrowsWhereDefinite major IsBorrowed IsOwned a)
  joined_owns (Some v) is h = search (rules, length_none)
  joined_owns None is h = tt
