-- A string that is rejected has one error: that of the program.
use Rattle.std.proofs.Common.{ℕ, ◌+◌, ◌<◌, inl, List, length, drop, Bool, sym, ap}
use Rattle.std.proofs.Common.{◌∙◌, arith, rules}
use Rattle.cbor4ii_items.specs.Heads.{ReadsHead}
use Rattle.cbor4ii_items.specs.ReadStrings.{string_at}
use Rattle.cbor4ii_items.specs.Lent.{RejectsBorrowed, lent_head_rejected, too_few, lent_no_utf8}
use Rattle.cbor4ii_items.specs.Lent.{lent_format}
use Rattle.cbor4ii_items.specs.OneError.{OneError, RejectsOnce}
use Rattle.cbor4ii_items.specs.Strings.{RejectsString, RejectsText, no_string, no_utf8, as_format}
use Rattle.cbor4ii_items.specs.Strings.{text_format, ReadsDefiniteString}
use Rattle.cbor4ii_items.specs.Laws.HeadErrors.{head_error}
use Rattle.cbor4ii_items.specs.Laws.Heads.{head_one}
use Rattle.cbor4ii_items.specs.Laws.LeavesApart.{head_apart}
use Rattle.cbor4ii_items.specs.Laws.NumbersOnce.{once_by}
use Rattle.cbor4ii_items.specs.Laws.Outcome.{same_input_error}
use Rattle.cbor4ii_items.specs.Laws.Strings.{definite_within, string_one, three_small}
use Rattle.cbor4ii_items.specs.Laws.StringsApart.{string_errs, string_apart, text_apart, lent_apart}

-- ---- strings

pub string_error : (name : List ℕ) (major : ℕ) → major < 7 → OneError (RejectsString name major)
string_error name major m xs budget e f x y s t =
    same_input_error (string_at name major budget xs) (string_errs name major m xs budget e x s)
    (string_errs name major m xs budget f y t)

-- ---- texts

pub text_error : (name : List ℕ) → OneError (RejectsText name)
text_error name xs budget e f x y (no_string s) (no_string t) =
    string_error name 3 (omega arith) xs budget e f x y s t
text_error name xs budget e f x y (no_string s) (no_utf8 w k d q suits o i j) =
    absurd (string_apart name 3 (omega arith) xs budget e x s w k d q suits)
text_error name xs budget e f x y (no_utf8 v n c p fits o g h) (no_string t) =
    absurd (string_apart name 3 (omega arith) xs budget f y t v n c p fits)
text_error name xs budget e f x y (no_utf8 v n c p fits o g h) (no_utf8 w k d q suits r i j) =
    let same = string_one 3 xs v w n k c d three_small p q in
    (g ∙ sym i, h ∙ (ap (λ m. drop m xs) same.0 ∙ sym j))

-- ---- borrowed strings

module _ (name : List ℕ) (major : ℕ) (small : major < 8) (is_text : Bool) where
  -- a content that stands whole is not too short
  few_whole : {A : Type 0} (xs content : List ℕ) (count before n : ℕ)
      → ReadsHead major 8 xs count before → length xs < before + count
      → ReadsDefiniteString major xs content n → A
  few_whole xs content count before n h short p =
      let same = head_one major 8 xs count (length content) before p.before small h p.head in
      absurd (omega (
        arith,
        short,
        same.0,
        same.1,
        p.size,
        (definite_within major xs content n small p).0,
      ))

  pub lent_error : OneError (RejectsBorrowed name major is_text)
  lent_error xs budget e f x y (lent_head_rejected s) (lent_head_rejected t) =
      head_error name major 8 xs e f x y s t
  lent_error xs budget e f x y (lent_head_rejected s) (too_few k before h short i j) =
      absurd (head_apart name major 8 xs e x k before s h)
  lent_error xs budget e f x y (lent_head_rejected s) (lent_no_utf8 w k t q o i j) =
      absurd (head_apart name major 8 xs e x (length w) q.before s q.head)
  lent_error xs budget e f x y (too_few k before h short i j) (lent_head_rejected t) =
      absurd (head_apart name major 8 xs f y k before t h)
  lent_error xs budget e f x y (too_few n start g few a b) (too_few k before h short i j) =
      search (rules, head_one)
  lent_error xs budget e f x y (too_few k before h short i j) (lent_no_utf8 w n t q o c d) =
      few_whole xs w k before n h short q
  lent_error xs budget e f x y (lent_no_utf8 w k t q o i j) (lent_head_rejected s) =
      absurd (head_apart name major 8 xs f y (length w) q.before s q.head)
  lent_error xs budget e f x y (lent_no_utf8 w n t q o c d) (too_few k before h short i j) =
      few_whole xs w k before n h short q
  lent_error xs budget e f x y (lent_no_utf8 v n s p r a b) (lent_no_utf8 w k t q o i j) =
      search (rules, string_one, inl)

-- ---- values that have a content

pub as_once : {V : Type 0} (name : List ℕ) (major : ℕ) → major < 7 → (content : V → List ℕ)
    → RejectsOnce (as_format name major content)
as_once name major small content = search (rules, once_by, string_apart, string_error)

pub text_once : {V : Type 0} (name : List ℕ) (content : V → List ℕ)
    → RejectsOnce (text_format name content)
text_once name content = search (rules, once_by, text_apart, text_error)

pub lent_once : {V : Type 0} (name : List ℕ) (major : ℕ) → major < 8 → (is_text : Bool)
    → (content : V → List ℕ) → RejectsOnce (lent_format name major is_text content)
lent_once name major small is_text content = search (rules, lent_apart, lent_error)
