-- What a reader that lends nothing says of a prefix that it shows.
use Rattle.std.proofs.Common.{◌≡◌, ℕ, ◌<◌, ◌≤◌, List, [], length, Option, Some, IsTrue, Bool, true}
use Rattle.std.proofs.Common.{false, sym, ap, ◌∙◌, subst, arith, rules}
use Rattle.std.specs.Prelude.{MatchOption}
use Rattle.std.specs.Borrow.{Bor}
use Rattle.std.proofs.lemmas.List.{nil_from_length}
use Rattle.cbor4ii_rw.specs.View.{View, IfKnown}
use Rattle.cbor4ii_rw.specs.Long.{FillsLong, BorrowsNone}
use Rattle.cbor4ii_rw.specs.Reader.{Shows, ReaderFails, IsPrefix}

not_whole : (zero_copy : Bool) → zero_copy ≡ false → IsTrue zero_copy → ⊥
not_whole zero_copy unlent whole = let never : false ≡ true = sym unlent ∙ whole in cc

module _ {want : ℕ} {a b : View} (answer : Option (Bor (List ℕ))) (shown : Bor (List ℕ))
    (is : answer ≡ Some shown) (moved : MatchOption answer (ReaderFails a b) (λ s. Shows s.now a b))
    (prefix : IfKnown a.known (IsPrefix want shown.now)) where
  shows : Shows shown.now a b
  shows = subst (λ o. MatchOption o (ReaderFails a b) (λ s. Shows s.now a b)) is moved

  -- nothing is shown
  pub end_of_input : length shown.now < 1 → a.zero_copy ≡ false → FillsLong want [] a b
  end_of_input none unlent =
      let empty = nil_from_length shown.now (omega (arith, none)) in
      record {
        shows = subst (λ z. Shows z a b) empty shows;
        prefix = subst (λ z. IfKnown a.known (IsPrefix want z)) empty prefix;
        enough = λ whole. absurd (not_whole a.zero_copy unlent whole);
      }

  -- some bytes are shown
  pub lends_none : 1 ≤ length shown.now → a.zero_copy ≡ false → BorrowsNone a b
  lends_none some unlent = record {
    some = λ xs known none. omega (arith, some, (prefix xs known).within, ap length none);
    stays = search rules;
    short = not_whole a.zero_copy unlent;
  }
