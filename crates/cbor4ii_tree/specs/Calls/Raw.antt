-- Items that are kept as their bytes.
use Rattle.std.specs.Prelude.{◌≡◌, ◌≢◌, ℕ, ◌+◌, ◌-◌, ◌^◌, ◌≤◌, ◌⊎◌, true, false, codes, List, []}
use Rattle.std.specs.Prelude.{length, take, drop, Some, None, Result, Ok, Err, IsTrue, IfSome}
use Rattle.std.specs.Prelude.{MatchBool}
use Rattle.cbor4ii_rw.specs.{View.{View, IfKnown, place_of}, Reader.{IsPrefix, ReaderFails, Keeps}}
use Rattle.cbor4ii_rw.specs.{Reader.KeepsOrForgets, Long.{FillsLong, BorrowsNone}}
use Rattle.cbor4ii_rw.specs.declared.error.DecodeError.{DecodeError}
use Rattle.cbor4ii_items.specs.{Head.IsBytes, Decoding.Format, Lent.Lends}
use Rattle.cbor4ii_items.specs.InputError.{input_error_of, is_read, is_out_of_memory}
use Rattle.cbor4ii_items.specs.InputError.{is_depth_overflow}
use Rattle.cbor4ii_tree.specs.{declared.raw.RawValue.RawValue, declared.lend_raw.NoPrefix.NoPrefix}
use Rattle.cbor4ii_tree.specs.declared.lend_raw.NoPrefix.TheVariants.{Read, Short}
use Rattle.cbor4ii_tree.specs.{Basis.Tree.{Tree, bytes}, Basis.Cost.Budget}
use Rattle.cbor4ii_tree.specs.Basis.InputError.{InputError, require_borrowed}
use Rattle.cbor4ii_tree.specs.{Basis.Encodings.Skips, Calls.SkippingRejects.SkippingRejects}
use Rattle.cbor4ii_tree.specs.{Calls.Ignored.ReadsTree, Basis.Headline.{Answered, Rejected}}

-- the name of a kept item in errors
abbrev pub raw_value : List ℕ
raw_value = codes "raw-value"

-- the count of bytes that a fill asks for
abbrev pub most : ℕ
most = 2 ^ 64 - 1

-- ---- what is read

-- the bytes of a kept item, which the input lends
abbrev pub raw_content : RawValue → List ℕ
raw_content v = v.0.now

-- where a kept item stands
abbrev pub raw_place : RawValue → ℕ × ℕ
raw_place v = place_of v.0

-- the first n bytes are those of a loose tree, and the value's content
abbrev pub ReadsRaw : {V : Type 0} → (V → List ℕ) → List ℕ → V → ℕ → ℕ → Type 0
ReadsRaw content xs v n c = ReadsTree xs n c × (content v ≡ take n xs)

-- an item is rejected with the error of skipping, and nothing moves
abbrev pub RejectsRaw : List ℕ → Budget → InputError → List ℕ → Type 0
RejectsRaw xs budget e rest = (rest ≡ xs) × ((left : List ℕ) × SkippingRejects xs budget e left)

-- skipping fails in a prefix of the bytes
abbrev pub RejectsInPrefix : List ℕ → Budget → InputError → Type 0
RejectsInPrefix xs budget e = (shown : List ℕ) × IsPrefix most shown xs ×
    ((left : List ℕ) × SkippingRejects shown budget e left)

-- Some bytes are left that are not lent as long as the input lives, or skipping fails in a prefix.
-- Over any reader an item is rejected, and nothing moves.
abbrev pub BeginsRaw : List ℕ → Budget → InputError → List ℕ → Type 0
BeginsRaw xs budget e rest = (rest ≡ xs) ×
    (((e ≡ require_borrowed raw_value) × (xs ≢ [])) ⊎ RejectsInPrefix xs budget e)

abbrev pub raw_format : {V : Type 0} → (V → List ℕ) → Format V
raw_format content = record {
  reads = ReadsRaw content;
  same = λ v w. content v ≡ content w;
  rejects = RejectsRaw;
  begins = BeginsRaw;
  never_empty = true;
  owned = false;
  takes_memory = false;
  closed = true;
}

-- ---- what an answer says

-- where skipping takes an item, it is taken, and its bytes are the content
abbrev pub TakesItem : {V E : Type 0} → (V → List ℕ) → View → View →
    Result V (DecodeError E) → Type 0
TakesItem content old new answer = IfKnown old.known (λ xs. (t : Tree) (rest : List ℕ) →
    Skips xs old.budget t rest →
    Answered (λ v. (content v ≡ bytes t) × (new.known ≡ Some rest)) (λ _. ⊥) answer)

-- where skipping fails, its error is the answer, and nothing is taken
abbrev pub RejectsAsSkipping : {V E : Type 0} → View → View → Result V (DecodeError E) → Type 0
RejectsAsSkipping old new answer = IfKnown old.known (λ xs. (e : InputError) (left : List ℕ) →
    SkippingRejects xs old.budget e left →
    Answered (λ _. ⊥) (λ f. (f ≡ e) × (new.known ≡ Some xs)) answer)

-- It may report its bytes no more, but a reader that remembers still reports them.
-- The reader failed, and its bytes are as they were.
abbrev pub LeftAsTheyWere : View → View → Type 0
LeftAsTheyWere old new =
    KeepsOrForgets old.known new.known × (IsTrue old.remembers → Keeps old.known new.known)

-- nothing is taken
abbrev pub Unmoved : {E : Type 0} → View → View → DecodeError E → Type 0
Unmoved old new e =
    MatchBool (is_read e) (LeftAsTheyWere old new) (Keeps old.known new.known) ×
    (new.taken ≡ old.taken)

-- the bytes are not lent as long as the input lives; or skipping fails in a prefix that was lent
abbrev pub RejectedPrefix : View → List ℕ → InputError → Type 0
RejectedPrefix old xs e =
    ((e ≡ require_borrowed raw_value) × (xs ≢ []) × (IsTrue old.zero_copy → ⊥)) ⊎
    RejectsInPrefix xs old.budget e

-- an error says that nothing is lent, or is one of skipping in a prefix of the bytes
abbrev pub RejectsOnPrefix : {V E : Type 0} → View → Result V (DecodeError E) → Type 0
RejectsOnPrefix old answer = IfKnown old.known (λ xs. Rejected (RejectedPrefix old xs) answer)

-- ---- a prefix that is lent

abbrev pub LacksPrefix : {E : Type 0} → View → View → NoPrefix E → Type 0
LacksPrefix old new (Read e) = ReaderFails old new
LacksPrefix old new Short = BorrowsNone old new

-- ---- an item skipped in the bytes shown

-- the first n bytes of those shown are an item
pub record SkipsPrefix (shown : List ℕ) (budget : Budget) (n : ℕ) : Type 0 where
  pub within : n ≤ length shown
  pub bytes : IsBytes (take n shown)
  pub skipped : Tree
  pub skips : Skips shown budget skipped (drop n shown)

-- skipping fails in the bytes shown
pub record RejectsPrefix {E : Type 0} (shown : List ℕ) (budget : Budget)
    (e : DecodeError E) : Type 0 where
  pub read : is_read e ≡ false
  pub memory : is_out_of_memory e ≡ false
  pub depth : budget ≡ None → is_depth_overflow e ≡ false
  pub rejects : IfSome (input_error_of e) (λ z.
      (left : List ℕ) × SkippingRejects shown budget z left)

-- ---- an item captured

-- the item at the beginning was taken, and is the value's content
pub record Captured {V : Type 0} (content : V → List ℕ) (old new : View) (v : V) : Type 0 where
  pub shown : List ℕ
  pub prefix : IfKnown old.known (IsPrefix most shown)
  pub count : ℕ
  pub item : SkipsPrefix shown old.budget count
  pub lends : Lends count (content v) old new
  pub less : new.bound + count ≤ old.bound

pub data NotCaptured {E : Type 0} (old new : View) (e : DecodeError E) : Type 0 where
  failed : ReaderFails old new → is_read e ≡ true → input_error_of e ≡ None →
      is_out_of_memory e ≡ false → is_depth_overflow e ≡ false → NotCaptured old new e
  not_lent : BorrowsNone old new → is_read e ≡ false → input_error_of e ≡ Some (require_borrowed
      raw_value) → is_out_of_memory e ≡ false → is_depth_overflow e ≡ false → NotCaptured old new e
  rejected : (shown : List ℕ) → FillsLong most shown old new → RejectsPrefix shown old.budget e →
      NotCaptured old new e

abbrev pub Captures : {V E : Type 0} → (V → List ℕ) → View → View →
    Result V (DecodeError E) → Type 0
Captures content old new (Ok v) = Captured content old new v
Captures content old new (Err e) = NotCaptured old new e
