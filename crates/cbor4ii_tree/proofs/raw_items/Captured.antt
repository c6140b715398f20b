-- What a captured item says of the bytes.
use denote.Ref.{Bor}
use Rattle.std.proofs.Common.{◌≡◌, ◌≢◌, ℕ, ◌+◌, ◌<◌, ◌^◌, ◌≤◌, inl, inr, List, [], ◌++◌, length}
use Rattle.std.proofs.Common.{take, drop, Option, Some, None, Result, Ok, Err, Bool, true, false}
use Rattle.std.proofs.Common.{IsTrue, refl, sym, ap, ◌∙◌, subst, arith, IfSome, IfOk, IfErr, OnOk}
use Rattle.std.proofs.Common.{length-append, take-append-drop, append_assoc, rules}
use Rattle.std.proofs.{Math.Seq.drop-append_seam, lemmas.List.{length-drop, take_all}}
use Rattle.std.proofs.lemmas.List.{nil_from_length}
use Rattle.std.specs.Prelude.{MatchBool, MatchOption, min}
use Rattle.cbor4ii_rw.specs.{Long.{FillsLong, BorrowsNone}, Reader.{Shows, ReaderFails, Advances}}
use Rattle.cbor4ii_rw.specs.{Reader.{IsPrefix, KeepsAllButBudget}, Reference.{bytes_of, IsLong}}
use Rattle.cbor4ii_rw.specs.View.{View, IfKnown, place_of, place_after, BeginsAt}
use Rattle.cbor4ii_rw.specs.declared.error.DecodeError.{DecodeError}
use Rattle.cbor4ii_rw.specs.declared.read.Reference.{Reference}
use Rattle.cbor4ii_rw.specs.declared.read.Reference.TheVariants.{Short}
use Rattle.cbor4ii_items.specs.InputError.{is_out_of_memory, input_error_of, is_read}
use Rattle.cbor4ii_items.specs.{Laws.Contents.lends_prefix, Budget.CostFits, Decoding.IsExact}
use Rattle.cbor4ii_items.specs.Decoding.{Sound, NoneRead, Complete, Rejects, Decodes}
use Rattle.cbor4ii_items.specs.{Laws.Running.shows_kept, Moves.{Kept, ReaderFailed, Moves}}
use Rattle.cbor4ii_tree.specs.{Laws.Initials.length-bytes-pos, Inner.BytesAhead.lent_view}
use Rattle.cbor4ii_tree.specs.Calls.Raw.{ReadsRaw, RejectsRaw, BeginsRaw, RejectedPrefix, Unmoved}
use Rattle.cbor4ii_tree.specs.Calls.Raw.{most, SkipsPrefix, RejectsPrefix, Captured, NotCaptured}
use Rattle.cbor4ii_tree.specs.Calls.Raw.{failed, not_lent, rejected, Captures, raw_format}
use Rattle.cbor4ii_tree.specs.{Basis.Cost.{Budget, skip_cost}, Inner.Does.Does}
use Rattle.cbor4ii_tree.specs.{Basis.Encodings.Skips, Basis.Headline.{Answered, Rejected}}
use Rattle.cbor4ii_tree.specs.{Calls.Ignored.ReadsTree, Basis.InputError.InputError}
use Rattle.cbor4ii_tree.specs.{Laws.Binds.same_err, Laws.Ignoring.{one_encoding, tree_prefix}}
use Rattle.cbor4ii_tree.specs.{Inner.Skipping.{SkipsOne, RejectsSkippingOne}}
use Rattle.cbor4ii_tree.specs.{Calls.SkippingRejects.SkippingRejects, Basis.Tree.{Tree, bytes}}
use Rattle.cbor4ii_tree.specs.Calls.BoxedRaw.{RejectsRawUnlent}
use Rattle.cbor4ii_tree.proofs.skipping.Answer.{not_both, skip_from_Rejects}
use Rattle.cbor4ii_tree.proofs.skip_calls.Doing.{says}

-- ---- skipping in bytes that are lent

never_failed : (t : Bool) (a b : View) → a.failures ≡ 0 → b.failures ≡ 0
    → MatchBool t (ReaderFailed a b) (Kept a b) → t ≡ false
never_failed true a b e f h = search (rules, inl, inr)
never_failed false a b e f h = refl

rejects_at : (o : Option InputError) (xs : List ℕ) (budget : Budget) (new : Option (List ℕ))
    → IfSome o (λ z. (ys : List ℕ) × (new ≡ Some ys) × RejectsSkippingOne budget xs z ys)
    → IfSome o (λ z. (left : List ℕ) × SkippingRejects xs budget z left)
rejects_at None xs budget new h = tt
rejects_at (Some z) xs budget new h = (h.0, h.2)

pub lent_rejects : {E : Type 0} (shown rest : List ℕ) (a b : View) {e : DecodeError E} → Does {V
    = Unit {0}} (λ xs _ ys. SkipsOne a.budget xs ys) (RejectsSkippingOne a.budget) (lent_view shown
    a) (lent_view rest b) (Err e) → is_out_of_memory e ≡ false → RejectsPrefix shown a.budget e
lent_rejects shown rest a b {e = e} d spares = record {
  read = never_failed (is_read e) (lent_view shown a) (lent_view rest b) refl refl d.moves.by;
  memory = spares;
  depth = d.moves.depth;
  rejects = rejects_at (input_error_of e) shown a.budget (Some rest) (d.err shown refl);
}

-- ---- an item in a prefix that was lent

shows_on : {shown : List ℕ} {a m k : View} → Shows shown a m → KeepsAllButBudget m k
    → k.budget ≡ m.budget → Shows shown a k
shows_on s same budget = search rules

pub captured : {V : Type 0} (content : V → List ℕ) {w : V} {lent shown : List ℕ} {n : ℕ}
    {a m k b : View} → FillsLong most lent a m → shown ≡ lent → SkipsPrefix shown m.budget n
    → KeepsAllButBudget m k → k.budget ≡ m.budget → Advances n k b → content w ≡ take n lent
    → Captured content a b w
captured content {lent = lent} {n = n} {a = a} {m = m} l is item same budget adv cut =
    let s = shows_on l.shows same budget in
    let i : SkipsPrefix lent m.budget n = subst (λ z. SkipsPrefix z m.budget n) is item in
    record {
      shown = lent;
      prefix = l.prefix;
      count = n;
      item = subst (λ o. SkipsPrefix lent o n) l.shows.budget i;
      lends = lends_prefix s l.prefix i.within i.bytes cut adv;
      less = omega (arith, s.bound, adv.bound);
    }

pub rejected_in : {E : Type 0} {lent shown : List ℕ} {a m k : View} {e : DecodeError E}
    → FillsLong most lent a m → shown ≡ lent → RejectsPrefix shown m.budget e
    → KeepsAllButBudget m k → k.budget ≡ m.budget → NotCaptured a k e
rejected_in {lent = lent} {m = m} {e = e} l is rejects same budget =
    rejected lent (record {
      shows = shows_on l.shows same budget;
      prefix = l.prefix;
      enough =
          l.enough;
    }) (subst (λ o. RejectsPrefix lent o e) l.shows.budget (subst (λ z. RejectsPrefix z
    m.budget e) is rejects))

-- ---- the item at the beginning of all bytes

tree_at : (shown xs : List ℕ) (n : ℕ) (budget : Budget) → IsPrefix most shown xs
    → (i : SkipsPrefix shown budget n) → ReadsTree xs n (skip_cost i.skipped)
tree_at shown xs n budget prefix i =
    let t = bytes i.skipped in
    let back = drop n shown ++ drop (length shown) xs in
    let size : n ≡ length t =
    omega (arith, ap length i.skips.begins, length-append {A = ℕ}, length-drop {A = ℕ}) in
    let all : xs ≡ t ++ back = sym (take-append-drop (length shown) xs)
    ∙ (ap (λ z. z ++ drop (length shown) xs) (prefix.begins ∙ i.skips.begins)
    ∙ append_assoc t (drop n shown) (drop (length shown) xs)) in
    let trailing : drop n xs ≡ back =
    ap (drop n) all ∙ (ap (λ j. drop j (t ++ back)) size ∙ drop-append_seam t back) in
    record {
      of_tree = i.skipped;
      loose = i.skips.loose;
      begins = all ∙ ap (λ z. t ++ z) (sym trailing);
      size = size;
      cost = refl;
    }

-- what is read is skipped
pub skips_read : (xs : List ℕ) (n c : ℕ) (budget : Budget) (p : ReadsTree xs n c)
    → CostFits c budget → Skips xs budget p.of_tree (drop n xs)
skips_read xs n c budget p fits =
    record { loose = p.loose; fits = subst (λ j. CostFits j budget) p.cost fits; begins = p.begins }

rejects_one : (xs : List ℕ) (budget : Budget) (e f : InputError) (x y : List ℕ)
    → SkippingRejects xs budget e x → SkippingRejects xs budget f y → e ≡ f
rejects_one xs budget e f x y p q = search (rules, same_err, skip_from_Rejects)

pub if_some : (o : Option InputError) (P Q : InputError → Type 0) → ((z : InputError) → P z → Q z)
    → IfSome o P → IfSome o Q
if_some None P Q f h = tt
if_some (Some z) P Q f h = f z h

says_none : (o : Option InputError) (P : InputError → Type 0) → o ≡ None → IfSome o P
says_none o P e = subst (λ o. IfSome o P) (sym e) tt

by_read : (P Q : Type 0) {t u : Bool} → t ≡ u → MatchBool u P Q → MatchBool t P Q
by_read P Q e p = subst (λ v. MatchBool v P Q) (sym e) p

module _ (a b : View) where
  broken : ReaderFails a b → ReaderFailed a b
  broken p = search rules

  all_lent : (shown xs : List ℕ) → FillsLong most shown a b → IsExact false a → a.known ≡ Some xs
      → shown ≡ xs
  all_lent shown xs l (inl f) known = cc
  all_lent shown xs l (inr whole) known =
      let enough : min most (length xs) ≤ length shown = l.enough whole.0 xs known in
      let room : length xs < 2 ^ 64 = whole.1 xs known in
      sym (l.prefix xs known).begins ∙ take_all (length shown) xs (omega (arith, enough, room))

  is_short : BorrowsNone a b → IsExact false a → ⊥
  is_short p (inl f) = cc
  is_short p (inr whole) = p.short whole.0

module _ {V : Type 0} (content : V → List ℕ) (a b : View) where
  pub item_at : (v : V) (c : Captured content a b v) (xs : List ℕ) → a.known ≡ Some xs
      → ReadsTree xs c.count (skip_cost c.item.skipped)
  item_at v c xs known = tree_at c.shown xs c.count a.budget (c.prefix xs known) c.item

-- nothing is taken, and skipping fails in a prefix, or in all bytes
abbrev Stops : View → View → List ℕ → InputError → Type 0
Stops a b xs z = (b.known ≡ Some xs) × RejectedPrefix a xs z

abbrev ExactStops : View → View → List ℕ → InputError → Type 0
ExactStops a b xs z = (b.known ≡ Some xs) × ((left : List ℕ) × SkippingRejects xs a.budget z left)

-- these bytes are left
abbrev At : View → (InputError → List ℕ → Type 0) → InputError → Type 0
At b S z = (rest : List ℕ) × (b.known ≡ Some rest) × S z rest

module _ {V E : Type 0} (content : V → List ℕ) (a b : View) where
  -- ---- over every reader

  pub raw_moves : (r : Result V (DecodeError E)) → Captures content a b r → Moves a b r
  raw_moves (Ok v) c = record { by = c.lends.kept; depth = λ none. refl }
  raw_moves (Err e) (failed p read none memory depth) =
      record { by = by_read _ _ read (broken a b p); depth = λ none. depth }
  raw_moves (Err e) (not_lent p read named memory depth) =
      record { by = by_read _ _ read (shows_kept p.stays); depth = λ none. depth }
  raw_moves (Err e) (rejected shown l s) =
      record { by = by_read _ _ s.read (shows_kept l.shows); depth = s.depth }

  pub raw_progress : (r : Result V (DecodeError E)) → Captures content a b r
      → OnOk r (b.bound + 1 ≤ a.bound)
  raw_progress (Ok v) c = search (rules, length-append, length-drop, length-bytes-pos)
  raw_progress (Err e) c = tt

  pub raw_memory : (r : Result V (DecodeError E)) → Captures content a b r
      → IfErr r (λ e. IsTrue (is_out_of_memory e) → IsTrue false)
  raw_memory (Ok v) c = tt
  raw_memory (Err e) (failed p read none memory depth) = λ t. subst IsTrue memory t
  raw_memory (Err e) (not_lent p read says memory depth) = λ t. subst IsTrue memory t
  raw_memory (Err e) (rejected shown l s) = λ t. subst IsTrue s.memory t

  pub raw_unmoved : (r : Result V (DecodeError E)) → Captures content a b r → IfErr r (Unmoved a b)
  raw_unmoved (Ok v) c = tt
  raw_unmoved (Err e) (failed p read none memory depth) =
      (by_read _ _ read (p.known, p.kept), p.taken)
  raw_unmoved (Err e) (not_lent p read named memory depth) =
      (by_read _ _ read p.stays.known, p.stays.taken)
  raw_unmoved (Err e) (rejected shown l s) = (by_read _ _ s.read l.shows.known, l.shows.taken)

  -- the error is of the bytes, and nothing is taken
  stop : (e : DecodeError E) → NotCaptured a b e → (xs : List ℕ) → a.known ≡ Some xs
      → IfSome (input_error_of e) (Stops a b xs)
  stop e (failed p read none memory depth) xs known = says_none _ (Stops a b xs) none
  stop e (not_lent p read named memory depth) xs known =
      says (Stops a b xs) named (p.stays.known xs known, inl (refl, p.some xs known, p.short))
  stop e (rejected shown l s) xs known =
      if_some _ _ (Stops a b xs) (λ z h. (
        l.shows.known xs known,
        inr (shown, l.prefix xs known, h),
      )) s.rejects

  pub raw_rejected : (r : Result V (DecodeError E)) → Captures content a b r
      → IfKnown a.known (λ xs. Rejected (RejectedPrefix a xs) r)
  raw_rejected (Ok v) c = λ xs known. tt
  raw_rejected (Err e) c = λ xs known. if_some _ (Stops a b xs) (RejectedPrefix a xs) (λ z h. h.1)
      (stop e c xs known)

  pub raw_begins : (r : Result V (DecodeError E)) → Captures content a b r
      → IfErr r (Rejects BeginsRaw a b)
  raw_begins (Ok v) c = tt
  raw_begins (Err e) c = record {
    at = λ xs known. if_some _ (Stops a b xs) (At b (BeginsRaw xs a.budget))
        (λ z h. (xs, h.0, begins xs z h.1)) (stop e c xs known);
  }
    where
      begins : (xs : List ℕ) (z : InputError) → RejectedPrefix a xs z → BeginsRaw xs a.budget z xs
      begins xs z (inl h) = (refl, inl (h.0, h.1))
      begins xs z (inr h) = (refl, inr h)

  pub raw_sound : (r : Result V (DecodeError E)) → Captures content a b r
      → IfOk r (Sound (ReadsRaw content) a b)
  raw_sound (Ok v) c = record {
    at = λ xs known.
        let l = c.lends.at xs known in
        record {
          count = c.count;
          cost = skip_cost c.item.skipped;
          read = (item_at content a b v c xs known, l.2);
          fits = c.item.skips.fits;
          left = l.1;
        };
  }
  raw_sound (Err e) c = tt

  -- ---- where all bytes are lent

  -- the error is skipping's, and nothing is taken
  exact_stop : (e : DecodeError E) → NotCaptured a b e → IsExact false a → (xs : List ℕ)
      → a.known ≡ Some xs → IfSome (input_error_of e) (ExactStops a b xs)
  exact_stop e (failed p read none memory depth) exact xs known =
      says_none _ (ExactStops a b xs) none
  exact_stop e (not_lent p read named memory depth) exact xs known = absurd (is_short a b p exact)
  exact_stop e (rejected shown l s) exact xs known = if_some _ _ (ExactStops a b xs) (λ z h. (
    l.shows.known xs known,
    (
      h.0,
      subst (λ ys. SkippingRejects ys a.budget z h.0) (all_lent a b shown xs l exact known) h.1,
    ),
  )) s.rejects

  pub raw_complete : (r : Result V (DecodeError E)) → Captures content a b r → IsExact false a
      → IfErr r (Complete (ReadsRaw content) a)
  raw_complete (Ok v) c exact = tt
  raw_complete (Err e) c exact = record {
    at = λ xs known. if_some _ (ExactStops a b xs) (λ z. NoneRead (ReadsRaw content) xs a.budget)
        (λ z h v n c r fits. not_both xs a.budget r.0.of_tree (drop n xs) z h.1.0
        (skips_read xs n c a.budget r.0 fits) h.1.1) (exact_stop e c exact xs known);
  }

  pub raw_rejects : (r : Result V (DecodeError E)) → Captures content a b r → IsExact false a
      → IfErr r (Rejects RejectsRaw a b)
  raw_rejects (Ok v) c exact = tt
  raw_rejects (Err e) c exact = record {
    at = λ xs known. if_some _ (ExactStops a b xs) (At b (RejectsRaw xs a.budget))
        (λ z h. (xs, h.0, (refl, h.1))) (exact_stop e c exact xs known);
  }

  pub raw_decodes : (r : Result V (DecodeError E)) → Captures content a b r
      → Decodes (raw_format content) a b r
  raw_decodes r c = search (rules, raw_moves, raw_progress, raw_memory, raw_sound, raw_complete, raw_rejects, raw_begins)

  pub raw_whole : (r : Result V (DecodeError E)) → Captures content a b r → IsExact false a
      → IfKnown a.known (λ xs. (t : Tree) (rest : List ℕ) → Skips xs a.budget t rest
      → Answered (λ v. (content v ≡ bytes t) × (b.known ≡ Some rest)) (λ _. ⊥) r)
  raw_whole (Ok v) c exact = λ xs known t rest s.
      let p = item_at content a b v c xs known in
      let l = c.lends.at xs known in
      let same = one_encoding p.of_tree t (drop c.count xs) rest p.loose s.loose
      (sym p.begins ∙ s.begins) in (
        l.2 ∙ (tree_prefix xs c.count (skip_cost c.item.skipped) p ∙ ap bytes same.0),
        l.1 ∙ ap Some same.1,
      )
  raw_whole (Err e) c exact = λ xs known t rest s. if_some _ (ExactStops a b xs) (λ z. ⊥)
      (λ z h. not_both xs a.budget t rest z h.1.0 s h.1.1) (exact_stop e c exact xs known)

  pub raw_exact : (r : Result V (DecodeError E)) → Captures content a b r → IsExact false a
      → IfKnown a.known (λ xs. (e : InputError) (left : List ℕ) → SkippingRejects xs a.budget e left
      → Answered (λ _. ⊥) (λ f. (f ≡ e) × (b.known ≡ Some xs)) r)
  raw_exact (Ok v) c exact = λ xs known z left s.
      let p = item_at content a b v c xs known in
      not_both xs a.budget p.of_tree (drop c.count xs) z left
      (skips_read xs c.count (skip_cost c.item.skipped) a.budget p c.item.skips.fits) s
  raw_exact (Err e) c exact = λ xs known z left s. if_some _ (ExactStops a b xs)
      (λ f. (f ≡ z) × (b.known ≡ Some xs))
      (λ f h. (rejects_one xs a.budget f z h.1.0 left h.1.1 s, h.0)) (exact_stop e c exact xs known)

-- ---- an empty prefix

module _ (a b : View) (answer : Option Reference) (lent : Reference) (shown : Bor (List ℕ))
    (e : answer ≡ Some lent) (f : lent ≡ Short shown)
    (shows : MatchOption answer (ReaderFails a b) (λ s. Shows (bytes_of s) a b))
    (prefix : IfKnown a.known (IsPrefix most (bytes_of lent)))
    (long : IsTrue a.zero_copy → IsLong lent) where
  lent_shows : Shows (bytes_of lent) a b
  lent_shows = subst (λ o. MatchOption o (ReaderFails a b) (λ s. Shows (bytes_of s) a b)) e shows

  -- an empty short prefix is as an empty long one
  pub lends_nothing : length shown.now ≡ 0 → FillsLong most [] a b
  lends_nothing none =
      let empty : bytes_of lent ≡ [] = ap bytes_of f ∙ nil_from_length shown.now none in
      record {
        shows = subst (λ z. Shows z a b) empty lent_shows;
        prefix = subst (λ z. IfKnown a.known (IsPrefix most z)) empty prefix;
        enough = λ whole. absurd (subst IsLong f (long whole));
      }

  -- a short prefix of some bytes
  pub lends_short : length shown.now ≢ 0 → BorrowsNone a b
  lends_short some =
      let same : bytes_of lent ≡ shown.now = ap bytes_of f in
      let s = lent_shows in
      record {
        some = λ xs known none.
            some (omega (arith, (prefix xs known).within, ap length none, ap length same));
        stays = record {
          known = s.known;
          bound = s.bound;
          advanceable = omega arith;
          budget = s.budget;
          failures = s.failures;
          taken = s.taken;
          zero_copy = s.zero_copy;
          remembers = s.remembers;
          ends_at = s.ends_at;
        };
        short = λ whole. absurd (subst IsLong f (long whole));
      }

-- ---- what is said of an item that is to be kept, where the reader lends nothing

-- no item stands in no bytes
pub no_item : {budget : Budget} {shown lent : List ℕ} {n : ℕ} → lent ≡ [] → shown ≡ lent
    → SkipsPrefix shown budget n → ⊥
no_item {budget = budget} {n = n} none is item = search (rules, length-append, length-bytes-pos)

-- no byte is left
pub none_rejects : {E : Type 0} {shown lent : List ℕ} {a m k : View} {e : DecodeError E} → lent ≡ []
    → shown ≡ lent → FillsLong most lent a m → RejectsPrefix shown m.budget e
    → KeepsAllButBudget m k → (is_out_of_memory e ≡ false) × Rejects RejectsRawUnlent a k e
none_rejects {a = a} {m = m} {k = k} {e = e} none is lent rejects same =
    let l = subst (λ z. FillsLong most z a m) none lent in
    let s = subst (λ z. RejectsPrefix z m.budget e) (is ∙ none) rejects in (
      s.memory,
      record {
        at = λ xs known. if_some (input_error_of e)
            (λ z. (left : List ℕ) × SkippingRejects [] m.budget z left) (λ z.
            (rest : List ℕ) × (k.known ≡ Some rest) × RejectsRawUnlent xs a.budget z rest) (λ z h. (
              xs,
              same.known ∙ l.shows.known xs known,
              (
                refl,
                inr (
                  (l.prefix xs known).ends (omega arith) refl,
                  (h.0, subst (λ o. SkippingRejects [] o z h.0) l.shows.budget h.1),
                ),
              ),
            )) s.rejects;
      },
    )

-- ---- where a kept item stands

-- an item has bytes, so the prefix that it was cut from had some
pub cut_begins : {shown lent : List ℕ} {budget : Budget} {n : ℕ} {p q : ℕ × ℕ} (a : View)
    → q ≡ p → shown ≡ lent → SkipsPrefix shown budget n → (lent ≢ [] → BeginsAt p a)
    → BeginsAt q a
cut_begins a same is item begins =
    subst (λ (z : ℕ × ℕ). BeginsAt z a) (sym same) (begins (λ none. no_item none is item))

-- the slice begins where its bytes, as bytes to come, begin
pub begins_slice : (bytes : Bor (List ℕ)) (p : ℕ × ℕ) (a : View) → a.known ≡ Some bytes.now
    → a.ends_at ≡ Some (place_after bytes) → BeginsAt p a → p ≡ place_of bytes
begins_slice bytes p a known ends begins = search rules
