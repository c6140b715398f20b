-- One item of a command.
use Rattle.std.proofs.Common.{◌≡◌, ◌≢◌, ℕ, ◌+◌, ◌-◌, ◌≤◌, List, [], ◌∷◌, ◌++◌, length, drop}
use Rattle.std.proofs.Common.{decimal, Option, Some, Result, Ok, Err, IsTrue, false, IfSome}
use Rattle.std.proofs.Common.{inl, inr, refl, sym, ap, ◌∙◌, subst, arith, length-append}
use Rattle.cbor4ii_rw.specs.View.{View, IfKnown}
use Rattle.cbor4ii_rw.specs.Reader.{Shows, ReaderFails, Failed, counts}
use Rattle.cbor4ii_rw.specs.Writer.{Output, Appends}
use Rattle.cbor4ii_rw.specs.declared.error.DecodeError.{DecodeError}
use Rattle.cbor4ii_rw.specs.declared.error.DecodeError.TheVariants.{Read as ReadError}
use Rattle.cbor4ii_rw.specs.declared.error.DecodeError.TheVariants.{OutOfMemory as NoMemory}
use Rattle.cbor4ii_items.specs.Moves.{Moves, Kept}
use Rattle.cbor4ii_items.specs.Laws.Running.{shows_kept}
use Rattle.cbor4ii_items.specs.Decoding.{Rejects as RejectsBy}
use Rattle.cbor4ii_items.specs.InputError.{InputError, input_error_of, is_out_of_memory}
use Rattle.cbor4ii_tree.specs.Basis.Tree.{Tree, bytes}
use Rattle.cbor4ii_tree.specs.Basis.Encodings.{Skips, DecodesTo}
use Rattle.cbor4ii_tree.specs.Basis.Canonical.{canonical_encoding}
use Rattle.cbor4ii_tree.specs.Basis.View.{view}
use Rattle.cbor4ii_tree.specs.Basis.Headline.{AllReads, AllSkips}
use Rattle.cbor4ii_tree.specs.Calls.CanonicalShape.{DecodesCanonically}
use Rattle.cbor4ii_tree.specs.Calls.Canonically.{AllCanonical}
use Rattle.cbor4ii_tree.specs.Calls.CanonicalRejects.{CanonicalRejects}
use Rattle.cbor4ii_tree.specs.declared.decode_canonical.Canonical.{Canonical}
use Rattle.cbor4ii_tree.specs.Calls.ReadingRejects.{ReadingRejects}
use Rattle.cbor4ii_tree.specs.Calls.SkippingRejects.{SkippingRejects}
use Rattle.cbor4ii_tree.specs.declared.value.Value.{Value}
use Rattle.cbor4ii_tree.specs.declared.ignored.IgnoredAny.{IgnoredAny}
use Rattle.cbor4ii_tool.specs.Fault.{kind_of, kind_of_input_error}
use Rattle.cbor4ii_tool.specs.Integer.{BeginsInteger}
use Rattle.cbor4ii_tool.specs.Reading.{in_width, written_bytes, ReadsInteger, RejectsInteger}
use Rattle.cbor4ii_tool.specs.Reading.{RejectsThere}
use Rattle.cbor4ii_tool.specs.Item.{BeginsItem, RejectsAs, TakesMemory}
use Rattle.cbor4ii_tool.specs.Run.{FailedOrCounted}
use Rattle.cbor4ii_tool.specs.Steps.{Leaves, Done, Fails}
use Rattle.cbor4ii_tool.specs.declared.command.Command.{Command}
use Rattle.cbor4ii_tool.specs.declared.command.Command.TheVariants.{Ints, Canon, Lens, Strict}
use Rattle.cbor4ii_tool.specs.declared.fault.Kind.{Kind}
use Rattle.cbor4ii_tool.specs.declared.fault.Kind.TheVariants.{Read, Mismatch, Eof, OutOfMemory}
use Rattle.cbor4ii_tool.specs.declared.fault.Kind.TheVariants.{Write}
use Rattle.cbor4ii_tool.specs.declared.integer.Integer.{Integer}
use Rattle.cbor4ii_tool.proofs.Integers.{none_begins_other, none_begins_cut}

-- ---- what is left

pub same_bytes : (xs ys : List ℕ) (known : Option (List ℕ)) → known ≡ Some xs → known ≡ Some ys
    → xs ≡ ys
same_bytes xs ys known p q = cc

kept_leaves : (a b : View) → Kept a b → Leaves a b
kept_leaves a b kept =
    record {
      budget = kept.budget;
      rest = λ xs was ys is. let took = kept.rest xs was in
          (took.0, same_bytes ys (drop took.0 xs) b.known is took.1.left);
      counted = inr kept.counted;
    }

pub moves_leaves : {V E : Type 0} (answer : Result V (DecodeError E)) (a b : View)
    → Moves {V = V} a b answer → Leaves a b
moves_leaves (Ok v) a b moves = kept_leaves a b moves.by
moves_leaves (Err (ReadError e)) a b moves =
    record {
      budget = moves.by.budget;
      rest = moves.by.rest;
      counted = inl moves.by.failures;
    }
moves_leaves (Err _) a b moves = kept_leaves a b moves.by

pub shows_leaves : (shown : List ℕ) (a b : View) → Shows shown a b → Leaves a b
shows_leaves shown a b shows = kept_leaves a b (shows_kept shows)

pub breaks_leaves : (a b : View) → ReaderFails a b → Leaves a b
breaks_leaves a b breaks =
    record {
      budget = breaks.budget;
      rest = λ xs was ys is. (0, breaks.known xs was ys is);
      counted = inl breaks.failures;
    }

shown_counted : (shown : List ℕ) (a b c : View) → Shows shown a b → FailedOrCounted b c
    → FailedOrCounted a c
shown_counted shown a b c shows (inl failed) =
    inl (subst (λ n. Failed n c.failures) shows.failures failed)
shown_counted shown a b c shows (inr counted) =
    inr (λ xs known ys after n e. counted xs (shows.known xs known) ys after n e
    ∙ ap (counts n) shows.taken)

pub shown_leaves : (shown : List ℕ) (a b c : View) → Shows shown a b → Leaves b c → Leaves a c
shown_leaves shown a b c shows leaves =
    record {
      budget = leaves.budget ∙ shows.budget;
      rest =
          λ xs was ys is. leaves.rest xs (shows.known xs was) ys is;
      counted = shown_counted shown a b c shows leaves.counted;
    }

-- how calls one after another leave the reader
pub ruleset leaving = (moves_leaves, shown_leaves, breaks_leaves)

-- ---- integers

pub shown_kept : (shown : List ℕ) (a b c : View) → Shows shown a b → Kept b c → Kept a c
shown_kept shown a b c shows kept = record {
  rest = λ xs known. kept.rest xs (shows.known xs known);
  counted = λ xs known ys after n e. kept.counted xs (shows.known xs known) ys after n e
      ∙ ap (counts n) shows.taken;
  bound = omega (arith, kept.bound, shows.bound);
  budget = kept.budget ∙ shows.budget;
  failures = kept.failures ∙ shows.failures;
  zero_copy = λ lends. kept.zero_copy (shows.zero_copy lends);
  remembers = λ remembers. kept.remembers (shows.remembers remembers);
  ends_at = kept.ends_at ∙ shows.ends_at;
}

never_write : {E : Type 0} (error : DecodeError E) → kind_of error ≢ Write
never_write (ReadError e) is = cc
never_write NoMemory is = cc
never_write _ is = cc

steady : {V E : Type 0} (error : DecodeError E) (shown : List ℕ) (a b c : View) → Shows shown a b
    → Moves {V = V} b c (Err error) → kind_of error ≢ Read → c.failures ≡ a.failures
steady (ReadError e) shown a b c shows moves other = absurd (other refl)
steady _ shown a b c shows moves other = moves.by.failures ∙ shows.failures

pub is_steady : {V E : Type 0} (error : DecodeError E) (shown : List ℕ) (a b c : View)
    → Shows shown a b → Moves {V = V} b c (Err error) → (kind_of error ≢ Write)
    × (kind_of error ≢ Read → c.failures ≡ a.failures)
is_steady {V} error shown a b c shows moves =
    (never_write error, steady {V = V} error shown a b c shows moves)

pub integer_done : (integer : Integer) (a b : View) (held holds : Output) → ReadsInteger integer a b
    → Kept a b → Appends (written_bytes integer) held.written holds.written
    → holds.failures ≡ held.failures → Done Ints a b held holds
integer_done integer a b held holds reads kept appends same = record {
  kept = kept;
  bound = reads.bound;
  failures = same;
  item = λ xs known. let t =
      reads.takes xs known in
      record {
        text = written_bytes integer;
        rest = t.rest;
        left_is = t.left;
        converts =
            (in_width t.width integer, t.valid, t.joined, refl);
        written = appends;
      };
}

no_integer : (budget : Option ℕ) (xs : List ℕ) → ¬ (BeginsInteger xs)
    → ¬ (BeginsItem Ints budget xs)
no_integer budget xs none (written, ys, (item, integer, is, same)) =
    none (record { item = item; integer = integer; more = ys; is = is })

no_more : (budget : Option ℕ) (kind : Kind) (xs : List ℕ) → RejectsThere kind xs
    → ¬ (BeginsItem Ints budget xs)
no_more budget Mismatch xs errs = no_integer budget xs (none_begins_other xs errs)
no_more budget Eof xs errs = no_integer budget xs (none_begins_cut xs errs)
no_more budget _ xs errs = absurd errs

pub integer_fails : (kind : Kind) (a b : View) (held : Output) → RejectsInteger kind a b
    → (kind ≢ Write) × (kind ≢ Read → b.failures ≡ a.failures) → Fails Ints kind a b held held
integer_fails Read a b held errs steady = (errs, refl)
integer_fails Write a b held errs steady = absurd (steady.0 refl)
integer_fails OutOfMemory a b held errs steady = absurd errs
integer_fails kind a b held errs steady = (
  steady.1 (λ e. cc),
  refl,
  λ xs known. (errs xs known, no_more a.budget kind xs (errs xs known)),
)

pub integer_unwritten : (integer : Integer) (a b : View) (held holds : Output)
    → ReadsInteger integer a b → Failed held.failures holds.failures
    → Fails Ints Write a b held holds
integer_unwritten integer a b held holds reads failed = (
  failed,
  reads.failures,
  λ xs known. let t = reads.takes xs known in (
    written_bytes integer,
    t.rest,
    (in_width t.width integer, t.valid, t.joined, refl),
    t.left,
  ),
)

-- ---- what is rejected

stop_named : (command : Command) (rejects : List ℕ → Option ℕ → InputError → List ℕ → Type 0)
    (xs : List ℕ) (budget : Option ℕ) (e : InputError) (left : Option (List ℕ))
    → ((xs : List ℕ) (e : InputError) (rest : List ℕ) → rejects xs budget e rest
    → RejectsAs command budget (kind_of_input_error e) xs)
    → (rest : List ℕ) × (left ≡ Some rest) × rejects xs budget e rest
    → RejectsAs command budget (kind_of_input_error e) xs
stop_named command rejects xs budget e left lift stop = lift xs e stop.0 stop.2

pub rejected_by : {V E : Type 0} (command : Command)
    (rejects : List ℕ → Option ℕ → InputError → List ℕ → Type 0) (error : DecodeError E)
    (a b : View)
    (held : Output) → Moves {V = V} a b (Err error)
    → (IsTrue (is_out_of_memory error) → TakesMemory command) → RejectsBy rejects a b error
    → IfKnown a.known (λ xs. IfSome (input_error_of error)
    (λ _. ¬ (BeginsItem command a.budget xs)))
    → ((xs : List ℕ) (e : InputError) (rest : List ℕ) → rejects xs a.budget e rest
    → RejectsAs command a.budget (kind_of_input_error e) xs) → Fails command (kind_of error) a b
    held held
rejected_by command rejects (ReadError e) a b held moves memory stop none lift =
    (moves.by.failures, refl)
rejected_by command rejects NoMemory a b held moves memory stop none lift =
    (memory refl, moves.by.failures, refl)
rejected_by command rejects _ a b held moves memory stop none lift = (
  moves.by.failures,
  refl,
  λ xs known.
      (stop_named command rejects xs a.budget _ b.known lift (stop.at xs known), none xs known),
)

-- ---- lengths

pub length_taken : (t : Tree) (xs ys : List ℕ) (a b : View) (before after : ℕ) → Kept a b
    → a.known ≡ Some xs → b.known ≡ Some ys → Skips xs a.budget t ys → a.taken ≡ Some before
    → b.taken ≡ Some after → after - before ≡ length (bytes t)
length_taken t xs ys a b before after kept known left skips was is =
    let sum : length (bytes t) + length ys ≡ length xs =
    omega (arith, ap length skips.begins, length-append (bytes t) ys) in
    let moved : b.taken ≡ counts (length (bytes t)) a.taken =
    kept.counted xs known ys left (length (bytes t)) sum in
    let both : Some after ≡ Some (before + length (bytes t)) =
    sym is ∙ (moved ∙ ap (counts (length (bytes t))) was) in
    let plain : after ≡ before + length (bytes t) = cc in
    omega (arith, plain)

-- ---- values

no_value : {E : Type 0} (error : DecodeError E) (a b : View) → AllReads a b (Err error)
    → IfKnown a.known (λ xs. IfSome (input_error_of error) (λ _. ¬ (BeginsItem Canon a.budget xs)))
no_value (ReadError e) a b all xs known = tt
no_value NoMemory a b all xs known = tt
no_value _ a b all xs known = λ (w, ys, (v, reads, is)). all xs known v ys reads

pub value_fails : {E : Type 0} (error : DecodeError E) (a b : View) (held : Output)
    → Moves {V = Value} a b (Err error) → RejectsBy ReadingRejects a b error
    → AllReads a b (Err error) → Fails Canon (kind_of error) a b held held
value_fails error a b held moves stop all =
    rejected_by {V = Value} Canon ReadingRejects error a b held moves (λ _. tt) stop
    (no_value error a b all) (λ xs e rest s. (e, rest, s, refl))

pub value_done : (v : Value) (a b : View) (held holds : Output) → Kept a b
    → b.bound + 1 ≤ a.bound
    → IfKnown a.known
    (λ xs. (rest : List ℕ) × (b.known ≡ Some rest) × DecodesTo xs a.budget (view v) rest)
    → Appends (canonical_encoding (view v)) held.written holds.written → holds.failures ≡
    held.failures
    → Done Canon a b held holds
value_done v a b held holds kept bound reads appends same = record {
  kept = kept;
  bound = bound;
  failures = same;
  item = λ xs known.
      let r = reads xs known in
      record {
        text = canonical_encoding (view v);
        rest = r.0;
        left_is = r.1;
        converts = (view v, r.2, refl);
        written = appends;
      };
}

pub value_unwritten : (v : Value) (a b : View) (held holds : Output)
    → Kept a b → IfKnown a.known
    (λ xs. (rest : List ℕ) × (b.known ≡ Some rest) × DecodesTo xs a.budget (view v) rest)
    → Failed held.failures holds.failures → Fails Canon Write a b held holds
value_unwritten v a b held holds kept reads failed = (
  failed,
  kept.failures,
  λ xs known. let r = reads xs known in (
    canonical_encoding (view v),
    r.0,
    (view v, r.2, refl),
    r.1,
  ),
)

-- ---- values in their canonical encoding

no_canonical : {E : Type 0} (error : DecodeError E) (a b : View) → AllCanonical a b (Err error)
    → IfKnown a.known (λ xs. IfSome (input_error_of error) (λ _. ¬ (BeginsItem Strict a.budget xs)))
no_canonical (ReadError e) a b all xs known = tt
no_canonical NoMemory a b all xs known = tt
no_canonical _ a b all xs known = λ (w, ys, (v, reads, is)). all xs known v ys reads

pub canonical_fails : {E : Type 0} (error : DecodeError E) (a b : View) (held : Output)
    → Moves {V = Canonical} a b (Err error) → RejectsBy CanonicalRejects a b error
    → AllCanonical a b (Err error) → Fails Strict (kind_of error) a b held held
canonical_fails error a b held moves stop all =
    rejected_by {V = Canonical} Strict CanonicalRejects error a b held moves (λ _. tt) stop
    (no_canonical error a b all) (λ xs e rest s. (e, rest, s, refl))

pub canonical_done : (v : Canonical) (a b : View) (held holds : Output) → Kept a b
    → b.bound + 1 ≤ a.bound
    → IfKnown a.known
    (λ xs. (rest : List ℕ) × (b.known ≡ Some rest) × DecodesCanonically xs a.budget (view v.0) rest)
    → Appends (canonical_encoding (view v.0)) held.written holds.written → holds.failures ≡
    held.failures
    → Done Strict a b held holds
canonical_done v a b held holds kept bound reads appends same = record {
  kept = kept;
  bound = bound;
  failures = same;
  item = λ xs known.
      let r = reads xs known in
      record {
        text = canonical_encoding (view v.0);
        rest = r.0;
        left_is = r.1;
        converts = (view v.0, r.2, refl);
        written = appends;
      };
}

pub canonical_unwritten : (v : Canonical) (a b : View) (held holds : Output)
    → Kept a b → IfKnown a.known
    (λ xs. (rest : List ℕ) × (b.known ≡ Some rest) × DecodesCanonically xs a.budget (view v.0) rest)
    → Failed held.failures holds.failures → Fails Strict Write a b held holds
canonical_unwritten v a b held holds kept reads failed = (
  failed,
  kept.failures,
  λ xs known. let r = reads xs known in (
    canonical_encoding (view v.0),
    r.0,
    (view v.0, r.2, refl),
    r.1,
  ),
)

-- ---- items that are skipped

never : IsTrue false → ⊥
never t = cc

no_skip : {E : Type 0} (error : DecodeError E) (a b : View)
    → AllSkips {V = IgnoredAny} a b (Err error)
    → IfKnown a.known (λ xs. IfSome (input_error_of error) (λ _. ¬ (BeginsItem Lens a.budget xs)))
no_skip (ReadError e) a b all xs known = tt
no_skip NoMemory a b all xs known = tt
no_skip _ a b all xs known = λ (w, ys, (t, skips, is)). all xs known t ys skips

pub length_fails : {E : Type 0} (error : DecodeError E) (a b : View) (held : Output)
    → Moves {V = IgnoredAny} a b (Err error)
    → (IsTrue (is_out_of_memory error) → IsTrue false) → RejectsBy SkippingRejects a b error
    → AllSkips {V = IgnoredAny} a b (Err error)
    → Fails Lens (kind_of error) a b held held
length_fails error a b held moves memory stop all =
    rejected_by {V = IgnoredAny} Lens SkippingRejects error a b held moves
    (λ o. absurd (never (memory o))) stop (no_skip error a b all)
    (λ xs e rest s. (e, rest, s, refl))

-- what stands for a skipped item, and the bytes after it
abbrev pub Skipped : View → View → Type 0
Skipped a b = IfKnown a.known
    (λ xs. (t : Tree) × (rest : List ℕ) × (b.known ≡ Some rest) × Skips xs a.budget t rest)

pub length_done : (number before after : ℕ) (a b : View) (held holds : Output)
    → Kept a b → b.bound + 1 ≤ a.bound → Skipped a b → a.taken ≡ Some before → b.taken ≡ Some after
    → number ≡ after - before
    → Appends (decimal number ++ 10 ∷ []) held.written holds.written
    → holds.failures ≡ held.failures → Done Lens a b held holds
length_done number before after a b held holds kept bound skipped was is difference appends
    same = record {
      kept = kept;
      bound = bound;
      failures = same;
      item = λ xs known.
          let r = skipped xs known in
          let taken = length_taken r.0 xs r.1 a b before after kept known r.2 r.3 was is in
          let size = difference ∙ taken in
          record {
            text = decimal number ++ 10 ∷ [];
            rest = r.1;
            left_is = r.2;
            converts = (r.0, r.3, ap (λ n. decimal n ++ 10 ∷ []) size);
            written = appends;
          };
    }

pub length_unwritten : (a b : View) (held holds : Output) → Kept a b
    → Skipped a b → Failed held.failures holds.failures → Fails Lens Write a b held holds
length_unwritten a b held holds kept skipped failed = (
  failed,
  kept.failures,
  λ xs known. let r = skipped xs known in (
    decimal (length (bytes r.0)) ++ 10 ∷ [],
    r.1,
    (r.0, r.3, refl),
    r.2,
  ),
)
