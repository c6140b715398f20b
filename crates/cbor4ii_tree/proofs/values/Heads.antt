-- Heads, and the values that hold no other: what is read of them, where they are rejected, and what
-- a look has shown.
use Rattle.std.proofs.Common.{◌≡◌, ℕ, ◌/◌, ◌%◌, ◌<◌, List, [], ◌∷◌, Some, Result, Bool, true, false}
use Rattle.std.proofs.Common.{refl, sym, ap, ◌∙◌, subst, arith, inl, inr, Err, pos, ◌^◌, ◌+◌, ◌≤◌}
use Rattle.std.proofs.Common.{◌++◌, length, take, drop, take-append-drop, IfSome, IsTrue, ◌≢◌, zero}
use Rattle.std.proofs.Common.{suc, Option, None, Ok, IfOk, IfErr, ℤ, append_assoc, rules, negsuc}
use Rattle.std.proofs.Common.{◌-ℤ◌, ne_eqb, ◌-◌, ◌*◌, length-append, length-drop, get_or, w8, Fits}
use Rattle.std.proofs.Common.{ap₂, cond, IsUtf8, eqb, eqb-true, eq-eqb, string_bytes, Vec, Global}
use Rattle.std.proofs.{Common.String, lemmas.Int.to_z-of_z, Math.Seq.drop-append_seam}
use Rattle.std.proofs.{Math.Seq.{take-append_seam, take-add}, lemmas.List.length-take-le}
use Rattle.std.proofs.Math.Facts.{Fits-lt-pow}
use Rattle.std.specs.Int.{bytes_high_first}
use mir.{Syntax.w128, Val.{to_z, of_z}}
use denote.Ref.{Bor}
use Rattle.cbor4ii_rw.specs.{View.{View, IfKnown}, declared.error.DecodeError.DecodeError}
use Rattle.cbor4ii_rw.specs.Reader.{Advances, IsPrefix, KeepsAllButBudget, Shows, StepsIn}
use Rattle.cbor4ii_rw.specs.declared.error.DecodeError.TheVariants.{OutOfMemory, Eof}
use Rattle.cbor4ii_items.specs.{Budget.CostFits, Head.{Width, in_first, byte_count, additional}}
use Rattle.cbor4ii_items.specs.Head.{HeadFits, indefinite_head, IsBytes, head, shortest_width}
use Rattle.cbor4ii_items.specs.Head.{ArgumentAfter, one, two, four, eight, break}
use Rattle.cbor4ii_items.specs.{Heads.{RejectsHead, Begins, ReadsHead, CutHead}, Initial.Info}
use Rattle.cbor4ii_items.specs.Initial.{wide, indefinite_ended, info_of, initial, by_major}
use Rattle.cbor4ii_items.specs.Initial.{int_by_info, Sign, unsigned, negative, sign_major, Initial}
use Rattle.cbor4ii_items.specs.Initial.{simple_by_info, tag_by_info, Simple, simple_byte, Precision}
use Rattle.cbor4ii_items.specs.Initial.{half, single, double, precision_byte, precision_bytes}
use Rattle.cbor4ii_items.specs.Initial.{starts_bits, other_simple, simple_false, simple_true}
use Rattle.cbor4ii_items.specs.Initial.{simple_null, simple_undefined, Kind, kind_major}
use Rattle.cbor4ii_items.specs.Initial.{byte_string, text_string, reserved, string_by_info}
use Rattle.cbor4ii_items.specs.Initial.{array_by_info, map_by_info, starts_string, starts_chunks}
use Rattle.cbor4ii_items.specs.{Initial.{bad_string, starts_simple}, InputError.InputError}
use Rattle.cbor4ii_items.specs.InputError.{depth_overflow, not_canonical, input_error_of, is_read}
use Rattle.cbor4ii_items.specs.{InputError.is_depth_overflow, Laws.Contents.lends_prefix}
use Rattle.cbor4ii_items.specs.{Laws.Running.{kept_alike, shows_kept}, Laws.Heads.argument_below}
use Rattle.cbor4ii_items.specs.Laws.Heads.{shortest_fits, rest_after_head, length-bytes_high_first}
use Rattle.cbor4ii_items.specs.{Laws.Answering.fits_zero, Shortest.canonical_name, Decoding.Sound}
use Rattle.cbor4ii_items.specs.{Decoding.Rejects, Floats.{ReadsFloat, RejectsFloat, float_bytes}}
use Rattle.cbor4ii_items.specs.{Moves.Moves, Numbers.{ReadsArgument, RejectsArgument}}
use Rattle.cbor4ii_items.specs.{Laws.Prefixes.drop_more, Strings.{ReadsDefiniteString, ReadsChunks}}
use Rattle.cbor4ii_items.specs.Strings.{chunk_cost, ReadsString, CutContent, RejectsChunk}
use Rattle.cbor4ii_items.specs.Strings.{no_chunk_byte, no_step, chunk_indefinite, chunk_rejected}
use Rattle.cbor4ii_items.specs.Strings.{chunk_cut, RejectsString, string_head_rejected, string_cut}
use Rattle.cbor4ii_items.specs.Strings.{string_indefinite, RejectsText, no_string, no_utf8}
use Rattle.cbor4ii_tree.specs.{Calls.CanonicalShape.CanonicalShape, Basis.Cost.{Budget, step_in}}
use Rattle.cbor4ii_tree.specs.{Basis.Cost.{cost, chunks_cost}, Inner.Does.{Does, Accepting}}
use Rattle.cbor4ii_tree.specs.{Inner.Does.value_or_error, Basis.InputError.{sign_name, value_name}}
use Rattle.cbor4ii_tree.specs.Basis.InputError.{eof, mismatch, Small, len_of, unsupported}
use Rattle.cbor4ii_tree.specs.Basis.InputError.{precision_name, tag_name, require_length}
use Rattle.cbor4ii_tree.specs.Basis.InputError.{require_utf8, Indefinite, kind_name}
use Rattle.cbor4ii_tree.specs.Laws.Numbers.{additional-lt, info-additional}
use Rattle.cbor4ii_tree.specs.Calls.ReadingRejects.{ReadingRejectsBy, ReadingRejects, Readable}
use Rattle.cbor4ii_tree.specs.Calls.ReadingRejects.{ReadableChunk, CutString, ChunkRejectsBy}
use Rattle.cbor4ii_tree.specs.{Calls.ReadingRejects.ChunkRejects}
use Rattle.cbor4ii_tree.specs.Calls.Rejections.{Is, MissingAll, Rejection, Each, NoBreak}
use Rattle.cbor4ii_tree.specs.Basis.Tree.{Tree, Plain, int, tagged, simple, bits, bytes, string}
use Rattle.cbor4ii_tree.specs.Basis.Tree.{TextIsUtf8, Trees, no_trees, tree, chunked, bytes_all}
use Rattle.cbor4ii_tree.specs.{Basis.Tree.{LooseAll, AreChunks, joined_chunks}, Inner.Valuing.Whole}
use Rattle.cbor4ii_tree.specs.Inner.Valuing.{RejectsOneValue, RejectsUnder, ReadsOneValue}
use Rattle.cbor4ii_tree.specs.Inner.Valuing.{ReadsTagged, ReadsUnder, TakesTag, RejectsFirst}
use Rattle.cbor4ii_tree.specs.{Inner.Valuing.{RejectsOf, SimpleOf}, Inner.Deeper.with_budget}
use Rattle.cbor4ii_tree.specs.{Calls.Asking.HeadAt, declared.leaf.Head.Head, Inner.Leaf.CanTake}
use Rattle.cbor4ii_tree.specs.Inner.Leaf.{HeadStands, ShowsFirst, ShowsNext, ShortestHead}
use Rattle.cbor4ii_tree.specs.Inner.Leaf.{StandsAhead, SeesLeaf, WantsContent}
use Rattle.cbor4ii_tree.specs.{declared.leaf.Next.Next, Calls.CanonicalRejects.ShortestAt}
use Rattle.cbor4ii_tree.specs.Calls.CanonicalRejects.{CanonicalRejectsBy, CanonicalOtherRejects}
use Rattle.cbor4ii_tree.specs.{Calls.CanonicalRejects.AfterShortest, Basis.Item.{integer, float}}
use Rattle.cbor4ii_tree.specs.{Basis.Item.{tag, IsItem, bytes_item, text}, Laws.Binds.step_up}
use Rattle.cbor4ii_tree.specs.Laws.Initials.{initial_tag, initial_bits, initial_simple}
use Rattle.cbor4ii_tree.specs.Laws.Initials.{initial_string, initial_chunks, head_below, kind_below}
use Rattle.cbor4ii_tree.specs.Basis.Meaning.{number, simple_item, content_item, value}
use Rattle.cbor4ii_tree.specs.{Basis.View.view, declared.value.FloatBits.FloatBits}
use Rattle.cbor4ii_tree.specs.declared.value.FloatBits.TheVariants.{F16, F32, F64}
use Rattle.cbor4ii_tree.specs.declared.value.Value.{Value, Integer, Float, the_lemmas, Bytes, Text}
use Rattle.cbor4ii_tree.specs.Inner.BytesAhead.{Offers}
use Rattle.cbor4ii_tree.specs.declared.leaf.ValueSeen.TheVariants.{NoMemory, End}
use Rattle.cbor4ii_tree.proofs.{skip_calls.Bytes.says_width, skip_calls.Doing.{Reached, does_after}}
use Rattle.cbor4ii_tree.proofs.skip_calls.Doing.{does_err, reached_as, reached_start, reached_by}
use Rattle.cbor4ii_tree.proofs.skip_calls.Doing.{does_ok, does_reject, does_rejects, call_rejects}
use Rattle.cbor4ii_tree.proofs.skip_calls.Doing.{reached_sound, does_no_memory}
use Rattle.cbor4ii_tree.proofs.answers.Nesting.{reading_by_parts, canonical_by_parts}
use Rattle.cbor4ii_tree.proofs.heads.Means.{WidthSays, InfoSays, info_says, IsBytes-take}
use Rattle.cbor4ii_tree.proofs.{values.Encoding.view-Integer, parts.Rejecting.{headed_by, in_items}}
use Rattle.cbor4ii_tree.proofs.{skip_calls.Leaves.shown_bytes, encodings.CanonicalShape.first_byte}
use Rattle.cbor4ii_items.specs.Strings as strings
use Rattle.cbor4ii_tree.specs.declared.leaf.ValueSeen.TheVariants as seen

-- ---- an encoding that is read whole

pub whole : (canonical : Bool) (budget : Budget) (t : Tree) → Plain t
    → (canonical ≡ true → CanonicalShape t) → CostFits (cost t) budget → Whole canonical budget t
whole false budget t plain shape fits = (plain, fits)
whole true budget t plain shape fits = ((plain, shape refl), fits)

pub whole_is : (canonical : Bool) (budget : Budget) (t : Tree) → Whole canonical budget t
    → Plain t × (canonical ≡ true → CanonicalShape t) × CostFits (cost t) budget
whole_is false budget t h = (h.0, (λ e. cc), h.1)
whole_is true budget t h = (h.0.0, (λ e. h.0.1), h.1)

-- ---- a step

pub rejects_under : (canonical : Bool) (inner budget : Budget) (xs : List ℕ) (e : InputError)
    (rest : List ℕ) → step_in budget ≡ Some inner → RejectsUnder canonical inner xs e rest
    → RejectsOneValue canonical budget xs e rest
rejects_under false inner budget xs e rest step h =
    (reading_by_parts xs budget e rest).1 (rw step h)
rejects_under true inner budget xs e rest step h =
    (canonical_by_parts xs budget e rest).1 (rw step h)

-- no step is left
pub value_no_step : (canonical : Bool) (budget : Budget) → budget ≡ Some 0 → (xs : List ℕ)
    → RejectsOneValue canonical budget xs (depth_overflow value_name) xs
value_no_step false budget none xs = rw none (refl, refl)
value_no_step true budget none xs = rw none (refl, refl)

-- no byte is left
pub value_no_byte : (canonical : Bool) (budget : Budget) (z : InputError) (rest : List ℕ)
    → Is (eof value_name (Small 1)) [] z rest → RejectsUnder canonical budget [] z rest
value_no_byte false budget z rest is = is
value_no_byte true budget z rest is = is

-- ---- a call after others

-- what they read, and left the budget as it was
pub does_under : {V E : Type 0} (P : List ℕ → List ℕ → Type 0) (A : Budget → Accepting V)
    (B : Accepting V) (S : Budget → Rejection) (T : Rejection) {r : Result V (DecodeError E)}
    {a m b : View} → ((xs ys zs : List ℕ) (v : V) → P xs ys → A a.budget ys v zs → B xs v zs)
    → ((xs ys : List ℕ) (e : InputError) (rest : List ℕ) → P xs ys → S a.budget ys e rest
    → T xs e rest) → Reached P a m → Does (A m.budget) (S m.budget) m b r → Does B T a b r
does_under P A B S T {r = r} {a = a} {m = m} {b = b} f g p d =
    does_after P (A a.budget) B (S a.budget) T f g p
    (subst (λ o. Does (A o) (S o) m b r) p.kept.budget d)

-- ---- heads that are rejected

pub small_count : (name : List ℕ) (w : Width)
    → eof name (Small (byte_count w)) ≡ eof name (len_of (byte_count w))
small_count name in_first = refl
small_count name _ = refl

pub width_begins : (major b : ℕ) (w : Width) → b / 32 ≡ major → info_of (b % 32) ≡ wide w
    → Begins major 8 b w
width_begins major b w m is = by_width w (says_width (b % 32) w is)
  where
    by_width : (w : Width) → WidthSays w (b % 32) → Begins major 8 b w
    by_width in_first h = record {
      argument = b % 32;
      fits = omega (arith, h);
      allowed = omega arith;
      is = omega (arith, m);
    }
    by_width _ h =
        record { argument = 0; fits = omega arith; allowed = omega arith; is = omega (arith, m, h) }

pub begins_width : (major b : ℕ) (w : Width) → Begins major 8 b w → info_of (b % 32) ≡ wide w
begins_width major b w h =
    let low : b % 32 ≡ additional w h.argument =
    omega (arith, h.is, additional-lt h.argument w h.fits) in
    ap info_of low ∙ info-additional h.argument w h.fits

width_once : (w v : Width) (i : Info) → i ≡ wide w → i ≡ wide v → w ≡ v
width_once w v i p q = cc

-- a head of this row is cut
pub head_cut : (name : List ℕ) (major b : ℕ) (bs : List ℕ) (w : Width) (e : InputError)
    (rest : List ℕ) → b / 32 ≡ major → info_of (b % 32) ≡ wide w
    → RejectsHead name major 8 (b ∷ bs) e rest → MissingAll name (byte_count w) bs e rest
head_cut name major b bs w e rest m is (inl h) = absurd (h.none w (width_begins major b w m is))
head_cut name major b bs w e rest m is (inr h) =
    let same : h.wide ≡ w =
    width_once h.wide w (info_of (b % 32)) (begins_width major b h.wide h.begins) is in
    rw (← same) (h.short, (h.answer ∙ small_count name h.wide, h.left))

-- a byte that is no head's
pub no_head : (name : List ℕ) (major b : ℕ) (bs : List ℕ) (e : InputError) (rest : List ℕ)
    → ((w : Width) → info_of (b % 32) ≡ wide w → ⊥) → RejectsHead name major 8 (b ∷ bs) e rest
    → Is (mismatch name b) bs e rest
no_head name major b bs e rest none (inl h) = (h.answer, h.left)
no_head name major b bs e rest none (inr h) =
    absurd (none h.wide (begins_width major b h.wide h.begins))

pub initial_of : (b major : ℕ) → b / 32 ≡ major → initial b ≡ by_major major (b % 32)
unfolding initial
initial_of b major m = ap (λ j. by_major j (b % 32)) m

pub indefinite_byte : (major b : ℕ) → b / 32 ≡ major → info_of (b % 32) ≡ indefinite_ended →
    b ≡ indefinite_head major
indefinite_byte major b m is =
    let low : b % 32 ≡ 31 = subst (InfoSays (b % 32)) is (info_says (b % 32)) in
    omega (arith, low, m)

-- an integer's head is rejected
pub int_rejects : (inner : Budget) (s : Sign) (b : ℕ) (bs : List ℕ) (e : InputError) (rest : List ℕ)
    → b / 32 ≡ sign_major s → RejectsHead (sign_name s) (sign_major s) 8 (b ∷ bs) e rest
    → RejectsUnder false inner (b ∷ bs) e rest
int_rejects inner s b bs e rest m h =
    rw (initial_of b (sign_major s) m ∙ row s (b % 32)) (by_info (info_of (b % 32)) refl)
  where
    row : (s : Sign) (i : ℕ) → by_major (sign_major s) i ≡ int_by_info s (info_of i)
    row unsigned i = refl
    row negative i = refl

    by_info : (i : Info) → info_of (b % 32) ≡ i → ReadingRejectsBy (λ left part. ReadingRejects part
        left) inner (int_by_info s i) b bs e rest
    by_info (wide w) is = head_cut (sign_name s) (sign_major s) b bs w e rest m is h
    by_info _ is = no_head (sign_name s) (sign_major s) b bs e rest (λ w f. cc) h

-- ---- integers

abbrev pub Peeked : ℕ → List ℕ → List ℕ → Type 0
Peeked b xs ys = (bs : List ℕ) × (xs ≡ b ∷ bs) × (ys ≡ xs)

pub small_z : (v : ℕ) → v < 2 ^ 127 → to_z w128 v ≡ pos v
small_z v h = to_z-of_z w128 (pos v) (record { sfits = h })

pub fits_less : (w : Width) (v : ℕ) → HeadFits w v → v < 2 ^ 127
fits_less in_first v h = omega arith
fits_less _ v h = omega arith

-- ---- a head, by its width

-- by its width
pub head_by : (canonical : Bool) (major n : ℕ) (xs ys : List ℕ) (w : Width) → HeadFits w n
    → (canonical ≡ true → w ≡ shortest_width n) → xs ≡ head major n w ++ ys
    → HeadAt canonical major n xs ys
head_by false major n xs ys w fits least is = (w, fits, is)
head_by true major n xs ys w fits least is = (
  argument_below w n fits,
  is ∙ ap (λ u. head major n u ++ ys) (least refl),
)

-- the width that it has
pub width_of_head : (canonical : Bool) (major n : ℕ) (xs ys : List ℕ)
    → HeadAt canonical major n xs ys → (w : Width) × HeadFits w n
    × (canonical ≡ true → w ≡ shortest_width n) × (xs ≡ head major n w ++ ys)
width_of_head false major n xs ys h = (h.0, h.1, (λ e. cc), h.2)
width_of_head true major n xs ys h = (
  shortest_width n,
  shortest_fits n h.0,
  (λ e. refl),
  h.1,
)

-- ---- a first byte that was shown

pub begins_with : (first : ℕ) (trailing shown xs : List ℕ) → shown ≡ first ∷ trailing
    → take (length shown) xs ≡ shown → xs ≡ first ∷ drop 1 xs
begins_with first trailing shown xs is e =
    by_first xs (subst (λ s. take (length s) xs ≡ s) is e)
  where
    by_first : (xs : List ℕ) → take (length (first ∷ trailing)) xs ≡ first ∷ trailing
        → xs ≡ first ∷ drop 1 xs
    by_first [] f = cc
    by_first (x ∷ xs) f = let g : x ≡ first = cc in ap (λ c. c ∷ xs) g

-- shown bytes are taken
pub shown_taken : {want size : ℕ} {shown : List ℕ} {a m b : View} → Shows shown a m
    → IfKnown a.known (IsPrefix want shown) → size ≤ length shown → IsBytes (take size shown)
    → Advances size m b → Reached (λ xs ys. xs ≡ take size shown ++ ys) a b
shown_taken {size = size} {shown = shown} shows prefix within fresh adv =
    let l = lends_prefix shows prefix within fresh refl adv in
    record {
      kept = l.kept;
      at = λ xs known.
          let t = l.at xs known in (
            drop size xs,
            t.1,
            sym (take-append-drop size xs) ∙ ap (λ r. r ++ drop size xs) (sym t.2),
          );
    }

module _ (first : ℕ) {a m : View} (s : ShowsFirst first a m) where
  -- it stays
  pub peeked_first : Reached (Peeked first) a m
  peeked_first = record {
    kept = shows_kept s.shows;
    at = λ xs known. (
      xs,
      s.shows.known xs known,
      (drop 1 xs, begins_with first s.is.0 s.shown xs s.is.1 (s.prefix xs known).begins, refl),
    );
  }

  -- it is taken
  pub taken_first : first < 256 → {c : View} → Advances 1 m c
      → Reached (λ xs ys. xs ≡ first ∷ ys) a c
  taken_first small adv =
      let l = lends_prefix s.shows s.prefix (omega (arith, ap length s.is.1))
      (subst (λ x. IsBytes (take 1 x)) (sym s.is.1) (small, tt)) refl adv in
      record {
        kept = l.kept;
        at = λ xs known. (
          drop 1 xs,
          (l.at xs known).1,
          begins_with first s.is.0 s.shown xs s.is.1 (s.prefix xs known).begins,
        );
      }

  -- what a call does after it
  pub after_first : {V E : Type 0} (A : Budget → Accepting V) (S : Budget → Rejection)
      {r : Result V (DecodeError E)} {b : View} → Does (A m.budget) (S m.budget) m b r
      → Does (A a.budget) (S a.budget) a b r
  after_first A S d =
      does_under (λ xs ys. ys ≡ xs) A _ S _
      (λ xs ys zs v e h. rw (← e) h) (λ xs ys z rest e h. rw (← e) h) (reached_as (Peeked first) _
      (λ xs ys p. p.2) peeked_first) d

-- ---- the value that comes next

module _ {canonical : Type 0} (n : Next) {a m : View} (s : ShowsNext canonical n a m) where
  pub next_first : ShowsFirst n.first a m
  next_first = record {
    shown = s.shown;
    shows = s.shows;
    prefix = s.prefix;
    is = (s.is.trailing, s.is.begins);
  }

  -- the look left all where it was
  pub peeks_next : Reached (Peeked n.first) a a
  peeks_next = record {
    kept = kept_alike a;
    at = λ xs known.
        let t = (peeked_first n.first next_first).at xs known in (xs, known, (t.2.0, t.2.1, refl));
  }

  -- what a call does after it
  pub after_next : {V E : Type 0} (A : Budget → Accepting V) (S : Budget → Rejection)
      {r : Result V (DecodeError E)} {b : View} → Does (A m.budget) (S m.budget) m b r
      → Does (A a.budget) (S a.budget) a b r
  after_next A S d = after_first n.first next_first A S d

  -- under a step
  pub next_stepped : {b : View} → KeepsAllButBudget m b → ShowsNext canonical n
      (with_budget b.budget a) b
  next_stepped k = record {
    shown = s.shown;
    shows = record {
      known = λ xs known. k.known ∙ s.shows.known xs known;
      bound = omega (arith, s.shows.bound, k.bound);
      advanceable = omega (arith, s.shows.advanceable, k.advanceable);
      budget = refl;
      failures = k.failures ∙ s.shows.failures;
      taken = k.taken ∙ s.shows.taken;
      zero_copy = λ w. subst IsTrue (sym k.zero_copy) (s.shows.zero_copy w);
      remembers = λ w. subst IsTrue (sym k.remembers) (s.shows.remembers w);
      ends_at = k.ends_at ∙ s.shows.ends_at;
    };
    prefix = s.prefix;
    is = s.is;
  }

  -- the step is one of the view before the look
  pub next_step : (b : View) → StepsIn m.budget b.budget true
      → StepsIn a.budget (with_budget b.budget a).budget true
  next_step b h = subst (λ o. StepsIn o b.budget true) s.shows.budget h

-- the bound falls by the bytes of its head
pub head_gains : (n : Next) {m c : View} (h : Head) → CanTake n m → n.head ≡ Some h
    → Advances h.size m c → c.bound + 1 ≤ m.bound
head_gains n {m = m} h can is adv =
    let t = subst (λ o. IfSome o (λ h. (1 ≤ h.size) × (h.size ≤ m.advanceable))) is can.head in
    omega (arith, t.0, t.1, adv.bound)

-- its head was taken
pub takes_head : (canonical : Bool) (n : Next) {a m c : View} (major : ℕ) (h : Head)
    → ShowsNext (canonical ≡ true) n a m → n.head ≡ Some h → n.first / 32 ≡ major
    → Advances h.size m c → Reached (HeadAt canonical major h.argument) a c
takes_head canonical n major h s is e adv =
    let t = subst (λ o. IfSome o (λ h. HeadStands (canonical ≡ true) (n.first / 32) h.argument
    h.size
    s.shown)) is s.is.head in
    reached_as (λ xs ys. xs ≡ take h.size s.shown ++ ys) _ (λ xs ys f. head_by canonical major
    h.argument xs ys t.width t.fits t.least
    (f ∙ ap (λ r. r ++ ys) (t.is ∙ ap (λ j. head j h.argument t.width) e)))
    (shown_taken s.shows s.prefix t.within t.fresh adv)

-- ---- after a byte that was looked at

pub at_row : (inner : Budget) (i : Initial) (b : ℕ) (bs : List ℕ) (e : InputError) (rest : List ℕ)
    → initial b ≡ i → ReadingRejectsBy (λ left part. ReadingRejects part left) inner i b bs e rest
    → RejectsUnder false inner (b ∷ bs) e rest
at_row inner i b bs e rest is h =
    rw is h

pub at_major : (k : ℕ) (budget : Budget) (b : ℕ) (bs : List ℕ) (e : InputError) (rest : List ℕ)
    → b / 32 ≡ k → CanonicalRejectsBy (RejectsOneValue true) budget k b bs e rest
    → RejectsUnder true budget (b ∷ bs) e rest
at_major k budget b bs e rest is h =
    subst (λ j. CanonicalRejectsBy (RejectsOneValue true) budget j b bs e rest) (sym is) h

module _ (canonical : Bool) (b : ℕ) {E : Type 0} {a m : View}
    (first : Reached (Peeked b) a m) where
  pub arm_does : (A : Accepting Value) (S : Rejection) {r : Result Value (DecodeError E)} {c : View}
      → ((bs ys : List ℕ) (v : Value) → A (b ∷ bs) v ys → ReadsUnder canonical a.budget (b ∷ bs) v
      ys)
      → ((bs : List ℕ) (z : InputError) (rest : List ℕ) → S (b ∷ bs) z rest
      → RejectsUnder canonical a.budget (b ∷ bs) z rest)
      → Does A S m c r → Does (ReadsUnder canonical a.budget) (RejectsUnder canonical a.budget) a c
      r
  arm_does A S f g d =
      does_after (Peeked b) A _ S _ (λ xs ys zs v p h. rw p.1 (f p.0 zs v (rw (← p.2 ∙ p.1) h))) (λ
      xs ys z rest p h. rw p.1 (g p.0 z rest (rw (← p.2 ∙ p.1) h))) first d

  -- what its major type reports
  pub major_arm : (major : ℕ) → b / 32 ≡ major → {r : Result Value (DecodeError E)} {c : View}
      → Does (ReadsUnder canonical a.budget) (RejectsOf canonical major a.budget) m c r
      → Does (ReadsUnder canonical a.budget) (RejectsUnder canonical a.budget) a c r
  major_arm major is d =
      arm_does (ReadsUnder canonical a.budget) (RejectsOf canonical major a.budget) (λ bs ys v h. h)
      (λ bs z rest h. h b bs refl is) d

  -- what a first byte reports
  pub first_does : {r : Result Value (DecodeError E)} {c : View}
      → Does (ReadsUnder canonical m.budget) (RejectsFirst canonical b m.budget) m c r
      → Does (ReadsUnder canonical a.budget) (RejectsUnder canonical a.budget) a c r
  first_does d =
      arm_does (ReadsUnder canonical m.budget) (RejectsFirst canonical b m.budget)
      (λ bs ys v h. rw (← first.kept.budget) h) (λ bs z rest h. rw (← first.kept.budget) (h bs
      refl)) d

-- ---- heads

pub head_at : (canonical : Bool) (major n : ℕ) (xs : List ℕ) (k : ℕ)
    → (h : ReadsHead major 8 xs n k)
    → (canonical ≡ true → h.wide ≡ shortest_width n) → HeadAt canonical major n xs (drop k xs)
head_at canonical major n xs k h least =
    head_by canonical major n xs (drop k xs) h.wide h.fits least
    (h.is ∙ ap (λ z. head major n h.wide ++ z) (sym (rest_after_head major 8 xs n k h)))

pub first_is : (b : ℕ) (xs : List ℕ) → take 1 xs ≡ b ∷ [] → xs ≡ b ∷ drop 1 xs
first_is b [] e = cc
first_is b (x ∷ xs) e = let f : x ≡ b = cc in ap (λ c. c ∷ xs) f

-- after it something is rejected
pub after_shortest : {major : ℕ} {then : ℕ → Rejection} {xs : List ℕ} {e : InputError}
    {rest : List ℕ} (n : ℕ) (ys : List ℕ) → ShortestAt major n xs ys → then n ys e rest
    → AfterShortest major then xs e rest
after_shortest n ys is rejected = record { argument = n; after = ys; is = is; rejected = rejected }

-- ---- integers

below_zero : (v : ℕ) → negsuc 0 -ℤ pos v ≡ negsuc v
below_zero zero = refl
below_zero (suc v) = let e : 0 + v ≡ v = omega arith in ap (λ j. negsuc (suc j)) e

pub negative_z : (v : ℕ) → v < 2 ^ 127 → to_z w128 (of_z w128 (negsuc 0 -ℤ to_z w128 v)) ≡ negsuc v
negative_z v h =
    ap (λ z. to_z w128 (of_z w128 (negsuc 0 -ℤ z))) (small_z v h) ∙ ap (λ z. to_z w128
    (of_z w128 z)) (below_zero v) ∙ to_z-of_z w128 (negsuc v) (record { sfits = h })

int_reads : (canonical : Bool) (s : Sign) (inner : Budget) (n : ℕ) (z : ℤ) (xs ys : List ℕ)
    → HeadAt canonical (sign_major s) n xs ys → number s n ≡ z
    → ReadsUnder canonical inner xs (Integer z) ys
int_reads canonical s inner n z xs ys at is budget step =
    let h = width_of_head canonical (sign_major s) n xs ys at in (
      int s n h.0,
      whole canonical budget (int s n h.0) (h.1, tt) h.2 (step_up budget inner 0 step
          (fits_zero inner)),
      ap integer is ∙ sym (view-Integer z),
      h.3,
    )

pub unsigned_reads : (canonical : Bool) (inner : Budget) (n : ℕ) (xs ys : List ℕ)
    → HeadAt canonical 0 n xs ys → ReadsUnder canonical inner xs (Integer (to_z w128 n)) ys
unsigned_reads canonical inner n xs ys at =
    let h = width_of_head canonical 0 n xs ys at in
    int_reads canonical unsigned inner n _ xs ys at (sym (small_z n (fits_less h.0 n h.1)))

pub negative_reads : (canonical : Bool) (inner : Budget) (n : ℕ) (xs ys : List ℕ)
    → HeadAt canonical 1 n xs ys
    → ReadsUnder canonical inner xs (Integer (to_z w128 (of_z w128 (negsuc 0 -ℤ to_z w128 n)))) ys
negative_reads canonical inner n xs ys at =
    let h = width_of_head canonical 1 n xs ys at in
    int_reads canonical negative inner n _ xs ys at (sym (negative_z n (fits_less h.0 n h.1)))

-- ---- simple values

pub simple_read : (canonical : Bool) {E : Type 0} (b : ℕ) {a m c : View} {v : Value}
    → ShowsFirst b a m → b < 256 → Advances 1 m c
    → (canonical ≡ true → b ≢ simple_byte simple_undefined) → SimpleOf b (Some v) → Does {E = E}
    (ReadsUnder canonical a.budget) (RejectsUnder canonical a.budget) a c (Ok v)
simple_read canonical b {a = a} {v = v} first small adv defined s =
    does_ok _ _ (reached_as (λ xs ys. xs ≡ b ∷ ys) _ (λ xs ys e budget step. (
      simple s.0,
      whole canonical budget (simple s.0) (tt, tt)
          (λ holds u. defined holds (s.1 ∙ ap simple_byte u))
          (step_up budget a.budget 0 step (fits_zero a.budget)),
      s.2,
      e ∙ ap (λ j. j ∷ ys) s.1,
    )) (taken_first b first small adv))

-- undefined is not canonical
pub undefined_rejected : (canonical : Bool) {E : Type 0} (b : ℕ) {e : DecodeError E} {a m c : View}
    → ShowsFirst b a m → b < 256 → Advances 1 m c
    → (canonical ≡ true) × (b ≡ simple_byte simple_undefined)
    → input_error_of e ≡ Some (not_canonical canonical_name) → is_read e ≡ false
    → is_depth_overflow e ≡ false → Does {V = Value} (ReadsUnder canonical a.budget)
    (RejectsUnder canonical a.budget) a c (Err e)
undefined_rejected false b first small adv is says read shallow = absurd (false_true is.0)
  where
    false_true : false ≡ true → ⊥
    false_true e = cc
undefined_rejected true b {a = a} first small adv is says read shallow =
    does_reject (λ xs ys. xs ≡ b ∷ ys) _ _ (not_canonical canonical_name) says read shallow (λ xs ys
    e. rw e (at_major 7 a.budget b ys (not_canonical canonical_name) ys (omega (arith, is.1)) (rw
    (ap initial is.1 ∙ initial_simple simple_undefined) (refl, refl)))) (taken_first b first small
    adv)

-- ---- what a first byte reports

pub leaf_read : (canonical : Bool) {V E : Type 0} (R : List ℕ → V → ℕ → ℕ → Type 0) {v : V}
    (w : Value)
    {S : Rejection} {a c : View} → ((xs : List ℕ) (n k : ℕ) → CostFits k a.budget → R xs v n k
    → ReadsUnder canonical a.budget xs w (drop n xs)) → Moves {E = E} a c (Ok v) → Sound R a c v
    → Does {E = E} (ReadsUnder canonical a.budget) S a c (Ok w)
leaf_read canonical R w {S = S} {a = a} f moves s =
    does_ok _ S (reached_sound R (λ xs ys. ReadsUnder canonical a.budget xs w ys) f moves s)

pub leaf_rejected : (canonical : Bool) {V E : Type 0} (first : ℕ)
    (S : List ℕ → Option ℕ → InputError → List ℕ → Type 0) {a c : View} {e : DecodeError E} → ((bs
    : List ℕ) (z : InputError) (rest : List ℕ) → S (first ∷ bs) a.budget z rest
    → RejectsUnder canonical
    a.budget (first ∷ bs) z rest) → Moves {V = V} a c (Err e) → Rejects S a c e → Does {V = Value}
    (ReadsUnder canonical a.budget) (RejectsFirst canonical first a.budget) a c (Err e)
leaf_rejected canonical {V = V} first S {a = a} f moves s =
    does_err (λ xs ys. xs ≡ ys) _ _ (λ xs. S xs a.budget) _ (λ xs ys z rest e h bs is. subst (λ x.
    RejectsUnder canonical a.budget x z rest) (sym is)
    (f bs z rest (subst (λ x. S x a.budget z rest)
    (sym e ∙ is) h))) (reached_start (λ xs ys. xs ≡ ys) a (λ xs. refl)) (does_rejects
    (λ xs (v : V) ys. Unit {0}) S moves s)

-- ---- floats

pub view-F16 : (n : ℕ) → float half n ≡ view (Float (F16 n))
view-F16 n = search (rules, the_lemmas)

pub view-F32 : (n : ℕ) → float single n ≡ view (Float (F32 n))
view-F32 n = search (rules, the_lemmas)

pub view-F64 : (n : ℕ) → float double n ≡ view (Float (F64 n))
view-F64 n = search (rules, the_lemmas)

pub float_read : (canonical : Bool) {E : Type 0} (p : Precision) {V : Type 0} (content : V → ℕ)
    {v : V}
    (f : FloatBits) {S : Rejection} {a c : View} → float p (content v) ≡ view (Float f)
    → Moves {E = E} a c (Ok v) → Sound (λ xs v. ReadsFloat (precision_byte p) (precision_bytes p) xs
    (content v)) a c v → Does {E = E} (ReadsUnder canonical a.budget) S a c (Ok (Float f))
float_read canonical p content {v = v} f {a = a} is moves s =
    leaf_read _ (λ xs v. ReadsFloat (precision_byte p) (precision_bytes p) xs (content v)) _ (λ xs n
    k _ r budget step.
    let prefix = float_bytes (precision_byte p) (precision_bytes p) (content v) in
    let left : drop n xs ≡ r.rest = ap (drop n) r.is ∙ ap (λ j. drop j (prefix ++ r.rest)) (r.size ∙
    sym (ap suc (length-bytes_high_first _ _))) ∙ drop-append_seam prefix r.rest in (
      bits p (content v),
      whole canonical budget (bits p (content v)) (r.fits, tt) (λ e. tt)
          (step_up _ _ 0 step (fits_zero _)),
      is,
      r.is ∙ ap (λ z. prefix ++ z) (sym left),
    )) moves s

missing_bits : (p : Precision) (name : List ℕ)
    → eof name (Small (precision_bytes p)) ≡ eof name (len_of (precision_bytes p))
missing_bits half name = refl
missing_bits _ name = refl

pub float_cut : (p : Precision) (b : ℕ) (bs : List ℕ) (e : InputError) (rest : List ℕ)
    (budget : Budget) → b ≡ precision_byte p
    → RejectsFloat (precision_name p) (precision_byte p) (precision_bytes p) (b ∷ bs) budget e rest
    → MissingAll (precision_name p) (precision_bytes p) bs e rest
float_cut p b bs e rest budget is (inl h) = absurd (h.0 is)
float_cut p b bs e rest budget is (inr h) =
    let i = h.is in
    let same : h.trailing ≡ bs = cc in (
      subst (λ z. length z < precision_bytes p) same h.short,
      (h.answer ∙ missing_bits p (precision_name p), h.left),
    )

pub precision_major : (p : Precision) → precision_byte p / 32 ≡ 7
precision_major half = refl
precision_major _ = refl

float_row : (canonical : Bool) (p : Precision) (inner : Budget) (b : ℕ) (bs : List ℕ)
    (e : InputError)
    (rest : List ℕ) → b ≡ precision_byte p
    → MissingAll (precision_name p) (precision_bytes p) bs e rest
    → RejectsUnder canonical inner (b ∷ bs) e rest
float_row false p inner b bs e rest is h =
    at_row inner (starts_bits p) b bs e rest (ap initial is ∙ initial_bits p) h
float_row true p inner b bs e rest is h =
    at_major 7 inner b bs e rest (ap (λ j. j / 32) is ∙ precision_major p)
    (subst (λ i. CanonicalOtherRejects i b bs e rest) (sym (ap initial is ∙ initial_bits p)) h)

pub float_rejected : (canonical : Bool) {V E : Type 0} (p : Precision) (first : ℕ) {a c : View}
    {e : DecodeError E} → first ≡ precision_byte p → Moves {V = V} a c (Err e)
    → Rejects (RejectsFloat (precision_name p) (precision_byte p) (precision_bytes p)) a c e
    → Does {V = Value} (ReadsUnder canonical a.budget) (RejectsFirst canonical first a.budget) a c
    (Err e)
float_rejected canonical p first {a = a} is moves s =
    leaf_rejected canonical first (RejectsFloat (precision_name p) (precision_byte p)
    (precision_bytes p)) (λ bs z rest h. float_row canonical p a.budget first bs z rest is
    (float_cut p
    first bs z rest a.budget is h)) moves s

other_row : (i : ℕ) → i ≢ 20 → i ≢ 21 → i ≢ 22 → i ≢ 23 → i ≢ 25 → i ≢ 26 → i ≢ 27
    → simple_by_info i ≡ other_simple
other_row i a b c d e f g =
    rw (
      ne_eqb i 20 a,
      ne_eqb i 21 b,
      ne_eqb i 22 c,
      ne_eqb i 23 d,
      ne_eqb i 25 e,
      ne_eqb i 26 f,
      ne_eqb i 27 g,
    ) refl

pub other_byte : (b : ℕ) → 224 ≤ b → b < 256 → ((s : Simple) → b ≡ simple_byte s → ⊥) → b ≢ 249
    → b ≢ 250 → b ≢ 251 → initial b ≡ other_simple
other_byte b low high none e f g =
    let m : b / 32 ≡ 7 = omega arith in
    initial_of b 7 m ∙ other_row (b % 32) (λ h. none simple_false (omega (arith, h)))
    (λ h. none simple_true (omega (arith, h))) (λ h. none simple_null (omega (arith, h)))
    (λ h. none simple_undefined (omega (arith, h))) (λ h. e (omega (arith, h)))
    (λ h. f (omega (arith, h))) (λ h. g (omega (arith, h)))

other_rejected : (canonical : Bool) (inner : Budget) (b : ℕ) (bs : List ℕ) → b / 32 ≡ 7
    → initial b ≡ other_simple
    → RejectsUnder canonical inner (b ∷ bs) (unsupported value_name b) (b ∷ bs)
other_rejected false inner b bs m is = at_row inner other_simple b bs _ _ is (refl, refl)
other_rejected true inner b bs m is =
    at_major 7 inner b bs _ _ m (rw is (refl, refl))

pub no_value : (canonical : Bool) {E : Type 0} (first : ℕ) {e : DecodeError E} {a : View}
    → 224 ≤ first
    → first < 256 → ((s : Simple) → first ≡ simple_byte s → ⊥) → first ≢ 249 → first ≢ 250
    → first ≢ 251 → input_error_of e ≡ Some (unsupported value_name first) → is_read e ≡ false
    → is_depth_overflow e ≡ false → Does {V = Value} (ReadsUnder canonical a.budget)
    (RejectsFirst canonical
    first a.budget) a a (Err e)
no_value canonical first {a = a} low high none f g h says read shallow =
    does_reject (λ xs ys. xs ≡ ys) _ _ (unsupported value_name first) says read shallow
    (λ xs ys e bs is. subst (λ x. RejectsUnder canonical a.budget x (unsupported value_name first)
    ys)
    (sym is) (subst (λ y. RejectsUnder canonical a.budget (first ∷ bs)
    (unsupported value_name first) y)
    (sym is ∙ e) (other_rejected canonical a.budget first bs (omega (arith, low, high)) (other_byte
    first low high none f g h)))) (reached_start (λ xs ys. xs ≡ ys) a (λ xs. refl))

-- ---- tags

-- after the head of a tag
pub tagged_ok : (canonical : Bool) {E : Type 0} (n : ℕ) {v : Value} {a c : View} (w : Value)
    → view w ≡ tag n (view v)
    → Does {E = E} (ReadsOneValue canonical a.budget) (RejectsOneValue canonical a.budget) a c
    (Ok v)
    → Does {E = E} (ReadsTagged canonical n a.budget) (RejectsOneValue canonical a.budget) a c
    (Ok w)
tagged_ok canonical n {v = v} {a = a} w is d =
    does_ok _ _ (reached_as (λ xs ys. ReadsOneValue canonical a.budget xs v ys) _ (λ xs ys h.
    (v, is, h)) (reached_by d))

tag_row : (canonical : Bool) (n : ℕ) (inner : Budget) (xs ys : List ℕ) (z : InputError)
    (rest : List ℕ)
    → HeadAt canonical 6 n xs ys → RejectsOneValue canonical inner ys z rest
    → RejectsOf canonical 6 inner xs z rest
tag_row false n inner xs ys z rest h s b bs is m =
    rw h.2 (at_row _ _ _ _ _ _ (initial_tag _ _ h.1) (inr (headed_by n ys h.1 refl s)))
tag_row true n inner xs ys z rest h s b bs is m =
    rw is (at_major 6 _ _ _ _ _ m (inr (after_shortest n ys (rw (← is) h) s)))

pub tag_does : (canonical : Bool) {E : Type 0} (n : ℕ) {r : Result Value (DecodeError E)}
    {a m c : View}
    → Reached (HeadAt canonical 6 n) a m → Does (ReadsTagged canonical n m.budget)
    (RejectsOneValue canonical
    m.budget) m c r → Does (ReadsUnder canonical a.budget) (RejectsOf canonical 6 a.budget) a c r
tag_does canonical n {a = a} p d =
    does_under (HeadAt canonical 6 n) (ReadsTagged canonical n) _ (RejectsOneValue canonical) _
    (λ xs ys zs w at r budget step.
    let h = width_of_head canonical 6 n xs ys at in
    let s = r.2 in
    let t = whole_is canonical a.budget s.0 s.1 in (
      tagged n h.0 s.0,
      whole canonical budget (tagged n h.0 s.0) ((h.1, t.0.0), t.0.1) (λ e. (h.2 e, t.1 e))
          (step_up budget a.budget (cost s.0) step t.2),
      ap (tag n) s.2 ∙ sym r.1,
      h.3 ∙ ap (λ z. head 6 n h.0 ++ z) s.3
          ∙ sym (append_assoc (head 6 n h.0) (bytes s.0) zs),
    )) (λ xs ys z rest. tag_row canonical n a.budget xs ys z rest) p d

pub tag_rejects : (inner : Budget) (b : ℕ) (bs : List ℕ) (e : InputError) (rest : List ℕ) →
    b / 32 ≡ 6
    → RejectsHead tag_name 6 8 (b ∷ bs) e rest → RejectsUnder false inner (b ∷ bs) e rest
tag_rejects inner b bs e rest m h =
    at_row _ _ _ _ _ _ (initial_of _ 6 m) (by_info _ refl)
  where
    by_info : (i : Info) → info_of (b % 32) ≡ i
        → ReadingRejectsBy (λ left part. ReadingRejects part left) inner (tag_by_info i) b bs e rest
    by_info (wide w) is = inl (head_cut _ 6 _ _ _ _ _ m is h)
    by_info _ is = no_head tag_name 6 b bs e rest (λ w f. cc) h

-- the number that the head of a tag has
pub tag_taken : {E : Type 0} {a c : View} (r : Option ℕ) (failure : Option (DecodeError E))
    → Moves a c (value_or_error r failure) → IfOk (value_or_error r failure)
    (Sound (ReadsArgument 6 8) a c)
    → IfErr (value_or_error r failure) (Rejects (RejectsArgument tag_name 6 8) a c) → Does
    (TakesTag false a.budget) (RejectsOf false 6 a.budget) a c (value_or_error r failure)
tag_taken {a = a} (Some n) failure moves s h =
    does_ok _ _ (reached_sound (ReadsArgument 6 8) (HeadAt false 6 n) (λ xs k c _ r. head_at false 6
    n xs k r.0 (λ e. cc)) moves s)
tag_taken {a = a} None failure moves s h =
    call_rejects (TakesTag false a.budget) (RejectsArgument tag_name 6 8) (RejectsOf false 6
    a.budget) (λ xs z rest h b bs is m. subst (λ x. RejectsUnder false a.budget x z rest) (sym is)
    (tag_rejects _ _ _ _ _ m (subst (λ x. RejectsHead tag_name 6 8 x z rest) is h))) moves h

-- ---- no byte is left where a value is to begin

-- an end of the input there fails so
abbrev pub Ending : Rejection → Type 0
Ending T = (z : InputError) (rest : List ℕ) → Is (eof value_name (Small 1)) [] z rest → T [] z rest

-- a look has shown no byte
pub none_shown : {V E : Type 0} (A : Accepting V) (T : Rejection) → Ending T → (want : ℕ)
    {shown : List ℕ} {a b : View} {name : Bor (List ℕ)} → name.now ≡ value_name → 0 < want
    → Shows shown a b → IfKnown a.known (IsPrefix want shown) → length shown ≡ 0
    → Does {V = V} {E = E} A T a b (Err (Eof name (Small 1)))
none_shown A T ends want is some shows prefix none =
    let z = eof value_name (Small 1) in
    does_reject (λ xs ys. (xs ≡ []) × (ys ≡ [])) A T z (ap (λ n. Some (eof n (Small 1))) is) refl
    refl (λ xs ys h. subst (λ x. T x z ys) (sym h.0) (ends z ys (refl, h.1))) (record {
      kept = shows_kept shows;
      at = λ xs known.
          let e : xs ≡ [] = (prefix xs known).ends some none in
          ([], shows.known xs known ∙ ap Some e, (e, refl));
    })

-- what a slice of bytes shows
pub fresh_shown : (shown : List ℕ) → ((i : ℕ) → Fits w8 (get_or shown i 0)) → IsBytes shown
fresh_shown shown f = shown_bytes shown (λ i. Fits-lt-pow {w = w8} (f i))

in_range : (s : Sign) (n : ℕ) → n < 2 ^ 127 → IsItem (integer (number s n))
in_range unsigned n h = h
in_range negative n h = h

float_fits : (p : Precision) (w : Width) (n : ℕ) → HeadFits w n
    → additional w n ≡ precision_byte p % 32
    → (byte_count w ≡ precision_bytes p) × (n < 256 ^ precision_bytes p)
float_fits half two n h e = (refl, h)
float_fits single four n h e = (refl, h)
float_fits double eight n h e = (refl, h)
float_fits _ _ n h e = absurd (omega (arith, h, e))

pub simple_item_is : (s : Simple) → IsItem (simple_item s)
simple_item_is simple_false = tt
simple_item_is _ = tt

-- widths differ by how many bytes they have
pub same_width : (w u : Width) → byte_count w ≡ byte_count u → w ≡ u
same_width in_first in_first e = refl
same_width one one e = refl
same_width two two e = refl
same_width four four e = refl
same_width eight eight e = refl
same_width _ _ e = cc

no_sign : (s : Sign) → sign_major s ≢ 7
no_sign unsigned e = absurd (omega (arith, e))
no_sign negative e = absurd (omega (arith, e))

no_kind : (kind : Kind) → kind_major kind ≢ 7
no_kind byte_string e = absurd (omega (arith, e))
no_kind text_string e = absurd (omega (arith, e))

module _ (b n k : ℕ) (bs : List ℕ) (small : b < 256) (fresh : IsBytes bs)
    (a : ArgumentAfter (b % 32) bs n k) where
  stands : k ≤ length bs
  stands =
      omega (arith, ap length a.is, length-append {A = ℕ}, length-bytes_high_first)

  argument : take k bs ≡ bytes_high_first (byte_count a.width) n
  argument =
      ap (take k) a.is ∙ ap (λ j. take j (bytes_high_first k n ++ drop k bs)) (sym
      (length-bytes_high_first k n)) ∙ take-append_seam (bytes_high_first k n) (drop k bs) ∙ ap
      (λ j. bytes_high_first j n) a.size

  least : ShortestHead b n k → b / 32 ≢ 7 → a.width ≡ shortest_width n
  least canonical other = same_width a.width (shortest_width n) (sym a.size ∙ canonical.least other)

  pub int_ahead : (s : Sign) (z : ℤ) (size : ℕ) → size ≡ suc k → b / 32 ≡ sign_major s
      → number s n ≡ z → StandsAhead (ShortestHead b n k) (Integer z) size (b ∷ bs)
  int_ahead s z size e m is =
      subst (λ j. StandsAhead (ShortestHead b n k) (Integer z) j (b ∷ bs)) (sym e) (record {
        some = omega arith;
        within = omega (arith, stands);
        fresh = (small, IsBytes-take k bs fresh);
        item = int s n a.width;
        plain = (a.fits, tt);
        shape = λ canonical. least canonical (λ e7. no_sign s (sym m ∙ e7));
        step = refl;
        means = ap integer is ∙ sym (view-Integer z);
        ranged =
            subst IsItem (sym (view-Integer z))
            (subst (λ i. IsItem (integer i)) is (in_range s n (fits_less a.width n a.fits)));
        is =
            let first : b ≡ 32 * sign_major s + additional a.width n = omega (arith, m, a.says) in
            ap (λ c. c ∷ take k bs) first
            ∙ ap (λ r. (32 * sign_major s + additional a.width n) ∷ r) argument;
      })

  pub float_ahead : (p : Precision) (f : FloatBits) (size : ℕ) → size ≡ suc (precision_bytes p)
      → b ≡ precision_byte p → float p n ≡ view (Float f)
      → StandsAhead (ShortestHead b n k) (Float f) size (b ∷ bs)
  float_ahead p f size e is means =
      let t = float_fits p a.width n a.fits (a.says ∙ ap (λ j. j % 32) is) in
      let same : k ≡ precision_bytes p = a.size ∙ t.0 in
      rw (e ∙ ap suc (sym same)) (record {
        some = omega arith;
        within = omega (arith, stands);
        fresh = (small, IsBytes-take k bs fresh);
        item = bits p n;
        plain = (t.1, tt);
        shape = λ canonical. tt;
        step = refl;
        means = means;
        ranged = subst IsItem means t.1;
        is =
            ap (λ c. c ∷ take k bs) is ∙ ap (λ r. precision_byte p ∷ r) (argument ∙ ap (λ j.
            bytes_high_first j n) t.0);
      })

  pub string_ahead : (kind : Kind) (v : Value) (size : ℕ) (content : List ℕ) → size ≡ suc (k + n)
      → b / 32 ≡ kind_major kind → n ≤ length bs - k → content ≡ take n (drop k bs)
      → TextIsUtf8 kind content → content_item kind content ≡ view v → IsItem (view v)
      → StandsAhead (ShortestHead b n k) v size (b ∷ bs)
  string_ahead kind v size content e m room is valid means ranged =
      let long : length content ≡ n = ap length is
      ∙ length-take-le n (drop k bs) (omega (arith, length-drop k bs, room)) in
      let first : b ≡ 32 * kind_major kind + additional a.width n = omega (arith, m, a.says) in
      subst (λ j. StandsAhead (ShortestHead b n k) v j (b ∷ bs)) (sym e) (record {
        some = omega arith;
        within = omega (arith, stands, room);
        fresh = (small, IsBytes-take (k + n) bs fresh);
        item = string kind a.width content;
        plain = (subst (HeadFits a.width) (sym long) a.fits, valid);
        shape = λ canonical.
            least canonical (λ e7. no_kind kind (sym m ∙ e7)) ∙ ap shortest_width (sym long);
        step = refl;
        means = means;
        ranged = ranged;
        is =
            ap (λ r. b ∷ r) (take-add k n bs) ∙ ap (λ c. c ∷ (take k bs ++ take n (drop k bs)))
            first ∙ ap (λ r. (32 * kind_major kind + additional a.width n)
            ∷ (r ++ take n (drop k bs))) argument ∙ ap (λ r. (32 * kind_major kind + additional
            a.width n) ∷ (bytes_high_first (byte_count a.width) n ++ r)) (sym is) ∙ ap (λ j. head
            (kind_major kind) j a.width ++ content) (sym long);
      })

pub simple_ahead : (b n k : ℕ) (bs : List ℕ) (v : Value) → b < 256 → SimpleOf b (Some v)
    → StandsAhead (ShortestHead b n k) v 1 (b ∷ bs)
simple_ahead b n k bs v small s = record {
  some = omega arith;
  within = omega arith;
  fresh = (small, tt);
  item = simple s.0;
  plain = (tt, tt);
  shape = λ canonical none. canonical.defined (s.1 ∙ ap simple_byte none);
  step = refl;
  means = s.2;
  ranged = subst IsItem s.2 (simple_item_is s.0);
  is = ap (λ c. c ∷ []) s.1;
}

-- ---- so many bytes may be taken

pub record MayTake (size : ℕ) (shown : List ℕ) : Type 0 where
  pub within : size ≤ length shown
  pub fresh : IsBytes (take size shown)

-- the head of a string
pub wants_may : (n : ℕ) (shown : List ℕ) → WantsContent n shown → MayTake n shown
wants_may n shown w = record {
  within = omega (arith, w.head, w.whole, ap length w.begins);
  fresh = w.fresh;
}

-- ---- what a look decides is taken

module _ (canonical : Bool) {E : Type 0} {a m b : View} where
  pub takes_leaf : (v : Value) (size : ℕ)
      → Offers 1 (SeesLeaf (canonical ≡ true) (seen.Whole v size)) a m → Advances size m b
      → Does {E = E} (ReadsUnder canonical a.budget) (RejectsUnder canonical a.budget) a b (Ok v)
  takes_leaf v size o adv =
      does_ok _ _ (reached_as (λ xs ys. xs ≡ take size o.shown ++ ys) _ (λ xs ys e budget step. (
        o.is.item,
        whole canonical budget o.is.item o.is.plain o.is.shape
            (rw o.is.step (step_up budget a.budget 0 step (fits_zero a.budget))),
        o.is.means,
        e ∙ ap (λ r. r ++ ys) o.is.is,
      )) (shown_taken o.shows o.prefix o.is.within o.is.fresh adv))

  pub no_content : (size : ℕ) → Offers 1 (SeesLeaf (canonical ≡ true) (NoMemory size)) a m
      → Advances size m b → Does {V = Value} {E = E}
      (ReadsUnder canonical a.budget) (RejectsUnder canonical a.budget) a b (Err OutOfMemory)
  no_content size o adv =
      let may = wants_may size o.shown o.is in
      does_no_memory _ _ refl (lends_prefix o.shows o.prefix may.within may.fresh refl adv).kept

pub no_leaf : (canonical : Bool) {E : Type 0} {a m : View}
    → Offers 1 (SeesLeaf (canonical ≡ true) End) a m → {name : Bor (List ℕ)} → name.now ≡ value_name
    → Does {V = Value} {E = E} (ReadsUnder canonical a.budget) (RejectsUnder canonical a.budget) a m
    (Err (Eof name (Small 1)))
no_leaf canonical {a = a} o says =
    none_shown (ReadsUnder canonical a.budget) (RejectsUnder canonical a.budget)
    (value_no_byte canonical a.budget) 1 says (omega arith) o.shows o.prefix o.is

-- what follows of what is there
some_as : {A : Type 0} {P Q : A → Type 0} (o : Option A) → ((x : A) → P x → Q x) → IfSome o P
    → IfSome o Q
some_as None f h = tt
some_as (Some x) f h = f x h

pub shown_can : (canonical : Type 0) (n : Next) (a m : View) → ShowsNext canonical n a m
    → CanTake n m
shown_can canonical n a m s = record {
  first = omega (arith, s.shows.advanceable, ap length s.is.begins);
  head =
      some_as n.head (λ h t. (t.some, omega (arith, t.within, s.shows.advanceable))) s.is.head;
}

-- ---- strings of definite length

content_after : (major : ℕ) (xs content : List ℕ) (n : ℕ)
    → (r : ReadsDefiniteString major xs content n) → r.head.rest ≡ content ++ drop n xs
content_after major xs content n r =
    sym (rest_after_head major 8 xs (length content) r.before r.head)
    ∙ sym (take-append-drop (length content) (drop r.before xs)) ∙ ap₂ ◌++◌ r.stands
    (drop_more (length content) r.before xs ∙ ap (λ j. drop j xs) (sym r.size))

definite_is : (major : ℕ) (xs content : List ℕ) (n : ℕ) →
    (r : ReadsDefiniteString major xs content n)
    → xs ≡ (head major (length content) r.head.wide ++ content) ++ drop n xs
definite_is major xs content n r =
    let prefix = head major (length content) r.head.wide in
    r.head.is ∙ ap (λ z. prefix ++ z) (content_after major xs content n r)
    ∙ sym (append_assoc prefix content (drop n xs))

-- ---- chunks

record ChunkTrees (k : Kind) (chunks : List (List ℕ)) (xs : List ℕ) (n : ℕ) : Type 0 where
  trees : Trees
  loose : LooseAll trees
  are : AreChunks k trees
  content : joined_chunks trees ≡ strings.joined_content chunks
  is : xs ≡ bytes_all trees ++ drop n xs
  costs : chunks_cost trees ≡ 1 + chunk_cost chunks
  fit : (budget : Budget) → CostFits (chunk_cost chunks) budget
      → Each (ReadableChunk k budget) trees

chunk_trees : (k : Kind) (chunks : List (List ℕ)) (xs : List ℕ) (n : ℕ)
    → ReadsChunks (kind_major k) chunks xs n → ChunkTrees k chunks xs n
chunk_trees k [] xs n r = record {
  trees = no_trees;
  loose = tt;
  are = tt;
  content = refl;
  is = sym (ap (λ j. drop j xs) r);
  costs = refl;
  fit = λ budget f. tt;
}
chunk_trees k (chunk ∷ chunks) xs n r =
    let t = chunk_trees k chunks (drop r.0 xs) r.1 r.3 in
    let first = string k r.2.head.wide chunk in
    record {
      trees = tree first t.trees;
      loose = (r.2.head.fits, t.loose);
      are = (refl, t.are);
      content = ap (λ z. chunk ++ z) t.content;
      is =
          definite_is (kind_major k) xs chunk r.0 r.2 ∙ ap (λ z. bytes first ++ z) (t.is ∙ ap (λ z.
          bytes_all t.trees ++ z) (drop_more r.1 r.0 xs ∙ ap (λ j. drop j xs) (sym r.4))) ∙ sym
          (append_assoc (bytes first) (bytes_all t.trees) (drop n xs));
      costs = refl;
      fit = λ budget f. ((r.2.head.fits, refl, f), t.fit budget (less chunks budget f));
    }
  where
    less : (chunks : List (List ℕ)) (budget : Budget) → CostFits 1 budget
        → CostFits (chunk_cost chunks) budget
    less [] budget f = fits_zero budget
    less (c ∷ cs) budget f = f

-- ---- strings that are read

record IndefiniteTree (k : Kind) (xs content : List ℕ) (n c : ℕ) : Type 0 where
  trees : Trees
  loose : LooseAll trees
  are : AreChunks k trees
  says : content ≡ joined_chunks trees
  trailing : (bs : List ℕ) → xs ≡ indefinite_head (kind_major k) ∷ bs
      → bs ≡ bytes_all trees ++ break ∷ drop n xs
  begins : xs ≡ indefinite_head (kind_major k) ∷ drop 1 xs
  costs : chunks_cost trees ≡ 1 + c
  fit : (budget : Budget) → CostFits c budget → Each (ReadableChunk k budget) trees

indefinite_tree : (k : Kind) (xs content : List ℕ) (n c : ℕ)
    → strings.ReadsIndefiniteString (kind_major k) xs content n c → IndefiniteTree k xs content n c
indefinite_tree k xs content n c r =
    let t = chunk_trees k r.chunks (drop 1 xs) r.between r.read in
    let whole = first_is (indefinite_head (kind_major k)) xs r.begins in
    let ended : drop r.between (drop 1 xs) ≡ break ∷ drop n xs =
    drop_more r.between 1 xs ∙ first_is break (drop (1 + r.between) xs) r.ends
    ∙ ap (λ z. break ∷ z) (drop_more 1 (1 + r.between) xs ∙ ap (λ j. drop j xs)
    (let e : 1 + r.between + 1 ≡ 2 + r.between = omega arith in e ∙ sym r.size)) in
    record {
      trees = t.trees;
      loose = t.loose;
      are = t.are;
      says = r.value ∙ sym t.content;
      trailing = λ bs e. (let same : drop 1 xs ≡ bs = ap (drop 1) e in
          sym same ∙ t.is ∙ ap (λ z. bytes_all t.trees ++ z) ended);
      begins = whole;
      costs = t.costs ∙ ap (λ j. 1 + j) (sym r.cost);
      fit = λ budget f. t.fit budget (subst (λ j. CostFits j budget) r.cost f);
    }

string_tree : (k : Kind) (budget inner : Budget) (xs content : List ℕ) (n c : ℕ)
    → step_in budget ≡ Some inner → CostFits c inner → TextIsUtf8 k content
    → ReadsString (kind_major k) xs content n c → (t : Tree) × Readable budget t
    × (value t ≡ content_item k content) × (xs ≡ bytes t ++ drop n xs)
string_tree k budget inner xs content n c step fits valid (inl r) = (
  string k r.0.head.wide content,
  ((r.0.head.fits, valid), step_up budget inner 0 step (fits_zero inner)),
  refl,
  definite_is (kind_major k) xs content n r.0,
)
string_tree k budget inner xs content n c step fits valid (inr r) =
    let o = indefinite_tree k xs content n c r in (
      chunked k o.trees,
      (
        (o.loose, (o.are, subst (TextIsUtf8 k) o.says valid)),
        subst (λ j. CostFits j budget) (sym o.costs) (step_up budget inner c step fits),
      ),
      ap (content_item k) (sym o.says),
      o.begins ∙ ap (λ z. indefinite_head (kind_major k) ∷ z) (o.trailing (drop 1 xs) o.begins
          ∙ sym (append_assoc (bytes_all o.trees) (break ∷ []) (drop n xs))),
    )

-- ---- strings that are rejected

record CutRow (k : Kind) (b : ℕ) (bs : List ℕ) (e : InputError) (rest : List ℕ) : Type 0 where
  width : Width
  row : initial b ≡ starts_string k width
  below : b < 255
  cut : CutString k width b bs e rest

cut_content : (k : Kind) (b : ℕ) (bs : List ℕ) (e : InputError) (rest : List ℕ)
    → CutContent (kind_name k) (kind_major k) (b ∷ bs) e rest → CutRow k b bs e rest
cut_content k b bs e rest h =
    let w = h.head.wide in
    let first = first_byte (kind_major k) h.count w b bs h.head.rest h.head.is in
    let size : length (b ∷ bs) ≡ h.before + length h.head.rest =
    omega (
      arith,
      ap length h.head.is,
      length-append (bytes_high_first (byte_count w) h.count)
          h.head.rest,
      length-bytes_high_first (byte_count w) h.count,
      h.head.count,
    ) in
    let gap : h.before + h.count - length (b ∷ bs) ≡ h.count - length h.head.rest =
    omega (arith, size) in
    record {
      width = w;
      row = ap initial first ∙ initial_string k h.count w h.head.fits;
      below = omega (arith, first, head_below (kind_major k) h.count w (kind_below k) h.head.fits);
      cut =
          inr (headed_by h.count h.head.rest h.head.fits h.head.is (
            omega (arith, h.short, size),
            (h.answer ∙ ap (λ j. eof (kind_name k) (len_of j)) gap, h.left),
          ));
    }

cut_head : (k : Kind) (b : ℕ) (bs : List ℕ) (e : InputError) (rest : List ℕ)
    → CutHead (kind_name k) (kind_major k) 8 b bs e rest → CutRow k b bs e rest
cut_head k b bs e rest h = record {
  width = h.wide;
  row = ap initial h.begins.is ∙ initial_string k h.begins.argument h.wide h.begins.fits;
  below =
      omega (
        arith,
        h.begins.is,
        head_below (kind_major k) h.begins.argument h.wide (kind_below k) h.begins.fits,
      );
  cut = inl (h.short, (h.answer ∙ small_count (kind_name k) h.wide, h.left));
}

row_of : (k : Kind) (b : ℕ) → b / 32 ≡ kind_major k
    → initial b ≡ string_by_info k (info_of (b % 32))
row_of byte_string b m = initial_of b 2 m
row_of text_string b m = initial_of b 3 m

-- ---- where a chunk should come

if_any : {A : Type 0} (P : A → Type 0) (b : Bool) (x y : A) → P x → P y → P (cond b x y)
if_any P true x y p q = p
if_any P false x y p q = q

simple_row : (P : Initial → Type 0) → ((s : Simple) → P (starts_simple s))
    → ((p : Precision) → P (starts_bits p)) → P other_simple → (i : ℕ) → P (simple_by_info i)
simple_row P f g h i =
    if_any P _ _ _ (f simple_false) (if_any P _ _ _ (f simple_true) (if_any P _ _ _ (f simple_null)
    (if_any P _ _ _ (f simple_undefined) (if_any P _ _ _ (g half) (if_any P _ _ _ (g single) (if_any
    P _ _ _ (g double) h))))))

module _ (c : ℕ) (cs : List ℕ) (e : InputError) (rest : List ℕ) where
  int_row : (k : Kind) (s : Sign) (x : Info) → Is (mismatch (kind_name k) c) cs e rest
      → ChunkRejectsBy k (int_by_info s x) c cs e rest
  int_row byte_string s (wide w) h = h
  int_row text_string s (wide w) h = h
  int_row _ s _ h = h

  text_row : (x : Info) → Is (mismatch (kind_name byte_string) c) cs e rest
      → ChunkRejectsBy byte_string (string_by_info text_string x) c cs e rest
  text_row (wide w) h = h
  text_row _ h = h

  bytes_row : (x : Info) → Is (mismatch (kind_name text_string) c) cs e rest
      → ChunkRejectsBy text_string (string_by_info byte_string x) c cs e rest
  bytes_row (wide w) h = h
  bytes_row _ h = h

  array_row : (k : Kind) (x : Info) → Is (mismatch (kind_name k) c) cs e rest
      → ChunkRejectsBy k (array_by_info x) c cs e rest
  array_row byte_string (wide w) h = h
  array_row text_string (wide w) h = h
  array_row _ _ h = h

  map_row : (k : Kind) (x : Info) → Is (mismatch (kind_name k) c) cs e rest
      → ChunkRejectsBy k (map_by_info x) c cs e rest
  map_row byte_string (wide w) h = h
  map_row text_string (wide w) h = h
  map_row _ _ h = h

  tag_chunk : (k : Kind) (x : Info) → Is (mismatch (kind_name k) c) cs e rest
      → ChunkRejectsBy k (tag_by_info x) c cs e rest
  tag_chunk byte_string (wide w) h = h
  tag_chunk text_string (wide w) h = h
  tag_chunk _ _ h = h

  other_chunk : (k : Kind) (i : ℕ) → Is (mismatch (kind_name k) c) cs e rest
      → ChunkRejectsBy k (simple_by_info i) c cs e rest
  other_chunk byte_string i h =
      simple_row (λ i. ChunkRejectsBy byte_string i c cs e rest) (λ s. h) (λ p. h) h i
  other_chunk text_string i h =
      simple_row (λ i. ChunkRejectsBy text_string i c cs e rest) (λ s. h) (λ p. h) h i

  other_major : (k : Kind) (j i : ℕ) → j ≢ kind_major k → Is (mismatch (kind_name k) c) cs e rest
      → ChunkRejectsBy k (by_major j i) c cs e rest
  other_major k zero i ne h = int_row k unsigned (info_of i) h
  other_major k (suc zero) i ne h = int_row k negative (info_of i) h
  other_major text_string (suc (suc zero)) i ne h = bytes_row (info_of i) h
  other_major byte_string (suc (suc (suc zero))) i ne h = text_row (info_of i) h
  other_major k (suc (suc (suc (suc zero)))) i ne h = array_row k (info_of i) h
  other_major k (suc (suc (suc (suc (suc zero))))) i ne h = map_row k (info_of i) h
  other_major k (suc (suc (suc (suc (suc (suc zero)))))) i ne h = tag_chunk k (info_of i) h
  other_major k (suc (suc (suc (suc (suc (suc (suc j))))))) i ne h = other_chunk k i h
  other_major _ _ i ne h = absurd (ne refl)

  bad_row : (k : Kind) → Is (mismatch (kind_name k) c) cs e rest
      → ChunkRejectsBy k (bad_string k) c cs e rest
  bad_row byte_string h = h
  bad_row text_string h = h

  indefinite_row : (k : Kind) → Is (require_length (kind_name k) Indefinite) cs e rest
      → ChunkRejectsBy k (starts_chunks k) c cs e rest
  indefinite_row byte_string h = h
  indefinite_row text_string h = h

  cut_row : (k : Kind) (w : Width) → CutString k w c cs e rest
      → ChunkRejectsBy k (starts_string k w) c cs e rest
  cut_row byte_string w h = h
  cut_row text_string w h = h

  not_chunk : (k : Kind) → ((w : Width) → Begins (kind_major k) 8 c w → ⊥)
      → (c ≡ indefinite_head (kind_major k) → ⊥) → Is (mismatch (kind_name k) c) cs e rest
      → ChunkRejectsBy k (initial c) c cs e rest
  not_chunk k none closed h = by_test (eqb (c / 32) (kind_major k)) refl
    where
      by_info : c / 32 ≡ kind_major k → (x : Info) → info_of (c % 32) ≡ x
          → ChunkRejectsBy k (string_by_info k x) c cs e rest
      by_info m (wide w) is = absurd (none w (width_begins (kind_major k) c w m is))
      by_info m indefinite_ended is = absurd (closed (indefinite_byte (kind_major k) c m is))
      by_info m reserved is = bad_row k h

      by_test : (t : Bool) → eqb (c / 32) (kind_major k) ≡ t
          → ChunkRejectsBy k (initial c) c cs e rest
      by_test true is =
          let m = eqb-true (c / 32) (kind_major k) is in
          rw (row_of k c m) (by_info m (info_of (c % 32)) refl)
      by_test false is =
          rw (initial_of c (c / 32) refl) (other_major k (c / 32) (c % 32) (λ m. (let t : eqb (c /
          32) (kind_major k) ≡ true = eq-eqb (c / 32) (kind_major k) m in cc)) h)

  by_head : (k : Kind) → (c ≡ indefinite_head (kind_major k) → ⊥) → RejectsHead (kind_name k)
      (kind_major k) 8 (c ∷ cs) e rest → ChunkRejectsBy k (initial c) c cs e rest
  by_head k closed (inl h) = not_chunk k h.none closed (h.answer, h.left)
  by_head k closed (inr h) =
      let r = cut_head k c cs e rest h in
      subst (λ i. ChunkRejectsBy k i c cs e rest) (sym r.row) (cut_row k r.width r.cut)

has_step : (o : Budget) → o ≢ Some 0 → (inner : Budget) × (step_in o ≡ Some inner)
has_step None h = (None, refl)
has_step (Some zero) h = absurd (h refl)
has_step (Some (suc n)) h = (Some n, refl)

with_step : (k : Kind) (budget : Budget) (c : ℕ) (cs : List ℕ) (e : InputError) (rest : List ℕ)
    → budget ≢ Some 0 → c ≢ break → ChunkRejectsBy k (initial c) c cs e rest
    → NoBreak (ChunkRejects k budget) (c ∷ cs) e rest
with_step k budget c cs e rest some other h = (
  other,
  rw (has_step budget some).1 h,
)

begins_not : (b c : ℕ) (cs : List ℕ) → (take 1 (c ∷ cs) ≡ b ∷ [] → ⊥) → c ≡ b → ⊥
begins_not b c cs h e = h (ap (λ d. d ∷ []) e)

indefinite_apart : (k : Kind) → indefinite_head (kind_major k) ≢ break
indefinite_apart byte_string e = omega (arith, e)
indefinite_apart text_string e = omega (arith, e)

chunk_rejects : (k : Kind) (budget : Budget) (xs : List ℕ) (e : InputError) (rest : List ℕ)
    → RejectsChunk (kind_name k) (kind_major k) xs budget e rest
    → NoBreak (ChunkRejects k budget) xs e rest
chunk_rejects k budget [] e rest (no_chunk_byte none answer left) = (answer, left)
chunk_rejects k budget (c ∷ cs) e rest (no_chunk_byte none answer left) = cc
chunk_rejects k budget [] e rest (no_step some other step answer left) = absurd (some refl)
chunk_rejects k budget (c ∷ cs) e rest (no_step some other step answer left) = (
  begins_not break c cs other,
  rw step (answer, left),
)
chunk_rejects k budget [] e rest (chunk_indefinite step is answer) = cc
chunk_rejects k budget (c ∷ cs) e rest (chunk_indefinite step is answer) =
    let first : c ≡ indefinite_head (kind_major k) = ap (λ z. get_or z 0 0) is in
    let left : rest ≡ cs = sym (ap (drop 1) is) in
    with_step k budget c cs e rest step (λ f. indefinite_apart k (sym first ∙ f)) (rw (ap initial
    first ∙ initial_chunks k) (indefinite_row c cs e rest k (answer, left)))
chunk_rejects k budget [] e rest (chunk_rejected step other closed some h) = absurd (some refl)
chunk_rejects k budget (c ∷ cs) e rest (chunk_rejected step other closed some h) =
    with_step k budget c cs e rest step (begins_not break c cs other) (by_head c cs e rest k
    (begins_not (indefinite_head (kind_major k)) c cs closed) h)
chunk_rejects k budget [] e rest (chunk_cut step h) = absurd (omega (arith, ap length h.head.is))
chunk_rejects k budget (c ∷ cs) e rest (chunk_cut step h) =
    let r = cut_content k c cs e rest h in
    with_step k budget c cs e rest step (λ f. omega (arith, f, r.below)) (subst (λ i. ChunkRejectsBy
    k i c cs e rest) (sym r.row) (cut_row c cs e rest k r.width r.cut))

-- ---- strings

head_rejects : (inner : Budget) (k : Kind) (b : ℕ) (bs : List ℕ) (e : InputError) (rest : List ℕ)
    → b / 32 ≡ kind_major k → (take 1 (b ∷ bs) ≡ indefinite_head (kind_major k) ∷ [] → ⊥)
    → RejectsHead (kind_name k) (kind_major k) 8 (b ∷ bs) e rest → RejectsUnder false inner
    (b ∷ bs) e rest
head_rejects inner k b bs e rest m closed h =
    at_row inner (string_by_info k (info_of (b % 32))) b bs e rest (row_of k b m)
    (by_info (info_of (b % 32)) refl)
  where
    by_info : (i : Info) → info_of (b % 32) ≡ i → ReadingRejectsBy
        (λ left part. ReadingRejects part left) inner (string_by_info k i) b bs e rest
    by_info (wide w) is = inl (inl (head_cut (kind_name k) (kind_major k) b bs w e rest m is h))
    by_info indefinite_ended is =
        absurd (begins_not (indefinite_head (kind_major k)) b bs closed (indefinite_byte
        (kind_major k) b m is))
    by_info reserved is = no_head (kind_name k) (kind_major k) b bs e rest (λ w f. cc) h

pub string_rejects : (inner : Budget) (k : Kind) (b : ℕ) (bs : List ℕ) (e : InputError)
    (rest : List ℕ) → b / 32 ≡ kind_major k → RejectsString (kind_name k) (kind_major k) (b ∷ bs)
    inner e rest → RejectsUnder false inner (b ∷ bs) e rest
string_rejects inner k b bs e rest m (string_head_rejected closed h) =
    head_rejects inner k b bs e rest m closed h
string_rejects inner k b bs e rest m (string_cut h) =
    let r = cut_content k b bs e rest h in
    at_row inner (starts_string k r.width) b bs e rest r.row (inl r.cut)
string_rejects inner k b bs e rest m (string_indefinite begins o) =
    let first : b ≡ indefinite_head (kind_major k) = ap (λ z. get_or z 0 0) begins in
    let t = chunk_trees k o.chunks bs o.between o.read in
    at_row inner (starts_chunks k) b bs e rest (ap initial first ∙ initial_chunks k)
    (inl (in_items t.trees (drop o.between bs) (t.fit inner o.fits) t.is (chunk_rejects k inner
    (drop o.between bs) e rest o.stop)))

text_invalid : (inner : Budget) (b : ℕ) (bs content : List ℕ) (n c : ℕ) (e : InputError)
    (rest : List ℕ) → ReadsString 3 (b ∷ bs) content n c → CostFits c inner → (IsUtf8 content → ⊥)
    → e ≡ require_utf8 (kind_name text_string) → rest ≡ drop n (b ∷ bs)
    → RejectsUnder false inner (b ∷ bs) e rest
text_invalid inner b bs content n c e rest (inl r) fits invalid answer left =
    let h = r.0.head in
    let first = first_byte 3 (length content) h.wide b bs h.rest h.is in
    at_row inner (starts_string text_string h.wide) b bs e rest (ap initial first ∙ initial_string
    text_string (length content) h.wide h.fits) (inr (headed_by (length content) h.rest h.fits h.is
    (record {
      content = content;
      long = refl;
      invalid = invalid;
      is = content_after 3 (b ∷ bs) content n r.0 ∙ ap (λ z. content ++ z) (sym left);
      err = answer;
    })))
text_invalid inner b bs content n c e rest (inr r) fits invalid answer left =
    let o = indefinite_tree text_string (b ∷ bs) content n c r in
    let first : b ≡ indefinite_head 3 = ap (λ z. get_or z 0 0) o.begins in
    at_row inner (starts_chunks text_string) b bs e rest (ap initial first ∙ initial_chunks
    text_string) (inr (record {
      chunks = o.trees;
      whole = o.fit inner fits;
      is = o.trailing bs o.begins ∙ ap (λ z. bytes_all o.trees ++ break ∷ z) (sym left);
      invalid = λ u. invalid (subst IsUtf8 (sym o.says) u);
      err = answer;
    }))

pub text_rejects : (inner : Budget) (b : ℕ) (bs : List ℕ) (e : InputError) (rest : List ℕ)
    → b / 32 ≡ 3 → RejectsText (kind_name text_string) (b ∷ bs) inner e rest
    → RejectsUnder false inner (b ∷ bs) e rest
text_rejects inner b bs e rest m (no_string h) = string_rejects inner text_string b bs e rest m h
text_rejects inner b bs e rest m (no_utf8 content n c r fits invalid answer left) =
    text_invalid inner b bs content n c e rest r fits invalid answer left

-- ---- values

pub view-Bytes : (v : Vec ℕ Global) → view (Bytes v) ≡ bytes_item v.items
view-Bytes v = search (rules, the_lemmas)

pub view-Text : (v : String Global) → view (Text v) ≡ text (string_bytes v)
view-Text v = search (rules, the_lemmas)

pub bytes_reads : (inner : Budget) (v : Vec ℕ Global) (xs : List ℕ) (n c : ℕ) → CostFits c inner
    → ReadsString 2 xs v.items n c → ReadsUnder false inner xs (Bytes v) (drop n xs)
bytes_reads inner v xs n c fits r budget step =
    let t = string_tree byte_string budget inner xs v.items n c step fits tt r in
    (t.0, t.1, t.2 ∙ sym (view-Bytes v), t.3)

pub text_reads : (inner : Budget) (v : String Global) (xs : List ℕ) (n c : ℕ) → CostFits c inner
    → ReadsString 3 xs (string_bytes v) n c → IsUtf8 (string_bytes v)
    → ReadsUnder false inner xs (Text v) (drop n xs)
text_reads inner v xs n c fits r valid budget step =
    let t = string_tree text_string budget inner xs (string_bytes v) n c step fits valid r in
    (t.0, t.1, t.2 ∙ sym (view-Text v), t.3)
