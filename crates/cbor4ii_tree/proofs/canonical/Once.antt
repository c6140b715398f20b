-- Canonical encodings: what they begin with, how reading one is rejected, in one way, and what the
-- answer of such a call says.
use Rattle.std.proofs.Common.{rules, ◌≡◌, ◌≢◌, ℕ, zero, suc, ◌*◌, ◌/◌, ◌^◌, ◌<◌, List, ◌∷◌, ◌++◌}
use Rattle.std.proofs.Common.{length, refl, sym, ap, ◌∙◌, subst, arith, append_assoc, false, ◌⊎◌}
use Rattle.std.proofs.Common.{inl, inr, [], Option, Some, None, take, Bool, true, drop, append-nil}
use Rattle.std.proofs.Common.{length-append, ◌+◌, Ok, Err, ◌≤◌, IfSome, take-append-drop, IfOk}
use Rattle.std.proofs.{Common.{IfErr, ap₂, Vec, Global, String}, lemmas.List.append_cancel_left}
use Rattle.std.proofs.Math.Seq.{drop-append_seam, take-append_seam}
use Rattle.std.specs.{Prelude.{IsUtf8, string_bytes}}
use Rattle.cbor4ii_rw.specs.{View.View, declared.error.DecodeError.DecodeError}
use Rattle.cbor4ii_items.specs.{Head.{Width, byte_count, HeadFits, head}}
use Rattle.cbor4ii_items.specs.{Head.{shortest_width, indefinite_head}, Heads.ReadsHead}
use Rattle.cbor4ii_items.specs.{Heads.{RejectsHead, Begins}, Initial.{unsigned, negative}}
use Rattle.cbor4ii_items.specs.Initial.{byte_string, text_string, Simple, simple_false}
use Rattle.cbor4ii_items.specs.Initial.{simple_undefined, simple_byte, initial}
use Rattle.cbor4ii_items.specs.Initial.{starts_simple, starts_bits}
use Rattle.cbor4ii_items.specs.Initial.{Kind, kind_major, Initial, starts_string, other_simple}
use Rattle.cbor4ii_items.specs.{Initial.{wide}, Laws.Answering.fits_zero}
use Rattle.cbor4ii_items.specs.Laws.Heads.{head_one, shortest_fits, argument_below, byte_count-le}
use Rattle.cbor4ii_items.specs.Laws.Heads.{length-bytes_high_first, additional-lt}
use Rattle.cbor4ii_items.specs.{InputError.not_canonical}
use Rattle.cbor4ii_items.specs.{InputError.input_error_of, Lengths.RejectsLength}
use Rattle.cbor4ii_items.specs.Shortest.{canonical_name, LacksLength, RejectsShortest}
use Rattle.cbor4ii_items.specs.Shortest.{shortest_rejected, shortest_indefinite, too_long}
use Rattle.cbor4ii_items.specs.Shortest.{RejectsShortestString, length_rejected, content_cut}
use Rattle.cbor4ii_items.specs.Shortest.{ReadsShortest, ReadsShortestString}
use Rattle.cbor4ii_items.specs.{Strings.{string_head_rejected, string_cut}, Laws.Calls.ok}
use Rattle.cbor4ii_items.specs.{Laws.Steps.moves_err, Decoding.{Sound, Complete, Rejects, NoneRead}}
use Rattle.cbor4ii_items.specs.{Decoding.Decodes, Laws.Prefixes.drop_more, Moves.Moves}
use Rattle.cbor4ii_tree.specs.Calls.CanonicalRejects.{FitsCanonically, ShortestAt, AtShortest}
use Rattle.cbor4ii_tree.specs.Calls.CanonicalRejects.{CanonicalOtherRejects, CanonicalRejectsBy}
use Rattle.cbor4ii_tree.specs.Calls.CanonicalRejects.{CanonicalRejectsFrom, CanonicalRejectsWithin}
use Rattle.cbor4ii_tree.specs.Calls.CanonicalRejects.{CanonicalRejects, AfterShortest}
use Rattle.cbor4ii_tree.specs.Calls.CanonicalRejects.{CanonicalTextRejects, CanonicalArrayRejects}
use Rattle.cbor4ii_tree.specs.Calls.CanonicalRejects.{CanonicalMapRejects}
use Rattle.cbor4ii_tree.specs.Calls.CanonicalShape.{CanonicalShapeAll, CanonicalShapePairs}
use Rattle.cbor4ii_tree.specs.Calls.CanonicalShape.{CanonicalTree, DecodesCanonically}
use Rattle.cbor4ii_tree.specs.Calls.Rejections.{Each, EachPair, Rejection, RejectsAtStep}
use Rattle.cbor4ii_tree.specs.{Calls.Rejections.RejectsInCount, Basis.Cost.{Budget, cost}}
use Rattle.cbor4ii_tree.specs.Basis.Cost.{step_in}
use Rattle.cbor4ii_tree.specs.Basis.Tree.{Tree, int, string, array, map_of, tagged, simple, bits}
use Rattle.cbor4ii_tree.specs.Basis.Tree.{Trees, no_trees, tree, Pairs, no_pairs, pair, count}
use Rattle.cbor4ii_tree.specs.Basis.Tree.{pair_count, bytes, bytes_all, bytes_pairs, LooseAll}
use Rattle.cbor4ii_tree.specs.Basis.Tree.{LoosePairs, SoundStringsAll, SoundStringsPairs}
use Rattle.cbor4ii_tree.specs.{Laws.Ignoring.one_encoding, Laws.Initials.initial_simple}
use Rattle.cbor4ii_tree.specs.Laws.Initials.{initial_bits, initial_string, initial_tag}
use Rattle.cbor4ii_tree.specs.Basis.InputError.{InputError, depth_overflow, sign_name, kind_name}
use Rattle.cbor4ii_tree.specs.Basis.InputError.{tag_name, value_name, eof, MayReject, IsEof}
use Rattle.cbor4ii_tree.specs.Basis.InputError.{IsDepthOverflow, IsFinal, require_utf8}
use Rattle.cbor4ii_tree.specs.Calls.ReadingRejects.{Readable, ReadingRejects, reading_profile}
use Rattle.cbor4ii_tree.specs.Inner.Valuing.{RejectsOneValue, RejectsUnder, ReadsOneValue}
use Rattle.cbor4ii_tree.specs.{Inner.Valuing.{ReadsUnder, RejectsOf, TakesTag}, Basis.Meaning.value}
use Rattle.cbor4ii_tree.specs.{Inner.Does.{Does, value_or_error}, Basis.Encodings.DecodesTo}
use Rattle.cbor4ii_tree.specs.{Basis.Headline.EofReads, Basis.Item.Item}
use Rattle.cbor4ii_tree.specs.declared.decode_canonical.Canonical.{Canonical}
use Rattle.cbor4ii_tree.specs.declared.value.Value.{Value, Bytes, Text}
use Rattle.cbor4ii_tree.specs.Calls.Canonically.{ReadsCanonical, IsNotCanonical, OnlyCanonical}
use Rattle.cbor4ii_tree.specs.Calls.Canonically.{AllCanonical, TakesEncoding, EveryEncoding}
use Rattle.cbor4ii_tree.specs.Calls.Canonically.{PrefixCanonical, DepthCanonical, NeverCanonical}
use Rattle.cbor4ii_tree.specs.Calls.Canonically.{OthersCanonical, ValueCanonical, ExactCanonical}
use Rattle.cbor4ii_tree.specs.{Calls.Canonically.canonical_format, Basis.View.view}
use Rattle.cbor4ii_tree.specs.{Inner.CanonicalCalls.StringAt, Laws.Binds.step_up}
use Rattle.cbor4ii_tree.proofs.encodings.CanonicalShape.{same_first, first_byte, same_head}
use Rattle.cbor4ii_tree.proofs.encodings.CanonicalShape.{reads_canonically_iff}
use Rattle.cbor4ii_tree.proofs.encodings.CanonicalShape.{canonical_canonically}
use Rattle.cbor4ii_tree.proofs.values.Heads.{precision_major, int_rejects, begins_width, whole}
use Rattle.cbor4ii_tree.proofs.values.Heads.{at_row, tag_rejects, at_major, head_at, after_shortest}
use Rattle.cbor4ii_tree.proofs.values.Heads.{string_rejects, view-Bytes, view-Text}
use Rattle.cbor4ii_tree.proofs.parts.Pushed.{flat, count-flat, each-flat, bytes-flat}
use Rattle.cbor4ii_tree.proofs.{answers.Nesting.reading_by_parts, parts.Widen.each_covers}
use Rattle.cbor4ii_tree.proofs.{parts.Rejecting.{in_count, headed_by}, values.Sequences.major_of}
use Rattle.cbor4ii_tree.proofs.values.Sequences.{name_of, in_all, RejectsCanonically, step_inside}
use Rattle.cbor4ii_tree.proofs.values.Sequences.{initial_wide, parts_no_step, length_rejects}
use Rattle.cbor4ii_tree.proofs.reading.Answer.{one_reading, decodes_tree, not_both, tree_of}
use Rattle.cbor4ii_tree.proofs.answers.MayReject.{may_reject, leaves_nothing}
use Rattle.cbor4ii_tree.proofs.answers.Promises.{if_some, all_bytes, reading_eof_prefix}
use Rattle.cbor4ii_tree.proofs.profile.Answer.{no_prefix, no_eof, eof_alone, reading_laws}
use Rattle.cbor4ii_tree.proofs.{profile.Widen.{persists, reading_widens}, reading.Laws.final_stays}
use Rattle.cbor4ii_tree.proofs.skip_calls.Doing.{Reached, reached_sound, does_ok, call_rejects}

-- ---- heads

pub head_here : (major n : ℕ) (xs ys : List ℕ) → ShortestAt major n xs ys
    → ReadsHead major 8 xs n (suc (byte_count (shortest_width n)))
head_here major n xs ys h = search (rules, byte_count-le, shortest_fits)

pub one_head : (major n m : ℕ) (x y : List ℕ) → major < 8 → n < 2 ^ 64 → m < 2 ^ 64
    → head major n (shortest_width n) ++ x ≡ head major m (shortest_width m) ++ y → (n ≡ m)
    × (x ≡ y)
one_head major n m x y small h k e =
    let all : List ℕ = head major n (shortest_width n) ++ x in
    let same = (head_one major 8 all n m _ _ small (head_here major n all x (h, refl))
    (head_here major m all y (k, e))).1 in (
      same,
      append_cancel_left (head major n (shortest_width n)) x y
          (e ∙ ap (λ j. head major j (shortest_width j) ++ y) (sym same)),
    )

-- what follows a head that was taken
pub following_head : (major n : ℕ) (xs ys more : List ℕ) (m : ℕ) (zs : List ℕ) → major < 8
    → ShortestAt major n xs ys → ShortestAt major m (xs ++ more) zs → (n ≡ m) × (ys ++ more ≡ zs)
following_head major n xs ys more m zs small h k =
    one_head major n m (ys ++ more) zs small h.0 k.0
    (sym (append_assoc (head major n (shortest_width n))
    ys more) ∙ ap (λ r. r ++ more) (sym h.1) ∙ k.1)

-- ---- lists of canonical trees, each by itself or all together

each_canonical : (ts : Trees) → LooseAll ts → SoundStringsAll ts → CanonicalShapeAll ts
    → Each CanonicalTree ts
each_canonical no_trees l s h = tt
each_canonical (tree t ts) l s h = (((l.0, s.0), h.0), each_canonical ts l.1 s.1 h.1)

each_pair_canonical : (ps : Pairs) → LoosePairs ps → SoundStringsPairs ps
    → CanonicalShapePairs ps → EachPair CanonicalTree ps
each_pair_canonical no_pairs l s h = tt
each_pair_canonical (pair k v ps) l s h = search (rules, (each_pair_canonical ps l.2 s.2 h.2))

-- ---- what may begin bytes

abbrev pub Beginning : Type 1
Beginning = List ℕ → Type 0

abbrev pub BeginsOne : Beginning
BeginsOne xs = (t : Tree) × (ys : List ℕ) × CanonicalTree t × (xs ≡ bytes t ++ ys)

abbrev pub BeginsItems : ℕ → Beginning
BeginsItems n xs = (ts : Trees) × (ys : List ℕ) × (count ts ≡ n) × Each CanonicalTree ts
    × (xs ≡ bytes_all ts ++ ys)

-- a shortest head, and what its argument says after it
abbrev pub BeginsHead : ℕ → (ℕ → Beginning) → Beginning
BeginsHead major Then xs =
    (n : ℕ) × (between : List ℕ) × ShortestAt major n xs between × Then n between

abbrev pub Anything : ℕ → Beginning
Anything n xs = Unit {0}

-- any byte but that of undefined
abbrev pub BeginsOther : Beginning
BeginsOther xs = (b : ℕ) × (bs : List ℕ) × (xs ≡ b ∷ bs) × (initial b ≢ starts_simple
    simple_undefined)

-- by the major type of the first byte
abbrev pub Arm : ℕ → Beginning
Arm zero = BeginsHead 0 Anything
Arm (suc zero) = BeginsHead 1 Anything
Arm (suc (suc zero)) = BeginsHead 2 Anything
Arm (suc (suc (suc zero))) = BeginsHead 3 Anything
Arm (suc (suc (suc (suc zero)))) = BeginsHead 4 BeginsItems
Arm (suc (suc (suc (suc (suc zero))))) = BeginsHead 5 (λ n. BeginsItems (2 * n))
Arm (suc (suc (suc (suc (suc (suc zero)))))) = BeginsHead 6 (λ n. BeginsOne)
Arm (suc (suc (suc (suc (suc (suc (suc k))))))) = BeginsOther

arm_head : (k n x : ℕ) (Then : ℕ → Beginning) (w : Width) (xs ys : List ℕ)
    → (BeginsHead k Then (x ∷ xs) → Arm k (x ∷ xs)) → HeadFits w n → w ≡ shortest_width n
    → x ∷ xs ≡ head k n w ++ ys → Then n ys → Arm (x / 32) (x ∷ xs)
arm_head k n x Then w xs ys f h s e then =
    let major : k ≡ x / 32 = omega (arith, first_byte k n w x xs ys e, additional-lt n w h) in
    rw (← major) (f (n, ys, (argument_below w n h, e ∙ ap (λ u. head k n u ++ ys) s), then))

arm_other : (x b : ℕ) (xs : List ℕ) → x ≡ b → b / 32 ≡ 7
    → initial b ≢ starts_simple simple_undefined → Arm (x / 32) (x ∷ xs)
arm_other x b xs is major other =
    rw (ap (λ j. j / 32) is ∙ major) (x, xs, refl, (λ e. other (ap initial (sym is) ∙ e)))

simple_major : (s : Simple) → simple_byte s / 32 ≡ 7
simple_major simple_false = refl
simple_major _ = refl

-- what begins with a byte of this major type
pub arm_of : (t : Tree) (x : ℕ) (xs ys : List ℕ) → CanonicalTree t → x ∷ xs ≡ bytes t ++ ys
    → Arm (x / 32) (x ∷ xs)
arm_of (int unsigned n w) x xs ys c e =
    arm_head 0 n x Anything w xs ys (λ a. a) c.0.0 c.1 e tt
arm_of (int negative n w) x xs ys c e =
    arm_head 1 n x Anything w xs ys (λ a. a) c.0.0 c.1 e tt
arm_of (string byte_string w content) x xs ys c e = search (rules, arm_head, append_assoc)
arm_of (string text_string w content) x xs ys c e = search (rules, arm_head, append_assoc)
arm_of (array w ts) x xs ys c e = search (rules, arm_head, append_assoc, each_canonical)
arm_of (map_of w ps) x xs ys c e =
    arm_head 5 (pair_count ps) x (λ n. BeginsItems (2 * n)) w xs (bytes_pairs ps ++ ys) (λ a. a)
    c.0.0.0 c.1.0 (e ∙ append_assoc (head 5 (pair_count ps) w) (bytes_pairs ps) ys) (
      flat ps,
      ys,
      count-flat ps,
      each-flat CanonicalTree ps (each_pair_canonical ps c.0.0.1 c.0.1 c.1.1),
      ap (λ r. r ++ ys) (sym (bytes-flat ps)),
    )
arm_of (tagged n w t) x xs ys c e = search (rules, arm_head, append_assoc)
arm_of (simple s) x xs ys c e =
    search (rules, arm_other, same_first, simple_major, initial_simple)
arm_of (bits p n) x xs ys c e =
    search (rules, arm_other, same_first, precision_major, initial_bits)
arm_of _ x xs ys c e = absurd c.1

-- after fewer values than there are another one stands
pub one_after : (b : Budget) (ts us : Trees) (x y : List ℕ) → Each (FitsCanonically b) ts
    → Each CanonicalTree us → bytes_all us ++ x ≡ bytes_all ts ++ y → count ts < count us
    → BeginsOne y
one_after b no_trees (tree u us) x y h k e lt =
    (u, bytes_all us ++ x, k.0, sym e ∙ append_assoc (bytes u) (bytes_all us) x)
one_after b (tree t ts) (tree u us) x y h k e lt =
    let f = one_encoding u t (bytes_all us ++ x) (bytes_all ts ++ y) k.0.0.0 h.0.0.0.0
    (sym (append_assoc (bytes u) (bytes_all us) x) ∙ e ∙ append_assoc (bytes t) (bytes_all ts) y) in
    one_after b ts us x y h.1 k.1 f.1 (omega (arith, lt))
one_after b _ no_trees x y h k e lt = absurd (omega (arith, lt))

abbrev OrValue : (InputError → List ℕ → Type 0) → InputError → List ℕ → Type 0
OrValue rejects e rest = (e ≡ not_canonical canonical_name) ⊎ rejects e rest

-- of a part of the item
abbrev Parts : Budget → Rejection → InputError → List ℕ → Type 0
Parts budget rejects e rest =
    (ys : List ℕ) → rejects ys e rest → OrValue (RejectsOneValue false budget ys) e rest

or_value : (S T : InputError → List ℕ → Type 0) (e : InputError) (rest : List ℕ)
    → (S e rest → T e rest) → OrValue S e rest → OrValue T e rest
or_value S T e rest f (inl is) = inl is
or_value S T e rest f (inr s) = inr (f s)

-- ---- heads and strings

head_value : (name : List ℕ) (major b : ℕ) (bs : List ℕ) (budget : Budget) (e : InputError)
    (rest : List ℕ) → RejectsShortest name major (b ∷ bs) budget e rest
    → OrValue (λ z ys. (¬ (LacksLength major b)) × RejectsHead name major 8 (b ∷ bs) z ys) e rest
head_value name major b bs budget e rest (shortest_rejected closed h) = inr (closed b bs refl, h)
head_value name major b bs budget e rest (shortest_indefinite c opens is says) = inl says
head_value name major b bs budget e rest (too_long v n h other says left) = inl says

closed_at : (major b : ℕ) (bs : List ℕ) → (b ≡ indefinite_head major → ⊥)
    → take 1 (b ∷ bs) ≡ indefinite_head major ∷ [] → ⊥
closed_at major b bs other e = other (cc)

length_value : (name : List ℕ) (major b : ℕ) (bs : List ℕ) (budget : Budget) (e : InputError)
    (rest : List ℕ) → (b ≡ indefinite_head major → LacksLength major b)
    → RejectsShortest name major (b ∷ bs) budget e rest
    → OrValue (RejectsLength name major (b ∷ bs) budget) e rest
length_value name major b bs budget e rest opens h = search (rules, closed_at, head_value)

kind_opens : (k : Kind) (b : ℕ) → b ≡ indefinite_head (kind_major k) → LacksLength (kind_major k) b
kind_opens byte_string b is = (omega arith, omega arith, is)
kind_opens text_string b is = (omega arith, omega arith, is)

string_value : (k : Kind) (b : ℕ) (bs : List ℕ) (budget : Budget) (e : InputError) (rest : List ℕ)
    → b / 32 ≡ kind_major k → RejectsShortestString (kind_name k) (kind_major k)
    (b ∷ bs) budget e rest → OrValue (RejectsUnder false budget (b ∷ bs)) e rest
string_value k b bs budget e rest m (length_rejected h) =
    or_value (RejectsLength (kind_name k) (kind_major k) (b ∷ bs) budget) (RejectsUnder false budget
    (b ∷ bs)) e rest (λ s. string_rejects budget k b bs e rest m (string_head_rejected s.0 s.1))
    (length_value (kind_name k) (kind_major k) b bs budget e rest (kind_opens k b) h)
string_value k b bs budget e rest m (content_cut c least) =
    inr (string_rejects budget k b bs e rest m (string_cut c))

-- ---- items that follow a head

parts_open : (keyed : Bool) (b : ℕ) → b ≡ indefinite_head (major_of keyed)
    → LacksLength (major_of keyed) b
parts_open false b is = (omega arith, omega arith, is)
parts_open true b is = (omega arith, omega arith, is)

items_value : (budget : Budget) (rejects : Rejection) (n : ℕ) (xs : List ℕ) (e : InputError)
    (rest : List ℕ) → Parts budget rejects e rest → RejectsInCount (FitsCanonically budget) rejects
    n xs e rest
    → OrValue (RejectsInCount (Readable budget) (RejectsOneValue false budget) n xs) e rest
items_value budget rejects n xs e rest f s = search (rules, in_count, each_covers)

parts_value : (keyed : Bool) (outer inner : Budget) (rejects : Budget → Rejection) (b : ℕ)
    (bs : List ℕ) (e : InputError) (rest : List ℕ) → step_in outer ≡ Some inner
    → b / 32 ≡ major_of keyed → Parts inner (rejects inner) e rest
    → RejectsCanonically keyed rejects inner (b ∷ bs) e rest
    → OrValue (RejectsUnder false outer (b ∷ bs)) e rest
parts_value keyed outer inner rejects b bs e rest step m f (inl h) =
    or_value (RejectsLength (name_of keyed) (major_of keyed) (b ∷ bs) inner) (RejectsUnder false
    outer (b ∷ bs)) e rest (λ s. length_rejects keyed inner (b ∷ bs) inner e rest s b bs refl m
    outer step) (length_value (name_of keyed) (major_of keyed) b bs inner e rest (parts_open keyed
    b) h)
parts_value keyed outer inner rejects b bs e rest step m f (inr h) =
    let n = h.argument in
    let w = shortest_width n in
    let fits = shortest_fits n h.is.0 in
    let total = in_all keyed n in
    or_value (RejectsInCount (Readable inner) (RejectsOneValue false inner) total h.after)
    (RejectsUnder false outer (b ∷ bs)) e rest
    (λ s. step_inside outer b bs e rest keyed (wide w) inner
    (ap initial (first_byte (major_of keyed) n w b bs h.after h.is.1) ∙ initial_wide keyed n w fits)
    step (inr (headed_by n h.after fits h.is.1 s))) (items_value inner (rejects inner) total h.after
    e rest f h.rejected)

tag_value : (budget : Budget) (rejects : Rejection) (b : ℕ) (bs : List ℕ) (e : InputError)
    (rest : List ℕ)
    → b / 32 ≡ 6 → Parts budget rejects e rest → AtShortest tag_name 6 budget (λ n. rejects)
    (b ∷ bs) e rest → OrValue (RejectsUnder false budget (b ∷ bs)) e rest
tag_value budget rejects b bs e rest m f (inl h) = search (rules, tag_rejects, head_value)
tag_value budget rejects b bs e rest m f (inr h) =
    search (rules, shortest_fits, at_row, first_byte, initial_tag, inr, headed_by)

-- ---- by the first byte

other_value : (budget : Budget) (b : ℕ) (bs : List ℕ) (e : InputError) (rest : List ℕ) (i : Initial)
    → initial b ≡ i → CanonicalOtherRejects i b bs e rest → OrValue
    (RejectsUnder false budget (b ∷ bs)) e rest
other_value budget b bs e rest (starts_simple simple_undefined) is h = inl h.0
other_value budget b bs e rest (starts_bits p) is h =
    inr (at_row budget (starts_bits p) b bs e rest is h)
other_value budget b bs e rest other_simple is h = inr (at_row budget other_simple b bs e rest is h)
other_value budget b bs e rest _ is h = absurd h

stepped_value : (name : List ℕ) (outer : Budget) (xs : List ℕ)
    (S : Budget → InputError → List ℕ → Type 0) (e : InputError) (rest : List ℕ) → (outer ≡ Some 0
    → RejectsUnder false outer xs (depth_overflow name) xs) → ((inner : Budget) → step_in outer
    ≡ Some inner → S inner e rest → OrValue (RejectsUnder false outer xs) e rest)
    → RejectsAtStep name (step_in outer) xs S e rest → OrValue (RejectsUnder false outer xs) e rest
stepped_value name None xs S e rest none f h = f None refl h
stepped_value name (Some zero) xs S e rest none f h = inr (rw (h.0, h.1) (none refl))
stepped_value name (Some (suc n)) xs S e rest none f h = f (Some n) refl h

stepped_parts : (keyed : Bool) (rejects : Budget → Rejection) (budget : Budget) (b : ℕ)
    (bs : List ℕ) (e : InputError) (rest : List ℕ) → b / 32 ≡ major_of keyed
    → ((o : Budget) → Parts o (rejects o) e rest) → RejectsAtStep (name_of keyed) (step_in budget)
    (b ∷ bs) (λ inner. RejectsCanonically keyed rejects inner (b ∷ bs)) e rest
    → OrValue (RejectsUnder false budget (b ∷ bs)) e rest
stepped_parts keyed rejects budget b bs e rest m f h =
    stepped_value (name_of keyed) budget (b ∷ bs) (λ inner. RejectsCanonically keyed rejects inner
    (b ∷ bs)) e rest (λ none. parts_no_step keyed false budget none (b ∷ bs) b bs refl m)
    (λ inner step. parts_value keyed budget inner rejects b bs e rest step m (f inner)) h

by_value : (rejects : Budget → Rejection) (budget : Budget) (k b : ℕ) (bs : List ℕ) (e : InputError)
    (rest : List ℕ) → b / 32 ≡ k → ((o : Budget) → Parts o (rejects o) e rest)
    → CanonicalRejectsBy rejects budget k b bs e rest → OrValue
    (RejectsUnder false budget (b ∷ bs)) e rest
by_value rejects budget zero b bs e rest m f h =
    or_value (λ z ys. (¬ (LacksLength 0 b)) × RejectsHead (sign_name unsigned) 0 8 (b ∷ bs) z ys)
    (RejectsUnder false budget (b ∷ bs)) e rest (λ s. int_rejects budget unsigned b bs e rest m s.1)
    (head_value (sign_name unsigned) 0 b bs budget e rest h)
by_value rejects budget (suc zero) b bs e rest m f h =
    or_value (λ z ys. (¬ (LacksLength 1 b)) × RejectsHead (sign_name negative) 1 8 (b ∷ bs) z ys)
    (RejectsUnder false budget (b ∷ bs)) e rest (λ s. int_rejects budget negative b bs e rest m s.1)
    (head_value (sign_name negative) 1 b bs budget e rest h)
by_value rejects budget (suc (suc zero)) b bs e rest m f h =
    string_value byte_string b bs budget e rest m h
by_value rejects budget (suc (suc (suc zero))) b bs e rest m f (inl h) =
    string_value text_string b bs budget e rest m h
by_value rejects budget (suc (suc (suc zero))) b bs e rest m f (inr h) =
    let n = h.argument in
    let w = shortest_width n in
    let fits = shortest_fits n h.is.0 in
    inr (at_row budget (starts_string text_string w) b bs e rest (ap initial
    (first_byte 3 n w b bs h.after h.is.1) ∙ initial_string text_string n w fits) (inr (headed_by n
    h.after fits h.is.1 h.rejected)))
by_value rejects budget (suc (suc (suc (suc zero)))) b bs e rest m f h =
    stepped_parts false rejects budget b bs e rest m f h
by_value rejects budget (suc (suc (suc (suc (suc zero))))) b bs e rest m f h =
    stepped_parts true rejects budget b bs e rest m f h
by_value rejects budget (suc (suc (suc (suc (suc (suc zero)))))) b bs e rest m f h =
    tag_value budget (rejects budget) b bs e rest m (f budget) h
by_value rejects budget (suc (suc (suc (suc (suc (suc (suc k))))))) b bs e rest m f h =
    other_value budget b bs e rest (initial b) refl h

from_value : (rejects : Budget → Rejection) (budget : Budget) (xs : List ℕ) (e : InputError)
    (rest : List ℕ) → ((o : Budget) → Parts o (rejects o) e rest)
    → CanonicalRejectsFrom rejects budget xs e rest → OrValue (RejectsUnder false budget xs) e rest
from_value rejects budget [] e rest f h = inr h
from_value rejects budget (b ∷ bs) e rest f h =
    by_value rejects budget (b / 32) b bs e rest refl f h

or_step : (name : List ℕ) (step : Option Budget) (here : List ℕ)
    (S T : Budget → InputError → List ℕ → Type 0) (e : InputError) (rest : List ℕ)
    → ((inner : Budget) → S inner e rest → OrValue (T inner) e rest)
    → RejectsAtStep name step here S e rest → OrValue (RejectsAtStep name step here T) e rest
or_step name None here S T e rest f h = inr h
or_step name (Some inner) here S T e rest f h = f inner h

pub within_value : (n : ℕ) (budget : Budget) (e : InputError) (rest : List ℕ)
    → Parts budget (CanonicalRejectsWithin n budget) e rest
within_value zero budget e rest xs h = absurd h
within_value (suc n) budget e rest xs h =
    or_value (RejectsAtStep value_name (step_in budget) xs (λ inner. RejectsUnder false inner xs))
    (RejectsOneValue false budget xs) e rest (reading_by_parts xs budget e rest).1 (or_step
    value_name (step_in budget) xs (λ inner. CanonicalRejectsFrom (CanonicalRejectsWithin n) inner
    xs) (λ inner. RejectsUnder false inner xs) e rest (λ inner. from_value
    (CanonicalRejectsWithin n) inner xs e rest (λ o. within_value n o e rest)) h)

pub canonically_as_value : (xs : List ℕ) (budget : Budget) (e : InputError) (rest : List ℕ)
    → CanonicalRejects xs budget e rest
    → (e ≡ not_canonical canonical_name) ⊎ ReadingRejects xs budget e rest
canonically_as_value xs budget e rest h = within_value (suc (length xs)) budget e rest xs h

-- ---- where bytes are rejected since their encoding is not the canonical one, no canonical tree
-- begins them, whatever follows

-- the error of what is read as a value, and is no canonical encoding
abbrev pub loose : InputError
loose = not_canonical canonical_name

-- where it comes, nothing of this sort begins the bytes
abbrev pub Never : Rejection → Beginning → Type 0
Never rejects Begins =
    (xs rest more : List ℕ) → rejects xs loose rest → ¬ (Begins (xs ++ more))

-- ---- heads

pub not_by_head : (name : List ℕ) (major : ℕ) (xs rest : List ℕ)
    → ¬ (RejectsHead name major 8 xs loose rest)
not_by_head name major [] rest h = let is = h.0 in cc
not_by_head name major (b ∷ bs) rest (inl h) = let is = h.answer in cc
not_by_head name major (b ∷ bs) rest (inr h) = let is = h.answer in cc

pub no_indefinite : (major v n b : ℕ) (bs : List ℕ) → b ≡ 32 * major + 31 →
    ¬ (ReadsHead major 8 (b ∷ bs) v n)
no_indefinite major v n b bs is k =
    omega (arith, is, first_byte major v k.wide b bs k.rest k.is, additional-lt v k.wide k.fits)

-- a head that is longer than needed is no shortest one
pub longer : (major v n : ℕ) (xs more : List ℕ) → major < 8 → (h : ReadsHead major 8 xs v n)
    → h.wide ≢ shortest_width v → (m : ℕ) (zs : List ℕ) → ¬ (ShortestAt major m (xs ++ more) zs)
longer major v n xs more small h other m zs c =
    let all : List ℕ = xs ++ more in
    let is : all ≡ head major v h.wide ++ (h.rest ++ more) =
    ap (λ r. r ++ more) h.is ∙ append_assoc (head major v h.wide) h.rest more in
    let p : ReadsHead major 8 all v n = record {
      wide = h.wide;
      allowed = h.allowed;
      fits = h.fits;
      rest = h.rest ++ more;
      is = is;
      count = h.count;
    } in
    let same = (head_one major 8 all v m n (suc (byte_count (shortest_width m))) small p
    (head_here major m all zs c)).1 in
    other (same_head major v h.wide (h.rest ++ more) zs h.fits
    (sym is ∙ c.1 ∙ ap (λ j. head major j (shortest_width j) ++ zs) (sym same))).0

head_never : (name : List ℕ) (major : ℕ) (budget : Budget) (Then : ℕ → Beginning) → major < 8
    → Never (λ xs. RejectsShortest name major xs budget) (BeginsHead major Then)
head_never name major budget Then small xs rest more (shortest_rejected closed h) c =
    not_by_head _ _ _ _ h
head_never name major budget Then small xs rest more (shortest_indefinite b opens is says) c =
    search (rules, no_indefinite, head_here)
head_never name major budget Then small xs rest more (too_long v n h other says left) c =
    longer _ _ _ _ _ small h other _ _ c.2

string_never : (name : List ℕ) (major : ℕ) (budget : Budget) → major < 8
    → Never (λ xs. RejectsShortestString name major xs budget) (BeginsHead major Anything)
string_never name major budget small xs rest more (length_rejected h) =
    head_never name major budget Anything small xs rest more h
string_never name major budget small xs rest more (content_cut cut least) =
    absurd (let is = cut.answer in cc)

-- a head, and what follows it
at_head_never : (name : List ℕ) (major : ℕ) (budget : Budget) (then : ℕ → Rejection)
    (Then : ℕ → Beginning) → major < 8 → ((n : ℕ) → Never (then n) (Then n))
    → Never (AtShortest name major budget then) (BeginsHead major Then)
at_head_never name major budget then Then small f xs rest more (inl h) =
    head_never name major budget Then small xs rest more h
at_head_never name major budget then Then small f xs rest more (inr h) = λ c.
    let k = following_head major h.argument xs h.after more c.0 c.1 small h.is c.2 in
    f h.argument h.after rest more h.rejected (rw k.0 (rw k.1 c.3))

items_never : (budget : Budget) (rejects : Rejection) (n : ℕ) → Never rejects BeginsOne
    → Never (RejectsInCount (FitsCanonically budget) rejects n) (BeginsItems n)
items_never budget rejects n f xs rest more s c =
    let few = s.few in
    let counted = c.2 in
    f s.after rest more s.rejected (one_after budget s.prefix c.0 c.1 (s.after ++ more) s.whole c.3
    (sym c.4 ∙ ap (λ z. z ++ more) s.is ∙ append_assoc _ s.after more)
    (omega (arith, few, counted)))

-- ---- by the first byte

other_never : (b : ℕ) (bs rest more : List ℕ) (i : Initial) → initial b ≡ i
    → CanonicalOtherRejects i b bs loose rest → ¬ (BeginsOther (b ∷ (bs ++ more)))
other_never b bs rest more (starts_simple simple_undefined) is h c =
    c.3 (ap initial (sym (same_first b c.0 (bs ++ more) c.1 c.2).0) ∙ is)
other_never b bs rest more (starts_bits p) is h c = let says = h.1.0 in cc
other_never b bs rest more other_simple is h c = let says = h.0 in cc
other_never b bs rest more _ is h c = absurd h

stepped_never : (name : List ℕ) (step : Option Budget) (here rest : List ℕ)
    (S : Budget → InputError → List ℕ → Type 0) (Q : Type 0)
    → ((inner : Budget) → S inner loose rest → ¬ Q) → RejectsAtStep name step here S loose rest
    → ¬ Q
stepped_never name None here rest S Q f h c = let says = h.0 in cc
stepped_never name (Some inner) here rest S Q f h c = f inner h c

by_never : (rejects : Budget → Rejection) → ((o : Budget) → Never (rejects o) BeginsOne)
    → (budget : Budget) (k b : ℕ) (bs rest more : List ℕ)
    → CanonicalRejectsBy rejects budget k b bs loose rest → ¬ (Arm k (b ∷ (bs ++ more)))
by_never rejects f budget zero b bs rest more h =
    head_never _ 0 _ Anything (omega arith) (b ∷ bs) rest more h
by_never rejects f budget (suc zero) b bs rest more h =
    head_never _ 1 _ Anything (omega arith) (b ∷ bs) rest more h
by_never rejects f budget (suc (suc zero)) b bs rest more h =
    string_never _ 2 _ (omega arith) (b ∷ bs) rest more h
by_never rejects f budget (suc (suc (suc zero))) b bs rest more (inl h) =
    string_never _ 3 _ (omega arith) (b ∷ bs) rest more h
by_never rejects f budget (suc (suc (suc zero))) b bs rest more (inr h) =
    absurd (let says = h.rejected.err in cc)
by_never rejects f budget (suc (suc (suc (suc zero)))) b bs rest more h =
    stepped_never _ _ _ _ (λ inner. CanonicalArrayRejects rejects inner (b ∷ bs)) _ (λ inner.
    at_head_never _ 4 _ (RejectsInCount (FitsCanonically inner) (rejects inner)) BeginsItems
    (omega arith) (λ n. items_never _ (rejects inner) _ (f inner)) (b ∷ bs) rest more) h
by_never rejects f budget (suc (suc (suc (suc (suc zero))))) b bs rest more h =
    stepped_never _ _ _ _ (λ inner. CanonicalMapRejects rejects inner (b ∷ bs)) _ (λ inner.
    at_head_never _ 5 _ (λ n. RejectsInCount (FitsCanonically inner) (rejects inner) (2 * n)) (λ n.
    BeginsItems (2 * n)) (omega arith) (λ n. items_never _ (rejects inner) _ (f inner)) (b ∷ bs)
    rest more) h
by_never rejects f budget (suc (suc (suc (suc (suc (suc zero)))))) b bs rest more h =
    search (rules, at_head_never)
by_never rejects f budget (suc (suc (suc (suc (suc (suc (suc k))))))) b bs rest more h =
    other_never _ _ _ _ _ refl h

from_never : (rejects : Budget → Rejection) → ((o : Budget) → Never (rejects o) BeginsOne)
    → (budget : Budget) → Never (CanonicalRejectsFrom rejects budget) BeginsOne
from_never rejects f budget [] rest more h = absurd (let says = h.0 in cc)
from_never rejects f budget (b ∷ bs) rest more h = λ c.
    by_never rejects f budget (b / 32) b bs rest more h (arm_of c.0 b (bs ++ more) c.1 c.2 c.3)

pub within_never : (n : ℕ) (budget : Budget) → Never (CanonicalRejectsWithin n budget) BeginsOne
within_never zero budget xs rest more h = absurd h
within_never (suc n) budget xs rest more h =
    stepped_never value_name (step_in budget) xs rest
    (λ inner. CanonicalRejectsFrom (CanonicalRejectsWithin n) inner xs) (BeginsOne (xs ++ more))
    (λ inner. from_never (CanonicalRejectsWithin n) (within_never n) inner xs rest more) h

-- where the bytes are rejected as not canonical, they are rejected in no other way
abbrev One : Rejection → Type 0
One rejects = (xs : List ℕ) (e : InputError) (x y : List ℕ) → rejects xs e x → rejects xs loose y
    → (e ≡ loose) × (x ≡ y)

-- ---- heads

begins_of : (major v n b : ℕ) (bs : List ℕ) → (h : ReadsHead major 8 (b ∷ bs) v n)
    → Begins major 8 b h.wide
begins_of major v n b bs h = search (rules, first_byte)

one_width : (major b : ℕ) (w u : Width) → Begins major 8 b w → Begins major 8 b u → w ≡ u
one_width major b w u h k = search (rules, begins_width)

-- a head that is rejected is not there
no_head : (name : List ℕ) (major v n : ℕ) (xs : List ℕ) (e : InputError) (x : List ℕ)
    → RejectsHead name major 8 xs e x → ¬ (ReadsHead major 8 xs v n)
no_head name major v n [] e x h k = let nothing = k.is in cc
no_head name major v n (b ∷ bs) e x (inl h) k = h.none k.wide (begins_of major v n b bs k)
no_head name major v n (b ∷ bs) e x (inr h) k =
    search (rules, one_width, begins_of, length-append, length-bytes_high_first)

shortest_once : (name : List ℕ) (major : ℕ) (budget : Budget) → major < 8
    → One (λ xs. RejectsShortest name major xs budget)
shortest_once name major budget small xs e x y h (shortest_rejected d k) =
    absurd (not_by_head name major xs y k)
shortest_once name major budget small xs e x y (shortest_rejected c h)
    (shortest_indefinite b o is says) = absurd (c b y is o)
shortest_once name major budget small xs e x y (shortest_rejected c h)
    (too_long v n k other says left) = absurd (no_head name major v n xs e x h k)
shortest_once name major budget small xs e x y (shortest_indefinite b o is says)
    (shortest_indefinite c p at tells) = (says, (same_first b c x y (sym is ∙ at)).1)
shortest_once name major budget small xs e x y (shortest_indefinite b o is says)
    (too_long v n k other tells left) = search (rules, no_indefinite)
shortest_once name major budget small xs e x y (too_long v n k other says left)
    (shortest_indefinite b o is tells) = search (rules, no_indefinite)
shortest_once name major budget small xs e x y (too_long v n h other says left)
    (too_long w m k another tells gone) =
    (says, left ∙ ap (λ j. drop j xs) (head_one major 8 xs v w n m small h k).0 ∙ sym gone)

-- a shortest head that is rejected is not there
no_shortest : (name : List ℕ) (major n : ℕ) (xs ys : List ℕ) (budget : Budget) (e : InputError)
    (x : List ℕ) → major < 8 → RejectsShortest name major xs budget e x →
    ¬ (ShortestAt major n xs ys)
no_shortest name major n xs ys budget e x small (shortest_rejected closed h) k =
    no_head name major n (suc (byte_count (shortest_width n))) xs e x h (head_here major n xs ys k)
no_shortest name major n xs ys budget e x small (shortest_indefinite b o is says) k =
    search (rules, no_indefinite, head_here)
no_shortest name major n xs ys budget e x small (too_long v m h other says left) k =
    longer major v m xs [] small h other n ys (rw (append-nil xs) k)

after_once : (major : ℕ) (then : ℕ → Rejection) → major < 8 → ((n : ℕ) → One (then n))
    → One (AfterShortest major then)
after_once major then small o xs e x y h k =
    let at = one_head _ _ _ _ _ small h.is.0 k.is.0 (sym h.is.1 ∙ k.is.1) in
    o h.argument h.after e x y h.rejected (rw at.0 (rw at.1 k.rejected))

at_shortest_once : (name : List ℕ) (major : ℕ) (budget : Budget) (then : ℕ → Rejection) → major < 8
    → ((n : ℕ) → One (then n)) → One (AtShortest name major budget then)
at_shortest_once name major budget then small o xs e x y (inl h) (inl k) =
    shortest_once name major budget small xs e x y h k
at_shortest_once name major budget then small o xs e x y (inl h) (inr k) =
    absurd (no_shortest name major k.argument xs k.after budget e x small h k.is)
at_shortest_once name major budget then small o xs e x y (inr h) (inl k) =
    absurd (no_shortest name major h.argument xs h.after budget loose y small k h.is)
at_shortest_once name major budget then small o xs e x y (inr h) (inr k) =
    after_once major then small o xs e x y h k

-- ---- strings

string_once : (name : List ℕ) (major : ℕ) (budget : Budget) → major < 8
    → One (λ xs. RejectsShortestString name major xs budget)
string_once name major budget small xs e x y (length_rejected h) (length_rejected k) =
    shortest_once name major budget small xs e x y h k
string_once name major budget small xs e x y (content_cut c least) (length_rejected k) =
    absurd (no_shortest name major c.count xs c.head.rest budget loose y small k (
      argument_below c.head.wide c.count c.head.fits,
      c.head.is ∙ ap (λ u. head major c.count u ++ c.head.rest) least,
    ))
string_once name major budget small xs e x y h (content_cut c least) =
    absurd (let says = c.answer in cc)

text_once : (budget : Budget) → One (CanonicalTextRejects budget)
text_once budget xs e x y (inl h) (inl k) =
    string_once _ 3 _ (omega arith) xs e x y h k
text_once budget xs e x y (inr h) (inl (length_rejected k)) =
    absurd (no_shortest _ 3 _ _ _ _ _ _ (omega arith) k h.is)
text_once budget xs e x y (inr h) (inl (content_cut c least)) =
    absurd (let says = c.answer in cc)
text_once budget xs e x y h (inr k) = absurd (let says = k.rejected.err in cc)

-- ---- items that follow a head

-- no canonical tree that fits stands where one is rejected
abbrev NoneThere : Budget → Rejection → Type 0
NoneThere budget rejects = (xs : List ℕ) (e : InputError) (x : List ℕ) → rejects xs e x
    → (t : Tree) (ys : List ℕ) → FitsCanonically budget t → ¬ (xs ≡ bytes t ++ ys)

items_after : (budget : Budget) (rejects : Rejection) → One rejects → NoneThere budget rejects
    → (ts us : Trees) (a b : List ℕ) (e : InputError) (x y : List ℕ)
    → Each (FitsCanonically budget) ts → Each (FitsCanonically budget) us
    → bytes_all ts ++ a ≡ bytes_all us ++ b → rejects a e x → rejects b loose y
    → (e ≡ loose) × (x ≡ y)
items_after budget rejects o none no_trees no_trees a b e x y h k is s t =
    o a e x y s (subst (λ z. rejects z loose y) (sym is) t)
items_after budget rejects o none no_trees (tree u us) a b e x y h k is s t =
    absurd (none a e x s u (bytes_all us ++ b) k.0 (is ∙ append_assoc (bytes u) (bytes_all us) b))
items_after budget rejects o none (tree t ts) no_trees a b e x y h k is s r =
    search (rules, append_assoc)
items_after budget rejects o none (tree t ts) (tree u us) a b e x y h k is s r =
    items_after budget rejects o none ts us a b e x y h.1 k.1 (one_encoding t u (bytes_all ts ++ a)
    (bytes_all us ++ b) h.0.0.0.0 k.0.0.0.0 (sym (append_assoc (bytes t) (bytes_all ts) a) ∙ is
    ∙ append_assoc (bytes u) (bytes_all us) b)).1 s r

items_once : (budget : Budget) (rejects : Rejection) (n : ℕ) → One rejects
    → NoneThere budget rejects
    → One (RejectsInCount (FitsCanonically budget) rejects n)
items_once budget rejects n o none xs e x y h k =
    items_after budget rejects o none h.prefix k.prefix h.after k.after e x y h.whole k.whole
    (sym h.is ∙ k.is) h.rejected k.rejected

-- ---- by the first byte

stepped_once : (name : List ℕ) (step : Option Budget) (here : List ℕ)
    (S : Budget → InputError → List ℕ → Type 0) (e : InputError) (x y : List ℕ)
    → ((inner : Budget) → S inner e x → S inner loose y → (e ≡ loose) × (x ≡ y))
    → RejectsAtStep name step here S e x → RejectsAtStep name step here S loose y
    → (e ≡ loose) × (x ≡ y)
stepped_once name None here S e x y o h k = absurd (let says = k.0 in cc)
stepped_once name (Some inner) here S e x y o h k = o inner h k

other_once : (b : ℕ) (i : Initial) → One (CanonicalOtherRejects i b)
other_once b (starts_simple simple_undefined) bs e x y h k = (h.0, h.1 ∙ sym k.1)
other_once b (starts_bits p) bs e x y h k = absurd (let says = k.1.0 in cc)
other_once b other_simple bs e x y h k = absurd (let says = k.0 in cc)
other_once b _ bs e x y h k = absurd h

by_once : (rejects : Budget → Rejection) (budget : Budget) (major b : ℕ)
    → ((o : Budget) → One (rejects o)) → ((o : Budget) → NoneThere o (rejects o))
    → One (CanonicalRejectsBy rejects budget major b)
by_once rejects budget zero b o none bs e x y h k =
    shortest_once _ 0 _ (omega arith) (b ∷ bs) e x y h k
by_once rejects budget (suc zero) b o none bs e x y h k =
    shortest_once _ 1 _ (omega arith) (b ∷ bs) e x y h k
by_once rejects budget (suc (suc zero)) b o none bs e x y h k =
    string_once _ 2 _ (omega arith) (b ∷ bs) e x y h k
by_once rejects budget (suc (suc (suc zero))) b o none bs e x y h k =
    text_once _ (b ∷ bs) e x y h k
by_once rejects budget (suc (suc (suc (suc zero)))) b o none bs e x y h k =
    stepped_once _ _ _ (λ inner. CanonicalArrayRejects rejects inner (b ∷ bs)) _ _ _ (λ inner.
    at_shortest_once _ 4 _ (RejectsInCount (FitsCanonically inner) (rejects inner)) (omega arith)
    (λ n. items_once _ (rejects inner) _ (o inner) (none inner)) (b ∷ bs) e x y) h k
by_once rejects budget (suc (suc (suc (suc (suc zero))))) b o none bs e x y h k =
    stepped_once _ _ _ (λ inner. CanonicalMapRejects rejects inner (b ∷ bs)) _ _ _ (λ inner.
    at_shortest_once _ 5 _ (λ n. RejectsInCount (FitsCanonically inner) (rejects inner) (2 * n))
    (omega arith) (λ n. items_once _ (rejects inner) _ (o inner) (none inner)) (b ∷ bs) e x y) h k
by_once rejects budget (suc (suc (suc (suc (suc (suc zero)))))) b o none bs e x y h k =
    at_shortest_once _ 6 _ (λ n. rejects budget) (omega arith) (λ n. o budget) (b ∷ bs) e x y h k
by_once rejects budget (suc (suc (suc (suc (suc (suc (suc major))))))) b o none bs e x y h k =
    other_once _ _ bs e x y h k

from_once : (rejects : Budget → Rejection) (budget : Budget) → ((o : Budget) → One (rejects o))
    → ((o : Budget) → NoneThere o (rejects o)) → One (CanonicalRejectsFrom rejects budget)
from_once rejects budget o none [] e x y h k = absurd (let says = k.0 in cc)
from_once rejects budget o none (b ∷ bs) e x y h k =
    by_once rejects budget (b / 32) b o none bs e x y h k

none_within : (n : ℕ) (budget : Budget) → NoneThere budget (CanonicalRejectsWithin n budget)
none_within n budget xs e x s t ys fits is = elim (within_value n budget e x xs s) [
  | inl says ↦
      within_never n budget xs x [] (rw (← says) s) (t, ys, fits.0, append-nil xs ∙ is)
  | inr r ↦ not_both xs budget (value t) ys e x (decodes_tree t budget xs (value t) ys
      (fits.0.0, fits.1) refl is) r
]

within_once : (n : ℕ) (budget : Budget) → One (CanonicalRejectsWithin n budget)
within_once zero budget xs e x y h k = absurd h
within_once (suc n) budget xs e x y h k =
    search (rules, stepped_once, from_once, none_within, (within_once n))

pub canonically_once : (budget : Budget) (xs : List ℕ) (e f : InputError) (x y : List ℕ)
    → CanonicalRejects xs budget e x → CanonicalRejects xs budget f y → (e ≡ f) × (x ≡ y)
canonically_once budget xs e f x y h k = elim (canonically_as_value xs budget f y k) [
  | inl is ↦
      let s = within_once (suc (length xs)) budget xs e x y h
      (subst (λ z. CanonicalRejects xs budget z y) is k) in
      (s.0 ∙ sym is, s.1)
  | inr r ↦ elim (canonically_as_value xs budget e x h) [
    | inl is ↦
        let s = within_once (suc (length xs)) budget xs f y x k
        (subst (λ z. CanonicalRejects xs budget z x) is h) in
        (is ∙ sym s.0, sym s.1)
    | inr s ↦ (one_reading xs budget).one_rejected e f x y s r
  ]
]

-- ---- heads and strings that are encoded in one way

-- ---- a shortest head

pub reached_shortest : {E : Type 0} (major n : ℕ) {a m : View} → Moves {E = E} a m (Ok n)
    → Sound (ReadsShortest major) a m n → Reached (ShortestAt major n) a m
reached_shortest major n moves s =
    reached_sound (ReadsShortest major) (ShortestAt major n)
    (λ xs k c _ r. head_at true major n xs k r.0 (λ e. r.1)) moves s

-- the number that the head of a tag has
pub tag_shortest : {E : Type 0} {a c : View} (r : Option ℕ) (failure : Option (DecodeError E))
    → Moves a c (value_or_error r failure) → IfOk (value_or_error r failure)
    (Sound (ReadsShortest 6) a c)
    → IfErr (value_or_error r failure) (Rejects (RejectsShortest tag_name 6) a c) → Does
    (TakesTag true a.budget) (RejectsOf true 6 a.budget) a c (value_or_error r failure)
tag_shortest {a = a} (Some n) failure moves s h =
    does_ok _ _ (reached_shortest 6 n moves s)
tag_shortest {a = a} None failure moves s h =
    call_rejects {U = ℕ} (TakesTag true a.budget) (RejectsShortest tag_name 6) (RejectsOf true 6
    a.budget) (λ xs z rest h b bs is m. rw is (at_major 6 a.budget b bs z rest m (rw (← is) (inl
    h)))) moves h

-- ---- strings

pub string_of : (major : ℕ) (content xs : List ℕ) (n c : ℕ)
    → ReadsShortestString major xs content n c → StringAt major content xs (drop n xs)
string_of major content xs n c r =
    let s = r.0 in
    let k = length content in
    let h = head_at true major k xs s.before s.head (λ e. r.1) in
    let left : drop s.before xs ≡ content ++ drop n xs = sym (take-append-drop k (drop s.before xs))
    ∙ ap₂ ◌++◌ s.stands (drop_more k s.before xs ∙ ap (λ j. drop j xs) (sym s.size)) in
    (h.0, h.1 ∙ ap (λ z. head major k (shortest_width k) ++ z) left)

pub reached_string : {E : Type 0} (major : ℕ) (v : Vec ℕ Global) {a m : View}
    → Moves {E = E} a m (Ok v.items) → Sound (ReadsShortestString major) a m v.items
    → Reached (StringAt major v.items) a m
reached_string {E = E} major v {a = a} {m = m} moves s = record {
  kept = moves.by;
  at = λ xs known. let t = s.at xs known in
      (drop t.count xs, t.left, string_of major v.items xs t.count t.cost t.read);
}

-- a whole text that is no UTF-8
pub no_text : (budget : Budget) (content xs ys : List ℕ) → ¬ (IsUtf8 content)
    → StringAt 3 content xs ys → CanonicalTextRejects budget xs
    (require_utf8 (kind_name text_string)) ys
no_text budget content xs ys invalid h = search (rules, inr, after_shortest)

-- ---- values that are strings

pub bytes_exact : (inner : Budget) (v : Vec ℕ Global) (xs ys : List ℕ) → StringAt 2 v.items xs ys
    → ReadsUnder true inner xs (Bytes v) ys
bytes_exact inner v xs ys h budget step =
    let k = length v.items in (
      string byte_string (shortest_width k) v.items,
      whole true budget (string byte_string (shortest_width k) v.items) (shortest_fits k h.0, tt)
          (λ e. refl) (step_up budget inner 0 step (fits_zero inner)),
      sym (view-Bytes v),
      h.1 ∙ sym (append_assoc (head 2 k (shortest_width k)) v.items ys),
    )

pub text_exact : (inner : Budget) (v : String Global) (xs ys : List ℕ) → IsUtf8 (string_bytes v)
    → StringAt 3 (string_bytes v) xs ys → ReadsUnder true inner xs (Text v) ys
text_exact inner v xs ys valid h budget step =
    let k = length (string_bytes v) in (
      string text_string (shortest_width k) (string_bytes v),
      whole true budget (string text_string (shortest_width k) (string_bytes v))
          (shortest_fits k h.0, valid) (λ e. refl) (step_up budget inner 0 step (fits_zero inner)),
      sym (view-Text v),
      h.1 ∙ sym (append_assoc (head 3 k (shortest_width k)) (string_bytes v) ys),
    )

-- ---- in the words of the definitions

as_canonically : (budget : Budget) (xs : List ℕ) (v : Value) (ys : List ℕ)
    → ReadsOneValue true budget xs v ys → DecodesCanonically xs budget (view v) ys
as_canonically budget xs v ys r = search rules

pub as_read : (budget : Budget) (xs : List ℕ) (v : Item) (ys : List ℕ)
    → DecodesCanonically xs budget v ys → DecodesTo xs budget v ys
as_read budget xs v ys r = search rules

-- ---- what an error says

-- what is not canonical goes on as no canonical encoding
never_loose : (budget other : Budget) (xs more : List ℕ) (e : InputError) (rest : List ℕ) (v : Item)
    (ys : List ℕ) → CanonicalRejects xs budget e rest → e ≡ loose
    → ¬ (DecodesCanonically (xs ++ more) other v ys)
never_loose budget other xs more e rest v ys h is r =
    let s = r.encodes in
    within_never (suc (length xs)) budget xs rest more (subst (λ z. CanonicalRejects xs budget z
    rest) is h) (s.of_tree, ys, s.canonical, r.begins ∙ ap (λ z. z ++ ys) (sym s.bytes_are))

-- what is canonical is not rejected
pub canonical_or : (budget : Budget) (xs : List ℕ) (e : InputError) (rest : List ℕ) (v : Item)
    (ys : List ℕ) → CanonicalRejects xs budget e rest → ¬ (DecodesCanonically xs budget v ys)
canonical_or budget xs e rest v ys h r = elim (canonically_as_value xs budget e rest h) [
  | inl is ↦ never_loose budget budget xs [] e rest v ys h is
      (subst (λ z. DecodesCanonically z budget v ys) (sym (append-nil xs)) r)
  | inr s ↦ not_both xs budget v ys e rest (as_read budget xs v ys r) s
]

is_eof : (budget : Budget) (xs back : List ℕ) (e : InputError) (rest : List ℕ) (v : Item)
    → DecodesCanonically (xs ++ back) budget v [] → CanonicalRejects xs budget e rest → IsEof e
is_eof budget xs back e rest v r h = elim (canonically_as_value xs budget e rest h) [
  | inl is ↦ absurd (never_loose budget budget xs back e rest v [] h is r)
  | inr s ↦
      let t = tree_of (as_read budget (xs ++ back) v [] r) in
      eof_alone reading_laws xs back budget t.0 e rest s t.1
]

deep : (budget : Budget) (xs : List ℕ) (e : InputError) (rest : List ℕ)
    → CanonicalRejects xs budget e rest → IsDepthOverflow e → (more : List ℕ) (v : Item)
    (ys : List ℕ) → ¬ (DecodesCanonically (xs ++ more) budget v ys)
deep budget xs e rest h i more v ys r = elim (canonically_as_value xs budget e rest h) [
  | inl is ↦ never_loose budget budget xs more e rest v ys h is r
  | inr s ↦ not_both (xs ++ more) budget v ys e (rest ++ more) (as_read budget (xs ++ more) v ys r)
      (persists reading_profile reading_widens xs more budget e rest (no_eof e (inl i)) s)
]

never : (budget : Budget) (xs : List ℕ) (e : InputError) (rest : List ℕ)
    → CanonicalRejects xs budget e rest → IsFinal e ⊎ IsNotCanonical e → (more : List ℕ)
    (other : Budget) (v : Item) (ys : List ℕ) → ¬ (DecodesCanonically (xs ++ more) other v ys)
never budget xs e rest h i more other v ys r = elim (canonically_as_value xs budget e rest h) [
  | inl is ↦ never_loose budget other xs more e rest v ys h is r
  | inr s ↦ final_stays xs more budget other e rest v ys
      (final e i (may_reject reading_profile xs budget e
      rest s)) s (as_read other (xs ++ more) v ys r)
]
  where
    final : (z : InputError) → IsFinal z ⊎ IsNotCanonical z → MayReject z → IsFinal z
    final z (inl f) m = f
    final (not_canonical name) (inr n) m = elim m [
      | inl a ↦ absurd a
      | inr b ↦ elim b
          [ inl d ↦ absurd d | inr f ↦ f ]
    ]
    final _ (inr n) m = absurd n

-- an error of a value
of_value : (budget : Budget) (xs : List ℕ) (e : InputError) (rest : List ℕ)
    → CanonicalRejects xs budget e rest → ¬ (IsNotCanonical e) → ReadingRejects xs budget e rest
of_value budget xs e rest h other = elim (canonically_as_value xs budget e rest h)
    [ inl is ↦ absurd (other (subst IsNotCanonical (sym is) tt)) | inr s ↦ s ]

eof_is_other : (e : InputError) → IsEof e → ¬ (IsNotCanonical e)
eof_is_other (eof name n) h c = c
eof_is_other _ h c = absurd h

may_stop : (budget : Budget) (xs : List ℕ) (e : InputError) (rest : List ℕ)
    → CanonicalRejects xs budget e rest → MayReject e ⊎ IsNotCanonical e
may_stop budget xs e rest h = search (rules, canonically_as_value, inl, inr, may_reject)

-- ---- a value was read

module _ {E : Type 0} {a b : View} {v : Value}
    (d : Does {E = E} (ReadsOneValue true a.budget) (RejectsOneValue true a.budget) a b (Ok v))
  where
    canonical_sound : Sound ReadsCanonical a b (record { 0 = v })
    canonical_sound = record {
      at = λ xs known.
          let s = d.ok xs known in
          let t = s.2.0 in
          let n = length (bytes t) in
          let trailing : drop n xs ≡ s.0 = ap (drop n) s.2.3 ∙ drop-append_seam (bytes t) s.0 in
          let prefix : take n xs ≡ bytes t = ap (take n) s.2.3 ∙ take-append_seam (bytes t) s.0 in
          record {
            count = n;
            cost = cost t;
            read = record {
              within = omega (arith, ap length s.2.3, length-append (bytes t) s.0);
              encodes = record {
                of_tree = t;
                canonical = s.2.1.0;
                bytes_are = sym prefix;
                value_is = s.2.2;
                cost_is = refl;
              };
            };
            fits = s.2.1.1;
            left = s.1 ∙ ap Some (sym trailing);
          };
    }

    pub canonical_ok : b.bound + 1 ≤ a.bound
        → Decodes {E = E} canonical_format a b (Ok (record { 0 = v }))
    canonical_ok progress = ok canonical_format d.moves.by (λ some. progress) canonical_sound

    pub canonical_only : OnlyCanonical {E = E} a b (Ok (record { 0 = v }))
    canonical_only = λ xs known. let s =
        d.ok xs known in (s.0, s.1, as_canonically a.budget xs v s.0 s.2)

    pub canonical_all : AllCanonical {E = E} a b (Ok (record { 0 = v }))
    canonical_all = λ xs known w rest r.
        let s = d.ok xs known in
        let same = (one_reading xs a.budget).one_accepted (view v) w s.0 rest (as_read a.budget xs
        (view v) s.0 (as_canonically a.budget xs v s.0 s.2)) (as_read a.budget xs w rest r) in
        (same.0, s.1 ∙ ap Some same.1)

    pub takes_encoding : TakesEncoding {E = E} a b (Ok (record { 0 = v }))
    takes_encoding = λ xs known.
        let s = d.ok xs known in
        let r = (reads_canonically_iff xs a.budget (view v) s.0).0
        (as_canonically a.budget xs v s.0 s.2) in
        (s.0, s.1, r.0, r.1, r.2)

    pub canonical_every : EveryEncoding {E = E} a b (Ok (record { 0 = v }))
    canonical_every = λ xs known w rest decoded fits is.
        canonical_all xs known w rest ((reads_canonically_iff _ _ _ _).1 (decoded, fits, is))

    pub canonical_prefix : PrefixCanonical {E = E} a (Ok (record { 0 = v }))
    canonical_prefix = λ xs known w decoded fits prefix.
        let s = d.ok xs known in
        let c = canonical_canonically w decoded in
        no_prefix xs s.2.0 c.of_tree s.0 s.2.1.0.0.0 c.canonical.0.0 s.2.3 (rw c.bytes_are prefix)

    pub canonical_exact : ExactCanonical {E = E} a b (Ok (record { 0 = v }))
    canonical_exact = λ xs known z rest rejects. let s = d.ok xs known in
        canonical_or a.budget xs z rest (view v) s.0 rejects (as_canonically a.budget xs v s.0 s.2)

-- ---- it was rejected

module _ {E : Type 0} {a b : View} {e : DecodeError E}
    (d : Does {V = Value} (ReadsOneValue true a.budget) (RejectsOneValue true a.budget) a b
    (Err e)) where
  rejected : (xs : List ℕ) (Q : InputError → Type 0) → a.known ≡ Some xs → ((z : InputError)
      (ys : List ℕ) → input_error_of e ≡ Some z → b.known ≡ Some ys → CanonicalRejects xs a.budget z
      ys → Q z) → IfSome (input_error_of e) Q
  rejected xs Q known f = search (rules, if_some)

  canonical_complete : Complete ReadsCanonical a e
  canonical_complete = record {
    at = λ xs known.
        rejected xs (λ z. NoneRead ReadsCanonical xs a.budget) known
        (λ z ys is left h v n c r fits. let s = r.encodes in
        canonical_or a.budget xs z ys (view v.0) (drop n xs) h (record {
          encoding = take n xs;
          steps = c;
          encodes = s;
          fits = fits;
          begins = sym (take-append-drop n xs);
        }));
  }

  canonical_rejects : Rejects CanonicalRejects a b e
  canonical_rejects = record { at = λ xs known. d.err xs known }

  pub canonical_err : Decodes canonical_format a b (Err e)
  canonical_err = search (rules, moves_err, canonical_complete, canonical_rejects)

  pub rejected_all : AllCanonical {E = E} a b (Err e)
  rejected_all = λ xs known w rest r. rejected xs (λ _. ⊥) known
      (λ z ys is left h. canonical_or a.budget xs z ys w rest h r)

  pub rejected_every : EveryEncoding {E = E} a b (Err e)
  rejected_every = λ xs known w rest decoded fits is.
      rejected_all xs known w rest ((reads_canonically_iff _ _ _ _).1 (decoded, fits, is))

  pub rejected_prefix : PrefixCanonical {E = E} a (Err e)
  rejected_prefix = λ xs known w decoded fits prefix. rejected xs IsEof known (λ z ys is left h.
      is_eof a.budget xs prefix.0 z ys w ((reads_canonically_iff (xs ++ prefix.0) a.budget w []).1
      (decoded, fits, sym prefix.2 ∙ sym (append-nil _))) h)

  pub rejected_eof : EofReads {V = Canonical} {E = E} a b (Err e)
  rejected_eof = λ xs known. rejected xs _ known (λ z ys is left h ended.
      let s = of_value a.budget xs z ys h (eof_is_other z ended) in
      let none : b.known ≡ Some [] =
      left ∙ ap Some (leaves_nothing reading_profile xs a.budget z ys ended s) in (
        none,
        reading_eof_prefix xs a.budget z ys ended
            (all_bytes {V = Value} a b e z xs is d.moves known none) s,
      ))

  pub rejected_depth : DepthCanonical {E = E} a (Err e)
  rejected_depth = λ xs known.
      rejected xs _ known (λ z ys is left h i more w after. deep a.budget xs z ys h i more w after)

  pub rejected_never : NeverCanonical {E = E} a (Err e)
  rejected_never = λ xs known. rejected xs _ known (λ z ys is left h i more other w after.
      never a.budget xs z ys h i more other w after)

  pub rejected_others : OthersCanonical {E = E} a (Err e)
  rejected_others = λ xs known. rejected xs _ known (λ z ys is left h. may_stop a.budget xs z ys h)

  pub rejected_value : ValueCanonical {E = E} a b (Err e)
  rejected_value = λ xs known.
      rejected xs _ known (λ z ys is left h other. (ys, left, of_value a.budget xs z ys h other))

  pub rejected_exact : ExactCanonical {E = E} a b (Err e)
  rejected_exact = λ xs known z rest rejects. rejected xs _ known (λ f ys is left h. let same =
      canonically_once a.budget xs f z ys rest h rejects in (same.0, left ∙ ap Some same.1))
