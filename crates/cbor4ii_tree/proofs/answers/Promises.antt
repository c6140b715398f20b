-- What a decoding call promises follows from what it accepts and where it fails.
use Rattle.std.proofs.Common.{rules, IfOk, false, ◌≡◌, ℕ, inl, List, [], ◌++◌, length, take, drop}
use Rattle.std.proofs.Common.{Option, Some, None, Result, Ok, Err, refl, sym, ap, ◌∙◌, subst}
use Rattle.std.proofs.Common.{append-nil, arith, length-append, IfSome, take-append-drop, IfErr}
use Rattle.std.proofs.{Common.{OnOk, ◌+◌, ◌≤◌}, Math.Seq.{drop-append_seam, take-append_seam}}
use Rattle.cbor4ii_rw.specs.{declared.error.DecodeError.DecodeError, View.View}
use Rattle.cbor4ii_items.specs.{Head.IsBytes, InputError.{InputError, input_error_of}}
use Rattle.cbor4ii_items.specs.{Laws.Answering.not_read, Moves.{Moves}}
use Rattle.cbor4ii_items.specs.{Budget.CostFits, Decoding.{Sound, Complete, Rejects, NoneRead}}
use Rattle.cbor4ii_items.specs.{Decoding.Decodes, Laws.Calls.any_memory}
use Rattle.cbor4ii_tree.specs.Basis.Canonical.{canonical_encoding, canonical_cost}
use Rattle.cbor4ii_tree.specs.{Basis.Cost.{Budget, cost}, declared.value.Value.Value}
use Rattle.cbor4ii_tree.specs.{Inner.Does.{Accepting, Does}, Basis.Encodings.{Encodes, DecodesTo}}
use Rattle.cbor4ii_tree.specs.{Basis.Encodings.IsProperPrefix, Basis.Headline.{Answered, AllSkips}}
use Rattle.cbor4ii_tree.specs.Basis.Headline.{OnlyReads, AllReads, PrefixReads, EofReads}
use Rattle.cbor4ii_tree.specs.{Basis.Headline.{SkipsReads, CanonicalReads}, Basis.InputError.IsEof}
use Rattle.cbor4ii_tree.specs.{Basis.Item.{IsItem, Item}, Calls.Promises.{Others, PrefixSkips}}
use Rattle.cbor4ii_tree.specs.Calls.Promises.{EofSkips, DepthSkips, FinalSkips, ExactSkips}
use Rattle.cbor4ii_tree.specs.Calls.Promises.{DepthReads, FinalReads, ExactReads, SizeReads}
use Rattle.cbor4ii_tree.specs.Calls.Promises.{ReadsValue, value_format}
use Rattle.cbor4ii_tree.specs.Calls.ReadingRejects.{ReadingRejects, Readable, reading_profile}
use Rattle.cbor4ii_tree.specs.{Calls.Rejections.Rejection, Inner.Skipping.SkipsOne}
use Rattle.cbor4ii_tree.specs.Inner.Skipping.{RejectsSkippingOne}
use Rattle.cbor4ii_tree.specs.{Calls.SkippingRejects.skipping_profile, Basis.Tree.{Tree, bytes}}
use Rattle.cbor4ii_tree.specs.{Basis.Tree.{Loose, Joins}, Inner.Valuing.ReadsOneValue}
use Rattle.cbor4ii_tree.specs.{Inner.Valuing.RejectsOneValue, Basis.View.view}
use Rattle.cbor4ii_tree.proofs.answers.MayReject.{may_reject, leaves_nothing}
use Rattle.cbor4ii_tree.proofs.encodings.CanonicalShape.{canonical_encodes}
use Rattle.cbor4ii_tree.proofs.{encodings.Sizes.size-of_tree, profile.Answer.skipping_laws}
use Rattle.cbor4ii_tree.proofs.profile.Answer.{reading_laws, no_eof, stays, final_stays, no_prefix}
use Rattle.cbor4ii_tree.proofs.{profile.Answer.{eof_alone, eof_on_prefix}, reading.Answer.tree_of}
use Rattle.cbor4ii_tree.proofs.reading.Answer.{decodes_tree, one_reading, not_both}
use Rattle.cbor4ii_tree.proofs.skipping.Answer.{one_skipping}
use Rattle.cbor4ii_tree.proofs.reading.Laws as readings

-- ---- what an answer says

pub if_some : (o : Option InputError) (P Q : InputError → Type 0)
    → ((z : InputError) → o ≡ Some z → P z → Q z) → IfSome o P → IfSome o Q
if_some None P Q f p = tt
if_some (Some z) P Q f p = f z refl p

-- where nothing is left, all bytes were taken, so that they are bytes
taken_bytes : (xs : List ℕ) (n : ℕ) (new : Option (List ℕ)) → new ≡ Some (drop n xs) → new ≡ Some []
    → IsBytes (take n xs) → IsBytes xs
taken_bytes xs n new left none h =
    let gone : drop n xs ≡ [] = cc in
    let all : take n xs ≡ xs = sym (append-nil (take n xs)) ∙ ap (λ z. take n xs ++ z) (sym gone)
    ∙ take-append-drop n xs in
    subst IsBytes all h

pub all_bytes : {V E : Type 0} (a b : View) (e : DecodeError E) (z : InputError) (xs : List ℕ)
    → input_error_of e ≡ Some z → Moves {V = V} a b (Err e) → a.known ≡ Some xs → b.known ≡ Some []
    → IsBytes xs
all_bytes a b e z xs says moves known none = search (rules, not_read, says, taken_bytes)

-- What an answer says follows from what is accepted, and from where it fails: then bytes of which
-- nothing is left are bytes.
pub says : {V E : Type 0} {S : Accepting V} {R : Rejection} {a b : View}
    {G : V → Type 0} {P : InputError → Type 0} (answer : Result V (DecodeError E))
    → Does S R a b answer → (xs : List ℕ) → a.known ≡ Some xs
    → ((ys : List ℕ) (v : V) → b.known ≡ Some ys → S xs v ys → G v)
    → ((ys : List ℕ) (z : InputError) → (b.known ≡ Some [] → IsBytes xs) → b.known ≡ Some ys
    → R xs z ys → P z) → Answered G P answer
says (Ok v) d xs known g f = let s = d.ok xs known in g s.0 v s.1 s.2
says {V = V} {R = R} {a = a} {b = b} {P = P} (Err e) d xs known g f =
    if_some (input_error_of e) (λ z. (ys : List ℕ) × (b.known ≡ Some ys) × R xs z ys) P
    (λ z is h. f h.0 z (all_bytes {V = V} a b e z xs is d.moves known) h.1 h.2) (d.err xs known)

-- ---- an item is skipped

module _ {V E : Type 0} {a b : View} (answer : Result V (DecodeError E))
    (d : Does (λ xs _ ys. SkipsOne a.budget xs ys) (RejectsSkippingOne a.budget) a b answer) where
  pub all_skips : AllSkips a b answer
  all_skips = λ xs known t rest r. let one = one_skipping xs a.budget in
      says answer d xs known
      (λ ys v left s. left ∙ ap Some (one.one_accepted s.0 t ys rest s.1 r).1)
      (λ ys z ended left h. one.not_both t rest z ys r h)

  pub prefix_skips : PrefixSkips a answer
  prefix_skips = λ xs known t loose fits prefix. says answer d xs known
      (λ ys v left s. no_prefix xs s.0 t ys s.1.loose loose s.1.begins prefix)
      (λ ys z ended left h. eof_alone skipping_laws xs prefix.0 a.budget t z ys h
      ((loose, fits), sym prefix.2 ∙ sym (append-nil (bytes t))))

  pub eof_skips : EofSkips a b answer
  eof_skips = search (rules, says, leaves_nothing, eof_on_prefix, skipping_laws)

  pub depth_skips : DepthSkips a answer
  depth_skips = λ xs known. says answer d xs known (λ ys v left s. tt)
      (λ ys z ended left h deep more t after r. stays skipping_laws xs more a.budget t after z ys
      (no_eof z (inl deep)) h ((r.loose, r.fits), r.begins))

  pub final_skips : FinalSkips a answer
  final_skips = λ xs known. says answer d xs known (λ ys v left s. tt)
      (λ ys z ended left h final more other t after r. final_stays skipping_laws xs more a.budget
      other z ys t after final h ((r.loose, r.fits), r.begins))

  pub others_skips : Others a answer
  others_skips = λ xs known. says answer d xs known (λ ys v left s. tt)
      (λ ys z ended left h. may_reject skipping_profile xs a.budget z ys h)

  pub exact_skips : ExactSkips a b answer
  exact_skips = λ xs known z rest rejects. let one = one_skipping xs a.budget in
      says answer d xs known (λ ys v left s. one.not_both s.0 ys z rest s.1 rejects)
      (λ ys f ended left h. let same = one.one_rejected f z ys rest h rejects in
      (same.0, left ∙ ap Some same.1))

-- ---- a value is read

-- a call that reads a value
abbrev ReadsCall : {E : Type 0} → View → View → Result Value (DecodeError E) → Type 0
ReadsCall a b answer = Does (ReadsOneValue false a.budget) (λ xs. ReadingRejects xs a.budget) a b
    answer

as_reads : (budget : Budget) (xs : List ℕ) (v : Value) (ys : List ℕ)
    → ReadsOneValue false budget xs v ys → DecodesTo xs budget (view v) ys
as_reads budget xs v ys r = decodes_tree r.0 budget xs (view v) ys r.1 r.2 r.3

pub reading_eof_prefix : (xs : List ℕ) (budget : Budget) (z : InputError) (ys : List ℕ) → IsEof z
    → IsBytes xs → ReadingRejects xs budget z ys
    → (t : Tree) × Loose t × Joins t × IsProperPrefix xs (bytes t)
reading_eof_prefix xs budget z ys i h s =
    let t = eof_on_prefix reading_laws xs budget z ys h i s in (t.0, t.1.0, t.1.1 refl, t.3)

module _ {E : Type 0} {a b : View} (answer : Result Value (DecodeError E))
    (d : ReadsCall a b answer) where
  pub all_reads : AllReads a b answer
  all_reads = λ xs known w rest r. let one = one_reading xs a.budget in
      says answer d xs known (λ ys v left s. let same = one.one_accepted (view v) w ys rest
      (as_reads a.budget xs v ys s) r in (same.0, left ∙ ap Some same.1))
      (λ ys z ended left h. one.not_both w rest z ys r h)

  pub prefix_reads : PrefixReads a answer
  prefix_reads = λ xs known encoding w steps encodes fits prefix.
      let t : Tree = encodes.of_tree in
      let whole : Readable a.budget t = (encodes.plain, rw encodes.cost_is fits) in
      let prefix : IsProperPrefix xs (bytes t) = rw encodes.bytes_are prefix in
      says answer d xs known
      (λ ys v left s. no_prefix xs s.0 t ys s.1.0.0 encodes.plain.0 s.3 prefix)
      (λ ys z ended left h. eof_alone reading_laws xs prefix.0 a.budget t z ys h
      (whole, sym prefix.2 ∙ sym (append-nil (bytes t))))

  pub eof_reads : EofReads a b answer
  eof_reads = λ xs known. says answer d xs known (λ ys v left s. tt) (λ ys z ended left h i.
      let none : b.known ≡ Some [] = left ∙ ap Some (leaves_nothing reading_profile xs a.budget z ys
      i h)
      in (none, reading_eof_prefix xs a.budget z ys i (ended none) h))

  pub depth_reads : DepthReads a answer
  depth_reads = λ xs known. says answer d xs known (λ ys v left s. tt)
      (λ ys z ended left h deep more w after r. let t = tree_of r in stays reading_laws xs more
      a.budget t.0 after z ys (no_eof z (inl deep)) h t.1)

  pub final_reads : FinalReads a answer
  final_reads = λ xs known. says answer d xs known (λ ys v left s. tt)
      (λ ys z ended left h final more other w after r. readings.final_stays xs more a.budget other z
      ys w after final h r)

  pub others_reads : Others a answer
  others_reads = λ xs known. says answer d xs known (λ ys v left s. tt)
      (λ ys z ended left h. may_reject reading_profile xs a.budget z ys h)

  pub exact_reads : ExactReads a b answer
  exact_reads = λ xs known z rest rejects. let one = one_reading xs a.budget in
      says answer d xs known (λ ys v left s. one.not_both (view v) ys z rest
      (as_reads a.budget xs v ys s) rejects) (λ ys f ended left h.
      let same = one.one_rejected f z ys rest h rejects in (same.0, left ∙ ap Some same.1))

pub only_reads : {E : Type 0} {a b : View} (answer : Result Value (DecodeError E))
    → ReadsCall a b answer → OnlyReads a b answer
only_reads {a = a} (Ok v) d =
    λ xs known. let s = d.ok xs known in (s.0, s.1, as_reads a.budget xs v s.0 s.2)
only_reads (Err e) d = λ xs known. tt

pub size_reads : {E : Type 0} {a b : View} (answer : Result Value (DecodeError E))
    → ReadsCall a b answer → SizeReads a b answer
size_reads {a = a} (Ok v) d = λ xs known.
    let s = d.ok xs known in
    let g = as_reads a.budget xs v s.0 s.2 in (
      s.0,
      s.1,
      omega (
        arith,
        size-of_tree g.encoding (view v) g.steps g.encodes,
        ap length g.begins,
        length-append g.encoding s.0,
      ),
    )
size_reads (Err e) d = λ xs known. tt

pub skips_reads : {E : Type 0} {a b : View} (answer : Result Value (DecodeError E))
    → ReadsCall a b answer → SkipsReads a b answer
skips_reads {a = a} (Ok v) d = λ xs known.
    let s = d.ok xs known in
    let k = readings.skips_what_reads xs a.budget (view v) s.0 (as_reads a.budget xs v s.0 s.2) in
    (k.0, s.0, s.1, k.1)
skips_reads (Err e) d = λ xs known. tt

pub canonical_reads : {E : Type 0} {a b : View} (answer : Result Value (DecodeError E))
    → ReadsCall a b answer → IfOk answer (λ v. IsItem (view v)) → CanonicalReads a answer
canonical_reads {a = a} (Ok v) d item = λ xs known.
    let s = d.ok xs known in
    let g = as_reads a.budget xs v s.0 s.2 in
    let same = readings.encoded_has_bignums g.encoding (view v) g.steps g.encodes in
    record {
      same = same;
      encodes =
          subst (λ w. Encodes (canonical_encoding (view v)) w (canonical_cost (view v))) same
          (canonical_encodes (view v) item);
      least = λ encoding steps encodes. readings.canonical_costs_least encoding (view v) steps
          encodes;
      reads =
          λ more. readings.reads_back g.encoding (view v) g.steps a.budget more item g.encodes
          g.fits;
    }
canonical_reads (Err e) d item = λ xs known. tt

-- ---- in the words of the definitions

reads_prefix : (budget : Budget) (xs : List ℕ) (v : Item) (n c : ℕ) → ReadsValue xs v n c
    → CostFits c budget → DecodesTo xs budget v (drop n xs)
reads_prefix budget xs v n c r fits = search (rules, take-append-drop)

-- ---- what a decoding call promises

module _ {E : Type 0} {a b : View} where
  value_sound : (r : Result Value (DecodeError E)) → Does (ReadsOneValue false a.budget)
      (RejectsOneValue false a.budget) a b r → IfOk r
      (Sound (λ xs (v : Value). ReadsValue xs (view v)) a b)
  value_sound (Err e) d = tt
  value_sound (Ok v) d = record {
    at = λ xs known.
        let s = d.ok xs known in
        let t = s.2.0 in
        let n = length (bytes t) in
        let trailing : drop n xs ≡ s.0 = ap (drop n) s.2.3 ∙ drop-append_seam (bytes t) s.0 in
        let prefix : take n xs ≡ bytes t = ap (take n) s.2.3 ∙ take-append_seam (bytes t) s.0 in
        record {
          count = n;
          cost = cost t;
          read = record {
            within = omega (arith, ap length s.2.3, length-append (bytes t) s.0);
            encodes = record {
              of_tree = t;
              plain = s.2.1.0;
              bytes_are = sym prefix;
              value_is = s.2.2;
              cost_is = refl;
            };
          };
          fits = s.2.1.1;
          left = s.1 ∙ ap Some (sym trailing);
        };
  }

  value_complete : (r : Result Value (DecodeError E))
      → Does (ReadsOneValue false a.budget) (RejectsOneValue false a.budget) a b r
      → IfErr r (Complete (λ xs (v : Value). ReadsValue xs (view v)) a)
  value_complete (Ok v) d = tt
  value_complete (Err e) d = record {
    at = λ xs known. if_some _
        (λ z. (ys : List ℕ) × (b.known ≡ Some ys) × ReadingRejects xs a.budget z ys) (λ z. NoneRead
        (λ xs (v : Value). ReadsValue xs (view v)) xs a.budget) (λ z is h v n c r fits. not_both xs
        a.budget (view v) (drop n xs) z h.0 (reads_prefix _ _ _ _ _ r fits) h.2) (d.err xs known);
  }

  value_rejects : (r : Result Value (DecodeError E)) → Does (ReadsOneValue false a.budget)
      (RejectsOneValue false a.budget) a b r → IfErr r (Rejects ReadingRejects a b)
  value_rejects (Ok v) d = tt
  value_rejects (Err e) d = record { at = λ xs known. d.err xs known }

  pub value_decodes : (r : Result Value (DecodeError E)) → Does (ReadsOneValue false a.budget)
      (RejectsOneValue false a.budget) a b r → OnOk r (b.bound + 1 ≤ a.bound) → Decodes value_format
      a b r
  value_decodes r d progress = record {
    moves = d.moves;
    progress = λ some. progress;
    memory = any_memory r;
    sound = value_sound r d;
    complete = λ canonical. value_complete r d;
    rejects = λ canonical. value_rejects r d;
    begins = value_rejects r d;
  }
