-- A head, and then a content that is lent.
use Rattle.std.proofs.Common.{◌≡◌, ℕ, ◌+◌, ◌<◌, ◌≤◌, inl, inr, List, length, take, drop, Some}
use Rattle.std.proofs.Common.{Result, Ok, Err, Bool, false, IsTrue, refl, sym, ap, ◌∙◌, subst}
use Rattle.std.proofs.Common.{arith, IfSome, IfOk, IfErr, rules}
use Rattle.std.specs.Prelude.{MatchBool, IsUtf8}
use Rattle.std.proofs.lemmas.List.{length-drop, length-take, length-take-le}
use Rattle.cbor4ii_rw.specs.View.{View, IfKnown}
use Rattle.cbor4ii_rw.specs.declared.error.DecodeError.{DecodeError}
use Rattle.cbor4ii_items.specs.declared.strings.lent.Lacks.{Lacks}
use Rattle.cbor4ii_items.specs.declared.strings.lent.Lacks.TheVariants.{Read, Short, Few, NotUtf8}
use Rattle.cbor4ii_items.specs.Moves.{Kept, ReaderFailed}
use Rattle.cbor4ii_items.specs.InputError.{input_error_of, require_length, len_of}
use Rattle.cbor4ii_items.specs.Decoding.{IsExact, Sound, NoneRead, Decodes}
use Rattle.cbor4ii_items.specs.Heads.{ReadsHead}
use Rattle.cbor4ii_items.specs.Laws.Heads.{head_read, head_one}
use Rattle.cbor4ii_items.specs.Numbers.{ReadsArgument, RejectsArgument, argument_format}
use Rattle.cbor4ii_items.specs.Laws.Prefixes.{drop_more}
use Rattle.cbor4ii_items.specs.Strings.{ReadsDefiniteString}
use Rattle.cbor4ii_items.specs.Lent.{ReadsBorrowed, RejectsBorrowed, BeginsBorrowed}
use Rattle.cbor4ii_items.specs.Lent.{begins_rejected, none_is_lent, few_are_lent, begins_no_utf8}
use Rattle.cbor4ii_items.specs.Lent.{lent_head_rejected, too_few, lent_no_utf8, Lends, LacksContent}
use Rattle.cbor4ii_items.specs.Lent.{lack_error, lack_is_read, Named, lent_format}
use Rattle.cbor4ii_items.specs.Laws.Answering.{fits_zero, complete_as}
use Rattle.cbor4ii_items.specs.Laws.Calls.{rejects_as, ok}
use Rattle.cbor4ii_items.specs.Laws.Steps.{moves_then, moves_err, kept_then}

-- ---- the reader

lack_moves : {E : Type 0} (count : ℕ) (is_text : Bool) (m b : View) (lack : Lacks E)
    → LacksContent count is_text m b lack → MatchBool (lack_is_read lack) (ReaderFailed m b)
    (Kept m b)
lack_moves count is_text m b (Read e) h = h
lack_moves count is_text m b Short h = h.0.kept
lack_moves count is_text m b (Few n) h = h.0.kept
lack_moves count is_text m b NotUtf8 h = h.2.kept

module _ (V E : Type 0) (name : List ℕ) (count : ℕ) (is_text : Bool) (content : V → List ℕ)
    (a m b : View) where
  -- ---- the content after its head

  counted : (major : ℕ) (xs v : List ℕ) (before : ℕ) → ReadsHead major 8 xs count before
      → count ≤ length (drop before xs) → v ≡ take count (drop before xs)
      → ReadsDefiniteString major xs v (before + count)
  counted major xs v before h room is =
      let long : length v ≡ count = ap length is ∙ length-take-le count (drop before xs) room in
      record {
        before = before;
        head = subst (λ j. ReadsHead major 8 xs j before) (sym long) h;
        stands = ap (λ j. take j (drop before xs)) long ∙ sym is;
        size = ap (λ j. before + j) (sym long);
      }

  lent_at : (major : ℕ) (v : V) → Sound (ReadsArgument major 8) a m count
      → Lends count (content v) m b → (IsTrue is_text → IsUtf8 (content v))
      → Sound (ReadsBorrowed major is_text content) a b v
  lent_at major v s l utf8 = record {
    at = λ xs known.
        let h = s.at xs known in
        let t = l.at (drop h.count xs) h.left in
        record {
          count = h.count + count;
          cost = 0;
          read = (counted major xs (content v) h.count h.read.0 t.0 t.2, refl, utf8);
          fits = fits_zero a.budget;
          left = t.1 ∙ ap Some (drop_more count h.count xs);
        };
  }

  -- a place that is known after the head is known after the item
  pub lent_place : (major : ℕ) (stands : V → View → Type 0) (o : Result V (Lacks E))
      (r : Result V (DecodeError E)) → Named name o r → Sound (ReadsArgument major 8) a m count
      → IfOk o (λ v. IfKnown m.known (λ xs. stands v b)) → IfOk r
      (λ v. IfKnown a.known (λ xs. stands v b))
  lent_place major stands (Ok v) (Ok w) n s at =
      λ xs known. let h = s.at xs known in subst (λ z. stands z b) n (at (drop h.count xs) h.left)
  lent_place major stands (Ok v) (Err e) n s at = tt
  lent_place major stands (Err lack) (Ok w) n s at = absurd n
  lent_place major stands (Err lack) (Err e) n s at = tt

  -- what is read after this head
  the_content : (major : ℕ) (xs : List ℕ) (v : V) (before n c : ℕ) → major < 8
      → ReadsHead major 8 xs count before → ReadsBorrowed major is_text content xs v n c
      → (count ≤ length (drop before xs)) × (content v ≡ take count (drop before xs))
  the_content major xs v before n c small h r = search (rules, head_one, length-take)

  none_lent : (major : ℕ) (lack : Lacks E) (xs : List ℕ) (before : ℕ) → major < 8
      → ReadsHead major 8 xs count before → m.known ≡ Some (drop before xs) → IsTrue m.zero_copy
      → LacksContent count is_text m b lack
      → IfSome (lack_error name lack)
      (λ _. NoneRead (ReadsBorrowed major is_text content) xs a.budget)
  none_lent major (Read e) xs before small h known whole lacks = tt
  none_lent major Short xs before small h known whole lacks = absurd (lacks.1 whole)
  none_lent major (Few k) xs before small h known whole lacks = λ v n c r fits.
      let few = lacks.1 whole (drop before xs) known in
      omega (arith, few.0, (the_content major xs v before n c small h r).0)
  none_lent major NotUtf8 xs before small h known whole lacks = search (rules, the_content)

  stop_at : (major : ℕ) (lack : Lacks E) (xs : List ℕ) (before : ℕ)
      → ReadsHead major 8 xs count before → before ≤ length xs → m.known ≡ Some (drop before xs)
      → IsTrue m.zero_copy → LacksContent count is_text m b lack
      → IfSome (lack_error name lack) (λ z. (rest : List ℕ) × (b.known ≡ Some rest)
      × RejectsBorrowed name major is_text xs a.budget z rest)
  stop_at major (Read e) xs before h room known whole lacks = tt
  stop_at major Short xs before h room known whole lacks = absurd (lacks.1 whole)
  stop_at major (Few k) xs before h room known whole lacks =
      let few = lacks.1 whole (drop before xs) known in (
        drop before xs,
        lacks.0.known (drop before xs) known,
        too_few count before h (omega (arith, few.0, room, length-drop before xs))
            (ap (λ j. require_length name (len_of j)) few.1) refl,
      )
  stop_at major NotUtf8 xs before h room known whole lacks =
      let l = lacks.2.at (drop before xs) known in (
        drop (before + count) xs,
        l.1 ∙ ap Some (drop_more count before xs),
        lent_no_utf8 lacks.0 (before + count) lacks.1
            (counted major xs lacks.0 before h l.0 l.2) lacks.3 refl refl,
      )

  begin_at : (major : ℕ) (lack : Lacks E) (xs : List ℕ) (before : ℕ)
      → ReadsHead major 8 xs count before → m.known ≡ Some (drop before xs)
      → LacksContent count is_text m b lack
      → IfSome (lack_error name lack) (λ z. (rest : List ℕ) × (b.known ≡ Some rest)
      × BeginsBorrowed name major is_text xs a.budget z rest)
  begin_at major (Read e) xs before h known lacks = tt
  begin_at major Short xs before h known lacks =
      (drop before xs, lacks.0.known (drop before xs) known, none_is_lent count before h refl refl)
  begin_at major (Few k) xs before h known lacks = (
    drop before xs,
    lacks.0.known (drop before xs) known,
    few_are_lent count before k h lacks.2 refl refl,
  )
  begin_at major NotUtf8 xs before h known lacks =
      let l = lacks.2.at (drop before xs) known in (
        drop (before + count) xs,
        l.1 ∙ ap Some (drop_more count before xs),
        begins_no_utf8 lacks.0 (before + count) lacks.1
            (counted major xs lacks.0 before h l.0 l.2) lacks.3 refl refl,
      )

  whole : IsExact false a → IsTrue a.zero_copy
  whole (inl f) = cc
  whole (inr w) = w.0

  pub lent_decodes : (major : ℕ) (o : Result V (Lacks E)) (r : Result V (DecodeError E)) → major < 8
      → Named name o r → Decodes {E = E} (argument_format name major 8) a m (Ok count)
      → IfOk o (λ v. Lends count (content v) m b)
      → IfOk o (λ v. IsTrue is_text → IsUtf8 (content v))
      → IfErr o (LacksContent count is_text m b)
      → Decodes (lent_format name major is_text content) a b r
  lent_decodes major (Ok v) (Ok w) small n d lends utf8 lacks =
      subst (λ z. Decodes {E = E} (lent_format name major is_text content) a b (Ok z)) n
      (ok (lent_format name major is_text content) (kept_then d.moves.by lends.kept)
      (λ some. omega (arith, lends.kept.bound, d.progress refl))
      (lent_at major v d.sound lends utf8))
  lent_decodes major (Ok v) (Err e) small n d lends utf8 lacks = absurd n
  lent_decodes major (Err lack) (Ok w) small n d lends utf8 lacks = absurd n
  lent_decodes major (Err lack) (Err e) small n d lends utf8 lacks = record {
    moves = moves_then d.moves.by (record {
      by = subst (λ t. MatchBool t (ReaderFailed m b) (Kept m b)) (sym n.read)
          (lack_moves count is_text m b lack lacks);
      depth = λ e. n.depth;
    });
    progress = λ some. tt;
    memory = λ out. sym n.memory ∙ out;
    sound = tt;
    complete = λ exact. record {
      at = λ xs known.
          let h = d.sound.at xs known in
          subst (λ z. IfSome z (λ _. NoneRead (ReadsBorrowed major is_text content) xs a.budget))
          (sym n.err) (none_lent major lack xs h.count small h.read.0 h.left
          (d.moves.by.zero_copy (whole exact)) lacks);
    };
    rejects = λ exact. record {
      at = λ xs known.
          let h = d.sound.at xs known in
          subst (λ z. IfSome z (λ err. (rest : List ℕ) × (b.known ≡ Some rest)
          × RejectsBorrowed name major is_text xs a.budget err rest)) (sym n.err)
          (stop_at major lack xs h.count h.read.0
          (head_read name major 8 xs count h.count small h.read.0).1 h.left
          (d.moves.by.zero_copy (whole exact)) lacks);
    };
    begins = record {
      at = λ xs known.
          let h = d.sound.at xs known in
          subst (λ z. IfSome z (λ err. (rest : List ℕ) × (b.known ≡ Some rest)
          × BeginsBorrowed name major is_text xs a.budget err rest)) (sym n.err)
          (begin_at major lack xs h.count h.read.0 h.left lacks);
    };
  }

-- ---- the head is rejected

pub lent_head_err : {V E : Type 0} (name : List ℕ) (major : ℕ) (is_text : Bool)
    (content : V → List ℕ) {e : DecodeError E} {a b : View}
    → Decodes (argument_format name major 8) a b (Err e)
    → Decodes (lent_format name major is_text content) a b (Err e)
lent_head_err name major is_text content {e = e} {a = a} {b = b} d = record {
  moves = moves_err d.moves;
  progress = λ some. tt;
  memory = d.memory;
  sound = tt;
  complete = λ exact. complete_as (ReadsArgument major 8) (ReadsBorrowed major is_text content)
      (λ xs budget none v n c h fits. none (length (content v)) h.0.before 0 (h.0.head, refl)
      (fits_zero budget)) (d.complete (inl refl));
  rejects = λ exact. record {
    at = λ xs known. rejects_as (input_error_of e) b.known
        (RejectsArgument name major 8 xs a.budget) (RejectsBorrowed name major is_text xs a.budget)
        (λ z ys h. lent_head_rejected h) (d.begins.at xs known);
  };
  begins = record {
    at = λ xs known. rejects_as (input_error_of e) b.known
        (RejectsArgument name major 8 xs a.budget) (BeginsBorrowed name major is_text xs a.budget)
        (λ z ys h. begins_rejected h) (d.begins.at xs known);
  };
}
