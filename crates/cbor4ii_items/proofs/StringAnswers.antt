-- What a call that follows a program answers.
use Rattle.std.proofs.Common.{◌≡◌, ℕ, ◌<◌, List, drop, Result, Ok, Err, refl, subst, ap, OnOk, ◌+◌}
use Rattle.std.proofs.Common.{◌≤◌, rules}
use Rattle.std.specs.Prelude.{IsUtf8}
use Rattle.std.specs.declared.vec.Vec.{Vec}
use Rattle.cbor4ii_rw.specs.View.{View}
use Rattle.cbor4ii_rw.specs.declared.error.DecodeError.{DecodeError}
use Rattle.cbor4ii_rw.specs.declared.error.DecodeError.TheVariants.{RequireUtf8}
use denote.Ref.{Bor}
use Rattle.cbor4ii_items.specs.InputError.{input_error_of, require_utf8}
use Rattle.cbor4ii_items.specs.Decoding.{Sound, Complete, Rejects, Decodes}
use Rattle.cbor4ii_items.specs.Reading.{Runs}
use Rattle.cbor4ii_items.specs.Contents.{items_answer}
use Rattle.cbor4ii_items.specs.ReadStrings.{string_at}
use Rattle.cbor4ii_items.specs.Strings.{ReadsString, ReadsTextAs, RejectsString, RejectsText}
use Rattle.cbor4ii_items.specs.Strings.{no_string, no_utf8, string_format, text_format}
use Rattle.cbor4ii_items.specs.Laws.Calls.{ok, rejects_as}
use Rattle.cbor4ii_items.specs.Laws.Steps.{moves_err}
use Rattle.cbor4ii_items.specs.Laws.Strings.{string_again, string_one, three_small}
use Rattle.cbor4ii_items.specs.Laws.Answering.{complete_as, sound_by, complete_by, rejects_by}
use Rattle.cbor4ii_items.proofs.StringsRead.{string_read, string_rejects}

-- ---- strings

module _ {E : Type 0} (name : List ℕ) (major : ℕ) {a b : View} where
  pub content_ok : {items : List ℕ} → b.bound + 1 ≤ a.bound
      → Runs {E = E} (string_at name major a.budget) a b (Ok items)
      → Decodes {E = E} (string_format name major) a b (Ok items)
  content_ok {items = items} progress p = search (rules, ok, sound_by, string_read)

  pub content_err : {e : DecodeError E} → major < 8 → Runs {V = List ℕ}
      (string_at name major a.budget) a b (Err e) → Decodes (string_format name major) a b (Err e)
  content_err m p = search (rules, rejects_by, string_rejects, complete_by, string_again)

  pub string_decodes : {Z : Type 0} (r : Result (Vec ℕ Z) (DecodeError E)) → major < 8
      → Runs (string_at name major a.budget) a b (items_answer r) → OnOk r (b.bound + 1 ≤ a.bound)
      → Decodes (string_format name major) a b (items_answer r)
  string_decodes (Ok v) m p progress = content_ok progress p
  string_decodes (Err e) m p progress = content_err m p

-- ---- texts

module _ {V : Type 0} (content : V → List ℕ) where
  text_sound : {v : V} {items : List ℕ} {a b : View} → items ≡ content v → IsUtf8 (content v)
      → Sound (ReadsString 3) a b items → Sound (ReadsTextAs content) a b v
  text_sound {v = v} is utf8 s = record {
    at = λ xs known.
        let t = s.at xs known in
        record {
          count = t.count;
          cost = t.cost;
          read = (subst (λ w. ReadsString 3 xs w t.count t.cost) is t.read, utf8);
          fits = t.fits;
          left = t.left;
        };
  }

  -- a content that is not UTF-8
  utf8_complete : {E : Type 0} {name : Bor (List ℕ)} {items : List ℕ} {a b : View}
      → (IsUtf8 items → ⊥) → Sound (ReadsString 3) a b items
      → Complete {E = E} (ReadsTextAs content) a (RequireUtf8 name)
  utf8_complete {items = items} other s = record {
    at = λ xs known v n c h fits.
        let t = s.at xs known in
        other (subst IsUtf8 (string_one 3 xs (content v) items n t.count c t.cost three_small h.0
        t.read).2 h.1);
  }

text_rejects : {E : Type 0} {name : List ℕ} {e : DecodeError E} {a b : View}
    → Rejects (RejectsString name 3) a b e → Rejects (RejectsText name) a b e
text_rejects {name = name} {e = e} {a = a} {b = b} p = record {
  at = λ xs known. rejects_as (input_error_of e) b.known (RejectsString name 3 xs a.budget)
      (RejectsText name xs a.budget) (λ z ys. no_string) (p.at xs known);
}

utf8_rejects : {E : Type 0} {name : List ℕ} {found : Bor (List ℕ)} {items : List ℕ} {a b : View}
    → found.now ≡ name → (IsUtf8 items → ⊥) → Sound (ReadsString 3) a b items
    → Rejects {E = E} (RejectsText name) a b (RequireUtf8 found)
utf8_rejects {items = items} named other s = record {
  at = λ xs known.
      let t = s.at xs known in (
        drop t.count xs,
        t.left,
        no_utf8 items t.count t.cost t.read t.fits other (ap require_utf8 named) refl,
      );
}

module _ {V E : Type 0} (name : List ℕ) (content : V → List ℕ) {a b : View} where
  pub text_ok : {items : List ℕ} {v : V} → items ≡ content v → IsUtf8 (content v)
      → Decodes {E = E} (string_format name 3) a b (Ok items)
      → Decodes {E = E} (text_format name content) a b (Ok v)
  text_ok is utf8 d =
      ok (text_format name content) d.moves.by d.progress (text_sound content is utf8 d.sound)

  pub text_err : {e : DecodeError E} → Decodes (string_format name 3) a b (Err e)
      → Decodes (text_format name content) a b (Err e)
  text_err d = record {
    moves = moves_err d.moves;
    progress = λ some. tt;
    memory = λ out. refl;
    sound = tt;
    complete = λ exact. complete_as (ReadsString 3) (ReadsTextAs content)
        (λ xs budget none v n c h. none (content v) n c h.0) (d.complete exact);
    rejects = λ exact. text_rejects (d.rejects exact);
    begins = text_rejects d.begins;
  }

  -- a content that is not UTF-8
  pub utf8_err : {found : Bor (List ℕ)} {items : List ℕ} → found.now ≡ name → (IsUtf8 items → ⊥)
      → Decodes {E = E} (string_format name 3) a b (Ok items)
      → Decodes {E = E} (text_format name content) a b (Err (RequireUtf8 found))
  utf8_err named other d = record {
    moves = record { by = d.moves.by; depth = λ e. refl };
    progress = λ some. tt;
    memory = λ out. refl;
    sound = tt;
    complete = λ exact. utf8_complete content other d.sound;
    rejects = λ exact. utf8_rejects named other d.sound;
    begins = utf8_rejects named other d.sound;
  }
