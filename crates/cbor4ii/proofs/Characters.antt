-- A text's only character.
use Rattle.std.proofs.Common.{◌≡◌, ℕ, ◌<◌, ◌≤◌, ◌^◌, List, [], ◌++◌, length, drop, Ok, Err, refl}
use Rattle.std.proofs.Common.{sym, ap, ◌∙◌, subst, arith, length-append, encode_utf8}
use denote.Ref.{Bor}
use Rattle.std.specs.Prelude.{codes}
use Rattle.std.proofs.lemmas.List.{append-nil}
use Rattle.std.proofs.lemmas.Str.{encode_same, length-encode, len_utf8_bounds}
use Rattle.std.specs.declared.alloc.Global.{Global}
use Rattle.std.specs.declared.string.String.{String}
use Rattle.cbor4ii_rw.specs.View.{View}
use Rattle.cbor4ii_rw.specs.declared.error.DecodeError.{DecodeError}
use Rattle.cbor4ii_rw.specs.declared.error.DecodeError.TheVariants.{Custom}
use Rattle.cbor4ii_items.specs.Moves.{Moves}
use Rattle.cbor4ii_items.specs.Decoding.{Sound, Complete, Rejects}
use Rattle.cbor4ii_items.specs.Strings.{ReadsText, ReadsTextAs, RejectsText, text_content}
use Rattle.cbor4ii_items.specs.Laws.Strings.{text_one}
use Rattle.cbor4ii_items.specs.Laws.Answering.{complete_as}
use Rattle.cbor4ii.specs.Character.{ReadsChar, RejectsChar, NoCharacter}
use Rattle.cbor4ii.specs.Character.RejectsChar.{no_text, not_one}
use Rattle.cbor4ii.specs.ReadBack.{text_of}
use Rattle.cbor4ii.specs.Typed.{no_number}
use Rattle.cbor4ii.proofs.Stopped.{stopped_as}
use Rattle.cbor4ii.proofs.Forms.{sound_by}

-- ---- texts of one character

some_bytes : (c : ℕ) → 1 ≤ length (encode_utf8 c)
some_bytes c = omega (arith, length-encode c, (len_utf8_bounds c).0)

pub few_bytes : (c : ℕ) → length (encode_utf8 c) < 2 ^ 63
few_bytes c = omega (arith, length-encode c, (len_utf8_bounds c).1)

pub no_character : (text : List ℕ) → length text ≡ 0 → NoCharacter text
no_character text none c e = absurd (omega (arith, none, ap length e, some_bytes c))

pub two_characters : (text middle rest : List ℕ) (c d : ℕ) → text ≡ encode_utf8 c ++ middle
    → middle ≡ encode_utf8 d ++ rest → NoCharacter text
two_characters text middle rest c d e f only is =
    let same = encode_same only c [] middle (append-nil (encode_utf8 only) ∙ (sym is ∙ e)) in
    absurd (omega (
      arith,
      ap length same.1,
      ap length f,
      length-append (encode_utf8 d) rest,
      some_bytes d,
    ))

-- ---- what is answered

pub char_sound : {a b : View} {text : String Global} {c : ℕ} → text_content text ≡ encode_utf8 c
    → Sound (ReadsTextAs text_content) a b text → Sound ReadsChar a b c
char_sound is s = sound_by s (λ xs n c r. subst (λ zs. ReadsText xs zs n c) is r)

pub char_complete : {E : Type 0} {a : View} {e : DecodeError E} → Global
    → Complete (ReadsTextAs text_content) a e → Complete ReadsChar a e
char_complete alloc s =
    complete_as (ReadsTextAs text_content) ReadsChar
    (λ xs budget none c n k r fits. none (text_of alloc (encode_utf8 c) r.1 (few_bytes c)) n k r
    fits) s

pub char_rejects : {E : Type 0} {a b : View} {e : DecodeError E}
    → Rejects (RejectsText (codes "str")) a b e → Rejects RejectsChar a b e
char_rejects s = stopped_as (RejectsText (codes "str")) RejectsChar
    (λ xs budget z ys h. no_text h) s

module _ {E : Type 0} {a b : View} {text : String Global} (name : Bor (List ℕ))
    (none : NoCharacter (text_content text)) where
  pub other_moves : {V : Type 0} → Moves {E = E} a b (Ok text)
      → Moves {V = V} {E = E} a b (Err (Custom name no_number))
  other_moves m = record { by = m.by; depth = λ e. refl }

  pub other_complete : Sound (ReadsTextAs text_content) a b text
      → Complete {E = E} ReadsChar a (Custom name no_number)
  other_complete s = record {
    at = λ xs known c n k r fits. (let p = s.at xs known in none c (text_one (λ zs. zs) xs
        (text_content text) (encode_utf8 c) p.count n p.cost k p.read r).2);
  }

  pub other_rejects : name.now ≡ codes "expected one character"
      → Sound (ReadsTextAs text_content) a b text
      → Rejects {E = E} RejectsChar a b (Custom name no_number)
  other_rejects named s = record {
    at = λ xs known. (let p = s.at xs known in (
      drop p.count xs,
      p.left,
      rw named (not_one (text_content text) p.count p.cost p.read p.fits none refl refl),
    ));
  }
