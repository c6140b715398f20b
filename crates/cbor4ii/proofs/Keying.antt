-- Keys that are integers, and what follows them.
use Rattle.std.proofs.Common.{◌≡◌, ◌≢◌, ◌/◌, ◌∙◌, ℕ, ℤ, List, [], ◌∷◌, take, drop, Option, rules}
use Rattle.std.proofs.Common.{Some, Result, Ok, Err, Bool, true, false, refl, sym, ap, subst, arith}
use Rattle.std.specs.Prelude.{codes, nat_eq}
use denote.Ref.{Bor}
use Rattle.cbor4ii_rw.specs.View.{View, IfKnown}
use Rattle.cbor4ii_rw.specs.declared.error.DecodeError.{DecodeError}
use Rattle.cbor4ii_rw.specs.declared.error.Len.TheVariants.{Small}
use Rattle.cbor4ii_items.specs.Decoding.{Format, NoneRead, Decodes}
use Rattle.cbor4ii_items.specs.InputError.{InputError, eof}
use Rattle.cbor4ii_items.specs.Moves.{Kept}
use Rattle.cbor4ii_items.specs.Next.{ReadsNext, next_format}
use Rattle.cbor4ii_items.specs.Numbers.{ReadsI128, RejectsI128, no_i128_byte}
use Rattle.cbor4ii_items.specs.Laws.Answering.{fits_zero}
use Rattle.cbor4ii_items.specs.Laws.Calls.{ok_after, err_after, of_exact, decodes_exactly}
use Rattle.cbor4ii_ser.specs.Listed.{integer_label}
use Rattle.cbor4ii.specs.FieldKey.{key_format, text_key}
use Rattle.cbor4ii.specs.Keys.{begins_text, ReadsKey, ReadsKeyBy, RejectsKey, RejectsKeyBy}
use Rattle.cbor4ii.specs.Keys.{integer_key, key_laws, label_of, labelled, as_key}
use Rattle.cbor4ii.specs.Names.{StandsAt, KeyAt}
use Rattle.cbor4ii.specs.Typed.{typed_format, answer_of}
use Rattle.cbor4ii.specs.declared.serde.de.error.DecodeError.{DecodeError as TypedError}
use Rattle.std.proofs.lemmas.Bool.{ne_eqb}
use Rattle.cbor4ii.proofs.Forms.{err_here, found_here}

-- ---- a key, by its first byte

-- what comes is a text, or is not; the bytes are those that were there
pub record Comes (text : Bool) (a m : View) : Type 0 where
  pub kept : Kept a m
  pub at : IfKnown a.known (λ xs. (m.known ≡ Some xs) × (begins_text xs ≡ text))

begins_by : (xs : List ℕ) (b : ℕ) (text : Bool) → take 1 xs ≡ b ∷ [] → nat_eq (b / 32) 3 ≡ text
    → begins_text xs ≡ text
begins_by [] b text e is = cc
begins_by (x ∷ xs) b text e is =
    let same : b ≡ x = cc in subst (λ y. nat_eq (y / 32) 3 ≡ text) same is

pub comes : {E : Type 0} {name : List ℕ} {a m : View} {b : ℕ} (text : Bool)
    → Decodes {E = E} (next_format name) a m (Ok b) → nat_eq (b / 32) 3 ≡ text → Comes text a m
comes {b = b} text d is = record {
  kept = d.moves.by;
  at = λ xs known. (let p = d.sound.at xs known in (
    p.left ∙ ap Some (ap (λ k. drop k xs) p.read.1),
    begins_by xs b text p.read.0 is,
  ));
}

abbrev pub integer_format : Format ℤ
integer_format = typed_format ReadsI128 (λ v w. v ≡ w) (λ xs budget. RejectsI128 xs) true false

module _ {E : Type 0} {a m b : View} where
  pub text_ok : {text : List ℕ} → Comes true a m
      → Decodes {E = E} (key_format text_key) m b (Ok text)
      → Decodes {E = E} (key_format integer_key) a b (Ok [])
  text_ok {text = text} h d =
      ok_after (key_format text_key) (key_format integer_key) h.kept (λ xs known.
      let s = h.at xs known in (
        xs,
        s.0,
        λ n c r fits. found_here n c
            (subst (λ flag. ReadsKeyBy flag xs [] n c) (sym s.1) (text, r, refl)) fits,
      )) (λ some. omega (arith, d.progress refl, h.kept.bound)) d

  pub text_err : {e : DecodeError E} → Comes true a m → Decodes (key_format text_key) m b (Err e)
      → Decodes (key_format integer_key) a b (Err e)
  text_err h d =
      decodes_exactly (err_after (key_format text_key) (key_format integer_key) h.kept (λ xs known.
      let s = h.at xs known in (
        xs,
        s.0,
        record {
          none = λ is none key n c q fits.
              (let r = subst (λ flag. ReadsKeyBy flag xs key n c) s.1 q in
              none r.0 n c r.1 fits);
          rejects = λ z ys r. subst (λ flag. RejectsKeyBy flag xs a.budget z ys) (sym s.1) r;
          begins = λ z ys r. subst (λ flag. RejectsKeyBy flag xs a.budget z ys) (sym s.1) r;
        },
      )) (λ owned. refl) (λ takes. refl) (of_exact d))

  pub integer_ok : {v : ℤ} → Comes false a m → Decodes {E = E} integer_format m b (Ok v)
      → Decodes {E = E} (key_format integer_key) a b (Ok (integer_label v))
  integer_ok {v = v} h d =
      ok_after integer_format (key_format integer_key) h.kept (λ xs known.
      let s = h.at xs known in (
        xs,
        s.0,
        λ n c r fits. found_here n c
            (subst (λ flag. ReadsKeyBy flag xs (integer_label v) n c) (sym s.1) (v, r, refl)) fits,
      )) (λ some. omega (arith, d.progress refl, h.kept.bound)) d

  pub integer_err : {e : DecodeError E} → Comes false a m → Decodes integer_format m b (Err e)
      → Decodes (key_format integer_key) a b (Err e)
  integer_err h d =
      decodes_exactly (err_after integer_format (key_format integer_key) h.kept (λ xs known.
      let s = h.at xs known in (
        xs,
        s.0,
        record {
          none = λ is none key n c q fits.
              (let r = subst (λ flag. ReadsKeyBy flag xs key n c) s.1 q in
              none r.0 n c r.1 fits);
          rejects = λ z ys r. subst (λ flag. RejectsKeyBy flag xs a.budget z ys) (sym s.1) r;
          begins = λ z ys r. subst (λ flag. RejectsKeyBy flag xs a.budget z ys) (sym s.1) r;
        },
      )) (λ owned. refl) (λ takes. refl) (of_exact d))

  pub integer_any : (r : Result ℤ (TypedError E)) → Comes false a m
      → Decodes {E = E} integer_format m b (answer_of r)
      → Decodes {E = E} (key_format integer_key) a b (labelled (answer_of (as_key r)))
  integer_any (Ok v) h d = integer_ok h d
  integer_any (Err e) h d = integer_err h d

pub is_text : (type : ℕ) → type ≡ 3 → nat_eq type 3 ≡ true
is_text type e = subst (λ k. nat_eq k 3 ≡ true) (sym e) refl

pub is_no_text : (type : ℕ) → type ≢ 3 → nat_eq type 3 ≡ false
is_no_text type e = ne_eqb type 3 e

nothing_read : (xs : List ℕ) (budget : Option ℕ) → NoneRead ReadsNext xs budget
    → NoneRead ReadsKey xs budget
nothing_read [] budget none key n c q fits =
    absurd (omega (arith, key_laws.positive refl [] key n c q, key_laws.within [] key n c q))
nothing_read (x ∷ xs) budget none key n c q fits = none x 0 0 (refl, refl, refl) (fits_zero budget)

nothing_comes : (xs : List ℕ) (budget : Option ℕ) (z : InputError) (ys : List ℕ)
    → (xs ≡ []) × (z ≡ eof (codes "i128") (Small 1)) × (ys ≡ []) → RejectsKey xs budget z ys
nothing_comes [] budget z ys r = no_i128_byte refl r.1 r.2
nothing_comes (x ∷ xs) budget z ys r = absurd (let e = r.0 in cc)

-- no byte is left
pub no_key : {E : Type 0} {a b : View} {e : DecodeError E}
    → Decodes (next_format (codes "i128")) a b (Err e) → Decodes (key_format integer_key) a b (Err
    e)
no_key {a = a} d =
    decodes_exactly (err_here (next_format (codes "i128")) (key_format integer_key) (λ xs. record {
      none = λ is none. nothing_read xs a.budget none;
      rejects = λ z ys. nothing_comes xs a.budget z ys;
      begins = λ z ys. nothing_comes xs a.budget z ys;
    }) (λ owned. refl) (λ takes. refl) (of_exact d))

-- ---- its place

module _ {E : Type 0} {a b : View} where
  -- a key was read, and stands here
  pub key_placed : {labels : List (Bor (List ℕ))} {at : ℕ} (key : Option ℤ)
      → Decodes {E = E} (key_format integer_key) a b (Ok (label_of key))
      → StandsAt (label_of key) labels at → KeyAt integer_key labels at a b
  key_placed key d which = search rules
