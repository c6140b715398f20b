-- Signed integers of at most eight bytes.
use Rattle.std.proofs.Common.{◌≡◌, ℕ, ◌/◌, ◌<◌, ◌≤◌, inl, inr, List, [], ◌∷◌, length, drop}
use Rattle.std.proofs.Common.{take, Ok, Err, Bool, true, false, refl, sym, ap, ◌∙◌, subst}
use Rattle.std.proofs.Common.{cond, eqb, eqb-true, eq-eqb, rules}
use Rattle.std.specs.Prelude.{ℤ, pos, negsuc}
use Rattle.cbor4ii_items.specs.Head.{IsBytes}
use Rattle.cbor4ii_items.specs.InputError.{InputError, mismatch}
use Rattle.cbor4ii_items.specs.Reading.{Reading, reject, go_on, ◌>=>◌}
use Rattle.cbor4ii_items.specs.Heads.{ReadsHead}
use Rattle.cbor4ii_items.specs.ReadHead.{head_at}
use Rattle.cbor4ii_items.specs.Laws.Heads.{read_head}
use Rattle.cbor4ii_items.specs.ReadNumber.{below, head_below_at, as_positive, as_negative}
use Rattle.cbor4ii_items.specs.ReadNumber.{signed_at}
use Rattle.cbor4ii_items.specs.Numbers.{ReadsSigned, RejectsHalf, head_rejected, argument_too_great}
use Rattle.cbor4ii_items.specs.Numbers.{RejectsSigned, no_signed_byte, no_signed_head}
use Rattle.cbor4ii_items.specs.Numbers.{positive_rejected, negative_rejected}
use Rattle.cbor4ii_items.specs.Laws.Outcome.{same_value, same_input_error}
use Rattle.cbor4ii_items.specs.Laws.Signed.{signed_again}
use Rattle.cbor4ii_items.proofs.Leaves.{IsLeaf}
use Rattle.cbor4ii_items.proofs.Rejecting.{head_rejects}
use Rattle.cbor4ii_items.specs.Laws.ProgramEnds.{ok_parts, err_parts}
use Rattle.cbor4ii_items.proofs.BelowLimit.{below_ok, below_err}

head_below_means : (name : List ℕ) (major width limit : ℕ) (xs : List ℕ) (k n : ℕ)
    → head_below_at name major width limit xs ≡ Ok (k, drop n xs) → n ≤ length xs
    → IsBytes (take n xs) → ReadsHead major width xs k n × (k < limit)
head_below_means name major width limit xs k n e within bytes =
    search (rules, ok_parts, below_ok, read_head)

head_below_rejects : (name : List ℕ) (major width limit : ℕ) (xs : List ℕ) (z : InputError) (n : ℕ)
    → head_below_at name major width limit xs ≡ Err (z, drop n xs) → n ≤ length xs
    → IsBytes (take n xs) → RejectsHalf name major width limit xs z (drop n xs)
head_below_rejects name major width limit xs z n e within bytes =
    elim (err_parts (head_at name major width xs) (below name limit) z (drop n xs) e) [
      | inl f ↦ head_rejected (head_rejects name major width xs z (drop n xs) f)
      | inr h ↦
          (let b = below_err name limit h.value z h.rest (drop n xs) h.ended in
          let whole : head_at name major width xs ≡ Ok (h.value, drop n xs) =
          h.begun ∙ ap (λ (zs : List ℕ). Ok (h.value, zs)) b.1 in
          argument_too_great h.value n (read_head name major width xs h.value n whole within bytes)
          b.2 (sym b.0) refl)
    ]

-- a number that only gets its sign is rejected by its first part
pub sign_rejected : {V : Type 0} (f : Reading ℕ) (sign : ℕ → V) (xs : List ℕ) (z : InputError)
    (ys : List ℕ) → go_on (f xs) (λ k zs. Ok (sign k, zs)) ≡ Err (z, ys) → f xs ≡ Err (z, ys)
sign_rejected f sign xs z ys e = search (rules, err_parts, inl, inr)

-- and is the first part's with the sign
pub sign_given : {V : Type 0} (f : Reading ℕ) (sign : ℕ → V) (xs : List ℕ) (v : V) (ys : List ℕ)
    → go_on (f xs) (λ k zs. Ok (sign k, zs)) ≡ Ok (v, ys)
    → (k : ℕ) × (sign k ≡ v) × (f xs ≡ Ok (k, ys))
sign_given f sign xs v ys e = search (rules, ok_parts, same_value)

module _ (name plus minus : List ℕ) (width limit : ℕ) where
  signed_means_by : (s t : Bool) (b : ℕ) (bs : List ℕ) (v : ℤ) (n : ℕ) → n ≤ length (b ∷ bs)
      → IsBytes (take n (b ∷ bs))
      → cond s (head_below_at plus 0 width limit >=> as_positive)
      (cond t (head_below_at minus 1 width limit >=> as_negative) (reject (mismatch name b)))
      (b ∷ bs) ≡ Ok (v, drop n (b ∷ bs)) → ReadsSigned width limit (b ∷ bs) v n 0
  signed_means_by true t b bs v n within bytes e =
      let h = sign_given (head_below_at plus 0 width limit) pos (b ∷ bs) v (drop n (b ∷ bs)) e in
      let r = head_below_means plus 0 width limit (b ∷ bs) h.0 n h.2 within bytes in
      subst (λ z. ReadsSigned width limit (b ∷ bs) z n 0) h.1 (r.0, r.1, refl)
  signed_means_by false true b bs v n within bytes e =
      let h =
      sign_given (head_below_at minus 1 width limit) negsuc (b ∷ bs) v (drop n (b ∷ bs)) e in
      let r = head_below_means minus 1 width limit (b ∷ bs) h.0 n h.2 within bytes in
      subst (λ z. ReadsSigned width limit (b ∷ bs) z n 0) h.1 (r.0, r.1, refl)
  signed_means_by false false b bs v n within bytes e = cc

  signed_means : (xs : List ℕ) (v : ℤ) (n : ℕ)
      → signed_at name plus minus width limit xs ≡ Ok (v, drop n xs) → n ≤ length xs
      → IsBytes (take n xs) → ReadsSigned width limit xs v n 0
  signed_means [] v n e within bytes = cc
  signed_means (b ∷ bs) v n e within bytes =
      signed_means_by (eqb (b / 32) 0) (eqb (b / 32) 1) b bs v n within bytes e

  two_or_more : (b : ℕ) → eqb (b / 32) 0 ≡ false → eqb (b / 32) 1 ≡ false → 2 ≤ b / 32
  two_or_more b p q = search (rules, eq-eqb)

  signed_rejects_by : (s t : Bool) (b : ℕ) (bs : List ℕ) (z : InputError) (n : ℕ) → eqb
      (b / 32) 0 ≡ s
      → eqb (b / 32) 1 ≡ t → n ≤ length (b ∷ bs) → IsBytes (take n (b ∷ bs))
      → cond s (head_below_at plus 0 width limit >=> as_positive)
      (cond t (head_below_at minus 1 width limit >=> as_negative) (reject (mismatch name b)))
      (b ∷ bs) ≡ Err (z, drop n (b ∷ bs))
      → RejectsSigned name plus minus width limit (b ∷ bs) z (drop n (b ∷ bs))
  signed_rejects_by true t b bs z n p q within bytes e =
      positive_rejected b bs refl (eqb-true (b / 32) 0 p)
      (head_below_rejects plus 0 width limit (b ∷ bs) z n (sign_rejected
      (head_below_at plus 0 width limit) pos (b ∷ bs) z (drop n (b ∷ bs)) e) within bytes)
  signed_rejects_by false true b bs z n p q within bytes e =
      negative_rejected b bs refl (eqb-true (b / 32) 1 q)
      (head_below_rejects minus 1 width limit (b ∷ bs) z n (sign_rejected (head_below_at minus 1
      width limit) negsuc (b ∷ bs) z (drop n (b ∷ bs)) e) within bytes)
  signed_rejects_by false false b bs z n p q within bytes e =
      let r = same_input_error (reject {V = ℤ} (mismatch name b) (b ∷ bs)) refl e in
      no_signed_head b bs refl (two_or_more b p q) (sym r.0) (sym r.1)

  signed_rejects : (xs : List ℕ) (z : InputError) (n : ℕ)
      → signed_at name plus minus width limit xs ≡ Err (z, drop n xs) → n ≤ length xs
      → IsBytes (take n xs) → RejectsSigned name plus minus width limit xs z (drop n xs)
  signed_rejects [] z n e within bytes = search (rules, same_input_error, no_signed_byte)
  signed_rejects (b ∷ bs) z n e within bytes =
      signed_rejects_by (eqb (b / 32) 0) (eqb (b / 32) 1) b bs z n refl refl within bytes e

  pub signed_leaf : IsLeaf (signed_at name plus minus width limit) (ReadsSigned width limit)
      (λ xs budget. RejectsSigned name plus minus width limit xs)
  signed_leaf = search (rules, signed_means, signed_again, signed_rejects)
