-- Integers of sixteen bytes.
use Rattle.std.proofs.Common.{◌≡◌, ◌≢◌, ℕ, ◌+◌, ◌-◌, ◌/◌, ◌^◌, ◌<◌, ◌≤◌, ◌⊎◌, inl, inr, List, []}
use Rattle.std.proofs.Common.{◌∷◌, length, drop, take, Option, Some, None, Ok, Err, Bool, true}
use Rattle.std.proofs.Common.{false, refl, sym, ap, ◌∙◌, subst, arith, cond, eqb, eqb-true, eq-eqb}
use Rattle.std.proofs.Common.{ltb, ltb-true, ltb-false, rules}
use Rattle.std.specs.Prelude.{ℤ, pos, negsuc, codes}
use Rattle.std.proofs.lemmas.List.{length-drop, length-append}
use Rattle.std.proofs.Math.Seq.{take-add}
use Rattle.cbor4ii_rw.specs.declared.error.Len.TheVariants.{Indefinite}
use Rattle.cbor4ii_items.specs.Head.{IsBytes}
use Rattle.cbor4ii_items.specs.InputError.{InputError, mismatch, require_length}
use Rattle.cbor4ii_items.specs.InputError.{length_overflow, len_of}
use Rattle.cbor4ii_items.specs.Reading.{reject, go_on, ◌>=>◌}
use Rattle.cbor4ii_items.specs.Heads.{ReadsHead}
use Rattle.cbor4ii_items.specs.ReadHead.{head_at, length_at, number_on}
use Rattle.cbor4ii_items.specs.Laws.Heads.{read_head, number_inverse, IsBytes-take}
use Rattle.cbor4ii_items.specs.ReadNumber.{below, magnitude_by, magnitude_at, unsigned_bignum_at}
use Rattle.cbor4ii_items.specs.ReadNumber.{u128_at, small_magnitude_at, signed_bignum_at, i128_at}
use Rattle.cbor4ii_items.specs.ReadNumber.{as_positive, as_negative}
use Rattle.cbor4ii_items.specs.Magnitude.{number_of}
use Rattle.cbor4ii_items.specs.Numbers.{ReadsMagnitude, ReadsBignum, ReadsU128, ReadsI128}
use Rattle.cbor4ii_items.specs.Numbers.{RejectsMagnitude, length_rejected, length_indefinite}
use Rattle.cbor4ii_items.specs.Numbers.{length_too_great, content_cut, RejectsU128, no_u128_byte}
use Rattle.cbor4ii_items.specs.Numbers.{u128_head_rejected, u128_tag_rejected, other_u128_tag}
use Rattle.cbor4ii_items.specs.Numbers.{u128_bytes_rejected, RejectsI128, no_i128_byte}
use Rattle.cbor4ii_items.specs.Numbers.{i128_head_rejected, i128_negative_rejected}
use Rattle.cbor4ii_items.specs.Numbers.{i128_tag_rejected, other_i128_tag, i128_bytes_rejected}
use Rattle.cbor4ii_items.specs.Numbers.{i128_negative_bytes_rejected, i128_too_great}
use Rattle.cbor4ii_items.specs.Laws.Outcome.{same_input_error}
use Rattle.cbor4ii_items.specs.Laws.Prefixes.{drop_more}
use Rattle.cbor4ii_items.specs.Laws.Bignums.{u128_again, i128_again}
use Rattle.cbor4ii_items.proofs.Leaves.{IsLeaf}
use Rattle.cbor4ii_items.proofs.Rejecting.{head_rejects}
use Rattle.cbor4ii_items.specs.Laws.ReadingHeads.{number_cut}
use Rattle.cbor4ii_items.proofs.SignedLeaf.{sign_given, sign_rejected}
use Rattle.cbor4ii_items.specs.Laws.ProgramEnds.{ok_parts, err_parts, Passed, LeavesEnd}
use Rattle.cbor4ii_items.specs.Laws.ProgramEnds.{length_some, length_none, number_leaves}
use Rattle.cbor4ii_items.specs.Laws.ProgramEnds.{head_leaves, length_leaves, if_leaves, then_leaves}
use Rattle.cbor4ii_items.specs.Laws.ProgramEnds.{reject_leaves}
use Rattle.cbor4ii_items.proofs.StringsRead.{no_length}
use Rattle.cbor4ii_items.proofs.BelowLimit.{below_ok, below_err}
use Rattle.cbor4ii_items.specs.Laws.Contents.{IsBytes-append}

-- ---- byte strings as numbers

magnitude_by_leaves : (name : List ℕ) (o : Option ℕ) → LeavesEnd (magnitude_by name o)
magnitude_by_leaves name None = reject_leaves (require_length name Indefinite)
magnitude_by_leaves name (Some count) = search (rules, if_leaves, reject_leaves, number_leaves)

magnitude_leaves : (name : List ℕ) → LeavesEnd (magnitude_at name)
magnitude_leaves name = then_leaves (length_leaves name 2) (magnitude_by_leaves name)

-- how much was taken before what is left
ends_after : (i n : ℕ) (xs ys zs : List ℕ) → i ≤ length xs → ys ≡ drop i xs → Passed ys zs
    → zs ≡ drop n xs → n ≤ length xs → i ≤ n
ends_after i n xs ys zs room e q f within =
    omega (
      arith,
      q.within,
      ap length q.left,
      length-drop q.count ys,
      ap length e,
      length-drop i xs,
      ap length f,
      length-drop n xs,
    )

bytes_between : (i k n : ℕ) (xs : List ℕ) → n ≡ i + k → IsBytes (take n xs)
    → IsBytes (take k (drop i xs))
bytes_between i k n xs e h = search (rules, IsBytes-append, take-add)

definite_ok : (t : Bool) (name : List ℕ) (count v : ℕ) (ys zs : List ℕ) → ltb 16 count ≡ t
    → cond t (reject (length_overflow name (len_of count)))
    (number_on name count count 0) ys ≡ Ok (v, zs)
    → (count ≤ 16) × (number_on name count count 0 ys ≡ Ok (v, zs))
definite_ok true name count v ys zs h e = cc
definite_ok false name count v ys zs h e = (ltb-false 16 count h, e)

content_ok : (name : List ℕ) (o : Option ℕ) (v : ℕ) (ys zs : List ℕ)
    → magnitude_by name o ys ≡ Ok (v, zs)
    → (count : ℕ) × (o ≡ Some count) × (count ≤ 16) × (number_on name count count 0 ys ≡ Ok (v, zs))
content_ok name None v ys zs e = cc
content_ok name (Some count) v ys zs e =
    let p = definite_ok (ltb 16 count) name count v ys zs refl e in (count, refl, p.0, p.1)

module _ (xs : List ℕ) (n : ℕ) (within : n ≤ length xs) (bytes : IsBytes (take n xs)) where
  magnitude_of : (name ys : List ℕ) (count v : ℕ) → head_at name 2 8 xs ≡ Ok (count, ys)
      → count ≤ 16 → number_on name count count 0 ys ≡ Ok (v, drop n xs) → ReadsMagnitude xs v n
  magnitude_of name ys count v h short e =
      let p = (head_leaves name 2 8).ok xs count ys h in
      let q = number_inverse name count count 0 v ys (drop n xs) e in
      let total : n ≡ p.count + count = omega (
        arith,
        p.within,
        ap length p.left,
        length-drop p.count xs,
        ap length q.0,
        length-append (take count ys) (drop n xs),
        q.1,
        length-drop n xs,
      ) in
      record {
        count = count;
        before = p.count;
        counted =
            read_head name 2 8 xs count p.count (h ∙ ap (λ (zs : List ℕ). Ok (count, zs)) p.left)
            p.within (IsBytes-take p.count n xs (omega (arith, total)) bytes);
        short = short;
        within = omega (arith, total);
        bytes = bytes_between p.count count n xs total bytes;
        value = q.2 ∙ ap (λ zs. number_of (take count zs)) p.left;
        size = total;
      }

  magnitude_means : (name : List ℕ) (v : ℕ) → magnitude_at name xs ≡ Ok (v, drop n xs)
      → ReadsMagnitude xs v n
  magnitude_means name v e =
      let p = ok_parts (length_at name 2 xs) (magnitude_by name) v (drop n xs) e in
      let c = content_ok name p.value v p.rest (drop n xs) p.ended in
      magnitude_of name p.rest c.0 v (length_some name 2 c.0 xs p.rest
      (p.begun ∙ ap (λ (o : Option ℕ). Ok (o, p.rest)) c.1)) c.2 c.3

  -- a head of which n bytes are left
  head_then : (name : List ℕ) (major width : ℕ) (ys : List ℕ) (v : ℕ)
      → head_at name major width xs ≡ Ok (v, ys) → ys ≡ drop n xs → ReadsHead major width xs v n
  head_then name major width ys v e is =
      read_head name major width xs v n (e ∙ ap (λ (zs : List ℕ). Ok (v, zs)) is) within bytes

module _ (xs : List ℕ) (n : ℕ) (within : n ≤ length xs) (bytes : IsBytes (take n xs)) where
  content_cut_at : (name ys : List ℕ) (count : ℕ) (z : InputError)
      → head_at name 2 8 xs ≡ Ok (count, ys) → count ≤ 16
      → number_on name count count 0 ys ≡ Err (z, drop n xs)
      → RejectsMagnitude name xs z (drop n xs)
  content_cut_at name ys count z h short e =
      let p = (head_leaves name 2 8).ok xs count ys h in
      let q = number_cut name count count 0 ys z (drop n xs) e in
      let all : length xs ≤ n = omega (arith, ap length q.2, length-drop n xs) in
      content_cut count p.count (head_then xs p.count p.within
      (IsBytes-take p.count n xs (omega (arith, all, p.within)) bytes) name 2 8 ys count h p.left)
      short (omega (arith, q.0, ap length p.left, length-drop p.count xs, p.within)) q.1 q.2

  definite_rejects : (t : Bool) (name ys : List ℕ) (count : ℕ) (z : InputError) → ltb 16 count ≡ t
      → head_at name 2 8 xs ≡ Ok (count, ys)
      → cond t (reject (length_overflow name (len_of count)))
      (number_on name count count 0) ys ≡ Err (z, drop n xs)
      → RejectsMagnitude name xs z (drop n xs)
  definite_rejects true name ys count z t h e =
      let p = same_input_error (reject {V = ℕ} (length_overflow name (len_of count)) ys) refl e in
      length_too_great count n (head_then xs n within bytes name 2 8 ys count h p.1)
      (ltb-true 16 count t) (sym p.0) refl
  definite_rejects false name ys count z t h e =
      content_cut_at name ys count z h (ltb-false 16 count t) e

  length_rejects : (name ys : List ℕ) (o : Option ℕ) (z : InputError)
      → length_at name 2 xs ≡ Ok (o, ys) → magnitude_by name o ys ≡ Err (z, drop n xs)
      → RejectsMagnitude name xs z (drop n xs)
  length_rejects name ys None z h e =
      search (rules, length_none, same_input_error, length_indefinite)
  length_rejects name ys (Some count) z h e =
      definite_rejects (ltb 16 count) name ys count z refl (length_some name 2 count xs ys h) e

  magnitude_rejects : (name : List ℕ) (z : InputError) → magnitude_at name xs ≡ Err (z, drop n xs)
      → RejectsMagnitude name xs z (drop n xs)
  magnitude_rejects name z e =
      elim (err_parts (length_at name 2 xs) (magnitude_by name) z (drop n xs) e) [
        | inl f ↦ (let p = no_length name 2 xs z (drop n xs) f in length_rejected p.0 p.1)
        | inr h ↦ length_rejects name h.rest h.value z h.begun h.ended
      ]

-- ---- a tag, and what follows it

record TagPart (xs rest : List ℕ) (tag n : ℕ) : Type 0 where
  before : ℕ
  tagged : ReadsHead 6 1 xs tag before
  is : rest ≡ drop before xs
  size : ℕ
  total : n ≡ before + size
  left : drop n xs ≡ drop size (drop before xs)
  within : size ≤ length (drop before xs)
  bytes : IsBytes (take size (drop before xs))

record BytesRejected (inner : List ℕ) (xs : List ℕ) (tag : ℕ) (z : InputError)
    (ys : List ℕ) : Type 0 where
  before : ℕ
  tagged : ReadsHead 6 1 xs tag before
  rejected : RejectsMagnitude inner (drop before xs) z ys

other : (n k : ℕ) → eqb n k ≡ false → n ≢ k
other n k e same = let t = eq-eqb n k same in cc

small_ok : (name : List ℕ) (xs : List ℕ) (k : ℕ) (ys : List ℕ)
    → small_magnitude_at name xs ≡ Ok (k, ys) → (magnitude_at name xs ≡ Ok (k, ys)) × (k < 2 ^ 127)
small_ok name xs k ys e = search (rules, ok_parts, below_ok)

module _ (xs : List ℕ) (n : ℕ) (within : n ≤ length xs) (bytes : IsBytes (take n xs)) where
  tag_part : (name rest : List ℕ) (tag : ℕ) → head_at name 6 1 xs ≡ Ok (tag, rest)
      → Passed rest (drop n xs) → TagPart xs rest tag n
  tag_part name rest tag e ends =
      let p = (head_leaves name 6 1).ok xs tag rest e in
      let le : p.count ≤ n =
      ends_after p.count n xs rest (drop n xs) p.within p.left ends refl within in
      let total : n ≡ p.count + (n - p.count) = omega (arith, le) in
      record {
        before = p.count;
        tagged =
            head_then xs p.count p.within (IsBytes-take p.count n xs le bytes) name 6 1 rest tag e
            p.left;
        is = p.left;
        size = n - p.count;
        total = total;
        left = ap (λ j. drop j xs) total ∙ sym (drop_more (n - p.count) p.count xs);
        within = omega (arith, within, length-drop p.count xs);
        bytes = bytes_between p.count (n - p.count) n xs total bytes;
      }

  bignum_means : (name inner rest : List ℕ) (tag v : ℕ) → head_at name 6 1 xs ≡ Ok (tag, rest)
      → magnitude_at inner rest ≡ Ok (v, drop n xs) → ReadsBignum tag xs v n
  bignum_means name inner rest tag v h e =
      let t = tag_part name rest tag h ((magnitude_leaves inner).ok rest v (drop n xs) e) in
      record {
        before = t.before;
        tagged = t.tagged;
        size = t.size;
        magnitude = magnitude_means (drop t.before xs) t.size t.within t.bytes inner v
            (ap (magnitude_at inner) (sym t.is)
            ∙ (e ∙ ap (λ (zs : List ℕ). Ok (v, zs)) t.left));
        total = t.total;
      }

  bignum_rejects : (name inner rest : List ℕ) (tag : ℕ) (z : InputError)
      → head_at name 6 1 xs ≡ Ok (tag, rest) → magnitude_at inner rest ≡ Err (z, drop n xs)
      → BytesRejected inner xs tag z (drop n xs)
  bignum_rejects name inner rest tag z h e =
      let t = tag_part name rest tag h ((magnitude_leaves inner).err rest z (drop n xs) e) in
      record {
        before = t.before;
        tagged = t.tagged;
        rejected = subst (RejectsMagnitude inner (drop t.before xs) z) (sym t.left)
            (magnitude_rejects (drop t.before xs) t.size t.within t.bytes inner z
            (ap (magnitude_at inner) (sym t.is)
            ∙ (e ∙ ap (λ (zs : List ℕ). Err (z, zs)) t.left)));
      }

  -- ---- u128

  u128_tag_means : (t : Bool) (rest : List ℕ) (tag v : ℕ) → eqb tag 2 ≡ t
      → head_at (codes "u128") 6 1 xs ≡ Ok (tag, rest)
      → cond t (magnitude_at (codes "u128::bytes"))
      (reject (mismatch (codes "u128::tag") tag)) rest ≡ Ok (v, drop n xs) → ReadsBignum 2 xs v n
  u128_tag_means true rest tag v t h e = search (rules, eqb-true, bignum_means)
  u128_tag_means false rest tag v t h e = cc

  u128_means_by : (t : Bool) (v : ℕ) → cond t (head_at (codes "u64") 0 8)
      (head_at (codes "u128") 6 1 >=> unsigned_bignum_at) xs ≡ Ok (v, drop n xs)
      → ReadsU128 xs v n 0
  u128_means_by true v e = (inl (read_head (codes "u64") 0 8 xs v n e within bytes), refl)
  u128_means_by false v e =
      let p = ok_parts (head_at (codes "u128") 6 1 xs) unsigned_bignum_at v (drop n xs) e in
      (inr (u128_tag_means (eqb p.value 2) p.rest p.value v refl p.begun p.ended), refl)

  u128_tag_rejects : (t : Bool) (rest : List ℕ) (tag : ℕ) (z : InputError) → eqb tag 2 ≡ t
      → head_at (codes "u128") 6 1 xs ≡ Ok (tag, rest)
      → cond t (magnitude_at (codes "u128::bytes"))
      (reject (mismatch (codes "u128::tag") tag)) rest ≡ Err (z, drop n xs)
      → RejectsU128 xs z (drop n xs)
  u128_tag_rejects true rest tag z t h e =
      let r = bignum_rejects (codes "u128") (codes "u128::bytes") rest tag z h e in
      u128_bytes_rejected r.before
      (subst (λ j. ReadsHead 6 1 xs j r.before) (eqb-true tag 2 t) r.tagged) r.rejected
  u128_tag_rejects false rest tag z t h e =
      let p = same_input_error (reject {V = ℕ} (mismatch (codes "u128::tag") tag) rest) refl e in
      other_u128_tag tag n (head_then xs n within bytes (codes "u128") 6 1 rest tag h p.1)
      (other tag 2 t) (sym p.0) refl

  -- ---- i128

  small_means : (name rest : List ℕ) (sign : ℕ → ℤ) (tag is : ℕ) (v : ℤ) → eqb tag is ≡ true
      → head_at (codes "i128") 6 1 xs ≡ Ok (tag, rest)
      → go_on (small_magnitude_at name rest) (λ k zs. Ok (sign k, zs)) ≡ Ok (v, drop n xs)
      → (k : ℕ) × (sign k ≡ v) × ReadsBignum is xs k n × (k < 2 ^ 127)
  small_means name rest sign tag is v t h e =
      let g = sign_given (small_magnitude_at name) sign rest v (drop n xs) e in
      let m = small_ok name rest g.0 (drop n xs) g.2 in (
        g.0,
        g.1,
        subst (λ j. ReadsBignum j xs g.0 n) (eqb-true tag is t)
            (bignum_means (codes "i128") name rest tag g.0 h m.0),
        m.1,
      )

  i128_tag_means : (s t : Bool) (rest : List ℕ) (tag : ℕ) (v : ℤ) → eqb tag 2 ≡ s
      → eqb tag 3 ≡ t → head_at (codes "i128") 6 1 xs ≡ Ok (tag, rest)
      → cond s (small_magnitude_at (codes "+i128::bytes") >=> as_positive)
      (cond t (small_magnitude_at (codes "-i128::bytes") >=> as_negative)
      (reject (mismatch (codes "i128::tag") tag))) rest ≡ Ok (v, drop n xs)
      → ReadsI128 xs v n 0
  i128_tag_means true t rest tag v p q h e =
      let g = small_means (codes "+i128::bytes") rest pos tag 2 v p h e in
      subst (λ z. ReadsI128 xs z n 0) g.1 (inr (g.2, g.3), refl)
  i128_tag_means false true rest tag v p q h e =
      let g = small_means (codes "-i128::bytes") rest negsuc tag 3 v q h e in
      subst (λ z. ReadsI128 xs z n 0) g.1 (inr (g.2, g.3), refl)
  i128_tag_means false false rest tag v p q h e = cc

  i128_means_by : (s t : Bool) (v : ℤ) → cond s (head_at (codes "u64") 0 8 >=> as_positive)
      (cond t (head_at (codes "i128") 1 8 >=> as_negative)
      (head_at (codes "i128") 6 1 >=> signed_bignum_at)) xs ≡ Ok (v, drop n xs)
      → ReadsI128 xs v n 0
  i128_means_by true t v e = search (rules, sign_given, inl, read_head)
  i128_means_by false true v e = search (rules, sign_given, inl, read_head)
  i128_means_by false false v e =
      let p = ok_parts (head_at (codes "i128") 6 1 xs) signed_bignum_at v (drop n xs) e in
      i128_tag_means (eqb p.value 2) (eqb p.value 3) p.rest p.value v refl refl p.begun p.ended

  -- an error of a byte string, or of a number that is too great
  small_rejects : (name rest : List ℕ) (tag : ℕ) (z : InputError) (sign : ℕ → ℤ)
      → (tag ≡ 2) ⊎ (tag ≡ 3)
      → (BytesRejected name xs tag z (drop n xs) → RejectsI128 xs z (drop n xs))
      → head_at (codes "i128") 6 1 xs ≡ Ok (tag, rest)
      → go_on (small_magnitude_at name rest) (λ k zs. Ok (sign k, zs)) ≡ Err (z, drop n xs)
      → RejectsI128 xs z (drop n xs)
  small_rejects name rest tag z sign is rejected h e =
      elim (err_parts (magnitude_at name rest) (below (codes "i128") (2 ^ 127)) z (drop n xs)
      (sign_rejected (small_magnitude_at name) sign rest z (drop n xs) e)) [
        | inl f ↦ rejected (bignum_rejects (codes "i128") name rest tag z h f)
        | inr p ↦
            (let b = below_err (codes "i128") (2 ^ 127) p.value z p.rest (drop n xs) p.ended in
            let m = p.begun ∙ ap (λ (zs : List ℕ). Ok (p.value, zs)) b.1 in
            i128_too_great tag p.value n is
            (bignum_means (codes "i128") name rest tag p.value h m) b.2 (sym b.0) refl)
      ]

  i128_tag_rejects : (s t : Bool) (rest : List ℕ) (tag : ℕ) (z : InputError) → eqb tag 2 ≡ s
      → eqb tag 3 ≡ t → head_at (codes "i128") 6 1 xs ≡ Ok (tag, rest)
      → cond s (small_magnitude_at (codes "+i128::bytes") >=> as_positive)
      (cond t (small_magnitude_at (codes "-i128::bytes") >=> as_negative)
      (reject (mismatch (codes "i128::tag") tag))) rest ≡ Err (z, drop n xs)
      → RejectsI128 xs z (drop n xs)
  i128_tag_rejects true t rest tag z p q h e =
      let two = eqb-true tag 2 p in
      small_rejects (codes "+i128::bytes") rest tag z pos (inl two) (λ r. i128_bytes_rejected
      r.before (subst (λ j. ReadsHead 6 1 xs j r.before) two r.tagged) r.rejected) h e
  i128_tag_rejects false true rest tag z p q h e =
      let three = eqb-true tag 3 q in
      small_rejects (codes "-i128::bytes") rest tag z negsuc (inr three)
      (λ r. i128_negative_bytes_rejected r.before
      (subst (λ j. ReadsHead 6 1 xs j r.before) three r.tagged) r.rejected) h e
  i128_tag_rejects false false rest tag z p q h e =
      let r = same_input_error (reject {V = ℤ} (mismatch (codes "i128::tag") tag) rest) refl e in
      other_i128_tag tag n (head_then xs n within bytes (codes "i128") 6 1 rest tag h r.1)
      (other tag 2 p) (other tag 3 q) (sym r.0) refl

-- ---- where a byte is left

module _ (b : ℕ) (bs : List ℕ) (z : InputError) (n : ℕ) (within : n ≤ length (b ∷ bs))
    (bytes : IsBytes (take n (b ∷ bs))) where
  u128_rejects_by : (t : Bool) → eqb (b / 32) 0 ≡ t
      → cond t (head_at (codes "u64") 0 8) (head_at (codes "u128") 6 1 >=> unsigned_bignum_at)
      (b ∷ bs) ≡ Err (z, drop n (b ∷ bs)) → RejectsU128 (b ∷ bs) z (drop n (b ∷ bs))
  u128_rejects_by true t e =
      u128_head_rejected b bs refl (eqb-true (b / 32) 0 t)
      (head_rejects (codes "u64") 0 8 (b ∷ bs) z (drop n (b ∷ bs)) e)
  u128_rejects_by false t e = elim (err_parts (head_at (codes "u128") 6 1 (b ∷ bs))
      unsigned_bignum_at z (drop n (b ∷ bs)) e) [
        | inl f ↦ u128_tag_rejected b bs refl (other (b / 32) 0 t)
            (head_rejects (codes "u128") 6 1 (b ∷ bs) z (drop n (b ∷ bs)) f)
        | inr h ↦ u128_tag_rejects (b ∷ bs) n within bytes (eqb h.value 2) h.rest h.value z refl
            h.begun h.ended
      ]

  i128_rejects_by : (s t : Bool) → eqb (b / 32) 0 ≡ s → eqb (b / 32) 1 ≡ t
      → cond s (head_at (codes "u64") 0 8 >=> as_positive)
      (cond t (head_at (codes "i128") 1 8 >=> as_negative)
      (head_at (codes "i128") 6 1 >=> signed_bignum_at)) (b ∷ bs) ≡ Err (z, drop n (b ∷ bs))
      → RejectsI128 (b ∷ bs) z (drop n (b ∷ bs))
  i128_rejects_by true t p q e =
      i128_head_rejected b bs refl (eqb-true (b / 32) 0 p)
      (head_rejects (codes "u64") 0 8 (b ∷ bs) z (drop n (b ∷ bs))
      (sign_rejected (head_at (codes "u64") 0 8) pos (b ∷ bs) z (drop n (b ∷ bs)) e))
  i128_rejects_by false true p q e =
      i128_negative_rejected b bs refl (eqb-true (b / 32) 1 q)
      (head_rejects (codes "i128") 1 8 (b ∷ bs) z (drop n (b ∷ bs))
      (sign_rejected (head_at (codes "i128") 1 8) negsuc (b ∷ bs) z (drop n (b ∷ bs)) e))
  i128_rejects_by false false p q e =
      let x = other (b / 32) 0 p in
      let y = other (b / 32) 1 q in
      let some : 2 ≤ b / 32 = omega (arith, x, y) in
      elim (err_parts (head_at (codes "i128") 6 1 (b ∷ bs)) signed_bignum_at z
      (drop n (b ∷ bs)) e) [
        | inl f ↦ i128_tag_rejected b bs refl some
            (head_rejects (codes "i128") 6 1 (b ∷ bs) z (drop n (b ∷ bs)) f)
        | inr h ↦ i128_tag_rejects (b ∷ bs) n within bytes (eqb h.value 2) (eqb h.value 3) h.rest
            h.value z refl refl h.begun h.ended
      ]

u128_means : (xs : List ℕ) (v n : ℕ) → u128_at xs ≡ Ok (v, drop n xs) → n ≤ length xs
    → IsBytes (take n xs) → ReadsU128 xs v n 0
u128_means [] v n e within bytes = cc
u128_means (b ∷ bs) v n e within bytes = u128_means_by (b ∷ bs) n within bytes (eqb (b / 32) 0) v e

u128_rejects : (xs : List ℕ) (z : InputError) (n : ℕ) → u128_at xs ≡ Err (z, drop n xs)
    → n ≤ length xs → IsBytes (take n xs) → RejectsU128 xs z (drop n xs)
u128_rejects [] z n e within bytes = search (rules, same_input_error, no_u128_byte)
u128_rejects (b ∷ bs) z n e within bytes =
    u128_rejects_by b bs z n within bytes (eqb (b / 32) 0) refl e

pub u128_leaf : IsLeaf u128_at ReadsU128 (λ xs budget. RejectsU128 xs)
u128_leaf =
    record { means = u128_means; again = u128_again; is_complete = λ xs budget. u128_rejects xs }

i128_means : (xs : List ℕ) (v : ℤ) (n : ℕ) → i128_at xs ≡ Ok (v, drop n xs) → n ≤ length xs
    → IsBytes (take n xs) → ReadsI128 xs v n 0
i128_means [] v n e within bytes = cc
i128_means (b ∷ bs) v n e within bytes =
    i128_means_by (b ∷ bs) n within bytes (eqb (b / 32) 0) (eqb (b / 32) 1) v e

i128_rejects : (xs : List ℕ) (z : InputError) (n : ℕ) → i128_at xs ≡ Err (z, drop n xs)
    → n ≤ length xs → IsBytes (take n xs) → RejectsI128 xs z (drop n xs)
i128_rejects [] z n e within bytes = search (rules, same_input_error, no_i128_byte)
i128_rejects (b ∷ bs) z n e within bytes =
    i128_rejects_by b bs z n within bytes (eqb (b / 32) 0) (eqb (b / 32) 1) refl refl e

pub i128_leaf : IsLeaf i128_at ReadsI128 (λ xs budget. RejectsI128 xs)
i128_leaf =
    record { means = i128_means; again = i128_again; is_complete = λ xs budget. i128_rejects xs }
