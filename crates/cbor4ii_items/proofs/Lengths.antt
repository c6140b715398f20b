-- Lengths are read exactly as they are encoded.
use Rattle.std.proofs.Common.{◌≡◌, ℕ, ◌<◌, ◌≤◌, List, [], ◌∷◌, length, drop, take, Option, None}
use Rattle.std.proofs.Common.{Some, Result, Ok, refl, sym, ap, subst, arith, rules}
use Rattle.std.proofs.lemmas.List.{length-drop}
use Rattle.cbor4ii_rw.specs.View.{View}
use Rattle.cbor4ii_rw.specs.declared.error.DecodeError.{DecodeError}
use Rattle.cbor4ii_items.specs.Head.{IsBytes}
use Rattle.cbor4ii_items.specs.Reading.{Reading, Runs}
use Rattle.cbor4ii_items.specs.ReadHead.{length_at}
use Rattle.cbor4ii_items.specs.Laws.Heads.{read_head, head_read}
use Rattle.cbor4ii_items.specs.Laws.ProgramEnds.{length_some, length_none}
use Rattle.cbor4ii_items.specs.Laws.Strings.{length_known, length_indefinite}
use Rattle.cbor4ii_items.specs.Lengths.{ReadsLength, RejectsLength}
use Rattle.cbor4ii_items.specs.Laws.Arguments.{ReadBy}
use Rattle.cbor4ii_items.proofs.Leaves.{IsLeaf}
use Rattle.cbor4ii_items.proofs.StringsRead.{no_length}

one_byte : (b n : ℕ) (xs : List ℕ) → take 1 xs ≡ b ∷ [] → n ≤ length xs → drop n xs ≡ drop 1 xs
    → n ≡ 1
one_byte b n [] first within e = cc
one_byte b n (x ∷ xs) first within e = omega (arith, ap length e, length-drop n (x ∷ xs))

length_means : (name : List ℕ) (major : ℕ) (xs : List ℕ) (v : Option ℕ) (n : ℕ)
    → length_at name major xs ≡ Ok (v, drop n xs) → n ≤ length xs → IsBytes (take n xs)
    → ReadsLength major xs v n 0
length_means name major xs (Some v) n e within bytes =
    (read_head name major 8 xs v n (length_some name major v xs (drop n xs) e) within bytes, refl)
length_means name major xs None n e within bytes = search (rules, length_none, one_byte)

some_byte : (b : ℕ) (xs : List ℕ) → take 1 xs ≡ b ∷ [] → 1 ≤ length xs
some_byte b [] e = cc
some_byte b (x ∷ xs) e = omega arith

pub length_again : (name : List ℕ) (major : ℕ) → major < 8 → (xs : List ℕ) (v : Option ℕ) (n c : ℕ)
    → ReadsLength major xs v n c → ReadBy (length_at name major) xs v n c
length_again name major m xs (Some v) n c p = search (rules, head_read, length_known)
length_again name major m xs None n c p = search (rules, length_indefinite, some_byte)

pub length_leaf : (name : List ℕ) (major : ℕ) → major < 8
    → IsLeaf (length_at name major) (ReadsLength major) (RejectsLength name major)
length_leaf name major m = search (rules, length_means, length_again, no_length)

-- ---- whatever the call answers

pub runs_same : {V E : Type 0} {f : Reading V} {a b : View} {r t : Result V (DecodeError E)} → r ≡ t
    → Runs f a b t → Runs f a b r
runs_same {f = f} {a = a} {b = b} e p = subst (λ z. Runs f a b z) (sym e) p
