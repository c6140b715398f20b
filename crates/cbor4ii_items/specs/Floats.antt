-- Floats as their bits, and the laws of their encodings: a byte that says the precision, and the
-- bits of IEEE 754 in two, four or eight bytes, most significant first (RFC 8949 section 3.3).
use Rattle.std.proofs.Common.{◌≡◌, ℕ, suc, ◌≤◌, ◌<◌, ◌^◌, ◌⊎◌, List, [], ◌∷◌, ◌++◌, length, drop}
use Rattle.std.proofs.Common.{take, Ok, true, sym, ap, ap₂, ◌∙◌, arith, length-append}
use Rattle.std.specs.Prelude.{◌&&◌, nat_le}
use Rattle.std.specs.Int.{bytes_high_first}
use Rattle.std.proofs.Math.Seq.{drop-append_seam, take-append_seam}
use Rattle.cbor4ii_rw.specs.declared.error.Len.TheVariants.{Small}
use Rattle.cbor4ii_items.specs.declared.prefix.Shown.{Shown}
use Rattle.cbor4ii_items.specs.declared.prefix.Shown.TheVariants.{Whole, Cut, Other}
use Rattle.cbor4ii_items.specs.Head.{IsBytes}
use Rattle.cbor4ii_items.specs.InputError.{InputError, eof}
use Rattle.cbor4ii_items.specs.Reading.{Reading, ◌>=>◌}
use Rattle.cbor4ii_items.specs.ReadHead.{number_on}
use Rattle.cbor4ii_items.specs.Laws.Heads.{number_again, length-bytes_high_first}
use Rattle.cbor4ii_items.specs.Laws.Arguments.{ReadBy, leaf_one, leaf_within, leaf_positive}
use Rattle.cbor4ii_items.specs.Marked.{NoneBegins, marked_at, within_marks}
use Rattle.cbor4ii_items.specs.Decoding.{RejectsAt, Format, IsLawful, leaf_format}

-- the first byte, and the bits in so many bytes
abbrev pub float_bytes : ℕ → ℕ → ℕ → List ℕ
float_bytes marker count bits = marker ∷ bytes_high_first count bits

-- the bytes xs begin with a float of this first byte and of so many bytes of bits; n is its length
pub record ReadsFloat (marker count : ℕ) (xs : List ℕ) (bits n c : ℕ) : Type 0 where
  pub fits : bits < 256 ^ count
  pub rest : List ℕ
  pub is : xs ≡ float_bytes marker count bits ++ rest
  pub size : n ≡ suc count
  pub cost : c ≡ 0

-- the whole float stands in the prefix
pub record StandsWhole (marker count : ℕ) (prefix : List ℕ) (bits : ℕ) : Type 0 where
  pub long : suc count ≤ length prefix
  pub bytes : IsBytes (take (suc count) prefix)
  pub fits : bits < 256 ^ count
  pub is : take (suc count) prefix ≡ float_bytes marker count bits

-- where a float is seen whole, it stands at the beginning
abbrev pub SeesFloat : ℕ → ℕ → List ℕ → Shown → Type 0
SeesFloat marker count prefix (Whole bits n) =
    (n ≡ suc count) × StandsWhole marker count prefix bits
SeesFloat marker count prefix (Cut n) = Unit {0}
SeesFloat marker count prefix Other = Unit {0}

-- fewer bytes follow the first than the bits have, and nothing is left
pub record CutFloat (name : List ℕ) (marker count : ℕ) (xs : List ℕ) (err : InputError)
    (rest : List ℕ) : Type 0 where
  pub trailing : List ℕ
  pub is : xs ≡ marker ∷ trailing
  pub short : length trailing < count
  pub answer : err ≡ eof name (Small count)
  pub left : rest ≡ []

-- no byte is left, another one comes, which stays, or the bits are cut
abbrev pub RejectsFloat : List ℕ → ℕ → ℕ → RejectsAt
RejectsFloat name marker count xs budget err rest =
    NoneBegins name (λ b. b ≡ marker) xs err rest ⊎ CutFloat name marker count xs err rest

abbrev pub float_at : List ℕ → ℕ → ℕ → Reading ℕ
float_at name marker count = marked_at name marker marker >=> λ b. number_on name count count 0

length-float : (marker count bits n : ℕ) → n ≡ suc count
    → length (float_bytes marker count bits) ≡ n
length-float marker count bits n e = ap suc (length-bytes_high_first count bits) ∙ sym e

pub float_again : (name : List ℕ) (marker count : ℕ) (xs : List ℕ) (v n c : ℕ)
    → ReadsFloat marker count xs v n c → ReadBy (float_at name marker count) xs v n c
float_again name marker count xs v n c h =
    let prefix = float_bytes marker count v in
    let long : length prefix ≡ n = length-float marker count v n h.size in
    let left : drop n xs ≡ h.rest = ap₂ drop (sym long) h.is ∙ drop-append_seam prefix h.rest in
    let t : (nat_le marker marker && nat_le marker marker) ≡ true =
    within_marks marker marker marker (omega arith) (omega arith) in
    let a : float_at name marker count (prefix ++ h.rest) ≡ Ok (v, h.rest) =
    rw t (number_again name count count v h.rest h.fits) in
    record {
      answer =
          ap (float_at name marker count) h.is ∙ (a ∙ ap (λ (zs : List ℕ). Ok (v, zs)) (sym left));
      within = omega (arith, ap length h.is, length-append prefix h.rest, long);
      positive = omega (arith, h.size);
      cost = h.cost;
    }

pub float_one : (marker count : ℕ) (xs : List ℕ) (v w n m c d : ℕ)
    → ReadsFloat marker count xs v n c → ReadsFloat marker count xs w m d
    → (n ≡ m) × (c ≡ d) × (v ≡ w)
float_one marker count =
    leaf_one (float_at [] marker count) (ReadsFloat marker count) (float_again [] marker count)

pub float_within : (marker count : ℕ) (xs : List ℕ) (v n c : ℕ) → ReadsFloat marker count xs v n c
    → n ≤ length xs
float_within marker count =
    leaf_within (float_at [] marker count) (ReadsFloat marker count) (float_again [] marker count)

pub float_positive : (marker count : ℕ) (xs : List ℕ) (v n c : ℕ) → ReadsFloat marker count xs v n c
    → 1 ≤ n
float_positive marker count =
    leaf_positive (float_at [] marker count) (ReadsFloat marker count) (float_again [] marker count)

pub float_alone : (marker count : ℕ) (xs ys : List ℕ) (v n c : ℕ) → ReadsFloat marker count xs v n c
    → ReadsFloat marker count (take n xs ++ ys) v n c
float_alone marker count xs ys v n c h =
    let prefix = float_bytes marker count v in
    let long : length prefix ≡ n = length-float marker count v n h.size in
    record {
      fits = h.fits;
      rest = ys;
      is = ap (λ zs. zs ++ ys)
          (ap₂ take (sym long) h.is ∙ take-append_seam prefix h.rest);
      size = h.size;
      cost = h.cost;
    }

abbrev pub float_format : List ℕ → ℕ → ℕ → Format ℕ
float_format name marker count = leaf_format (ReadsFloat marker count) (RejectsFloat name marker
    count)

pub float_lawful : (name : List ℕ) (marker count : ℕ) → IsLawful (float_format name marker count)
float_lawful name marker count = record {
  one = float_one marker count;
  within = float_within marker count;
  positive = λ some. float_positive marker count;
  alone = λ closed. float_alone marker count;
}
