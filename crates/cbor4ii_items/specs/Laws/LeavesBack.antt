-- Strings, simple values and floats are read back from what is written.
use Rattle.std.proofs.Common.{◌≡◌, ℕ, ◌<◌, ◌^◌, List, [], ◌∷◌, ◌++◌, length, drop, take, Bool}
use Rattle.std.proofs.Common.{IsTrue, inl, refl, sym, ap, ◌∙◌, subst, arith, append_assoc}
use Rattle.std.proofs.Common.{length-append, rules}
use Rattle.std.specs.Prelude.{IsUtf8}
use Rattle.std.proofs.Math.Seq.{take-append_seam, drop-append_seam}
use Rattle.cbor4ii_items.specs.Head.{one, eight}
use Rattle.cbor4ii_items.specs.Heads.{ReadsHead}
use Rattle.cbor4ii_items.specs.Laws.Heads.{length-bytes_high_first}
use Rattle.cbor4ii_items.specs.Lent.{ReadsBorrowed}
use Rattle.cbor4ii_items.specs.Numbers.{shortest_head}
use Rattle.cbor4ii_items.specs.ReadBack.{ReadsBack}
use Rattle.cbor4ii_items.specs.Simple.{ReadsSimple, ReadsBool, bool_byte}
use Rattle.cbor4ii_items.specs.declared.types.Simple.{Simple}
use Rattle.cbor4ii_items.specs.Floats.{ReadsFloat, float_bytes}
use Rattle.cbor4ii_items.specs.Strings.{definite_string, ReadsDefiniteString, ReadsAs, ReadsTextAs}
use Rattle.cbor4ii_items.specs.Laws.NumbersBack.{head_back, argument_back}

-- ---- strings

pub definite_back : (major : ℕ) (content rest : List ℕ) → length content < 2 ^ 64
    → ReadsDefiniteString major (definite_string major content ++ rest) content
    (length (definite_string major content))
definite_back major content rest h =
    let start = shortest_head major (length content) in
    let whole : (start ++ content) ++ rest ≡ start ++ (content ++ rest) =
    append_assoc start content rest in
    let left : drop (length start) ((start ++ content) ++ rest) ≡ content ++ rest =
    ap (drop (length start)) whole ∙ drop-append_seam start (content ++ rest) in
    record {
      before = length start;
      head =
          subst (λ zs. ReadsHead major 8 zs (length content) (length start)) (sym whole)
          (head_back major eight (length content) h (content ++ rest));
      stands = ap (take (length content)) left ∙ take-append_seam content rest;
      size = length-append start content;
    }

module _ {V : Type 0} (content : V → List ℕ) (v : V) (h : length (content v) < 2 ^ 64) where
  pub string_back : (major : ℕ)
      → ReadsBack (ReadsAs major content) (definite_string major (content v)) v 0
  string_back major rest = inl (definite_back major (content v) rest h, refl)

  pub text_back : IsUtf8 (content v)
      → ReadsBack (ReadsTextAs content) (definite_string 3 (content v)) v 0
  text_back utf8 rest = (string_back 3 rest, utf8)

  pub lent_back : (major : ℕ) (is_text : Bool) → (IsTrue is_text → IsUtf8 (content v))
      → ReadsBack (ReadsBorrowed major is_text content) (definite_string major (content v)) v 0
  lent_back major is_text utf8 rest = (definite_back major (content v) rest h, refl, utf8)

-- ---- simple values

pub simple_back : (v : Simple) → v.0 < 256 → ReadsBack ReadsSimple (shortest_head 7 v.0) v 0
simple_back v h = argument_back 7 one v.0 (omega (arith, h))

pub bool_back : (v : Bool) → ReadsBack ReadsBool (bool_byte v ∷ []) v 0
bool_back v rest = (refl, refl, refl)

-- ---- floats

pub float_back : (marker count bits : ℕ) → bits < 256 ^ count
    → ReadsBack (ReadsFloat marker count) (float_bytes marker count bits) bits 0
float_back marker count bits h rest = search (rules, length-bytes_high_first)
