-- Variants are read back.
use Rattle.std.proofs.Common.{◌≡◌, inl, inr, ℕ, suc, ◌+◌, List, ◌++◌, length, max, refl}
use Rattle.std.proofs.Common.{sym, ap, arith}
use Rattle.cbor4ii_items.specs.Decoding.{Reads}
use Rattle.cbor4ii_items.specs.Strings.{ReadsText, definite_string}
use Rattle.cbor4ii_items.specs.Laws.LeavesBack.{text_back}
use Rattle.cbor4ii_ser.specs.Item.{Encoding, encoded, rejected, one_then}
use Rattle.cbor4ii_ser.specs.Item.{variant_encoding}
use Rattle.cbor4ii.specs.ReadBack.{IsReadBack, IsName}
use Rattle.cbor4ii.specs.Variants.{ReadsVariant}
use Rattle.cbor4ii.specs.Laws.Backs.{two_back}
use Rattle.cbor4ii.specs.Laws.StructsBack.{no_dearer}

next_one : (k : ℕ) → suc k ≡ 1 + k
next_one k = omega arith

module _ {V : Type 0} (units : List ℕ → V → Type 0) (contents : List ℕ → Reads V) (name : List ℕ)
    (v : V) (is : IsName name) where
  pub unit_back : units name v
      → IsReadBack (ReadsVariant units contents) (encoded (definite_string 3 name)) v 1
  unit_back stands rest = (
    0,
    inl (name, text_back (λ (text : List ℕ). text) name (omega (arith, is.1)) is.0 rest, stands),
    refl,
  )

  pub variant_back : (content : Encoding) (cost : ℕ) → IsReadBack (contents name) content v cost
      → IsReadBack (ReadsVariant units contents) (variant_encoding name content) v (1 + cost)
  unfolding one_then
  variant_back (rejected bytes words) cost back = tt
  variant_back (encoded bytes) cost back = λ rest. (
      let text = text_back (λ (text : List ℕ). text) name (omega (arith, is.1)) is.0 in
      let entry = two_back ReadsText (contents name) (definite_string 3 name) bytes (name, v) 0 cost
      text back in (
        max 0 cost,
        inr (
          refl,
          name,
          length (definite_string 3 name ++ bytes),
          entry rest,
          next_one (length (definite_string 3 name ++ bytes)),
        ),
        ap (λ k. 1 + k) (sym (no_dearer cost)),
      ))
