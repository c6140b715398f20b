use Rattle.std.proofs.Common.{◌≡◌, ℕ, List, [], ◌∷◌, length, get_or, arith, w8, w64, subst}
use Rattle.std.proofs.Math.Facts.{Fits-lt-pow}
use Rattle.std.proofs.Math.Seq.{take-length}
use Rattle.std.specs.Int.{from_be_bytes}
use Rattle.cbor4ii_items.specs.Head.{IsBytes}
use Rattle.cbor4ii_items.specs.Laws.Contents.{first_bytes}
use Rattle.cbor4ii_items.specs.Magnitude.{number_of}
use Rattle.cbor4ii_items.proofs.floats.bits_of.Goals as goal

-- eight bytes, taken one by one
eight : (bs : List ℕ) (n : ℕ) → length bs ≡ 8 → n ≡ from_be_bytes w64 (get_or bs 0 0
    ∷ get_or bs 1 0 ∷ get_or bs 2 0 ∷ get_or bs 3 0 ∷ get_or bs 4 0 ∷ get_or bs 5 0
    ∷ get_or bs 6 0 ∷ get_or bs 7 0 ∷ []) → n ≡ number_of bs
eight [] n size is = absurd (omega arith)
eight (a ∷ []) n size is = absurd (omega arith)
eight (a ∷ b ∷ []) n size is = absurd (omega arith)
eight (a ∷ b ∷ c ∷ []) n size is = absurd (omega arith)
eight (a ∷ b ∷ c ∷ d ∷ []) n size is = absurd (omega arith)
eight (a ∷ b ∷ c ∷ d ∷ e ∷ []) n size is = absurd (omega arith)
eight (a ∷ b ∷ c ∷ d ∷ e ∷ f ∷ []) n size is = absurd (omega arith)
eight (a ∷ b ∷ c ∷ d ∷ e ∷ f ∷ g ∷ []) n size is = absurd (omega arith)
eight (a ∷ b ∷ c ∷ d ∷ e ∷ f ∷ g ∷ h ∷ []) n size is = omega (arith, is)
eight (a ∷ b ∷ c ∷ d ∷ e ∷ f ∷ g ∷ h ∷ i ∷ js) n size is = absurd (omega arith)

pub returns-in-len8 : goal.returns-in-len8
returns-in-len8 c = record {
  value = eight c.args.bytes.now _ (omega arith) c.from_be_bytes-in-len8.ensures;
  bytes =
      subst IsBytes (take-length c.args.bytes.now)
      (first_bytes _ _ (λ i. Fits-lt-pow {w = w8} (c.type_inv.bytes i)));
}
