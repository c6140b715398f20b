-- Values that stand whole in what is shown.
use Rattle.std.proofs.Common.{◌≡◌, ℕ, suc, ◌^◌, ◌≤◌, List, [], ◌++◌, take, drop, Ok, refl, sym, ap}
use Rattle.std.proofs.Common.{◌∙◌, subst, arith, w64, length-append, append_assoc, rules}
use Rattle.std.specs.Prelude.{ℤ, pos, negsuc, FitsSigned}
use Rattle.std.proofs.lemmas.Int.{to_z-of_z}
use Rattle.std.proofs.lemmas.List.{take-append-drop, take-append-le, drop-append-le}
use mir.Val.{to_z, of_z, hbits}
use mir.Syntax.{Width}
use Rattle.cbor4ii_items.specs.Decoding.{Reads}
use Rattle.cbor4ii_items.specs.Floats.{StandsWhole, ReadsFloat}
use Rattle.cbor4ii_items.specs.Head.{IsBytes}
use Rattle.cbor4ii_items.specs.Laws.Heads.{read_head}
use Rattle.cbor4ii_items.specs.Numbers.{ReadsArgument, IsWithin}
use Rattle.cbor4ii_items.specs.Prefix.{IsWholeHead}
use Rattle.cbor4ii_items.specs.ReadHead.{head_at}
use Rattle.cbor4ii_items.specs.ShownLeaf.{IsShownLeaf}

-- ---- heads and floats

pub whole_head_shown : {major width argument n : ℕ} {shown : List ℕ}
    → IsWholeHead major width shown argument n
    → IsShownLeaf (ReadsArgument major width) shown 0 (argument, n)
whole_head_shown {major = major} {width = width} {argument = argument} {n = n} {shown = shown}
    h = record {
      some = h.some;
      within = h.within;
      cost = 0;
      fits = omega arith;
      read = λ rest.
          let whole : head_at [] major width (shown ++ rest) ≡ Ok
          (argument, drop n (shown ++ rest)) =
          h.head [] rest ∙ ap (λ (zs : List ℕ). Ok (argument, zs))
          (sym (drop-append-le n shown rest h.within)) in (
            read_head [] major width (shown ++ rest) argument n whole
                (omega (arith, h.within, length-append shown rest))
                (subst IsBytes (sym (take-append-le n shown rest h.within)) h.bytes),
            refl,
          );
    }

pub whole_float_shown : {marker count bits n : ℕ} {shown : List ℕ} → n ≡ suc count
    → StandsWhole marker count shown bits
    → IsShownLeaf (ReadsFloat marker count) shown 0 (bits, n)
whole_float_shown {marker = marker} {count = count} {bits = bits} {shown = shown} size h = record {
  some = omega (arith, size);
  within = omega (arith, size, h.long);
  cost = 0;
  fits = omega arith;
  read = λ rest. record {
    fits = h.fits;
    rest = drop (suc count) shown ++ rest;
    is = ap (λ zs. zs ++ rest) (sym (take-append-drop (suc count) shown))
        ∙ (append_assoc (take (suc count) shown) (drop (suc count) shown) rest
        ∙ ap (λ zs. zs ++ (drop (suc count) shown ++ rest)) h.is);
    size = size;
    cost = refl;
  };
}

-- ---- numbers, cast to fewer bits

wide_is : (limit : ℕ) (z : ℤ) → limit ≤ 2 ^ 63 → IsWithin limit z
    → to_z w64 (of_z w64 z) ≡ z
wide_is limit (pos k) small h = to_z-of_z w64 (pos k) (record { sfits = omega (arith, h, small) })
wide_is limit (negsuc k) small h =
    to_z-of_z w64 (negsuc k) (record { sfits = omega (arith, h, small) })

within_fits : (w : Width) (z : ℤ) → IsWithin (2 ^ hbits w) z → FitsSigned w z
within_fits w (pos k) h = record { sfits = h }
within_fits w (negsuc k) h = record { sfits = h }

pub cast_fits : (w : Width) (z : ℤ) → 2 ^ hbits w ≤ 2 ^ 63 → IsWithin (2 ^ hbits w) z
    → FitsSigned w (to_z w64 (of_z w64 z))
cast_fits w z small h =
    subst (FitsSigned w) (sym (wide_is (2 ^ hbits w) z small h)) (within_fits w z h)

pub cast_is : (w : Width) (z : ℤ) → 2 ^ hbits w ≤ 2 ^ 63 → IsWithin (2 ^ hbits w) z
    → z ≡ to_z w (of_z w (to_z w64 (of_z w64 z)))
cast_is w z small h = search (rules, wide_is, to_z-of_z, within_fits)

pub shown_as : {V : Type 0} {reads : Reads V} {shown : List ℕ} {v w : V} {n : ℕ} (steps : ℕ)
    → v ≡ w → IsShownLeaf reads shown 0 (v, n) → IsShownLeaf reads shown steps (w, n)
shown_as {reads = reads} {shown = shown} {n = n} steps e h = search rules
