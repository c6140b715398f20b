-- Integers at the beginning of bytes.
use Rattle.std.proofs.Common.{◌≡◌, ℕ, suc, ◌+◌, ◌*◌, List, [], ◌∷◌, ◌++◌, drop, refl, sym, ap}
use Rattle.std.proofs.Common.{◌∙◌, subst, arith, append_assoc, append-nil}
use Rattle.cbor4ii_items.specs.Head.{byte_count, additional}
use Rattle.cbor4ii_items.specs.Heads.{ReadsHead}
use Rattle.cbor4ii_items.specs.Laws.Heads.{additional-lt, head_one, rest_after_head, byte_count-le}
use Rattle.cbor4ii_tool.specs.Integer.{IntegerHead, IsIntegerHead, encoding, BeginsInteger}
use Rattle.cbor4ii_tool.specs.Integer.{BeginsNoInteger, IsCutInteger}

same_first : {x y : ℕ} {xs ys : List ℕ} → x ∷ xs ≡ y ∷ ys → x ≡ y
same_first e = cc

same_major : (p q : IntegerHead) → IsIntegerHead p → IsIntegerHead q
    → 32 * p.major + additional p.width p.argument ≡ 32 * q.major + additional q.width q.argument
    → p.major ≡ q.major
same_major p q P Q first =
    let small = additional-lt p.argument p.width P.fits in
    let other = additional-lt q.argument q.width Q.fits in
    omega (arith, small, other, first)

-- as the codec reads it
abbrev as_head : (p : IntegerHead) → IsIntegerHead p → (xs rest : List ℕ) → xs ≡ encoding p ++ rest
    → ReadsHead p.major 8 xs p.argument (suc (byte_count p.width))
as_head p P xs rest e =
    record {
      wide = p.width;
      allowed = byte_count-le p.width;
      fits = P.fits;
      rest = rest;
      is =
          e;
      count = refl;
    }

-- two integers at the beginning of the same bytes say the same, and neither is longer
pub one_head : (p q : IntegerHead) → IsIntegerHead p → IsIntegerHead q → (xs ys : List ℕ)
    → encoding p ++ xs ≡ encoding q ++ ys → (p.major ≡ q.major) × (p.argument ≡ q.argument)
    × (xs ≡ ys)
one_head p q P Q xs ys e =
    let all : List ℕ = encoding p ++ xs in
    let major = same_major p q P Q (same_first e) in
    let a = as_head p P all xs refl in
    let b = as_head q Q all ys e in
    let c = subst (λ m. ReadsHead m 8 all q.argument (suc (byte_count q.width))) (sym major) b in
    let same = head_one p.major 8 all p.argument q.argument (suc (byte_count p.width))
    (suc (byte_count q.width)) (omega (arith, P.major)) a c in (
      major,
      same.1,
      sym (rest_after_head p.major 8 all p.argument (suc (byte_count p.width)) a)
          ∙ (ap (λ n. drop n all) same.0
          ∙ rest_after_head q.major 8 all q.argument (suc (byte_count q.width)) b),
    )

pub none_begins_other : (bytes : List ℕ) → BeginsNoInteger bytes → ¬ BeginsInteger bytes
none_begins_other bytes begins prefix =
    begins.other prefix.item prefix.integer (same_first (sym begins.is ∙ prefix.is))

no_more : (xs ys : List ℕ) → [] ≡ xs ++ ys → ys ≡ []
no_more [] ys e = sym e
no_more (x ∷ xs) ys e = cc

pub none_begins_cut : (bytes : List ℕ) → IsCutInteger bytes → ¬ BeginsInteger bytes
none_begins_cut bytes cut prefix =
    let whole : encoding cut.item ++ [] ≡ encoding prefix.item ++ (prefix.more ++ cut.missing) =
    append-nil (encoding cut.item)
    ∙ (cut.joined ∙ (ap (λ xs. xs ++ cut.missing) prefix.is
    ∙ append_assoc (encoding prefix.item) prefix.more cut.missing)) in
    cut.some (no_more prefix.more cut.missing
    (one_head cut.item prefix.item cut.integer prefix.integer [] (prefix.more ++ cut.missing)
    whole).2)
