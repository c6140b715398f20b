-- How any item is rejected where it is read as a value.
use Rattle.std.specs.Prelude.{◌≡◌, ℕ, zero, suc, ◌^◌, ◌≤◌, ◌⊎◌, List, [], ◌∷◌, take, drop, true}
use Rattle.std.specs.Prelude.{codes}
use Rattle.cbor4ii_items.specs.Decoding.{RejectsAt}
use Rattle.cbor4ii_items.specs.Floats.{RejectsFloat}
use Rattle.cbor4ii_items.specs.Next.{RejectsNext}
use Rattle.cbor4ii_items.specs.Numbers.{ReadsU128, RejectsU128, RejectsI128}
use Rattle.cbor4ii_items.specs.InputError.{InputError, unsupported}
use Rattle.cbor4ii_items.specs.Sequences.{ReadsPair, RejectsInside, RejectsPair}
use Rattle.cbor4ii_items.specs.Simple.{RejectsSimple, RejectsBool}
use Rattle.cbor4ii_items.specs.Strings.{RejectsString, RejectsText}
use Rattle.cbor4ii.specs.declared.serde.de.any_leaf.AnyKind.{AnyKind}
use Rattle.cbor4ii.specs.declared.serde.de.any_leaf.AnyKind.TheVariants.{Leaf, Array, Map, Other}
use Rattle.cbor4ii.specs.declared.serde.de.any_leaf.AnyLeaf.{AnyLeaf}
use Rattle.cbor4ii.specs.declared.serde.de.any_leaf.AnyLeaf.TheVariants.{Integer, Bignum, Bytes}
use Rattle.cbor4ii.specs.declared.serde.de.any_leaf.AnyLeaf.TheVariants.{Text, Bool as Flag, Null}
use Rattle.cbor4ii.specs.declared.serde.de.any_leaf.AnyLeaf.TheVariants.{F16, F32, F64}
use Rattle.cbor4ii.specs.Any.{kind, ReadsAny}
use Rattle.cbor4ii.specs.Stepped.{RejectsStepped}
use Rattle.cbor4ii.specs.Typed.{in_words}

-- a number that is none of i128, whose item is taken
pub record TooGreat (xs : List ℕ) (err : InputError) (rest : List ℕ) : Type 0 where
  pub number : ℕ
  pub size : ℕ
  pub read : ReadsU128 xs number size 0
  pub great : 2 ^ 127 ≤ number
  pub rejected : err ≡ in_words (codes "integer out of range")
  pub left : rest ≡ drop size xs

abbrev pub RejectsBignum : RejectsAt
RejectsBignum xs budget err rest = RejectsU128 xs err rest ⊎ TooGreat xs err rest

-- each leaf is rejected as by its own type
abbrev pub LeafRejects : AnyLeaf → RejectsAt
LeafRejects Integer = λ xs budget. RejectsI128 xs
LeafRejects Bignum = RejectsBignum
LeafRejects Bytes = RejectsString (codes "bytes") 2
LeafRejects Text = RejectsText (codes "str")
LeafRejects Flag = RejectsBool
LeafRejects Null = RejectsSimple
LeafRejects F16 = RejectsFloat (codes "f16") 0xf9 2
LeafRejects F32 = RejectsFloat (codes "f32") 0xfa 4
LeafRejects F64 = RejectsFloat (codes "f64") 0xfb 8

-- the first byte begins no item that is read, and stays
abbrev pub RejectsOther : RejectsAt
RejectsOther xs budget err rest =
    (b : ℕ) × (take 1 xs ≡ b ∷ []) × (err ≡ unsupported (codes "any") b) × (rest ≡ xs)

-- an item of this kind, where the values inside it are rejected by `inner`
abbrev pub KindRejects : RejectsAt → AnyKind → RejectsAt
KindRejects inner (Leaf leaf) = LeafRejects leaf
KindRejects inner Array =
    RejectsStepped (codes "seq") (RejectsInside (codes "array") 4 ReadsAny inner true)
KindRejects inner Map =
    RejectsStepped (codes "map") (RejectsInside (codes "map") 5 (ReadsPair ReadsAny ReadsAny)
    (RejectsPair ReadsAny inner inner) true)
KindRejects inner Other = RejectsOther

-- there is no byte, or an item of the kind that the first byte begins is rejected
abbrev pub AnyRejects : RejectsAt → RejectsAt
AnyRejects inner xs budget err rest =
    RejectsNext (codes "any") xs budget err rest
    ⊎ ((b : ℕ) × (take 1 xs ≡ b ∷ []) × KindRejects inner (kind b) xs budget err rest)

-- any item is rejected, within at most so many items, each under one step
abbrev pub AnyRejectsAt : ℕ → RejectsAt
AnyRejectsAt zero xs budget err rest = ⊥
AnyRejectsAt (suc k) xs budget err rest =
    RejectsStepped (codes "any") (AnyRejects (AnyRejectsAt k)) xs budget err rest

-- any item is rejected, however deep items nest
abbrev pub RejectsAny : RejectsAt
RejectsAny xs budget err rest = (k : ℕ) × AnyRejectsAt k xs budget err rest
