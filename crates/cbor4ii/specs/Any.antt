-- Any item, read as a value (RFC 8949 section 3): every item but a tag, and the bignums of section
-- 3.4.3 whose tag stands in one byte, as integers.
use Rattle.std.specs.Prelude.{◌≡◌, ℕ, zero, suc, ◌/◌, ◌^◌, ◌<◌, ◌==◌, ℤ, pos, [], ◌∷◌, take, Bool}
use Rattle.std.specs.Prelude.{true, if◌then◌else◌}
use Rattle.std.specs.declared.alloc.Global.{Global}
use Rattle.std.specs.declared.string.String.{String}
use Rattle.std.specs.declared.vec.Vec.{Vec}
use Rattle.cbor4ii_items.specs.declared.types.Bytes.{Bytes as BytesItem}
use Rattle.cbor4ii_items.specs.declared.types.Simple.{Simple}
use Rattle.cbor4ii_items.specs.declared.types.F16.{F16 as Half}
use Rattle.cbor4ii_items.specs.declared.types.F32.{F32 as Single}
use Rattle.cbor4ii_items.specs.declared.types.F64.{F64 as Double}
use Rattle.cbor4ii_items.specs.Decoding.{Reads}
use Rattle.cbor4ii_items.specs.Floats.{ReadsFloat}
use Rattle.cbor4ii_items.specs.Numbers.{ReadsU128, ReadsI128}
use Rattle.cbor4ii_items.specs.Sequences.{ReadsSequence, ReadsPair}
use Rattle.cbor4ii_items.specs.Simple.{ReadsSimple, ReadsBool}
use Rattle.cbor4ii_items.specs.Strings.{ReadsAs, ReadsTextAs, bytes_content, text_content}
use Rattle.cbor4ii_tree.specs.Basis.View.{view}
use Rattle.cbor4ii_tree.specs.declared.value.FloatBits.TheVariants as float_bits
use Rattle.cbor4ii_tree.specs.declared.value.Value.{Value}
use Rattle.cbor4ii_tree.specs.declared.value.Value as values
use Rattle.cbor4ii.specs.declared.serde.de.any_leaf.AnyKind.{AnyKind}
use Rattle.cbor4ii.specs.declared.serde.de.any_leaf.AnyKind.TheVariants.{Leaf, Array, Map, Other}
use Rattle.cbor4ii.specs.declared.serde.de.any_leaf.AnyLeaf.{AnyLeaf}
use Rattle.cbor4ii.specs.declared.serde.de.any_leaf.AnyLeaf.TheVariants.{Integer, Bignum, Bytes}
use Rattle.cbor4ii.specs.declared.serde.de.any_leaf.AnyLeaf.TheVariants.{Text, Bool as Flag, Null}
use Rattle.cbor4ii.specs.declared.serde.de.any_leaf.AnyLeaf.TheVariants.{F16, F32, F64}
use Rattle.cbor4ii.specs.Stepped.{Stepped}

-- ---- what a first byte begins

-- the kind that the first byte of a tag begins: integers at tags 2 and 3, and else none
abbrev pub tag_kind : ℕ → AnyKind
tag_kind b = if b == 0xc2 then Leaf Bignum else (if b == 0xc3 then Leaf Integer else Other)

-- the kind that a first byte of major type 7 begins
abbrev pub simple_kind : ℕ → AnyKind
simple_kind b =
    if b == 0xf4 then Leaf Flag
    else (if b == 0xf5 then Leaf Flag
    else (if b == 0xf6 then Leaf Null
    else (if b == 0xf7 then Leaf Null
    else (if b == 0xf9 then Leaf F16
    else (if b == 0xfa then Leaf F32
    else (if b == 0xfb then Leaf F64 else Other))))))

abbrev pub kind_by : ℕ → ℕ → AnyKind
kind_by zero b = Leaf Integer
kind_by (suc zero) b = Leaf Integer
kind_by (suc (suc zero)) b = Leaf Bytes
kind_by (suc (suc (suc zero))) b = Leaf Text
kind_by (suc (suc (suc (suc zero)))) b = Array
kind_by (suc (suc (suc (suc (suc zero))))) b = Map
kind_by (suc (suc (suc (suc (suc (suc zero)))))) b = tag_kind b
kind_by _ b = simple_kind b

-- the kind that a first byte begins, by its major type
abbrev pub kind : ℕ → AnyKind
kind b = kind_by (b / 32) b

-- ---- items that hold no other

-- what is read, formed into a `Value`
abbrev pub Formed : {W : Type 0} → Reads W → (W → Value) → Reads Value
Formed {W} reads form xs v n c = (w : W) × reads xs w n c × (v ≡ form w)

abbrev pub of_integer : ℤ → Value
of_integer z = values.Integer z

abbrev pub of_bytes : BytesItem (Vec ℕ Global) → Value
of_bytes b = values.Bytes b.0

abbrev pub of_text : String Global → Value
of_text s = values.Text s

abbrev pub of_bool : Bool → Value
of_bool b = values.Bool b

abbrev pub of_null : Simple → Value
of_null s = values.Null

abbrev pub of_f16 : Half → Value
of_f16 f = values.Float (float_bits.F16 f.0)

abbrev pub of_f32 : Single → Value
of_f32 f = values.Float (float_bits.F32 f.0)

abbrev pub of_f64 : Double → Value
of_f64 f = values.Float (float_bits.F64 f.0)

-- an unsigned integer that is one of i128
abbrev pub ReadsSmallU128 : Reads ℕ
ReadsSmallU128 xs k n c = ReadsU128 xs k n c × (k < 2 ^ 127)

-- a bignum, as an integer
abbrev pub of_bignum : ℕ → Value
of_bignum k = values.Integer (pos k)

-- what each leaf is read as: null and undefined are simple values, read as null
abbrev pub LeafAs : AnyLeaf → Reads Value
LeafAs Integer = Formed ReadsI128 of_integer
LeafAs Bignum = Formed ReadsSmallU128 of_bignum
LeafAs Bytes = Formed (ReadsAs 2 bytes_content) of_bytes
LeafAs Text = Formed (ReadsTextAs text_content) of_text
LeafAs Flag = Formed ReadsBool of_bool
LeafAs Null = Formed ReadsSimple of_null
LeafAs F16 = Formed (λ xs (f : Half). ReadsFloat 0xf9 2 xs f.0) of_f16
LeafAs F32 = Formed (λ xs (f : Single). ReadsFloat 0xfa 4 xs f.0) of_f32
LeafAs F64 = Formed (λ xs (f : Double). ReadsFloat 0xfb 8 xs f.0) of_f64

-- ---- items that hold others

abbrev pub of_array : Vec Value Global → Value
of_array vs = values.Array vs

abbrev pub of_map : Vec (Value × Value) Global → Value
of_map ps = values.Map ps

-- an array of values, under one step
abbrev pub ReadsValues : Reads Value → Reads (Vec Value Global)
ReadsValues inner xs vs n c = ReadsSequence 4 inner true xs vs.items n c

-- a map's pairs, in order, under one step
abbrev pub ReadsPairs : Reads Value → Reads (Vec (Value × Value) Global)
ReadsPairs inner xs ps n c = ReadsSequence 5 (ReadsPair inner inner) true xs ps.items n c

-- an item of this kind, where the values inside it are read by `inner`
abbrev pub KindAs : Reads Value → AnyKind → Reads Value
KindAs inner (Leaf leaf) = LeafAs leaf
KindAs inner Array = Formed (ReadsValues inner) of_array
KindAs inner Map = Formed (ReadsPairs inner) of_map
KindAs inner Other = λ xs v n c. ⊥

-- an item of the kind that its first byte begins
abbrev pub AnyInside : Reads Value → Reads Value
AnyInside inner xs v n c = (b : ℕ) × (take 1 xs ≡ b ∷ []) × KindAs inner (kind b) xs v n c

-- any item, with at most so many items within one another, each under one step
abbrev pub AnyAt : ℕ → Reads Value
AnyAt zero xs v n c = ⊥
AnyAt (suc k) xs v n c = Stepped (AnyInside (AnyAt k)) xs v n c

-- any item, however deep items nest
abbrev pub ReadsAny : Reads Value
ReadsAny xs v n c = (k : ℕ) × AnyAt k xs v n c

-- the two values stand for the same
abbrev pub SameView : Value → Value → Type 0
SameView v w = view v ≡ view w
