-- What any item that is read as a value is encoded as, and its parts.
use Rattle.std.specs.Prelude.{◌≡◌, List, ◌++◌, [], ◌∷◌, Bool, true, false, codes, Result, Ok, Err}
use Rattle.std.specs.declared.alloc.Global.{Global}
use Rattle.std.specs.declared.vec.Vec.{Vec}
use Rattle.cbor4ii_rw.specs.View.{View}
use Rattle.cbor4ii_rw.specs.declared.error.DecodeError.{DecodeError}
use Rattle.cbor4ii_items.specs.Decoding.{Format, Decodes}
use Rattle.cbor4ii_items.specs.Sequences.{inside_format, pair_format}
use Rattle.cbor4ii_tree.specs.declared.value.Value.{Value}
use Rattle.cbor4ii.specs.declared.serde.de.any_leaf.AnyKind.{AnyKind}
use Rattle.cbor4ii.specs.declared.serde.de.any_leaf.AnyLeaf.{AnyLeaf}
use Rattle.cbor4ii.specs.declared.serde.de.any_leaf.AnyLeaf.TheVariants.{Integer, Bignum, Bytes}
use Rattle.cbor4ii.specs.declared.serde.de.any_leaf.AnyLeaf.TheVariants.{Text, Bool as Logical, Null}
use Rattle.cbor4ii.specs.declared.serde.de.any_leaf.AnyLeaf.TheVariants.{F16, F32, F64}
use Rattle.cbor4ii.specs.Any.{Formed, KindAs, LeafAs, AnyInside, ReadsAny, SameView}
use Rattle.cbor4ii.specs.AnyRejects.{KindRejects, LeafRejects, AnyRejects, RejectsAny}
use Rattle.cbor4ii.specs.Stepped.{stepped_format}
use Rattle.cbor4ii.specs.Typed.{typed_format}

abbrev pub any_format : Format Value
any_format = typed_format ReadsAny SameView RejectsAny true true

-- any item, whose step was taken
abbrev pub any_inside : Format Value
any_inside = typed_format (AnyInside ReadsAny) SameView (AnyRejects RejectsAny) true true

-- an item of this kind, and likewise one that holds no other
abbrev pub kind_format : AnyKind → Format Value
kind_format k = typed_format (KindAs ReadsAny k) SameView (KindRejects RejectsAny k) true true

-- an item of the codec, as a value
abbrev pub formed_format : {W : Type 0} → (W → Value) → Format W → Format Value
formed_format form s = record {
  reads = Formed s.reads form;
  same = SameView;
  rejects = s.rejects;
  begins = s.begins;
  never_empty = s.never_empty;
  owned = s.owned;
  takes_memory = s.takes_memory;
  closed = false;
}

-- strings alone take memory
abbrev pub leaf_takes_memory : AnyLeaf → Bool
leaf_takes_memory Bytes = true
leaf_takes_memory Text = true
leaf_takes_memory Integer = false
leaf_takes_memory Bignum = false
leaf_takes_memory Logical = false
leaf_takes_memory Null = false
leaf_takes_memory F16 = false
leaf_takes_memory F32 = false
leaf_takes_memory F64 = false

abbrev pub any_leaf : AnyLeaf → Format Value
any_leaf leaf =
    typed_format (LeafAs leaf) SameView (LeafRejects leaf) true (leaf_takes_memory leaf)

-- the values of an array whose step was taken, and under it
abbrev pub values_inside : Format (Vec Value Global)
values_inside = inside_format (codes "array") 4 any_format

abbrev pub values_format : Format (Vec Value Global)
values_format = stepped_format (codes "seq") values_inside

-- a key and its value, and likewise the pairs of a map
abbrev pub any_pair : Format (Value × Value)
any_pair = pair_format any_format any_format

abbrev pub pairs_inside : Format (Vec (Value × Value) Global)
pairs_inside = inside_format (codes "map") 5 any_pair

abbrev pub pairs_format : Format (Vec (Value × Value) Global)
pairs_format = stepped_format (codes "map") pairs_inside

-- a part was read, and follows those that were there
pub record Adds {P : Type 0} (E : Type 0) (s : Format P) (before after : List P)
    (old new : View) : Type 0 where
  pub part : P
  pub read : Decodes {E = E} s old new (Ok part)
  pub added : after ≡ before ++ part ∷ []

-- a part was read, and follows those that were there; or the part was rejected
abbrev pub AddsOne : {P V E : Type 0} → Format P → List P → List P → View → View
    → Result V (DecodeError E) → Type 0
AddsOne {E = E} s before after old new (Ok v) = Adds E s before after old new
AddsOne s before after old new (Err e) = Decodes s old new (Err e)
