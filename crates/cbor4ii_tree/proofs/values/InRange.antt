-- Values of the program are in range.
use Rattle.std.proofs.Common.{◌≡◌, ℕ, ◌+◌, ◌<◌, ◌^◌, List, [], ◌∷◌, ◌++◌, length, take, get_or, sym}
use Rattle.std.proofs.Common.{ap, ◌∙◌, arith, subst, Vec, Global, String, refl, rules}
use Rattle.std.proofs.{lemmas.List.take_more, lemmas.Str.IsUtf8-string_bytes}
use Rattle.std.specs.Prelude.{string_bytes}
use Rattle.cbor4ii_tree.specs.{Basis.Item.{IsItem, AreItems, AreItemPairs}, Basis.View.view}
use Rattle.cbor4ii_tree.specs.{Basis.View.{items_view, pairs_view}, declared.value.Value.Value}
use Rattle.cbor4ii_tree.specs.declared.value.Value.{Text, Array, Map, Bytes}
use Rattle.cbor4ii_tree.specs.Inner.Valuing.{flat_values}
use Rattle.cbor4ii_tree.proofs.values.Encoding.{view-Array, item_count-items_view}
use Rattle.cbor4ii_tree.proofs.values.Encoding.{pair_count-pairs_view, view-Map}
use Rattle.cbor4ii_tree.proofs.values.Heads.{view-Text, view-Bytes}

pub AreItems-append : (vs ws : List Value) → AreItems (items_view vs) → AreItems (items_view ws)
    → AreItems (items_view (vs ++ ws))
AreItems-append [] ws h k = k
AreItems-append (v ∷ vs) ws h k = (h.0, AreItems-append vs ws h.1 k)

pub ArePairs-push : (ms : List (Value × Value)) (m : Value × Value) → AreItemPairs (pairs_view ms)
    → IsItem (view m.0) → IsItem (view m.1) → AreItemPairs (pairs_view (ms ++ m ∷ []))
ArePairs-push [] m h k l = (k, l, tt)
ArePairs-push (n ∷ ms) m h k l = (h.0, h.1, ArePairs-push ms m h.2 k l)

pub items_step : (xs : List Value) (i : ℕ) (x : Value) → i < length xs → x ≡ get_or xs i x
    → AreItems (items_view (take i xs)) → IsItem (view x) → AreItems (items_view (take (i + 1) xs))
items_step xs i x lt is h k = rw (take_more xs i x lt, ← is) (AreItems-append (take i xs)
    (x ∷ []) h (k, tt))

pub pairs_step : (xs : List (Value × Value)) (i : ℕ) (x : Value × Value) → i < length xs
    → x ≡ get_or xs i x → AreItemPairs (pairs_view (take i xs)) → IsItem (view x.0)
    → IsItem (view x.1) → AreItemPairs (pairs_view (take (i + 1) xs))
pairs_step xs i x lt is h k l =
    rw (take_more xs i x lt, ← is) (ArePairs-push (take i xs) x h k l)

pub array_in_range : (value : Value) (v : Vec Value Global) (vs : List Value) → value ≡ Array v
    → vs ≡ v.items → length vs < 2 ^ 64 → AreItems (items_view vs) → IsItem (view value)
array_in_range value v vs e same small h = search (rules, view-Array, item_count-items_view)

pub map_in_range : (value : Value) (v : Vec (Value × Value) Global) (vs : List (Value × Value))
    → value ≡ Map v → vs ≡ v.items → length vs < 2 ^ 64 → AreItemPairs (pairs_view vs)
    → IsItem (view value)
map_in_range value v vs e same small h = search (rules, view-Map, pair_count-pairs_view)

pub text_in_range : (value : Value) (s : String Global) → value ≡ Text s
    → length (string_bytes s) < 2 ^ 64 → IsItem (view value)
text_in_range value s e small =
    subst IsItem (sym (ap view e ∙ view-Text s)) (small, IsUtf8-string_bytes s)

-- ---- what is read is a value of the program

pub items_none : {vs : List Value} → vs ≡ [] → AreItems (items_view vs)
items_none e = rw e tt

pub items_are : (ws vs part : List Value) → ws ≡ vs ++ part → AreItems (items_view vs)
    → AreItems (items_view part) → AreItems (items_view ws)
items_are ws vs part e h i = rw e (AreItems-append vs part h i)

pairs_are : (ms : List (Value × Value)) → AreItems (items_view (flat_values ms))
    → AreItemPairs (pairs_view ms)
pairs_are [] h = tt
pairs_are (m ∷ ms) h = (h.0, h.1.0, pairs_are ms h.1.1)

-- a vector is never that long
small : {A : Type 0} (v : Vec A Global) → length v.items < 2 ^ 64
small v = omega (arith, v.small, v.ok.0, v.ok.1)

pub array_encoding : (v : Vec Value Global) → AreItems (items_view v.items) → IsItem
    (view (Array v))
array_encoding v h = array_in_range (Array v) v v.items refl refl (small v) h

pub map_encoding : (v : Vec (Value × Value) Global) → AreItems (items_view (flat_values v.items))
    → IsItem (view (Map v))
map_encoding v h = map_in_range (Map v) v v.items refl refl (small v) (pairs_are v.items h)

pub text_encoding : (v : String Global) → IsItem (view (Text v))
text_encoding v = text_in_range (Text v) v refl (small v.bytes)

pub bytes_item_is : (v : Vec ℕ Global) → IsItem (view (Bytes v))
bytes_item_is v = subst IsItem (sym (view-Bytes v)) (small v)
