-- What arrays and maps of values stand for, whole and part by part.
use Rattle.std.proofs.Common.{◌≡◌, ◌∙◌, ◌<◌, ◌+◌, ℕ, List, ◌∷◌, length, drop, get_or, sym, ap}
use Rattle.std.proofs.Common.{rules}
use Rattle.std.proofs.lemmas.List.{drop_more}
use Rattle.std.specs.declared.alloc.Global.{Global}
use Rattle.std.specs.declared.vec.Vec.{Vec}
use Rattle.cbor4ii_tree.specs.Basis.Item.{sequence, mapping, item, item_pair}
use Rattle.cbor4ii_tree.specs.Basis.View.{view, items_view, pairs_view}
use Rattle.cbor4ii_tree.specs.declared.value.Value.{Value, Array, Map, the_lemmas}

-- what an array and a map stand for
pub view-Array : (v : Vec Value Global) → view (Array v) ≡ sequence (items_view v.items)
view-Array v = search (rules, the_lemmas)

pub view-Map : (v : Vec (Value × Value) Global) → view (Map v) ≡ mapping (pairs_view v.items)
view-Map v = search (rules, the_lemmas)

-- what a function that goes down a value names by `using`
pub ruleset values_seen = (view-Array, view-Map)

-- a list from a place on is what stands there, and those after it
pub items_from : (vs : List Value) (i : ℕ) (v : Value) → i < length vs → v ≡ get_or vs i v
    → items_view (drop i vs) ≡ item (view v) (items_view (drop (i + 1) vs))
items_from vs i v lt is =
    ap items_view (drop_more vs i v lt) ∙ ap (λ n. items_view (n ∷ drop (i + 1) vs)) (sym is)

pub pairs_from : (ms : List (Value × Value)) (i : ℕ) (m : Value × Value) → i < length ms
    → m ≡ get_or ms i m
    → pairs_view (drop i ms) ≡ item_pair (view m.0) (view m.1) (pairs_view (drop (i + 1) ms))
pairs_from ms i m lt is =
    ap pairs_view (drop_more ms i m lt) ∙ ap (λ n. pairs_view (n ∷ drop (i + 1) ms)) (sym is)
