-- Lists that are no shape by their length, and the fields of a frame one after another.
use Rattle.std.proofs.Common.{◌≡◌, ◌≢◌, ◌<◌, ◌+◌, ℕ, List, [], ◌∷◌, length, drop, get_or}
use Rattle.std.proofs.Common.{Err, refl, rules}
use Rattle.std.specs.Prelude.{codes}
use Rattle.cbor4ii_tree.specs.Basis.View.{view, items_view, pairs_view}
use Rattle.cbor4ii_tree.specs.declared.value.Value.{Value}
use Rattle.cbor4ii.specs.Laws.Shown.{pairs_from}
use Rattle.cbor4ii_examples.specs.Shape.{figure_at, figure_in, pair_in, FrameFields}
use Rattle.cbor4ii_examples.specs.Shape.{frame_pairs_at, with_frame_pair}
use Rattle.cbor4ii_examples.specs.Told.{Told, told_then}

pub not_one : (ms : List (Value × Value)) → length ms ≢ 1
    → figure_in (pairs_view ms) ≡ Err (codes "a shape is a map of one pair")
not_one [] h = refl
not_one (m ∷ []) h = absurd (h refl)
not_one (m ∷ n ∷ ms) h = refl

pub no_pair : (vs : List Value) → length vs ≢ 2
    → pair_in (items_view vs) ≡ Err (codes "a pair is an array of two")
no_pair [] h = refl
no_pair (v ∷ []) h = refl
no_pair (v ∷ w ∷ []) h = absurd (h refl)
no_pair (v ∷ w ∷ x ∷ vs) h = refl

-- a pair more
pub frames-next : (ms : List (Value × Value)) (i : ℕ) (m : Value × Value) (s : FrameFields)
    (o : Told FrameFields) → i < length ms → m ≡ get_or ms i m
    → with_frame_pair s (view m.0) (view m.1) (figure_at (view m.1)) ≡ o
    → frame_pairs_at (pairs_view (drop i ms)) s
    ≡ told_then (frame_pairs_at (pairs_view (drop (i + 1) ms))) o
frames-next ms i m s o lt is e = search (rules, pairs_from)
