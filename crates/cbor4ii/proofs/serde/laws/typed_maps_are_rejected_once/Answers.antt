use Rattle.cbor4ii.specs.Laws.TypedOnce.{typed_map_once, both_true}
use Rattle.cbor4ii.proofs.serde.laws.typed_maps_are_rejected_once.Goals as goal

pub returns : goal.returns
returns g c = λ k v. typed_map_once (λ map. map.entries) g.K.Ord.cmp g.K.Typed.promise
    g.V.Typed.promise (both_true g.K.Typed.promise.exact g.V.Typed.promise.exact k v)
