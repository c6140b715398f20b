use Rattle.std.proofs.Common.{◌+◌, true}
use Rattle.cbor4ii_items.specs.ReadBack.{pair_cost, greatest_part_cost}
use Rattle.cbor4ii_items.specs.Sequences.{ReadsPair, ReadsSequence}
use Rattle.cbor4ii_ser.specs.Item.{pair_encoding, map_encoding}
use Rattle.cbor4ii.specs.Laws.Backs.{sequence_read_back, map_pairs_back, built_again, map_read_back}
use Rattle.cbor4ii.proofs.serde.laws.maps_are_read_back.Goals as goal

pub returns : goal.returns
returns g c m key_cost value_cost ordered small keys values =
    let key = g.K.Serialize.encoding in
    let value = g.V.Serialize.encoding in
    let pairs = ReadsPair g.K.Typed.promise.format.reads g.V.Typed.promise.format.reads in
    let each = map_pairs_back g.K.Typed.promise.format.reads g.V.Typed.promise.format.reads key
    value
    key_cost value_cost m.entries keys values in
    let read = sequence_read_back pairs (pair_encoding key value) (pair_cost key_cost value_cost) 5
    true m.entries small each in
    map_read_back (λ map. map.entries) g.K.Ord.cmp (ReadsSequence 5 pairs true)
    (map_encoding key value m.entries) m
    (1 + greatest_part_cost (pair_cost key_cost value_cost) m.entries)
    (built_again g.K.Ord.cmp g.met.K.Ord.total m.entries ordered) read
