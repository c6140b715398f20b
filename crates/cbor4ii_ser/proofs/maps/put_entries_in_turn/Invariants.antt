use Rattle.std.proofs.Common.{◌≡◌, ◌++◌, List, Ok}
use Rattle.cbor4ii_ser.specs.Item.{each_encoding, pair_encoding}
use Rattle.cbor4ii_ser.specs.Serializing.{Serializes, output}
use Rattle.cbor4ii_ser.proofs.maps.put_entries_in_turn.Given as goal

-- so many pairs are written, and the others are still to come
abbrev pub invariant-loop-key : goal.invariant-loop-key
invariant-loop-key g l =
    (done : List (g.row.K.Denot × g.row.V.Denot)) × (l.map.entries ≡ done ++ l.key-iterator)
    × Serializes {T = Unit {0}} {E = g.row.W-Error.Denot} g.W.Write.atomic
    (each_encoding (pair_encoding g.K.Serialize.encoding g.V.Serialize.encoding) done)
    (output g.W.Write.view l.fn.ser) (output g.W.Write.view l.ser) (Ok tt) × (l.answer ≡ l.fn.answer)
