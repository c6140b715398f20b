use Rattle.std.proofs.Common.{◌≡◌, take, Ok}
use Rattle.cbor4ii_ser.specs.Item.{each_encoding}
use Rattle.cbor4ii_ser.specs.Serializing.{Serializes, output}
use Rattle.cbor4ii_ser.proofs.sequences.put_each_leaf.Given as goal

-- so many items are written, and nothing was left
abbrev pub invariant-loop-item : goal.invariant-loop-item
invariant-loop-item g l =
    Serializes {T = Unit {0}} {E = g.row.W-Error.Denot} g.W.Write.atomic
    (each_encoding g.T.Serialize.encoding (take l.item-index l.items))
    (output g.W.Write.view l.fn.ser)
    (output g.W.Write.view l.ser) (Ok tt) × (l.answer ≡ l.fn.answer)
