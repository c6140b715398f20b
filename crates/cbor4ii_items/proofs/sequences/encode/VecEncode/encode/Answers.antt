use Rattle.cbor4ii_items.proofs.sequences.encode.VecEncode.encode.Goals as goal

pub returns : goal.returns
returns g c = rw c.as_slice.ensures.value at c.push_array.ensures
