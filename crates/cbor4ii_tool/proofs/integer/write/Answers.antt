use Rattle.cbor4ii_tool.proofs.integer.write.Goals as goal

pub returns-in-Unsigned : goal.returns-in-Unsigned
returns-in-Unsigned g c = rw c.in-Unsigned.is c.encode.ensures

pub returns-in-Negative : goal.returns-in-Negative
returns-in-Negative g c = rw c.in-Negative.is c.encode-in-Negative.ensures
