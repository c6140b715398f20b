use Rattle.cbor4ii_ser.proofs.text.StringText.write_to.Goals as goal

pub returns-clause-wrote : goal.returns-clause-wrote
returns-clause-wrote g c = rw (← c.as_str.ensures.value) c.write_str.ensures.wrote
