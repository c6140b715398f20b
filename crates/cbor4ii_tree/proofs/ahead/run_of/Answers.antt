use Rattle.cbor4ii_tree.proofs.ahead.run_of.Goals as goal

pub returns-in-Items-clause-few : goal.returns-in-Items-clause-few
returns-in-Items-clause-few c = rw c.in-Items.is c.run_of_items.ensures.few
