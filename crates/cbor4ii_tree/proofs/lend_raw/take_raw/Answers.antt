use Rattle.std.proofs.Common.{rules}
use Rattle.cbor4ii_tree.proofs.raw_items.Captured.{raw_decodes, raw_whole, raw_exact, raw_unmoved}
use Rattle.cbor4ii_tree.proofs.raw_items.Captured.{raw_rejected}
use Rattle.cbor4ii_tree.proofs.lend_raw.take_raw.Goals as goal

pub returns : goal.returns
returns g c = record {
  decodes = raw_decodes g.T.LendRaw.content _ _ c.capture.result c.capture.ensures.captures;
  whole = raw_whole g.T.LendRaw.content _ _ c.capture.result c.capture.ensures.captures;
  exact = raw_exact g.T.LendRaw.content _ _ c.capture.result c.capture.ensures.captures;
  unmoved = raw_unmoved g.T.LendRaw.content _ _ c.capture.result c.capture.ensures.captures;
  errs = raw_rejected g.T.LendRaw.content _ _ c.capture.result c.capture.ensures.captures;
  place = search rules;
}
