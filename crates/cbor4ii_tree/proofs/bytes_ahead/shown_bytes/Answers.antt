use Rattle.std.proofs.Common.{rules}
use Rattle.std.proofs.{Math.Facts.Fits-lt-pow}
use Rattle.cbor4ii_items.specs.Laws.Contents.{first_bytes}
use Rattle.cbor4ii_tree.proofs.bytes_ahead.shown_bytes.Goals as goal

pub returns-in-len1-up : goal.returns-in-len1-up
returns-in-len1-up c = search (rules, first_bytes, Fits-lt-pow)
