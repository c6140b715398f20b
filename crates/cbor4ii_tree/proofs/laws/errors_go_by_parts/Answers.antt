use Rattle.std.proofs.Common.{rules}
use Rattle.cbor4ii_tree.proofs.answers.Nesting.{skipping_by_parts, reading_by_parts}
use Rattle.cbor4ii_tree.proofs.answers.Nesting.{canonical_by_parts}
use Rattle.cbor4ii_tree.proofs.laws.errors_go_by_parts.Goals as goal

pub returns : goal.returns
returns c = search (rules, skipping_by_parts, reading_by_parts, canonical_by_parts)
