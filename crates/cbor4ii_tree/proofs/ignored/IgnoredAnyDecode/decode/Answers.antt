use Rattle.std.proofs.Common.{rules, Ok, Err}
use Rattle.cbor4ii_tree.proofs.answers.Promises.{all_skips, prefix_skips, eof_skips, depth_skips}
use Rattle.cbor4ii_tree.proofs.answers.Promises.{final_skips, others_skips, exact_skips}
use Rattle.cbor4ii_tree.proofs.skip_calls.Deeper.{ignored_ok, ignored_err}
use Rattle.cbor4ii_tree.proofs.ignored.IgnoredAnyDecode.decode.Goals as goal

pub returns-in-Ok-clause-decodes : goal.returns-in-Ok-clause-decodes
returns-in-Ok-clause-decodes g c = ignored_ok _ c.in-Ok.ensures.does c.in-Ok.ensures.progress

pub returns-in-Err : goal.returns-in-Err
returns-in-Err g c = record {
  decodes = ignored_err c.in-Err.ensures.does c.in-Err.ensures.spares;
  only = search rules;
  all = all_skips (Err c.in-Err.error) c.in-Err.ensures.does;
  prefix = prefix_skips (Err c.in-Err.error) c.in-Err.ensures.does;
  eof = eof_skips (Err c.in-Err.error) c.in-Err.ensures.does;
  depth = depth_skips (Err c.in-Err.error) c.in-Err.ensures.does;
  never = final_skips (Err c.in-Err.error) c.in-Err.ensures.does;
  others = others_skips (Err c.in-Err.error) c.in-Err.ensures.does;
  exact = exact_skips (Err c.in-Err.error) c.in-Err.ensures.does;
}

pub returns-in-Ok-clause-all : goal.returns-in-Ok-clause-all
returns-in-Ok-clause-all g c = all_skips (Ok c.in-Ok.field-0) c.in-Ok.ensures.does

pub returns-in-Ok-clause-prefix : goal.returns-in-Ok-clause-prefix
returns-in-Ok-clause-prefix g c = prefix_skips (Ok c.in-Ok.field-0) c.in-Ok.ensures.does

pub returns-in-Ok-clause-exact : goal.returns-in-Ok-clause-exact
returns-in-Ok-clause-exact g c = exact_skips (Ok c.in-Ok.field-0) c.in-Ok.ensures.does
