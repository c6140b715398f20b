use Rattle.std.proofs.Common.{◌≡◌, sym, ap, ◌∙◌, rules}
use Rattle.std.proofs.lemmas.Int.{to_z-of_z}
use mir.Syntax.{w128}
use mir.Val.{to_z, of_z}
use Rattle.cbor4ii_items.specs.Laws.{SequenceBytes.{items_then, items_err}, Written.writes_then}
use Rattle.cbor4ii_items.specs.Laws.Written.{writes_err, writes_as, appends_then}
use Rattle.cbor4ii_tree.specs.Basis.{Item.integer, View.view, Canonical.canonical_encoding}
use Rattle.cbor4ii_tree.specs.Calls.Encoding.{value_bytes, value_pair_bytes}
use Rattle.cbor4ii_tree.proofs.values.Encoding.{Tag-bytes, Bool-bytes, view-Integer, Array-bytes}
use Rattle.cbor4ii_tree.proofs.values.Encoding.{Map-bytes, on_some, on_any_some}
use Rattle.cbor4ii_tree.proofs.values.InRange.{items_step, pairs_step, array_in_range, map_in_range}
use Rattle.cbor4ii_tree.proofs.values.InRange.{text_in_range}
use Rattle.cbor4ii_tree.proofs.encode_value.+put.Goals as goal

pub put_items-returns-in_err-put_value-clause-writes :
    goal.put_items-returns-in_err-put_value-clause-writes
put_items-returns-in_err-put_value-clause-writes g t c =
    rw c.from_residual.ensures (items_err value_bytes _ _ _ c.loop-item-test.true c.item-item.is
    c.loop-item.invariant.appends c.loop-item.invariant.counts c.in_err-put_value.ensures.writes)

pub put_items-loop-item-preserved : goal.put_items-loop-item-preserved
put_items-loop-item-preserved g t c = record {
  appends =
      items_then value_bytes _ _ _ _ _ _ c.loop-item-test.true c.item-item.is
      c.loop-item.invariant.appends c.in_ok-put_value.ensures.writes.appends;
  counts = c.in_ok-put_value.ensures.writes.counts ∙ c.loop-item.invariant.counts;
  items =
      items_step _ _ _ c.loop-item-test.true c.item-item.is c.loop-item.invariant.items
      c.in_ok-put_value.ensures.item;
}

pub put_pairs-returns-in_err-put_value-clause-writes :
    goal.put_pairs-returns-in_err-put_value-clause-writes
put_pairs-returns-in_err-put_value-clause-writes g t c =
    rw c.from_residual.ensures (items_err value_pair_bytes _ _ _ c.loop-pair-test.true
    c.pair-item.is c.loop-pair.invariant.appends c.loop-pair.invariant.counts (writes_err _
    c.in_err-put_value.ensures.writes))

pub put_pairs-returns-in_err-put_value-2-clause-writes :
    goal.put_pairs-returns-in_err-put_value-2-clause-writes
put_pairs-returns-in_err-put_value-2-clause-writes g t c =
    rw c.from_residual-in_err-put_value-2.ensures (items_err value_pair_bytes c.args.pairs.now
    c.loop-pair.pair-index c.pair-item.result c.loop-pair-test.true c.pair-item.is
    c.loop-pair.invariant.appends c.loop-pair.invariant.counts (writes_then _
    c.in_ok-put_value.ensures.writes c.in_err-put_value-2.ensures.writes))

pub put_pairs-loop-pair-preserved : goal.put_pairs-loop-pair-preserved
put_pairs-loop-pair-preserved g t c =
    record {
      appends =
          items_then value_pair_bytes _ _ _ _ _ _ c.loop-pair-test.true c.pair-item.is
          c.loop-pair.invariant.appends (appends_then _ _ _ _ _
          c.in_ok-put_value.ensures.writes.appends c.in_ok-put_value-2.ensures.writes.appends);
      counts =
          c.in_ok-put_value-2.ensures.writes.counts ∙ c.in_ok-put_value.ensures.writes.counts ∙
          c.loop-pair.invariant.counts;
      pairs =
          pairs_step _ _ _ c.loop-pair-test.true c.pair-item.is
          c.loop-pair.invariant.pairs c.in_ok-put_value.ensures.item
          c.in_ok-put_value-2.ensures.item;
    }

pub put_array-returns-in_err-put_head-clause-writes :
    goal.put_array-returns-in_err-put_head-clause-writes
put_array-returns-in_err-put_head-clause-writes g t c =
    rw c.from_residual.ensures (writes_err _ c.in_err-put_head.ensures.writes.writes)

pub put_array-returns-clause-writes : goal.put_array-returns-clause-writes
put_array-returns-clause-writes g t c =
    writes_then _ c.in_ok-put_head.ensures.writes.writes c.put_items.ensures.writes

pub put_map-returns-in_err-put_head-clause-writes :
    goal.put_map-returns-in_err-put_head-clause-writes
put_map-returns-in_err-put_head-clause-writes g t c =
    rw c.from_residual.ensures (writes_err _ c.in_err-put_head.ensures.writes.writes)

pub put_map-returns-clause-writes : goal.put_map-returns-clause-writes
put_map-returns-clause-writes g t c =
    writes_then _ c.in_ok-put_head.ensures.writes.writes c.put_pairs.ensures.writes

pub put_tag-returns-in_err-put_head-clause-writes :
    goal.put_tag-returns-in_err-put_head-clause-writes
put_tag-returns-in_err-put_head-clause-writes g t c =
    rw c.from_residual.ensures (writes_err _ c.in_err-put_head.ensures.writes.writes)

pub put_tag-returns-clause-writes : goal.put_tag-returns-clause-writes
put_tag-returns-clause-writes g t c =
    writes_then _ c.in_ok-put_head.ensures.writes.writes c.put_value.ensures.writes

pub put_value-returns-in-Bool-clause-writes : goal.put_value-returns-in-Bool-clause-writes
put_value-returns-in-Bool-clause-writes g t c =
    writes_as _ (Bool-bytes _ _ c.in-Bool.is) c.put-in-Bool.ensures.writes

pub put_value-returns-in-Integer-clause-writes : goal.put_value-returns-in-Integer-clause-writes
put_value-returns-in-Integer-clause-writes g t c =
    let n = c.in-Integer.n in
    let back : to_z w128 (of_z w128 n) ≡ n = to_z-of_z w128 n (search rules) in
    writes_as _ (ap (λ z. canonical_encoding (integer z)) back ∙ sym (ap canonical_encoding (ap view
    c.in-Integer.is ∙ view-Integer n))) c.put_integer.ensures.writes

pub put_value-returns-in-Text-clause-item : goal.put_value-returns-in-Text-clause-item
put_value-returns-in-Text-clause-item g t c = search (rules, on_some, text_in_range, on_any_some)

pub put_value-returns-in-Array-clause-item : goal.put_value-returns-in-Array-clause-item
put_value-returns-in-Array-clause-item g t c = search (rules, on_some, array_in_range)

pub put_value-returns-in-Map-clause-item : goal.put_value-returns-in-Map-clause-item
put_value-returns-in-Map-clause-item g t c = search (rules, on_some, map_in_range)

pub put_value-returns-in-Array-clause-writes : goal.put_value-returns-in-Array-clause-writes
put_value-returns-in-Array-clause-writes g t c = search (rules, writes_as, Array-bytes)

pub put_value-returns-in-Map-clause-writes : goal.put_value-returns-in-Map-clause-writes
put_value-returns-in-Map-clause-writes g t c =
    writes_as _ (Map-bytes _ _ _ c.in-Map.is c.deref-in-Map.ensures.value) c.put_map.ensures.writes

pub put_value-returns-in-Tag-clause-writes : goal.put_value-returns-in-Tag-clause-writes
put_value-returns-in-Tag-clause-writes g t c = search (rules, writes_as, Tag-bytes)
