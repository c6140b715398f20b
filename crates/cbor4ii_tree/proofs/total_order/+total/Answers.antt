use Rattle.std.proofs.Common.{◌≡◌, ◌≢◌, length, ap, ◌∙◌, subst, subst₂, arith, rules}
use Rattle.std.specs.declared.cmp.Ordering.TheVariants.{Equal}
use Rattle.cbor4ii_items.specs.SequenceBytes.{items_bytes}
use Rattle.cbor4ii_tree.specs.{Calls.TotalOrder.{value_numbers, pair_numbers}, Calls.Order.Compares}
use Rattle.cbor4ii_tree.specs.{declared.value.Value.the_lemmas}
use Rattle.cbor4ii_tree.proofs.encodings.Order.{compares_then}
use Rattle.cbor4ii_tree.proofs.values.Encoding.{exact_arrays, exact_maps, other_parts, same_parts}
use Rattle.cbor4ii_tree.proofs.values.Encoding.{compares_from, compares_here}
use Rattle.cbor4ii_tree.proofs.total_order.+total.Goals as goal

pub total_cmp-returns-in-Equal : goal.total_cmp-returns-in-Equal
total_cmp-returns-in-Equal t c = search (rules, same_parts)

pub total_cmp-returns-in_default : goal.total_cmp-returns-in_default
total_cmp-returns-in_default t c = search (rules, other_parts)

pub cmp_inside-cmp_items-requires : goal.cmp_inside-cmp_items-requires
cmp_inside-cmp_items-requires t c =
    let h = exact_arrays c.args.a.now c.args.b.now c.in-Array.items c.elements_of.result.now
    c.in-Array.is c.elements_of.ensures c.requires in
    (search (rules, the_lemmas), ap length c.deref-in-Array.ensures.value ∙ h.long)

pub cmp_inside-cmp_pairs-requires : goal.cmp_inside-cmp_pairs-requires
cmp_inside-cmp_pairs-requires t c =
    let h = exact_maps c.args.a.now c.args.b.now c.in-Map.pairs c.pairs_of.result.now
    c.in-Map.is c.pairs_of.ensures c.requires in
    (search (rules, the_lemmas), ap length c.deref-in-Map.ensures.value ∙ h.long)

pub cmp_inside-returns-in-Array : goal.cmp_inside-returns-in-Array
cmp_inside-returns-in-Array t c = search (rules, exact_arrays, subst₂)

pub cmp_inside-returns-in-Map : goal.cmp_inside-returns-in-Map
cmp_inside-returns-in-Map t c =
    let h = exact_maps _ _ _ _ c.in-Map.is c.pairs_of.ensures c.requires in
    subst₂ (Compares c.cmp_pairs.result) (ap (items_bytes pair_numbers)
    c.deref-in-Map.ensures.value ∙ h.first) h.second c.cmp_pairs.ensures

pub cmp_pairs-loop-i-preserved : goal.cmp_pairs-loop-i-preserved
cmp_pairs-loop-i-preserved t c = λ r rest.
    let x = c.index-a-i.result in
    let y = c.index-b-i.result in
    let keys : c.total_cmp-keys.result ≡ Equal = search rules in
    let values : c.total_cmp-values.result ≡ Equal = search rules in
    let here = compares_then (subst (λ o. Compares o (value_numbers x.0) (value_numbers y.0)) keys
    c.total_cmp-keys.ensures) (subst (λ o. Compares o (value_numbers x.1) (value_numbers y.1))
    values c.total_cmp-values.ensures) in
    c.loop-i.invariant r (compares_from pair_numbers c.args.a.now c.args.b.now c.loop-i.i x y r
    c.loop-i-test.true (omega arith) c.index-a-i.is c.index-b-i.is here rest)

pub cmp_pairs-returns-then-ne-2 : goal.cmp_pairs-returns-then-ne-2
cmp_pairs-returns-then-ne-2 t c =
    let x = c.index-a-i.result in
    let y = c.index-b-i.result in
    let keys : c.total_cmp-keys.result ≡ Equal = search rules in
    let differ : c.total_cmp-values.result ≢ Equal = search rules in
    let here = compares_then (subst (λ o. Compares o (value_numbers x.0) (value_numbers y.0)) keys
    c.total_cmp-keys.ensures) c.total_cmp-values.ensures in
    c.loop-i.invariant c.total_cmp-values.result (compares_here pair_numbers c.args.a.now
    c.args.b.now c.loop-i.i x y c.total_cmp-values.result c.loop-i-test.true (omega arith)
    c.index-a-i.is c.index-b-i.is differ here)
