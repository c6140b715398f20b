use Rattle.std.proofs.Common.{◌≡◌, length, ap, ◌∙◌, subst, subst₂, arith, rules}
use Rattle.std.specs.declared.cmp.Ordering.TheVariants.{Equal}
use Rattle.cbor4ii_items.specs.SequenceBytes.{items_bytes}
use Rattle.cbor4ii_tree.specs.{Calls.Encoding.{value_bytes, value_pair_bytes}, Calls.Order.Compares}
use Rattle.cbor4ii_tree.specs.{declared.value.Value.the_lemmas}
use Rattle.cbor4ii_tree.proofs.encodings.Order.{same_heads, other_heads, compares_then}
use Rattle.cbor4ii_tree.proofs.values.Encoding.{arrays, maps, compares_from}
use Rattle.cbor4ii_tree.proofs.order.+order.Goals as goal

pub cmp_values-returns-in-Equal : goal.cmp_values-returns-in-Equal
cmp_values-returns-in-Equal t c = search (rules, same_heads)

pub cmp_values-returns-in_default : goal.cmp_values-returns-in_default
cmp_values-returns-in_default t c = search (rules, other_heads)

pub cmp_after_heads-cmp_items-requires : goal.cmp_after_heads-cmp_items-requires
cmp_after_heads-cmp_items-requires t c =
    let h = arrays c.args.a.now c.args.b.now c.in-Array.items c.elements_of.result.now c.in-Array.is
    c.elements_of.ensures c.requires in
    (search (rules, the_lemmas), ap length c.deref-in-Array.ensures.value ∙ h.long)

pub cmp_after_heads-cmp_pairs-requires : goal.cmp_after_heads-cmp_pairs-requires
cmp_after_heads-cmp_pairs-requires t c =
    let h = maps c.args.a.now c.args.b.now c.in-Map.pairs c.pairs_of.result.now c.in-Map.is
    c.pairs_of.ensures c.requires in
    (search (rules, the_lemmas), ap length c.deref-in-Map.ensures.value ∙ h.long)

pub cmp_after_heads-returns-in-Array : goal.cmp_after_heads-returns-in-Array
cmp_after_heads-returns-in-Array t c = search (rules, arrays, subst₂)

pub cmp_after_heads-returns-in-Map : goal.cmp_after_heads-returns-in-Map
cmp_after_heads-returns-in-Map t c =
    let h = maps _ _ _ _ c.in-Map.is c.pairs_of.ensures c.requires in
    subst₂ (Compares c.cmp_pairs.result) (ap (items_bytes value_pair_bytes)
    c.deref-in-Map.ensures.value ∙ h.first) h.second c.cmp_pairs.ensures

pub cmp_pairs-loop-i-preserved : goal.cmp_pairs-loop-i-preserved
cmp_pairs-loop-i-preserved t c = λ r rest.
    let x = c.index-a-i.result in
    let y = c.index-b-i.result in
    let keys : c.cmp_values-keys.result ≡ Equal = search rules in
    let values : c.cmp_values-values.result ≡ Equal = search rules in
    let here = compares_then (subst (λ o. Compares o (value_bytes x.0) (value_bytes y.0)) keys
    c.cmp_values-keys.ensures) (subst (λ o. Compares o (value_bytes x.1) (value_bytes y.1)) values
    c.cmp_values-values.ensures) in
    c.loop-i.invariant r (compares_from value_pair_bytes c.args.a.now c.args.b.now c.loop-i.i x y r
    c.loop-i-test.true (omega arith) c.index-a-i.is c.index-b-i.is here rest)
