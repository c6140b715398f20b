use Rattle.std.proofs.Common.{sym, ap, ◌∙◌}
use Rattle.cbor4ii_tree.specs.{Basis.Item.{sequence, mapping}, Basis.View.view}
use Rattle.cbor4ii_tree.proofs.values.Encoding.{view-Array, view-Map}
use Rattle.cbor4ii_tree.proofs.value.+copy.Goals as goal

pub copy_value-returns-in-Null : goal.copy_value-returns-in-Null
copy_value-returns-in-Null t c = sym (ap view c.in-Null.is)

pub copy_value-returns-in-Bool : goal.copy_value-returns-in-Bool
copy_value-returns-in-Bool t c = sym (ap view c.in-Bool.is)

pub copy_value-returns-in-Float : goal.copy_value-returns-in-Float
copy_value-returns-in-Float t c = sym (ap view c.in-Float.is)

pub copy_value-returns-in_ok-copy_items-in-Array : goal.copy_value-returns-in_ok-copy_items-in-Array
copy_value-returns-in_ok-copy_items-in-Array t c =
    view-Array c.in_ok-copy_items-in-Array.field-0 ∙ ap sequence c.in_ok-copy_items-in-Array.ensures
    ∙ sym (ap view c.in-Array.is ∙ view-Array c.in-Array.items)

pub copy_value-returns-in_ok-copy_pairs-in-Map : goal.copy_value-returns-in_ok-copy_pairs-in-Map
copy_value-returns-in_ok-copy_pairs-in-Map t c =
    view-Map c.in_ok-copy_pairs-in-Map.field-0 ∙ ap mapping c.in_ok-copy_pairs-in-Map.ensures
    ∙ sym (ap view c.in-Map.is ∙ view-Map c.in-Map.pairs)
