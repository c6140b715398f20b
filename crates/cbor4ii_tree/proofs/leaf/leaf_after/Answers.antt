use Rattle.std.proofs.Common.{sym, arith}
use Rattle.cbor4ii_items.specs.Initial.{unsigned, negative}
use Rattle.cbor4ii_tree.proofs.values.Heads.{negative_z, int_ahead, fresh_shown, small_z, fits_less}
use Rattle.cbor4ii_tree.proofs.leaf.leaf_after.Goals as goal

pub returns-in-0 : goal.returns-in-0
returns-in-0 c =
    int_ahead _ _ _ _ (omega arith) (fresh_shown _ c.type_inv.trailing) c.requires unsigned _ _
    (omega arith) c.in-0.is (sym (small_z _ (fits_less _ _ c.requires.fits)))

pub returns-in-1 : goal.returns-in-1
returns-in-1 c =
    int_ahead _ _ _ _ (omega arith) (fresh_shown _ c.type_inv.trailing) c.requires negative _ _
    (omega arith) c.in-1.is (sym (negative_z _ (fits_less _ _ c.requires.fits)))
