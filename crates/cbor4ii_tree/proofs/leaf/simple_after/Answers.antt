use Rattle.std.proofs.Common.{refl, arith, rules}
use Rattle.cbor4ii_tree.proofs.values.Heads.{view-F16, view-F32, view-F64, float_ahead}
use Rattle.cbor4ii_tree.proofs.values.Heads.{simple_ahead, fresh_shown}
use Rattle.cbor4ii_tree.proofs.leaf.simple_after.Goals as goal

pub returns-in-249 : goal.returns-in-249
returns-in-249 c =
    float_ahead _ _ _ _ (omega arith) (fresh_shown _ c.type_inv.trailing) c.requires.argument _ _ 3
    refl c.in-249.is (view-F16 _)

pub returns-in-250 : goal.returns-in-250
returns-in-250 c =
    float_ahead _ _ _ _ (omega arith) (fresh_shown _ c.type_inv.trailing) c.requires.argument _ _ 5
    refl c.in-250.is (view-F32 _)

pub returns-in-251 : goal.returns-in-251
returns-in-251 c =
    float_ahead _ _ _ _ (omega arith) (fresh_shown _ c.type_inv.trailing) c.requires.argument _ _ 9
    refl c.in-251.is (view-F64 _)

pub returns-in-Some : goal.returns-in-Some
returns-in-Some c = search (rules, simple_ahead)
