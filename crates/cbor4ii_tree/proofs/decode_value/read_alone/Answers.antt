use Rattle.std.proofs.Common.{arith, refl, subst, sym}
use Rattle.cbor4ii_tree.specs.{Basis.Item.IsItem, Inner.Valuing.SimpleOf}
use Rattle.cbor4ii_tree.proofs.values.Sequences.{not_wanted, gives_err, gives_of, wants_as}
use Rattle.cbor4ii_tree.proofs.values.Heads.{peeked_first, first_does, simple_read}
use Rattle.cbor4ii_tree.proofs.values.Heads.{undefined_rejected, simple_item_is}
use Rattle.cbor4ii_tree.proofs.decode_value.read_alone.Goals as goal

pub returns-then-first-ne-SIMPLE : goal.returns-then-first-ne-SIMPLE
returns-then-first-ne-SIMPLE g c =
    let leaf = c.read_leaf.ensures in
    rw (sym c.part.ensures) (gives_of (λ before shows. first_does _ _ (peeked_first _ shows)
    leaf.does) leaf.memory leaf.item leaf.progress)

pub returns-then-not-accepts_simple : goal.returns-then-not-accepts_simple
returns-then-not-accepts_simple g c =
    rw c.leave_not_canonical.ensures (gives_err not_wanted (λ before shows. undefined_rejected
    g.A.Encodings.canonical c.args.first shows (omega arith) c.advance.ensures
    (c.if-not-accepts_simple.ensures.rejected refl) refl refl refl))

pub returns-in-Some : goal.returns-in-Some
returns-in-Some g c =
    let simple = subst (SimpleOf c.args.first) c.in-Some.is c.simple_of.ensures in
    record {
      does = λ before shows.
          simple_read g.A.Encodings.canonical c.args.first shows (omega arith)
          c.advance-in-Some.ensures (c.if-not-accepts_simple.ensures.accepted refl) simple;
      memory = tt;
      ranged = subst IsItem simple.2 (simple_item_is simple.0);
      gains = omega (arith, c.advance-in-Some.ensures.bound);
    }

pub returns-in-None : goal.returns-in-None
returns-in-None g c =
    let float = c.read_float.ensures in
    rw (sym c.part-in-None.ensures) (gives_of (λ before shows. first_does g.A.Encodings.canonical
    c.args.first (peeked_first _ shows) (float.does g.A.Encodings.canonical)) (wants_as _
    (λ never. absurd never) float.memory) float.item float.progress)
