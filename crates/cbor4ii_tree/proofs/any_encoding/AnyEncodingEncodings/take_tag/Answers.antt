use Rattle.std.proofs.Common.{refl}
use Rattle.cbor4ii_tree.proofs.{values.Sequences.gives_none, values.Heads.tag_taken}
use Rattle.cbor4ii_tree.proofs.any_encoding.AnyEncodingEncodings.take_tag.Goals as goal

pub returns : goal.returns
returns g c =
    gives_none (tag_taken c.part.result _ (rw c.part.ensures at c.tag.ensures.moves)
    (rw c.part.ensures at c.tag.ensures.sound) (rw c.part.ensures at c.tag.ensures.begins))
    (rw c.part.ensures at c.tag.ensures.memory) ((rw c.part.ensures at c.tag.ensures.progress) refl)
