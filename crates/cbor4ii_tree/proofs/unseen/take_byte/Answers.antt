use Rattle.cbor4ii_tree.proofs.skip_calls.{Doing.does_ok, Prefixes.byte_taken}
use Rattle.cbor4ii_tree.proofs.unseen.take_byte.Goals as goal

pub returns-clause-does : goal.returns-clause-does
returns-clause-does g c =
    does_ok _ _ (byte_taken c.in_ok-byte.ensures.peeks c.advance.ensures.takes)
