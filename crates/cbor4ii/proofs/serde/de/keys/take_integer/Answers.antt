use Rattle.std.proofs.Common.{◌≡◌, inr, true, false, refl, subst, nat_eq, rules}
use Rattle.cbor4ii.proofs.Keying.{comes, is_text, is_no_text, no_key, text_ok, text_err}
use Rattle.cbor4ii.proofs.Keying.{integer_any}
use Rattle.cbor4ii.proofs.Names.{key_taken}
use Rattle.cbor4ii.proofs.Promised.{whole}
use Rattle.cbor4ii.specs.Typed.{not_exact}
use Rattle.cbor4ii.proofs.KeyMemory.{wants_as, wants_integer, comes_here}
use Rattle.cbor4ii.proofs.serde.de.keys.take_integer.Goals as goal

pub returns-in-Err-clause-decodes : goal.returns-in-Err-clause-decodes
returns-in-Err-clause-decodes g c = no_key c.in-Err.ensures.decodes

pub returns-in-Some-clause-decodes : goal.returns-in-Some-clause-decodes
returns-in-Some-clause-decodes g c =
    text_ok (comes true c.in-Ok.ensures.decodes
    (subst (λ k. nat_eq k 3 ≡ true) c.if_major.ensures
    (is_text c.if_major.result c.if-if_major-eq-STRING.true)))
    (key_taken c.in-Some.ensures)

pub returns-in-None-clause-decodes : goal.returns-in-None-clause-decodes
returns-in-None-clause-decodes g c =
    rw c.left.ensures (text_err (comes true c.in-Ok.ensures.decodes
    (subst (λ k. nat_eq k 3 ≡ true) c.if_major.ensures
    (is_text c.if_major.result c.if-if_major-eq-STRING.true))) c.in-None.ensures)

pub returns-clause-decodes : goal.returns-clause-decodes
returns-clause-decodes g c =
    rw c.as_key.ensures (integer_any c.deserialize.result (comes false c.in-Ok.ensures.decodes
    (subst (λ k. nat_eq k 3 ≡ false) c.if_major.ensures
    (is_no_text c.if_major.result c.if-if_major-eq-STRING.false)))
    (whole refl refl c.deserialize.ensures))

pub returns-in-Err-clause-memory : goal.returns-in-Err-clause-memory
returns-in-Err-clause-memory g c = search (rules, wants_as, not_exact)

pub returns-in-None-clause-memory : goal.returns-in-None-clause-memory
returns-in-None-clause-memory g c out =
    inr (comes_here (comes true c.in-Ok.ensures.decodes
    (subst (λ k. nat_eq k 3 ≡ true) c.if_major.ensures
    (is_text c.if_major.result c.if-if_major-eq-STRING.true))))

pub returns-clause-memory : goal.returns-clause-memory
returns-clause-memory g c = search (rules, wants_integer)
