use Rattle.std.proofs.Common.{subst, sym, rules}
use Rattle.cbor4ii_tree.specs.Basis.Encodings.{Encodes}
use Rattle.cbor4ii_examples.proofs.port.kept_port.Goals as goal

pub returns-in_err-map-clause-rejects : goal.returns-in_err-map-clause-rejects
returns-in_err-map-clause-rejects c = search rules

pub returns-clause-found : goal.returns-clause-found
returns-clause-found c v steps encodes =
    c.get.ensures.value v steps (subst (λ bytes. Encodes bytes v steps)
    (sym c.in_ok-map.ensures.content) encodes)
