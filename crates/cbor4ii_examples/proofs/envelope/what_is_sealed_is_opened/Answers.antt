use Rattle.std.proofs.Common.{subst}
use Rattle.cbor4ii_ser.specs.OneItem.{IsOneItem, canonical}
use Rattle.cbor4ii_examples.proofs.Sealed.{sealed_is_opened}
use Rattle.cbor4ii_examples.proofs.envelope.what_is_sealed_is_opened.Goals as goal

pub returns : goal.returns
returns g c alloc signer verifier key steps reply bytes agree small one back fits sealed room =
    sealed_is_opened sealed.payload sealed.plain sealed.accepted.0 sealed.accepted.1
    (subst (IsOneItem canonical) sealed.item_is one) _ alloc (g.V.Verify.signed verifier) key
    sealed.signature bytes _ reply steps small sealed.few room sealed.encoding
    (agree sealed.signature sealed.payload sealed.is_signed) sealed.item_is back fits
