use Rattle.std.proofs.Common.{inl, refl, ◌∙◌}
use Rattle.cbor4ii_examples.proofs.First.{is_first}
use Rattle.cbor4ii_examples.proofs.texts.streamed.Goals as goal

pub returns : goal.returns
returns g c = λ bytes known.
    is_first _ bytes _ _ (c.new.ensures.known ∙ known) c.new.ensures.budget (λ sure. inl refl)
    c.decode.result c.decode.ensures
