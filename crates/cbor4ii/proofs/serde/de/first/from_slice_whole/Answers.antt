use Rattle.std.proofs.Common.{◌≡◌, ap, ◌∙◌, length, subst}
use Rattle.cbor4ii_rw.specs.View.{IfKnown}
use Rattle.cbor4ii.specs.Typed.{input}
use Rattle.cbor4ii.proofs.Firsts.{first_whole, first_trails, first_rejected}
use Rattle.cbor4ii.proofs.serde.de.first.from_slice_whole.Goals as goal

pub returns-in_err-value : goal.returns-in_err-value
returns-in_err-value g c =
    first_rejected g.T.Typed.promise (g.I.Input.bytes c.args.input)
    (input g.I.Reader.Source.view c.new-de.result)
    (input g.I.Reader.Source.view c.deserialize.new.de)
    (ap (λ w. w.known) c.new-de.ensures ∙ c.reader.ensures.known)
    (ap (λ w. w.budget) c.new-de.ensures ∙ c.reader.ensures.budget)
    (ap (λ w. w.zero_copy) c.new-de.ensures ∙ c.reader.ensures.lends) c.in_err-value.field-0.0
    c.in_err-value.ensures c.from_residual.result c.from_residual.ensures.1

pub returns-then-left-gt0 : goal.returns-then-left-gt0
returns-then-left-gt0 g c =
    first_trails g.T.Typed.promise (g.I.Input.bytes c.args.input)
    (input g.I.Reader.Source.view c.new-de.result)
    (input g.I.Reader.Source.view c.deserialize.new.de)
    (ap (λ w. w.known) c.new-de.ensures ∙ c.reader.ensures.known)
    (ap (λ w. w.budget) c.new-de.ensures ∙ c.reader.ensures.budget) c.in_ok-value.value
    c.left-left.result c.in_ok-value.ensures
    (subst (λ w. IfKnown w.known (λ xs. c.left-left.result ≡ length xs)) c.into_inner.ensures
    c.left-left.ensures) c.if-left-gt0.true

pub returns : goal.returns
returns g c =
    first_whole g.T.Typed.promise (g.I.Input.bytes c.args.input)
    (input g.I.Reader.Source.view c.new-de.result)
    (input g.I.Reader.Source.view c.deserialize.new.de)
    (ap (λ w. w.known) c.new-de.ensures ∙ c.reader.ensures.known)
    (ap (λ w. w.budget) c.new-de.ensures ∙ c.reader.ensures.budget) c.in_ok-value.value
    c.left-left.result c.in_ok-value.ensures
    (subst (λ w. IfKnown w.known (λ xs. c.left-left.result ≡ length xs)) c.into_inner.ensures
    c.left-left.ensures) c.if-left-gt0.false
