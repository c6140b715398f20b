use Rattle.std.proofs.Common.{◌≡◌, ap, ◌∙◌, length, subst, refl, arith, rules}
use Rattle.cbor4ii_rw.specs.View.{IfKnown}
use Rattle.cbor4ii_items.specs.Laws.Wholes.{stops_after, stops_before, sure_is_exact}
use Rattle.cbor4ii.specs.First.{typed_error_of}
use Rattle.cbor4ii.specs.Typed.{input, unsaid_rejects}
use Rattle.cbor4ii.proofs.Firsts.{first_whole, first_trails, first_rejected, stops_within}
use Rattle.cbor4ii.proofs.serde.de.first.from_slice_whole_at.Goals as goal

pub returns-in-Ok-clause-whole : goal.returns-in-Ok-clause-whole
returns-in-Ok-clause-whole g c =
    first_whole g.T.Typed.promise (g.I.Input.bytes c.args.input)
    (input g.I.Reader.Source.view c.new-de.result)
    (input g.I.Reader.Source.view c.deserialize-answer.new.de)
    (ap (λ w. w.known) c.new-de.ensures ∙ c.reader-source.ensures.known)
    (ap (λ w. w.budget) c.new-de.ensures ∙ c.reader-source.ensures.budget)
    c.in-Ok.value c.left-left.result c.in-Ok.ensures
    (subst (λ w. IfKnown w.known (λ xs. c.left-left.result ≡ length xs)) c.into_inner.ensures
    c.left-left.ensures)
    (omega (arith, c.if-left-eq0.true))

pub returns-in-Ok-2-clause-whole : goal.returns-in-Ok-2-clause-whole
returns-in-Ok-2-clause-whole g c =
    first_trails g.T.Typed.promise (g.I.Input.bytes c.args.input)
    (input g.I.Reader.Source.view c.new-de.result)
    (input g.I.Reader.Source.view c.deserialize-answer.new.de)
    (ap (λ w. w.known) c.new-de.ensures ∙ c.reader-source.ensures.known)
    (ap (λ w. w.budget) c.new-de.ensures ∙ c.reader-source.ensures.budget)
    c.in-Ok-2.field-0 c.left-left.result c.in-Ok-2.ensures
    (subst (λ w. IfKnown w.known (λ xs. c.left-left.result ≡ length xs)) c.into_inner.ensures
    c.left-left.ensures)
    (first_of (omega (arith, c.if-left-eq0.false), grind (arith, c.if-left-eq0.false)))

pub returns-in-Err-clause-whole : goal.returns-in-Err-clause-whole
returns-in-Err-clause-whole g c =
    first_rejected g.T.Typed.promise (g.I.Input.bytes c.args.input)
    (input g.I.Reader.Source.view c.new-de.result)
    (input g.I.Reader.Source.view c.deserialize-answer.new.de)
    (ap (λ w. w.known) c.new-de.ensures ∙ c.reader-source.ensures.known)
    (ap (λ w. w.budget) c.new-de.ensures ∙ c.reader-source.ensures.budget)
    (ap (λ w. w.zero_copy) c.new-de.ensures ∙ c.reader-source.ensures.lends) c.in-Err.error
    c.in-Err.ensures _ refl

pub returns-in-Ok-2-clause-within : goal.returns-in-Ok-2-clause-within
returns-in-Ok-2-clause-within g c =
    stops_after typed_error_of unsaid_rejects (g.I.Input.bytes c.args.input)
    c.left-length.result c.left-left.result c.saturating_sub-at.result
    c.saturating_sub-at.ensures (c.left-length.ensures _ c.reader-source.ensures.known)
    g.T.Typed.promise.format.reads (returns-in-Ok-2-clause-whole g c).trailing

pub returns-in-Ok-2-clause-at : goal.returns-in-Ok-2-clause-at
returns-in-Ok-2-clause-at g c says =
    stops_after typed_error_of g.T.Typed.promise.format.begins (g.I.Input.bytes c.args.input)
    c.left-length.result c.left-left.result c.saturating_sub-at.result
    c.saturating_sub-at.ensures (c.left-length.ensures _ c.reader-source.ensures.known)
    g.T.Typed.promise.format.reads (returns-in-Ok-2-clause-whole g c).trailing

pub returns-in-Ok-2-clause-exact : goal.returns-in-Ok-2-clause-exact
returns-in-Ok-2-clause-exact g c is sure =
    stops_after typed_error_of g.T.Typed.promise.format.rejects (g.I.Input.bytes c.args.input)
    c.left-length.result c.left-left.result c.saturating_sub-at.result
    c.saturating_sub-at.ensures (c.left-length.ensures _ c.reader-source.ensures.known)
    g.T.Typed.promise.format.reads (returns-in-Ok-2-clause-whole g c).trailing

pub returns-in-Err-clause-within : goal.returns-in-Err-clause-within
returns-in-Err-clause-within g c = search (rules, stops_within)

pub returns-in-Err-clause-at : goal.returns-in-Err-clause-at
returns-in-Err-clause-at g c says =
    stops_before typed_error_of g.T.Typed.promise.format.begins (g.I.Input.bytes c.args.input)
    c.left-length.result c.left-left.result c.saturating_sub-at.result
    c.saturating_sub-at.ensures (c.left-length.ensures _ c.reader-source.ensures.known) _
    (input g.I.Reader.Source.view c.new-de.result)
    (input g.I.Reader.Source.view c.deserialize-answer.new.de)
    (ap (λ w. w.known) c.new-de.ensures ∙ c.reader-source.ensures.known)
    (ap (λ w. w.budget) c.new-de.ensures ∙ c.reader-source.ensures.budget)
    c.in-Err.ensures.moves.by
    (subst (λ w. IfKnown w.known (λ xs. c.left-left.result ≡ length xs)) c.into_inner.ensures
    c.left-left.ensures)
    c.in-Err.error (c.in-Err.ensures.begins says).at

pub returns-in-Err-clause-exact : goal.returns-in-Err-clause-exact
returns-in-Err-clause-exact g c is sure =
    stops_before typed_error_of g.T.Typed.promise.format.rejects (g.I.Input.bytes c.args.input)
    c.left-length.result c.left-left.result c.saturating_sub-at.result
    c.saturating_sub-at.ensures (c.left-length.ensures _ c.reader-source.ensures.known) _
    (input g.I.Reader.Source.view c.new-de.result)
    (input g.I.Reader.Source.view c.deserialize-answer.new.de)
    (ap (λ w. w.known) c.new-de.ensures ∙ c.reader-source.ensures.known)
    (ap (λ w. w.budget) c.new-de.ensures ∙ c.reader-source.ensures.budget)
    c.in-Err.ensures.moves.by
    (subst (λ w. IfKnown w.known (λ xs. c.left-left.result ≡ length xs)) c.into_inner.ensures
    c.left-left.ensures)
    c.in-Err.error (c.in-Err.ensures.rejects is (sure_is_exact g.T.Typed.promise.format.owned
    (input g.I.Reader.Source.view c.new-de.result) (g.I.Input.bytes c.args.input)
    (ap (λ w. w.known) c.new-de.ensures ∙ c.reader-source.ensures.known)
    (ap (λ w. w.zero_copy) c.new-de.ensures ∙ c.reader-source.ensures.lends) sure)).at
