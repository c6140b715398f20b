use Rattle.std.proofs.Common.{ℕ, ap, sym, refl, inl, subst, Vec, Global}
use Rattle.cbor4ii_items.specs.{Initial.text_string, Shortest.RejectsShortestString}
use Rattle.cbor4ii_tree.specs.Calls.CanonicalRejects.{CanonicalTextRejects}
use Rattle.cbor4ii_tree.specs.Basis.InputError.{require_utf8, kind_name}
use Rattle.cbor4ii_tree.specs.Inner.CanonicalCalls.{StringAt, TextAt}
use Rattle.cbor4ii_tree.proofs.{canonical.Once.{reached_string, no_text}, skip_calls.Doing.does_ok}
use Rattle.cbor4ii_tree.proofs.skip_calls.Doing.{does_reject, reached_as, call_rejects}
use Rattle.cbor4ii_tree.proofs.values.Sequences.{passed}
use Rattle.cbor4ii_tree.proofs.decode_canonical.read_text.Goals as goal

pub returns-in_err-canonical_buf-clause-does : goal.returns-in_err-canonical_buf-clause-does
returns-in_err-canonical_buf-clause-does g c =
    passed _ c.from_residual.ensures.1 (call_rejects (TextAt (g.S.Source.view
    c.args.reader.now).budget)
    (RejectsShortestString (kind_name text_string) 3)
    (CanonicalTextRejects (g.S.Source.view c.args.reader.now).budget) (λ xs z rest h. inl h)
    c.in_err-canonical_buf.ensures.moves c.in_err-canonical_buf.ensures.begins)

pub returns-in-Ok-clause-does : goal.returns-in-Ok-clause-does
returns-in-Ok-clause-does g c =
    does_ok _ _ (reached_as (StringAt 3 c.in_ok-canonical_buf.field-0.items) _ (λ xs ys h. subst
    (λ content. StringAt 3 content xs ys) (ap (λ (v : Vec ℕ Global). v.items)
    (sym c.in-Ok.ensures.ok)) h) (reached_string 3 c.in_ok-canonical_buf.field-0
    c.in_ok-canonical_buf.ensures.moves c.in_ok-canonical_buf.ensures.sound))

pub returns-clause-does : goal.returns-clause-does
returns-clause-does g c =
    does_reject (StringAt 3 c.in_ok-canonical_buf.field-0.items) _ _
    (require_utf8 (kind_name text_string)) refl refl refl (λ xs ys h. no_text (g.S.Source.view
    c.args.reader.now).budget c.in_ok-canonical_buf.field-0.items xs ys (λ u. let f =
    c.in-Err.ensures.succeeds u in cc) h) (reached_string 3 c.in_ok-canonical_buf.field-0
    c.in_ok-canonical_buf.ensures.moves c.in_ok-canonical_buf.ensures.sound)
