use Rattle.std.proofs.Common.{refl, arith}
use Rattle.cbor4ii_items.specs.InputError.{input_error_of}
use Rattle.cbor4ii_items.specs.Laws.Wholes.{accepted, followed, rejected, sure_is_exact}
use Rattle.cbor4ii_items.specs.Laws.Wholes.{stops_after, stops_before}
use Rattle.cbor4ii_items.proofs.whole.decode_whole_at.Goals as goal

pub returns-in-Ok-clause-whole : goal.returns-in-Ok-clause-whole
returns-in-Ok-clause-whole g c =
    accepted g.T.Decodable.format g.met.T.Decodable.lawful (g.I.Input.bytes c.args.input)
    (g.I.Reader.Source.view c.reader-reader.result)
    (g.I.Reader.Source.view c.decode-answer.new.reader) c.reader-reader.ensures.known
    c.reader-reader.ensures.budget c.in-Ok.value c.left-left.result
    c.in-Ok.ensures.sound c.left-left.ensures (omega (arith, c.if-left-eq0.true))

pub returns-in-Ok-2-clause-whole : goal.returns-in-Ok-2-clause-whole
returns-in-Ok-2-clause-whole g c =
    followed g.T.Decodable.format g.met.T.Decodable.lawful (g.I.Input.bytes c.args.input)
    (g.I.Reader.Source.view c.reader-reader.result)
    (g.I.Reader.Source.view c.decode-answer.new.reader) c.reader-reader.ensures.known
    c.reader-reader.ensures.budget c.in-Ok-2.field-0 c.left-left.result
    c.in-Ok-2.ensures.sound c.left-left.ensures
    (first_of (omega (arith, c.if-left-eq0.false), grind (arith, c.if-left-eq0.false)))

pub returns-clause-whole : goal.returns-clause-whole
returns-clause-whole g c =
    rejected g.T.Decodable.format (g.I.Input.bytes c.args.input)
    (g.I.Reader.Source.view c.reader-reader.result)
    (g.I.Reader.Source.view c.decode-answer.new.reader) c.reader-reader.ensures.known
    c.reader-reader.ensures.budget c.reader-reader.ensures.lends c.in-Err.error c.in-Err.ensures _
    refl

pub returns-in-Ok-2-clause-at : goal.returns-in-Ok-2-clause-at
returns-in-Ok-2-clause-at g c =
    stops_after input_error_of g.T.Decodable.format.begins (g.I.Input.bytes c.args.input)
    c.left-length.result
    c.left-left.result c.saturating_sub-at.result c.saturating_sub-at.ensures
    (c.left-length.ensures _ c.reader-reader.ensures.known)
    g.T.Decodable.format.reads (returns-in-Ok-2-clause-whole g c).trailing.0

pub returns-in-Ok-2-clause-exact : goal.returns-in-Ok-2-clause-exact
returns-in-Ok-2-clause-exact g c sure =
    stops_after input_error_of g.T.Decodable.format.rejects (g.I.Input.bytes c.args.input)
    c.left-length.result
    c.left-left.result c.saturating_sub-at.result c.saturating_sub-at.ensures
    (c.left-length.ensures _ c.reader-reader.ensures.known)
    g.T.Decodable.format.reads (returns-in-Ok-2-clause-whole g c).trailing.0

pub returns-clause-at : goal.returns-clause-at
returns-clause-at g c =
    stops_before input_error_of g.T.Decodable.format.begins (g.I.Input.bytes c.args.input)
    c.left-length.result
    c.left-left.result c.saturating_sub-at.result c.saturating_sub-at.ensures
    (c.left-length.ensures _ c.reader-reader.ensures.known) _
    (g.I.Reader.Source.view c.reader-reader.result)
    (g.I.Reader.Source.view c.decode-answer.new.reader) c.reader-reader.ensures.known
    c.reader-reader.ensures.budget c.in-Err.ensures.moves.by c.left-left.ensures c.in-Err.error
    c.in-Err.ensures.begins.at

pub returns-clause-exact : goal.returns-clause-exact
returns-clause-exact g c sure =
    stops_before input_error_of g.T.Decodable.format.rejects (g.I.Input.bytes c.args.input)
    c.left-length.result
    c.left-left.result c.saturating_sub-at.result c.saturating_sub-at.ensures
    (c.left-length.ensures _ c.reader-reader.ensures.known) _
    (g.I.Reader.Source.view c.reader-reader.result)
    (g.I.Reader.Source.view c.decode-answer.new.reader) c.reader-reader.ensures.known
    c.reader-reader.ensures.budget c.in-Err.ensures.moves.by c.left-left.ensures c.in-Err.error
    (c.in-Err.ensures.rejects (sure_is_exact g.T.Decodable.format.owned
    (g.I.Reader.Source.view c.reader-reader.result) (g.I.Input.bytes c.args.input)
    c.reader-reader.ensures.known c.reader-reader.ensures.lends sure)).at
