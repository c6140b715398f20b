use Rattle.cbor4ii_items.specs.Laws.Wholes.{accepted, followed, rejected}
use Rattle.cbor4ii_items.proofs.whole.decode_whole.Goals as goal

pub returns-in_err-value : goal.returns-in_err-value
returns-in_err-value g c =
    rejected g.T.Decodable.format (g.I.Input.bytes c.args.input)
    (g.I.Reader.Source.view c.reader-reader.result) (g.I.Reader.Source.view c.decode.new.reader)
    c.reader-reader.ensures.known c.reader-reader.ensures.budget c.reader-reader.ensures.lends
    c.in_err-value.field-0.0 c.in_err-value.ensures c.from_residual.result
    c.from_residual.ensures.1

pub returns-then-left-gt0 : goal.returns-then-left-gt0
returns-then-left-gt0 g c =
    followed g.T.Decodable.format g.met.T.Decodable.lawful (g.I.Input.bytes c.args.input)
    (g.I.Reader.Source.view c.reader-reader.result) (g.I.Reader.Source.view c.decode.new.reader)
    c.reader-reader.ensures.known c.reader-reader.ensures.budget c.in_ok-value.value
    c.left-left.result c.in_ok-value.ensures.sound c.left-left.ensures c.if-left-gt0.true

pub returns : goal.returns
returns g c =
    accepted g.T.Decodable.format g.met.T.Decodable.lawful (g.I.Input.bytes c.args.input)
    (g.I.Reader.Source.view c.reader-reader.result) (g.I.Reader.Source.view c.decode.new.reader)
    c.reader-reader.ensures.known c.reader-reader.ensures.budget c.in_ok-value.value
    c.left-left.result c.in_ok-value.ensures.sound c.left-left.ensures c.if-left-gt0.false
