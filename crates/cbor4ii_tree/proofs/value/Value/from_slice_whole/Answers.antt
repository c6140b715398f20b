use Rattle.std.proofs.Common.{◌≡◌, Ok, Err, refl, length, ap, false}
use Rattle.std.specs.declared.string.ParseError.{Infallible}
use Rattle.cbor4ii_rw.specs.Slice.{slice_view}
use Rattle.cbor4ii_rw.specs.declared.error.WholeError.TheVariants.{Trailing}
use Rattle.cbor4ii_items.specs.Laws.Wholes.{accepted, followed, rejected}
use Rattle.cbor4ii_items.specs.Whole.{DecodesWhole}
use Rattle.cbor4ii_tree.specs.{Calls.Promises.value_format, Laws.Values.value_lawful}
use Rattle.cbor4ii_tree.proofs.WholeSlices.{value_answers, value_alone, wants_whole}
use Rattle.cbor4ii_tree.proofs.value.Value.from_slice_whole.Goals as goal

pub returns-in_err-value : goal.returns-in_err-value
returns-in_err-value c =
    let whole = rejected value_format c.args.input.now (slice_view c.new-reader.result)
    (slice_view c.decode.new.reader) c.new-reader.ensures.known c.new-reader.ensures.budget refl
    c.in_err-value.field-0.0 c.in_err-value.ensures.decodes c.from_residual.result
    c.from_residual.ensures.1 in
    record {
      answers = value_answers _ _ whole;
      all = value_alone _ _ (value_answers _ _ whole);
      whole = whole;
      asks = wants_whole false c.args.input.now _ _ c.new-reader.ensures.known
          c.in_err-value.field-0.0 c.in_err-value.ensures.decodes.moves c.in_err-value.ensures.asks
          c.from_residual.result c.from_residual.ensures.1;
    }

pub returns-then-left-gt0 : goal.returns-then-left-gt0
returns-then-left-gt0 c =
    let whole : DecodesWhole {E = Infallible} value_format c.args.input.now (Err (Trailing (length c.remaining-left.result.now))) =
    followed value_format value_lawful c.args.input.now (slice_view c.new-reader.result)
    (slice_view c.decode.new.reader) c.new-reader.ensures.known c.new-reader.ensures.budget
    c.in_ok-value.value _ c.in_ok-value.ensures.decodes.sound
    (λ xs e. let same : c.remaining-left.result.now ≡ xs = cc in ap length same)
    c.if-left-gt0.true in
    let answered = value_answers c.args.input.now (Err (Trailing (length c.remaining-left.result.now))) whole in
    record {
      answers = answered;
      all = value_alone c.args.input.now (Err (Trailing (length c.remaining-left.result.now))) answered;
      whole = whole;
      asks = tt;
    }

pub returns : goal.returns
returns c =
    let whole : DecodesWhole {E = Infallible} value_format c.args.input.now (Ok c.in_ok-value.value) =
    accepted value_format value_lawful c.args.input.now (slice_view c.new-reader.result)
    (slice_view c.decode.new.reader) c.new-reader.ensures.known c.new-reader.ensures.budget
    c.in_ok-value.value _ c.in_ok-value.ensures.decodes.sound
    (λ xs e. let same : c.remaining-left.result.now ≡ xs = cc in ap length same)
    c.if-left-gt0.false in
    let answered = value_answers c.args.input.now (Ok c.in_ok-value.value) whole in
    record {
      answers = answered;
      all = value_alone c.args.input.now (Ok c.in_ok-value.value) answered;
      whole = whole;
      asks = tt;
    }
