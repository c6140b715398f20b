use Rattle.std.proofs.Common.{◌≡◌, Ok, Err, refl, length, ap, true}
use Rattle.std.specs.declared.string.ParseError.{Infallible}
use Rattle.cbor4ii_rw.specs.Slice.{slice_view}
use Rattle.cbor4ii_rw.specs.declared.error.WholeError.TheVariants.{Trailing}
use Rattle.cbor4ii_items.specs.Laws.Wholes.{accepted, followed, rejected}
use Rattle.cbor4ii_items.specs.Whole.{DecodesWhole}
use Rattle.cbor4ii_tree.specs.Calls.Canonically.{canonical_format}
use Rattle.cbor4ii_tree.specs.Laws.CanonicalReading.{canonical_lawful}
use Rattle.cbor4ii_tree.proofs.WholeSlices.{canonical_answers, canonical_alone, canonical_same}
use Rattle.cbor4ii_tree.proofs.WholeSlices.{wants_whole}
use Rattle.cbor4ii_tree.proofs.decode_canonical.Canonical.from_slice_whole.Goals as goal

pub returns-in_err-value : goal.returns-in_err-value
returns-in_err-value c =
    let whole = rejected canonical_format c.args.input.now (slice_view c.new-reader.result)
    (slice_view c.decode.new.reader) c.new-reader.ensures.known c.new-reader.ensures.budget refl
    c.in_err-value.field-0.0 c.in_err-value.ensures.decodes c.from_residual.result
    c.from_residual.ensures.1 in
    record {
      answers = canonical_answers _ _ whole;
      same = canonical_same _ _ (canonical_answers _ _ whole);
      all = canonical_alone _ _ (canonical_answers _ _ whole);
      whole = whole;
      asks = wants_whole true c.args.input.now _ _ c.new-reader.ensures.known
          c.in_err-value.field-0.0 c.in_err-value.ensures.decodes.moves c.in_err-value.ensures.asks
          c.from_residual.result c.from_residual.ensures.1;
    }

pub returns-then-left-gt0 : goal.returns-then-left-gt0
returns-then-left-gt0 c =
    let whole : DecodesWhole {E = Infallible} canonical_format c.args.input.now (Err (Trailing (length c.remaining-left.result.now))) =
    followed canonical_format canonical_lawful c.args.input.now (slice_view c.new-reader.result)
    (slice_view c.decode.new.reader) c.new-reader.ensures.known c.new-reader.ensures.budget
    c.in_ok-value.value _ c.in_ok-value.ensures.decodes.sound
    (λ xs e. let same : c.remaining-left.result.now ≡ xs = cc in ap length same)
    c.if-left-gt0.true in
    let answered = canonical_answers c.args.input.now (Err (Trailing (length c.remaining-left.result.now))) whole in
    record {
      answers = answered;
      same = canonical_same c.args.input.now (Err (Trailing (length c.remaining-left.result.now))) answered;
      all = canonical_alone c.args.input.now (Err (Trailing (length c.remaining-left.result.now))) answered;
      whole = whole;
      asks = tt;
    }

pub returns : goal.returns
returns c =
    let whole : DecodesWhole {E = Infallible} canonical_format c.args.input.now (Ok c.in_ok-value.value) =
    accepted canonical_format canonical_lawful c.args.input.now (slice_view c.new-reader.result)
    (slice_view c.decode.new.reader) c.new-reader.ensures.known c.new-reader.ensures.budget
    c.in_ok-value.value _ c.in_ok-value.ensures.decodes.sound
    (λ xs e. let same : c.remaining-left.result.now ≡ xs = cc in ap length same)
    c.if-left-gt0.false in
    let answered = canonical_answers c.args.input.now (Ok c.in_ok-value.value) whole in
    record {
      answers = answered;
      same = canonical_same c.args.input.now (Ok c.in_ok-value.value) answered;
      all = canonical_alone c.args.input.now (Ok c.in_ok-value.value) answered;
      whole = whole;
      asks = tt;
    }
