use Rattle.std.proofs.Common.{◌≡◌, Ok, refl, length, ap, rules}
use Rattle.cbor4ii_rw.specs.Slice.{slice_view}
use Rattle.cbor4ii_items.specs.Laws.Wholes.{trails, to_the_end, none_whole, whole_of, rejected}
use Rattle.cbor4ii_tree.specs.{Laws.Capturing.raw_lawful, Calls.Raw.{raw_content, raw_format}}
use Rattle.cbor4ii_tree.specs.Calls.Raw.{ReadsRaw}
use Rattle.cbor4ii_tree.proofs.raw_items.Captured.{raw_decodes, begins_slice}
use Rattle.cbor4ii_tree.proofs.raw.RawValue.new.Goals as goal

pub returns-in_err-raw-clause-whole : goal.returns-in_err-raw-clause-whole
returns-in_err-raw-clause-whole c =
    rejected (raw_format raw_content) c.args.bytes.now (slice_view c.new-reader.result)
    (slice_view c.capture.new.reader) c.new-reader.ensures.known c.new-reader.ensures.budget refl
    c.in_err-raw.field-0.0 (raw_decodes raw_content _ _ _ c.in_err-raw.ensures.captures)
    c.from_residual.result c.from_residual.ensures.1

pub returns-then-left-gt0-clause-whole : goal.returns-then-left-gt0-clause-whole
returns-then-left-gt0-clause-whole c =
    let some = trails (ReadsRaw raw_content) c.args.bytes.now (slice_view c.new-reader.result)
    (slice_view c.capture.new.reader) c.new-reader.ensures.known c.new-reader.ensures.budget
    c.in_ok-raw.raw _ (raw_decodes {E = Unit {0}} raw_content _ _ (Ok c.in_ok-raw.raw)
    c.in_ok-raw.ensures.captures).sound (λ xs e. let same : c.remaining-left.result.now ≡ xs = cc in ap
    length same) c.if-left-gt0.true in
    record {
      accepts = tt;
      trailing = (
        some,
        none_whole (raw_format raw_content) (raw_lawful raw_content) c.args.bytes.now _ some,
      );
      rejects = tt;
    }

pub returns-clause-whole : goal.returns-clause-whole
returns-clause-whole c = record {
  accepts = whole_of (raw_format raw_content) (raw_lawful raw_content) c.args.bytes.now
      c.in_ok-raw.raw (to_the_end (ReadsRaw raw_content) c.args.bytes.now (slice_view
      c.new-reader.result) (slice_view c.capture.new.reader) c.new-reader.ensures.known
      c.new-reader.ensures.budget c.in_ok-raw.raw _ (raw_decodes {E = Unit {0}} raw_content _ _
      (Ok c.in_ok-raw.raw) c.in_ok-raw.ensures.captures).sound (λ xs e. let same
      : c.remaining-left.result.now ≡ xs = cc in ap length same) c.if-left-gt0.false);
  trailing = tt;
  rejects = tt;
}

pub returns-clause-place : goal.returns-clause-place
returns-clause-place c = search (rules, begins_slice)
