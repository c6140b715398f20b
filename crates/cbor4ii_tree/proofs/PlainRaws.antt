-- An input that is kept as its bytes, where it is read as a value.
use Rattle.std.proofs.Common.{rules}
use Rattle.std.proofs.Common.{◌≡◌, ℕ, List, take, Option, Some, Result, Ok, Err, refl, sym, subst}
use Rattle.std.specs.Result.{IsErrAnd}
use Rattle.cbor4ii_rw.specs.View.{View}
use Rattle.cbor4ii_rw.specs.declared.error.{DecodeError.DecodeError, WholeError.WholeError}
use Rattle.cbor4ii_rw.specs.declared.error.WholeError.TheVariants.{Decode, Trailing}
use Rattle.cbor4ii_items.specs.{Decoding.{NoneRead, Decodes}, InputError.input_error_of}
use Rattle.cbor4ii_items.specs.{Laws.Answering.if_some, Whole.{DecodesWhole, NoneIsWhole, NotBegun}}
use Rattle.cbor4ii_items.specs.Whole.{Trails}
use Rattle.cbor4ii_tree.specs.{Calls.PlainRaw.{plain_raw_format, ReadsPlainRaw}}
use Rattle.cbor4ii_tree.specs.{Calls.Promises.value_format}
use Rattle.cbor4ii_tree.specs.declared.plain_raw.PlainRawValue.{PlainRawValue}

none : (xs : List ℕ) (budget : Option ℕ) → NoneRead value_format.reads xs budget
    → NoneRead ReadsPlainRaw xs budget
none xs budget h p n c read fits = h read.0 n c read.1.0 fits

none_whole : (bytes : List ℕ) → NoneIsWhole value_format.reads bytes
    → NoneIsWhole ReadsPlainRaw bytes
none_whole bytes h p whole = h whole.1.0 (whole.0, whole.1.1.0, whole.2)

trails : (bytes : List ℕ) (left : ℕ) → Trails value_format.reads bytes left
    → Trails ReadsPlainRaw bytes left
trails bytes left t =
    let kept : PlainRawValue =
    record { 0 = record { 0 = record { ref_ptr = (0, 0); now = take t.1.0 bytes } } } in
    (kept, (t.1.0, t.1.1, (t.0, (t.1.2, refl)), t.1.3, t.1.4, t.1.5))

not_begun : {E : Type 0} (bytes : List ℕ) (e : DecodeError E) → NotBegun value_format bytes e
    → NotBegun plain_raw_format bytes e
not_begun bytes e h = record {
  memory = h.memory;
  complete = λ sure. if_some (input_error_of e) (none bytes (Some 256)) (h.complete sure);
  rejects = h.rejects;
  begins = h.begins;
}

at_err : {E : Type 0} (bytes : List ℕ) (w : WholeError (DecodeError E))
    → DecodesWhole value_format bytes (Err w) → DecodesWhole plain_raw_format bytes (Err w)
at_err bytes (Decode e) d =
    record { accepts = tt; trailing = tt; rejects = not_begun bytes e d.rejects }
at_err bytes (Trailing left) d = search (rules, trails, none_whole)

pub rejected : {E : Type 0} (bytes : List ℕ) (w : WholeError (DecodeError E)) → DecodesWhole
    value_format bytes (Err w) → (r : Result PlainRawValue (WholeError (DecodeError E)))
    → IsErrAnd r (λ x. x ≡ w) → DecodesWhole plain_raw_format bytes r
rejected bytes w d (Ok p) is = absurd is
rejected bytes w d (Err x) is =
    subst (λ z. DecodesWhole plain_raw_format bytes (Err z)) (sym is) (at_err bytes w d)

-- ---- at the beginning of a reader

not_read : {E : Type 0} (old new : View) (e : DecodeError E) → Decodes value_format old new (Err e)
    → Decodes plain_raw_format old new (Err e)
not_read old new e d = record {
  moves = record { by = d.moves.by; depth = d.moves.depth };
  progress = λ some. tt;
  memory = d.memory;
  sound = tt;
  complete = λ exact. record {
    at = λ xs known.
        if_some (input_error_of e) (none xs old.budget) ((d.complete exact).at xs known);
  };
  rejects = d.rejects;
  begins = d.begins;
}

pub not_decoded : {E : Type 0} (old new : View) (e : DecodeError E)
    → Decodes value_format old new (Err e) → (r : Result PlainRawValue (DecodeError E))
    → IsErrAnd r (λ x. x ≡ e) → Decodes plain_raw_format old new r
not_decoded old new e d (Ok p) is = absurd is
not_decoded old new e d (Err x) is =
    subst (λ z. Decodes plain_raw_format old new (Err z)) (sym is) (not_read old new e d)
