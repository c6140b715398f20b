use Rattle.std.proofs.Common.{inl, inr, refl, ap, ◌∙◌, take, List, ℕ}
use Rattle.cbor4ii_tree.specs.Calls.BoxedRaw.{boxed_content}
use Rattle.cbor4ii_tree.proofs.{raw_items.Copied.none_read, raw_items.Captured.none_rejects}
use Rattle.cbor4ii_tree.proofs.raw_items.Captured.{captured, rejected_in}
use Rattle.cbor4ii_tree.proofs.boxed_raw.copy_lent.Goals as goal

pub returns-in-Ok-from_slice-clause-copies : goal.returns-in-Ok-from_slice-clause-copies
returns-in-Ok-from_slice-clause-copies g c =
    captured boxed_content (rw c.in-Ok-Some.field-0-is at c.in-Ok-Some.ensures.fills)
    c.as_slice.ensures c.in-Ok.ensures.skips c.in-Ok.ensures.stays c.in-Ok.ensures.budget
    c.advance.ensures
    (c.in-Ok-from_slice.ensures.items ∙ ap (take c.in-Ok.size) c.as_slice-in-Ok.ensures)

pub returns-in-Ok-from_slice-clause-unlent : goal.returns-in-Ok-from_slice-clause-unlent
returns-in-Ok-from_slice-clause-unlent g c never =
    none_read (rw c.in-Ok-Some.field-0-is at c.in-Ok-Some.ensures.never never) c.as_slice.ensures
    c.in-Ok.ensures.skips

pub returns-in-Ok-clause-copies : goal.returns-in-Ok-clause-copies
returns-in-Ok-clause-copies g c =
    inr (record {
      lacks = refl;
      item = take c.in-Ok.size (g.S.Long.AsSlice.items c.in-Ok-Some.long);
      captured = captured (λ (bytes : List ℕ). bytes)
          (rw c.in-Ok-Some.field-0-is at c.in-Ok-Some.ensures.fills) c.as_slice.ensures
          c.in-Ok.ensures.skips c.in-Ok.ensures.stays c.in-Ok.ensures.budget c.advance.ensures refl;
    })

pub returns-in-Ok-clause-unlent : goal.returns-in-Ok-clause-unlent
returns-in-Ok-clause-unlent g c never =
    none_read (rw c.in-Ok-Some.field-0-is at c.in-Ok-Some.ensures.never never) c.as_slice.ensures
    c.in-Ok.ensures.skips

pub returns-in-Ok-Some-clause-copies : goal.returns-in-Ok-Some-clause-copies
returns-in-Ok-Some-clause-copies g c =
    inl (rejected_in (rw c.in-Ok-Some.field-0-is at c.in-Ok-Some.ensures.fills) c.as_slice.ensures
    c.in-Err-skip_lent.ensures.rejects c.in-Err-skip_lent.ensures.stays
    c.in-Err-skip_lent.ensures.budget)

pub returns-in-Ok-Some-clause-unlent : goal.returns-in-Ok-Some-clause-unlent
returns-in-Ok-Some-clause-unlent g c never =
    none_rejects (rw c.in-Ok-Some.field-0-is at c.in-Ok-Some.ensures.never never) c.as_slice.ensures
    (rw c.in-Ok-Some.field-0-is at c.in-Ok-Some.ensures.fills) c.in-Err-skip_lent.ensures.rejects
    c.in-Err-skip_lent.ensures.stays
