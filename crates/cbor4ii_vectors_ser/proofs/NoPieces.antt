-- A text of no piece, which leaves everything as it is.
use Rattle.std.proofs.Common.{◌≡◌, ℕ, List, [], Option, None, Some, Ok, Bool, refl, sym, ap, ◌∙◌}
use Rattle.std.proofs.Common.{subst}
use Rattle.std.proofs.lemmas.List.{append-nil}
use Rattle.cbor4ii_rw.specs.Writer.{Output}
use Rattle.cbor4ii_items.specs.Writing.{Writes}
use Rattle.cbor4ii_ser.specs.Pieces.{pieces_bytes, after}
use Rattle.cbor4ii_ser.specs.TextState.{TextSeen, Wrote, Pends, writing_outcome}

writes_nothing : {T E : Type 0} {whole : Bool} (o : Output) (t : T)
    → Writes {E = E} whole [] o o (Ok t)
writes_nothing o t = record {
  appends = λ xs known. known ∙ ap Some (sym (append-nil xs));
  counts = refl;
  failed = tt;
  prefix = λ whole. tt;
}

-- no piece was written
pub wrote_nothing : {E : Type 0} {whole : Bool} {a : TextSeen E} → Wrote whole [] a a
unfolding pieces_bytes after
wrote_nothing {E = E} {whole = whole} {a = a} = record {
  writes = λ fine. subst
      (λ z. Writes whole (pieces_bytes a.pending []) a.output a.output (writing_outcome z))
      (sym fine)
      (writes_nothing {E = E} a.output tt);
  pends = λ fine. subst (λ z. Pends [] a.pending a.pending z) (sym fine) refl;
  stays = λ e is. refl;
}
