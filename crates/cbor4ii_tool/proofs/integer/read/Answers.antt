use Rattle.std.proofs.Common.{◌≡◌, true, false, Bool, refl, arith}
use Rattle.cbor4ii_tool.specs.declared.integer.Integer.TheVariants.{Unsigned, Negative}
use Rattle.cbor4ii_tool.proofs.Decoded.{only_negative, only_unsigned, accepted, rejected}
use Rattle.cbor4ii_tool.proofs.Items.{shown_kept, is_steady}
use Rattle.cbor4ii_tool.proofs.integer.read.Goals as goal

pub returns-in-Ok-clause-reads : goal.returns-in-Ok-clause-reads
returns-in-Ok-clause-reads g c =
    accepted (Negative c.in-Ok.number) _ _ _ _ _ c.in_ok-is_negative_next.ensures.shows
    c.in-Ok.ensures.moves (c.in-Ok.ensures.progress refl)
    (λ xs known. let h = c.in-Ok.ensures.sound.at xs known in (h.count, h.read.0, h.left))

pub returns-in-Ok-decode-clause-reads : goal.returns-in-Ok-decode-clause-reads
returns-in-Ok-decode-clause-reads g c =
    accepted (Unsigned c.in-Ok-decode.number) _ _ _ _ _ c.in_ok-is_negative_next.ensures.shows
    c.in-Ok-decode.ensures.moves (c.in-Ok-decode.ensures.progress refl)
    (λ xs known. let h = c.in-Ok-decode.ensures.sound.at xs known in (h.count, h.read.0, h.left))

pub returns-in-Err-clause-errs : goal.returns-in-Err-clause-errs
returns-in-Err-clause-errs g c =
    rw c.of.ensures (rejected _ 1 c.in-Err.error _ _ _ _ (omega arith)
    (λ xs known. only_negative xs
    ((c.in_ok-is_negative_next.ensures.negative xs known).0 c.if-branch.true))
    c.in_ok-is_negative_next.ensures.shows c.in-Err.ensures.moves c.in-Err.ensures.memory
    c.in-Err.ensures.begins)

both : (t : Bool) → t ≡ true → t ≡ false → ⊥
both t p q = cc

pub returns-in-Err-decode-clause-errs : goal.returns-in-Err-decode-clause-errs
returns-in-Err-decode-clause-errs g c =
    rw c.of-in-Err-decode.ensures
    (rejected _ 0 c.in-Err-decode.error _ _ _ _ (omega arith)
    (λ xs known. only_unsigned xs
    (λ n. both _ ((c.in_ok-is_negative_next.ensures.negative xs known).1 n) c.if-branch.false))
    c.in_ok-is_negative_next.ensures.shows c.in-Err-decode.ensures.moves
    c.in-Err-decode.ensures.memory c.in-Err-decode.ensures.begins)

pub returns-in-Ok-clause-kept : goal.returns-in-Ok-clause-kept
returns-in-Ok-clause-kept g c =
    shown_kept _ _ _ _ c.in_ok-is_negative_next.ensures.shows c.in-Ok.ensures.moves.by

pub returns-in-Ok-decode-clause-kept : goal.returns-in-Ok-decode-clause-kept
returns-in-Ok-decode-clause-kept g c =
    shown_kept _ _ _ _ c.in_ok-is_negative_next.ensures.shows c.in-Ok-decode.ensures.moves.by

pub returns-in-Err-clause-steady : goal.returns-in-Err-clause-steady
returns-in-Err-clause-steady g c =
    rw c.of.ensures (is_steady c.in-Err.error _ _ _ _ c.in_ok-is_negative_next.ensures.shows
    c.in-Err.ensures.moves)

pub returns-in-Err-decode-clause-steady : goal.returns-in-Err-decode-clause-steady
returns-in-Err-decode-clause-steady g c =
    rw c.of-in-Err-decode.ensures
    (is_steady c.in-Err-decode.error _ _ _ _ c.in_ok-is_negative_next.ensures.shows
    c.in-Err-decode.ensures.moves)
