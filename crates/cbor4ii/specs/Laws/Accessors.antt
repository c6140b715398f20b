-- What a function leaves that held an accessor.
use Rattle.std.proofs.Common.{◌≡◌, ℕ, Result, Ok, Err, refl, sym, subst}
use Rattle.cbor4ii_rw.specs.View.{View}
use Rattle.cbor4ii_rw.specs.declared.error.DecodeError.{DecodeError}
use Rattle.cbor4ii_rw.specs.declared.error.DecodeError.TheVariants.{OutOfMemory}
use Rattle.cbor4ii_items.specs.Moves.{Kept, Moves}
use Rattle.cbor4ii_items.specs.Laws.Steps.{moves_then}
use Rattle.cbor4ii_items.specs.Laws.UnderStep.{moves_stepped}
use Rattle.cbor4ii.specs.declared.serde.de.accessor.Left.{Left}
use Rattle.cbor4ii.specs.Accessing.{OpensParts, Closes}

-- an accessor was opened, calls went on under it, and it was dropped
pub around : {V E : Type 0} {major held : ℕ} {r : Result V (DecodeError E)} {a b c d : View}
    {begun : Left} → OpensParts major a b begun → Moves b c r → held ≡ 1 → Closes held c d
    → Moves a d r
around {r = r} {a = a} {c = c} {d = d} o m one z =
    moves_stepped r a o.within c d o.step o.others (moves_then o.kept m)
    (subst (λ k. Closes k c d) one z).budget z.others

pub kept_ok : {V E : Type 0} {v : V} {a b : View} → Kept a b → Moves {E = E} a b (Ok v)
kept_ok k = record { by = k; depth = λ e. refl }

pub kept_memory : {V E : Type 0} {a b : View} → Kept a b
    → Moves {V = V} {E = E} a b (Err OutOfMemory)
kept_memory k = record { by = k; depth = λ e. refl }

-- at a state that equals another
pub moves_at : {V E : Type 0} {r : Result V (DecodeError E)} {a c d : View} → Moves a c r → d ≡ c
    → Moves a d r
moves_at {r = r} {a = a} m is = subst (λ z. Moves a z r) (sym is) m
