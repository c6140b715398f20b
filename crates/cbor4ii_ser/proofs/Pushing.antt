-- One call after another that leave their error in a slot.
use Rattle.std.proofs.Common.{◌≡◌, Option, Some, None, Result, Ok, Bool, sym, ◌∙◌}
use Rattle.std.proofs.Common.{subst, List, [], ℕ, ◌++◌, rules}
use Rattle.std.specs.Prelude.{IfSome}
use Rattle.cbor4ii_rw.specs.Writer.{Output}
use Rattle.cbor4ii_ser.specs.declared.error.EncodeError.{EncodeError}
use Rattle.cbor4ii_ser.specs.Item.{Encoding, encoded, one_then}
use Rattle.cbor4ii_ser.specs.Pushing.{Pushes, PushesInTurn}
use Rattle.cbor4ii_ser.specs.Serializing.{Serializes}
use Rattle.cbor4ii_ser.specs.Laws.Joining.{serializes_then, followed_nil}
use Rattle.cbor4ii_ser.proofs.Failing.{failed_then}

kept_then : {E : Type 0} (o : Option (Unit {0})) (a b d : Result (Unit {0}) (EncodeError E))
    → b ≡ a → IfSome o (λ _. d ≡ b) → IfSome o (λ _. d ≡ a)
kept_then (Some u) a b d first second = second ∙ first
kept_then None a b d first second = tt

-- one part, and then another
pub pushes_then : {E : Type 0} {one other atomic : Bool} (a b : Encoding) {old mid new : Output}
    {u : Unit {0}} {o : Option (Unit {0})} {before between after : Result (Unit {0}) (EncodeError E)}
    → Pushes one atomic a old mid (Some u) before between
    → Pushes other atomic b mid new o between after
    → PushesInTurn atomic (one_then a b) old new o before after
pushes_then a b {o = o} {before = before} {between = between} {after = after} p q = record {
  writes = serializes_then a b _ p.writes q.writes;
  whole = tt;
  failed = q.failed;
  kept = kept_then o before between after p.kept q.kept;
}

pub pushes_as : {E : Type 0} {one atomic : Bool} {a b : Encoding} {old new : Output}
    {o : Option (Unit {0})} {before after : Result (Unit {0}) (EncodeError E)} → a ≡ b
    → Pushes one atomic a old new o before after → PushesInTurn atomic b old new o before after
pushes_as {atomic = atomic} {old = old} {new = new} {o = o} {before = before} {after = after} is p =
    search rules

-- the first part failed, and this was handed on
pub pushes_out : {E : Type 0} {one atomic : Bool} {a : Encoding} (b : Encoding) {old new : Output}
    {o : Option (Unit {0})} {before after : Result (Unit {0}) (EncodeError E)} → o ≡ None
    → Pushes one atomic a old new None before after
    → PushesInTurn atomic (one_then a b) old new o before after
pushes_out {atomic = atomic} {a = a} b {old = old} {new = new} {before = before} {after = after} e p =
    subst (λ x. PushesInTurn atomic (one_then a b) old new x before after) (sym e) (record {
      writes = failed_then b after p.failed p.writes;
      whole = tt;
      failed = p.failed;
      kept = tt;
    })

-- the same of bytes
pub pushes_both : {E : Type 0} {one other atomic : Bool} {xs ys : List ℕ} {old mid new : Output}
    {u : Unit {0}} {o : Option (Unit {0})} {before between after : Result (Unit {0}) (EncodeError E)}
    → Pushes one atomic (encoded xs) old mid (Some u) before between
    → Pushes other atomic (encoded ys) mid new o between after
    → PushesInTurn atomic (encoded (xs ++ ys)) old new o before after
unfolding one_then
pushes_both {xs = xs} {ys = ys} p q = pushes_then (encoded xs) (encoded ys) p q

pub pushes_both_out : {E : Type 0} {one atomic : Bool} {xs : List ℕ} (ys : List ℕ)
    {old new : Output} {o : Option (Unit {0})} {before after : Result (Unit {0}) (EncodeError E)}
    → o ≡ None → Pushes one atomic (encoded xs) old new None before after
    → PushesInTurn atomic (encoded (xs ++ ys)) old new o before after
unfolding one_then
pushes_both_out ys e p = pushes_out (encoded ys) e p

-- the last of several parts
pub pushes_last : {E : Type 0} {one atomic : Bool} {a : Encoding} {old new : Output}
    {o : Option (Unit {0})} {before after : Result (Unit {0}) (EncodeError E)}
    → Pushes one atomic a old new o before after
    → PushesInTurn atomic (one_then a (encoded [])) old new o before after
pushes_last {a = a} p = pushes_as (sym (followed_nil a)) p

-- ---- in a loop, where parts were written before

-- nothing was left
pub pushes_done : {E : Type 0} {atomic : Bool} {a : Encoding} {old new : Output}
    {before after : Result (Unit {0}) (EncodeError E)}
    → Serializes {T = Unit {0}} {E = E} atomic a old new (Ok tt) → after ≡ before
    → PushesInTurn atomic a old new (Some tt) before after
pushes_done p is = record { writes = p; whole = tt; failed = tt; kept = is }

-- one more part
pub pushes_on : {E : Type 0} {one atomic : Bool} {a : Encoding} (b : Encoding)
    {old mid new : Output} {o : Option (Unit {0})}
    {before between after : Result (Unit {0}) (EncodeError E)}
    → Serializes {T = Unit {0}} {E = E} atomic a old mid (Ok tt) → between ≡ before
    → Pushes one atomic b mid new o between after
    → PushesInTurn atomic (one_then a b) old new o before after
pushes_on b p is q = pushes_then _ b (pushes_done p is) q
