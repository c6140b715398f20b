-- What a reader's answer says once its error has gone to a slot.
use Rattle.std.proofs.Common.{◌≡◌, sym, subst, rules}
use Rattle.std.specs.Prelude.{Option, Some, None, Result, Ok, Err, IfSome, OnSome, IfNone, IfOk}
use Rattle.std.specs.Prelude.{IsSome, MatchOption, MatchResult}
use Rattle.cbor4ii_rw.specs.Parted.{PartsAnswer}

abbrev pub as_option : {T E : Type 0} → Result T E → Option T
as_option (Ok x) = Some x
as_option (Err e) = None

pub is_option : {T E : Type 0} (r : Result T E) (before after : Option E) (o : Option T)
    → PartsAnswer r before after o → o ≡ as_option r
is_option (Ok x) before after o p = p.0
is_option (Err e) before after o p = p.0

pub at_option : {T E : Type 0} (Q : T → Type 0) (r : Result T E) → IfOk r Q → IfSome (as_option r) Q
at_option Q (Ok x) q = q
at_option Q (Err e) q = tt

pub slot_kept : {T E : Type 0} (r : Result T E) (before after : Option E) (o : Option T)
    → PartsAnswer r before after o → OnSome o (after ≡ before)
slot_kept (Ok x) before after o p = subst (λ t. OnSome t (after ≡ before)) (sym p.0) p.1
slot_kept (Err e) before after o p = subst (λ t. OnSome t (after ≡ before)) (sym p.0) tt

pub error_kept : {T E : Type 0} (r : Result T E) (before after : Option E) (o : Option T)
    → PartsAnswer r before after o → IfNone o (IsSome after)
error_kept (Ok x) before after o p = subst (λ t. IfNone t (IsSome after)) (sym p.0) tt
error_kept (Err e) before after o p = search rules

-- what the answer leaves of the reader
pub leaves : {T E : Type 0} (Broken : Type 0) (Shown : T → Type 0) (r : Result T E)
    → MatchResult r Shown (λ _. Broken) → MatchOption (as_option r) Broken Shown
leaves Broken Shown (Ok x) p = p
leaves Broken Shown (Err e) p = p
