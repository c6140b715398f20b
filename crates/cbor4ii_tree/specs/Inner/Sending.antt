-- What a call that writes answers, where its error is left elsewhere.
use Rattle.std.specs.Prelude.{◌≡◌, Option, Some, None, Result, Ok, Err}

-- done, or an error that was left
abbrev pub sent_or_error : {E : Type 0} → Option (Unit {0}) → Option E → Result (Unit {0})
    (Option E)
sent_or_error (Some u) left = Ok u
sent_or_error None left = Err left

-- the answer says the same, and its error is left
abbrev pub Sends : {E : Type 0} → Result (Unit {0}) E → Option (Unit {0}) → Option E → Type 0
Sends (Ok u) said left = said ≡ Some u
Sends (Err e) said left = (said ≡ None) × (left ≡ Some e)
