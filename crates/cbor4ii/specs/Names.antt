-- Names of fields, found among some names.
use Rattle.std.specs.Prelude.{◌≡◌, ◌≢◌, ℕ, zero, suc, ◌+◌, ◌≤◌, ◌++◌, List, [], ◌∷◌, length, take}
use Rattle.std.specs.Prelude.{drop, IsUtf8, false}
use Rattle.std.specs.Prelude.{Option, Some, None, Result, Ok, Err}
use denote.Ref.{Bor}
use Rattle.cbor4ii_rw.specs.View.{View}
use Rattle.cbor4ii_rw.specs.declared.error.DecodeError.{DecodeError}
use Rattle.cbor4ii_items.specs.Decoding.{Sound, Decodes}
use Rattle.cbor4ii_items.specs.Head.{IsBytes, Width, HeadFits, head, byte_count}
use Rattle.cbor4ii_items.specs.InputError.{is_out_of_memory}
use Rattle.cbor4ii_items.specs.Lent.{Stays}
use Rattle.cbor4ii_items.specs.Moves.{Kept}
use Rattle.cbor4ii.specs.FieldKey.{FieldKey, key_format, text_key}
use Rattle.cbor4ii.specs.declared.serde.de.names.Seen.{Seen}
use Rattle.cbor4ii.specs.declared.serde.de.names.Seen.TheVariants.{Whole, Cut, Other}

-- the first name that is this one stands at this place, which follows all names where none is
abbrev pub StandsAt : List ℕ → List (Bor (List ℕ)) → ℕ → Type 0
StandsAt name [] at = Unit {0}
StandsAt name (own ∷ names) zero = name ≡ own.now
StandsAt name (own ∷ names) (suc at) = (name ≢ own.now) × StandsAt name names at

-- the first name stands at this place
abbrev pub IsFirst : List (Bor (List ℕ)) → ℕ → Type 0
IsFirst [] at = ⊥
IsFirst (own ∷ names) zero = Unit {0}
IsFirst (own ∷ names) (suc at) = ⊥

-- after the first name come these, and the place is this one among them; without names both stay
abbrev pub IsAfter : List (Bor (List ℕ)) → ℕ → List (Bor (List ℕ)) → ℕ → Type 0
IsAfter [] at trailing next = (trailing ≡ []) × (next ≡ at)
IsAfter (own ∷ names) zero trailing next = ⊥
IsAfter (own ∷ names) (suc at) trailing next = (trailing ≡ names) × (next ≡ at)

-- this is the place of the first name, or a place among the names after it
abbrev pub IsAfterFirst : List (Bor (List ℕ)) → ℕ → Option (Bor (List (Bor (List ℕ))) × ℕ)
    → Type 0
IsAfterFirst names at None = IsFirst names at
IsAfterFirst names at (Some (trailing, next)) = IsAfter names at trailing.now next

-- a name of this size stands after so many bytes, with this place among the names, and ends after n
pub record StandsAfter (names : List (Bor (List ℕ))) (shown : List ℕ) (before size at n : ℕ)
    : Type 0 where
  pub whole : n ≡ before + size
  pub within : n ≤ length shown
  pub utf8 : IsUtf8 (take size (drop before shown))
  pub which : StandsAt (take size (drop before shown)) names at

-- where a name is seen whole, it stands after so many bytes
abbrev pub IfWholeAfter : List (Bor (List ℕ)) → List ℕ → ℕ → ℕ → Seen → Type 0
IfWholeAfter names shown before size (Whole at n) = StandsAfter names shown before size at n
IfWholeAfter names shown before size (Cut n) = Unit {0}
IfWholeAfter names shown before size Other = Unit {0}

-- Its length is in the first byte or in the next one, and it takes so many bytes in all. It has
-- this place among the names.
-- A name stands whole at the start of the bytes.
pub record IsWholeName (names : List (Bor (List ℕ))) (shown : List ℕ) (at n : ℕ) : Type 0 where
  pub name : List ℕ
  pub width : Width
  pub short : byte_count width ≤ 1
  pub fits : HeadFits width (length name)
  pub utf8 : IsUtf8 name
  pub size : n ≡ 1 + byte_count width + length name
  pub within : n ≤ length shown
  pub stands : take n shown ≡ head 3 (length name) width ++ name
  pub bytes : IsBytes (take n shown)
  pub which : StandsAt name names at

-- where a name is seen whole, it stands at the start of the bytes
abbrev pub IfWhole : List (Bor (List ℕ)) → List ℕ → Seen → Type 0
IfWhole names shown (Whole at n) = IsWholeName names shown at n
IfWhole names shown (Cut n) = Unit {0}
IfWhole names shown Other = Unit {0}

-- a key was taken, and has this place among the labels
pub record KeyAt (key : FieldKey) (labels : List (Bor (List ℕ))) (at : ℕ) (old new : View)
    : Type 0 where
  pub label : List ℕ
  pub kept : Kept old new
  pub progress : new.bound + 1 ≤ old.bound
  pub read : Sound key.reads old new label
  pub which : StandsAt label labels at

-- a key was taken, and has this place among the labels; or it was rejected
abbrev pub TakesKey : {E : Type 0} → FieldKey → List (Bor (List ℕ)) → View → View
    → Result ℕ (DecodeError E) → Type 0
TakesKey key labels old new (Ok at) = KeyAt key labels at old new
TakesKey key labels old new (Err e) = Decodes (key_format key) old new (Err e)

-- Of a name not seen whole nothing is taken. It is rejected as a text; a look asks for no memory.
-- A name that is seen whole was taken, and has this place among the names, or it was rejected.
abbrev pub TakesShown : {E : Type 0} → List (Bor (List ℕ)) → View → View
    → Result Seen (DecodeError E) → Type 0
TakesShown names old new (Ok (Whole at n)) = KeyAt text_key names at old new
TakesShown names old new (Ok (Cut n)) = Stays old new
TakesShown names old new (Ok Other) = Stays old new
TakesShown names old new (Err e) =
    Decodes (key_format text_key) old new (Err e) × (is_out_of_memory e ≡ false)
