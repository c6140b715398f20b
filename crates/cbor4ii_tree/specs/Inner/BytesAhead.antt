-- Where skipped bytes come from: a reader, or bytes that were lent.
use Rattle.std.specs.Prelude.{◌≡◌, ◌≢◌, ◌<◌, ℕ, List, Some, None, length, take, min, get_or, true}
use Rattle.std.specs.Prelude.{Result, Ok, Err}
use Rattle.cbor4ii_rw.specs.{View.{View, IfKnown}, Reader.{Shows, IsPrefix}}
use Rattle.cbor4ii_rw.specs.declared.error.DecodeError.{DecodeError}
use Rattle.cbor4ii_items.specs.Head.{IsBytes}
use Rattle.cbor4ii_tree.specs.{Inner.Does.Does, Inner.HeadParts.TakesByte}
use Rattle.cbor4ii_tree.specs.{Calls.Rejections.Rejection}

-- All of them are reported, nothing fails, and the reader's own bytes count for nothing.
-- The view of lent bytes that are read under the steps of a reader.
abbrev pub lent_view : List ℕ → View → View
lent_view bytes reader =
    record {
      known = Some bytes;
      bound = length bytes;
      advanceable = length bytes;
      budget = reader.budget;
      failures = 0;
      taken = None;
      zero_copy = true;
      remembers = true;
      ends_at = None;
    }

-- a prefix was shown, of which P holds
pub record Offers (want : ℕ) (P : List ℕ → Type 0) (old new : View) : Type 0 where
  pub shown : List ℕ
  pub shows : Shows shown old new
  pub prefix : IfKnown old.known (IsPrefix want shown)
  pub is : P shown

-- the first of some bytes is this
abbrev pub FirstByteIs : ℕ → List ℕ → Type 0
FirstByteIs b shown = (length shown ≢ 0) × (b ≡ get_or shown 0 0) × (b < 256)

-- so many bytes may be taken, of so many that are wanted, and the first of them
abbrev pub Ready : ℕ → ℕ × ℕ → List ℕ → Type 0
Ready want found shown =
    (found.0 ≡ min want (length shown)) × IsBytes (take found.0 shown)
    × (found.0 ≢ 0 → FirstByteIs found.1 shown)

-- a byte was shown, or there is none
abbrev pub Peeks : {E : Type 0} → Rejection → View → View → Result ℕ (DecodeError E) → Type 0
Peeks none old new (Ok b) = Offers 1 (FirstByteIs b) old new
Peeks none old new (Err e) = Does {V = ℕ} TakesByte none old new (Err e)
