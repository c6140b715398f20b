-- What a fill lends.
use Rattle.std.specs.Prelude.{ℕ, List, ⊤}
use Rattle.cbor4ii_rw.specs.View.{View, place_of, BeginsAt}
use Rattle.cbor4ii_rw.specs.declared.read.Reference.{Reference}
use Rattle.cbor4ii_rw.specs.declared.read.Reference.TheVariants.{Long, Short}

-- the bytes behind a reference
abbrev pub bytes_of : Reference → List ℕ
bytes_of (Long bytes) = bytes.now
bytes_of (Short bytes) = bytes.now

-- the reference lives as long as the reader's input
abbrev pub IsLong : Reference → Type 0
IsLong (Long bytes) = ⊤
IsLong (Short bytes) = ⊥

-- what lives as long as the input is a part of it: the bytes to come begin where it begins
abbrev pub IsSubslice : Reference → View → Type 0
IsSubslice (Long bytes) view = BeginsAt (place_of bytes) view
IsSubslice (Short bytes) view = ⊤
