-- What a station is encoded as: an array of its number and its name (RFC 8949 sections 3.1, 3.2.2).
use Rattle.std.specs.Prelude.{◌≡◌, ◌≢◌, ℕ, ◌⊎◌, List, [], ◌∷◌, ◌++◌, take, drop, Some, None, Bool}
use Rattle.std.specs.Prelude.{true, false, codes}
use Rattle.std.specs.declared.alloc.Global.{Global}
use Rattle.std.specs.declared.string.String.{String}
use Rattle.cbor4ii_rw.specs.declared.error.Len.TheVariants.{Indefinite}
use Rattle.cbor4ii_items.specs.Head.{break}
use Rattle.cbor4ii_items.specs.Heads.{ReadsHead}
use Rattle.cbor4ii_items.specs.Decoding.{Reads, RejectsAt, Format, leaf_format, looking_format}
use Rattle.cbor4ii_items.specs.InputError.{require_length, len_of}
use Rattle.cbor4ii_items.specs.Lengths.{ReadsLength, RejectsLength}
use Rattle.cbor4ii_items.specs.Numbers.{ReadsUnsigned, RejectsUnsigned, shortest_head}
use Rattle.cbor4ii_items.specs.Strings.{ReadsTextAs, RejectsText, text_content, definite_string}
use Rattle.cbor4ii_items.specs.Strings.{ReadsBreak, RejectsBreak}
use Rattle.cbor4ii_examples.specs.declared.station.Station.{Station}
use Rattle.cbor4ii_examples.specs.Then.{ReadsThen, RejectsThen}

-- ---- what is written

-- the bytes of a station, an array of two: the number, and the name
abbrev pub station_bytes : Station → List ℕ
station_bytes v =
    shortest_head 4 2 ++ (shortest_head 0 v.id ++ definite_string 3 (text_content v.name))

-- ---- what is read

-- the head of an array of two items, or the first byte of one of indefinite length
abbrev pub ReadsOpening : Reads Bool
ReadsOpening xs false n c = ReadsLength 4 xs (Some 2) n c
ReadsOpening xs true n c = ReadsLength 4 xs None n c

-- what follows the two items: nothing, or the break of an indefinite length
abbrev pub ReadsEnd : Bool → Reads (Unit {0})
ReadsEnd false xs u n c = (n ≡ 0) × (c ≡ 0)
ReadsEnd true xs u n c = ReadsBreak xs true n c

-- what is read after the number, and after the opening
abbrev pub AfterNumber : Type 0
AfterNumber = String Global × Unit {0}

abbrev pub AfterOpening : Type 0
AfterOpening = ℕ × AfterNumber

-- the name, and the end
abbrev pub ReadsAfterNumber : Bool → ℕ → Reads AfterNumber
ReadsAfterNumber indefinite id = ReadsThen (ReadsTextAs text_content) (λ name. ReadsEnd indefinite)

-- the number, the name, and the end
abbrev pub ReadsAfterOpening : Bool → Reads AfterOpening
ReadsAfterOpening indefinite = ReadsThen (ReadsUnsigned 8) (ReadsAfterNumber indefinite)

-- the opening, the number, the name and the end
abbrev pub ReadsStation : Reads Station
ReadsStation xs v n c = (indefinite : Bool)
    × ReadsThen ReadsOpening ReadsAfterOpening xs (indefinite, (v.id, (v.name, tt))) n c

-- the two stations have the same number and the same name
abbrev pub SameStation : Station → Station → Type 0
SameStation v w = (v.id ≡ w.id) × (text_content v.name ≡ text_content w.name)

-- ---- how it is rejected

-- the length is rejected, or it is another than 2
abbrev pub RejectsOpening : RejectsAt
RejectsOpening xs budget err rest = RejectsLength (codes "array") 4 xs budget err rest
    ⊎ ((count : ℕ) × (n : ℕ) × ReadsHead 4 8 xs count n × (count ≢ 2)
    × (err ≡ require_length (codes "station") (len_of count)) × (rest ≡ drop n xs))

-- no byte, or another item in the place of the break
abbrev pub RejectsEnd : Bool → RejectsAt
RejectsEnd false xs budget err rest = ⊥
RejectsEnd true xs budget err rest = RejectsBreak xs budget err rest
    ⊎ ((xs ≢ []) × (take 1 xs ≡ break ∷ [] → ⊥)
    × (err ≡ require_length (codes "station") Indefinite) × (rest ≡ xs))

abbrev pub RejectsAfterNumber : Bool → ℕ → RejectsAt
RejectsAfterNumber indefinite id =
    RejectsThen (ReadsTextAs text_content) (RejectsText (codes "str"))
    (λ name. RejectsEnd indefinite)

abbrev pub RejectsAfterOpening : Bool → RejectsAt
RejectsAfterOpening indefinite =
    RejectsThen (ReadsUnsigned 8) (RejectsUnsigned (codes "u64") 8) (RejectsAfterNumber indefinite)

abbrev pub RejectsStation : RejectsAt
RejectsStation = RejectsThen ReadsOpening RejectsOpening RejectsAfterOpening

-- ---- in one word each

abbrev pub opening_format : Format Bool
opening_format = leaf_format ReadsOpening RejectsOpening

abbrev pub end_format : Bool → Format (Unit {0})
end_format indefinite = looking_format (ReadsEnd indefinite) (RejectsEnd indefinite)

abbrev pub station_format : Format Station
station_format = record {
  reads = ReadsStation;
  same = SameStation;
  rejects = RejectsStation;
  begins = RejectsStation;
  never_empty = true;
  owned = true;
  takes_memory = true;
  closed = true;
}
