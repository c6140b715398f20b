-- Worked rows: what RFC 8949 appendix A and this codec's rules say of bytes, each an equation that
-- the plain programs compute. The laws tie these programs to the definitions, so that a row is one
-- of the definitions. A text of hexadecimal digits stands for its bytes; where no budget is given,
-- it is 256 steps.
use Rattle.std.proofs.Common.{◌≡◌, ℕ, zero, suc, ◌+◌, ◌-◌, ◌*◌, List, [], ◌∷◌, ◌++◌, Ok, Err}
use Rattle.std.proofs.Common.{Result, None, Some, refl, pos, negsuc, codes, replicate, true, false}
use Rattle.std.specs.{Prelude.{nat_lt, if◌then◌else◌}, Str.{is_utf8, chars}}
use Prim.Native.String.{String}
use Rattle.cbor4ii_items.specs.Initial.{half, single, double, initial}
use Rattle.cbor4ii_tree.specs.Basis.Canonical.{canonical_encoding, canonical_cost, with_bignums}
use Rattle.cbor4ii_tree.specs.{Basis.Cost.{cost, skip_cost}, Basis.InputError.{InputError, eof}}
use Rattle.cbor4ii_tree.specs.Basis.InputError.{mismatch, unsupported, require_length, require_utf8}
use Rattle.cbor4ii_tree.specs.Basis.InputError.{depth_overflow, Small, Big, Indefinite}
use Rattle.cbor4ii_tree.specs.Basis.Item.{Item, null, boolean, integer, float, bytes_item, text}
use Rattle.cbor4ii_tree.specs.{Basis.Item.{sequence, mapping, tag, size}, Calls.Parse.Answer}
use Rattle.cbor4ii_tree.specs.Calls.Parse.{parse_argument, trees_at, pairs_at, indefinite_trees_at}
use Rattle.cbor4ii_tree.specs.{Calls.Parse.indefinite_pairs_at, Calls.Read.{parse_value, read_tree}}
use Rattle.cbor4ii_tree.specs.{Calls.ItemAt.item_within, Calls.Skip.skip, Basis.Tree.Tree}
use Rattle.cbor4ii_tree.specs.Basis.View.{items_of, item_pairs_of}

-- ---- how rows are written

abbrev digit : ℕ → ℕ
digit c = if nat_lt c 58 then c - 48 else c - 87

-- two digits for each byte, and a space between two bytes
abbrev bytes_of : List ℕ → List ℕ
bytes_of [] = []
bytes_of (a ∷ []) = []
bytes_of (a ∷ b ∷ []) = (16 * digit a + digit b) ∷ []
bytes_of (a ∷ b ∷ space ∷ more) = (16 * digit a + digit b) ∷ bytes_of more

abbrev hex : String → List ℕ
hex digits = bytes_of (codes digits)

abbrev str : String → Item
str letters = text (codes letters)

abbrev number : ℕ → Item
number n = integer (pos n)

abbrev numbers_from : ℕ → ℕ → List Item
numbers_from first zero = []
numbers_from first (suc n) = number first ∷ numbers_from (first + 1) n

abbrev octets : String → Item
octets digits = bytes_item (hex digits)

abbrev items : List Item → Item
items vs = sequence (items_of vs)

abbrev pairs : List (Item × Item) → Item
pairs ms = mapping (item_pairs_of ms)

-- [1, [2, 3], [4, 5]]
abbrev nested : Item
nested =
    items (number 1 ∷ items (number 2 ∷ number 3 ∷ []) ∷ items (number 4 ∷ number 5 ∷ []) ∷ [])

-- each is what it has to be
abbrev firsts : {A : Type 0} → List (A × A) → List A
firsts [] = []
firsts (row ∷ rows) = row.0 ∷ firsts rows

abbrev seconds : {A : Type 0} → List (A × A) → List A
seconds [] = []
seconds (row ∷ rows) = row.1 ∷ seconds rows

abbrev AllEqual : {A : Type 0} → List (A × A) → Type 0
AllEqual rows = firsts rows ≡ seconds rows

abbrev Read : Type 0
Read = Answer Item × List ℕ

-- the input is read whole as the value, which is written so
abbrev reads : String → Item → String → Read × Read
reads input v written =
    ((parse_value (Some 256) (hex input), canonical_encoding v), (Ok (v, []), hex written))

-- the same, where the input is how it is written
abbrev canonical : String → Item → Read × Read
canonical input v = reads input v input

abbrev writes : Item → String → List ℕ × List ℕ
writes v written = (canonical_encoding v, hex written)

-- the input is rejected so, and these bytes are left
abbrev rejects_under : ℕ → String → InputError → String → Answer Item × Answer Item
rejects_under steps input e rest = (parse_value (Some steps) (hex input), Err (e, hex rest))

abbrev rejects : String → InputError → String → Answer Item × Answer Item
rejects = rejects_under 256

abbrev reads_under : ℕ → String → Item → Answer Item × Answer Item
reads_under steps input v = (parse_value (Some steps) (hex input), Ok (v, []))

-- the same where no budget bounds the steps
abbrev reads_at_any_depth : String → Item → Answer Item × Answer Item
reads_at_any_depth input v = (parse_value None (hex input), Ok (v, []))

-- what was read or skipped is left out
abbrev Rest : Type 0
Rest = Result (List ℕ) (InputError × List ℕ)

abbrev rest_of : {A : Type 0} → Answer A → Rest
rest_of (Ok p) = Ok p.1
rest_of (Err z) = Err z

-- one item is skipped, and these bytes are left
abbrev skips_under : ℕ → String → String → Rest × Rest
skips_under steps input rest = (rest_of (skip (Some steps) (hex input)), Ok (hex rest))

abbrev skips : String → String → Rest × Rest
skips = skips_under 256

abbrev skips_at_any_depth : String → String → Rest × Rest
skips_at_any_depth input rest = (rest_of (skip None (hex input)), Ok (hex rest))

abbrev skip_rejects_under : ℕ → String → InputError → String → Rest × Rest
skip_rejects_under steps input e rest =
    (rest_of (skip (Some steps) (hex input)), Err (e, hex rest))

abbrev skip_rejects : String → InputError → String → Rest × Rest
skip_rejects = skip_rejects_under 256

-- Integers, each in its shortest head (appendix A), and bignums as tags (section 3.4.3).
pub integers_rows : AllEqual
    (canonical "00" (number 0)
    ∷ canonical "01" (number 1)
    ∷ canonical "0a" (number 10)
    ∷ canonical "17" (number 23)
    ∷ canonical "18 18" (number 24)
    ∷ canonical "18 19" (number 25)
    ∷ canonical "18 64" (number 100)
    ∷ canonical "19 03 e8" (number 1000)
    ∷ canonical "1a 00 0f 42 40" (number 1000000)
    ∷ canonical "1b 00 00 00 e8 d4 a5 10 00" (number 1000000000000)
    ∷ canonical "1b ff ff ff ff ff ff ff ff" (number 18446744073709551615)
    ∷ canonical "20" (integer (negsuc 0))
    ∷ canonical "29" (integer (negsuc 9))
    ∷ canonical "38 63" (integer (negsuc 99))
    ∷ canonical "38 ff" (integer (negsuc 255))
    ∷ canonical "39 03 e7" (integer (negsuc 999))
    ∷ canonical "39 ff ff" (integer (negsuc 65535))
    ∷ canonical "3a ff ff ff ff" (integer (negsuc 4294967295))
    ∷ canonical "3b ff ff ff ff ff ff ff ff" (integer (negsuc 18446744073709551615))
    ∷ canonical "c2 49 01 00 00 00 00 00 00 00 00" (tag 2 (octets "01 00 00 00 00 00 00 00 00"))
    ∷ canonical "c3 49 01 00 00 00 00 00 00 00 00"
    (tag 3 (octets "01 00 00 00 00 00 00 00 00")) ∷ [])
    × AllEqual (writes (number 18446744073709551616) "c2 49 01 00 00 00 00 00 00 00 00"
    ∷ writes (integer (negsuc 18446744073709551616)) "c3 49 01 00 00 00 00 00 00 00 00"
    ∷ writes (number 18446744073709551714) "c2 49 01 00 00 00 00 00 00 00 62"
    ∷ writes (integer (negsuc 170141183460469231731687303715884105727))
    "c3 50 7f ff ff ff ff ff ff ff ff ff ff ff ff ff ff ff" ∷ [])
unfolding item_within trees_at pairs_at indefinite_trees_at indefinite_pairs_at
    parse_argument initial is_utf8 chars lib.Utf8.encode
integers_rows = (refl, refl)

-- Heads longer than needed are read, and written short (section 4.1).
pub longer_rows : AllEqual
    (reads "1b 00 00 00 00 00 00 00 05" (number 5) "05"
    ∷ reads "18 05" (number 5) "05"
    ∷ reads "38 00" (integer (negsuc 0)) "20"
    ∷ reads "58 01 61" (octets "61") "41 61"
    ∷ reads "78 01 61" (str "a") "61 61"
    ∷ reads "9a 00 00 00 01 00" (items (number 0 ∷ [])) "81 00"
    ∷ reads "b8 01 01 02" (pairs ((number 1, number 2) ∷ [])) "a1 01 02"
    ∷ reads "db 00 00 00 00 00 00 00 2a 00" (tag 42 (number 0)) "d8 2a 00"
    ∷ reads "99 00 01 05" (items (number 5 ∷ [])) "81 05"
    ∷ reads "bb 00 00 00 00 00 00 00 01 01 02" (pairs ((number 1, number 2) ∷ [])) "a1 01 02"
    ∷ reads "59 00 01 61" (octets "61") "41 61" ∷ [])
unfolding item_within trees_at pairs_at indefinite_trees_at indefinite_pairs_at
    parse_argument initial is_utf8 chars lib.Utf8.encode
longer_rows = refl

-- Simple values and floats, whose bits are kept with their width (section 3.3). Undefined is null.
pub simples_rows : AllEqual
    (canonical "f4" (boolean false)
    ∷ canonical "f5" (boolean true)
    ∷ canonical "f6" null
    ∷ reads "f7" null "f6"
    ∷ canonical "f9 00 00" (float half 0x0000)
    ∷ canonical "f9 80 00" (float half 0x8000)
    ∷ canonical "f9 3c 00" (float half 0x3c00)
    ∷ canonical "f9 7b ff" (float half 0x7bff)
    ∷ canonical "f9 7e 00" (float half 0x7e00)
    ∷ canonical "f9 fc 00" (float half 0xfc00)
    ∷ canonical "fa 47 c3 50 00" (float single 0x47c35000)
    ∷ canonical "fa 7f 80 00 00" (float single 0x7f800000)
    ∷ canonical "fa 7f c0 00 00" (float single 0x7fc00000)
    ∷ canonical "fb 3f f1 99 99 99 99 99 9a" (float double 0x3ff199999999999a)
    ∷ canonical "fb 7e 37 e4 3c 88 00 75 9c" (float double 0x7e37e43c8800759c)
    ∷ canonical "fb c0 10 66 66 66 66 66 66" (float double 0xc010666666666666) ∷ [])
unfolding item_within trees_at pairs_at indefinite_trees_at indefinite_pairs_at
    parse_argument initial is_utf8 chars lib.Utf8.encode
simples_rows = refl

-- Byte strings, texts and tags (appendix A).
pub strings_rows : AllEqual
    (canonical "40" (octets "")
    ∷ canonical "44 01 02 03 04" (octets "01 02 03 04")
    ∷ canonical "60" (text [])
    ∷ canonical "61 61" (str "a")
    ∷ canonical "64 49 45 54 46" (str "IETF")
    ∷ canonical "62 22 5c" (text (hex "22 5c"))
    ∷ canonical "62 c3 bc" (text (hex "c3 bc"))
    ∷ canonical "63 e6 b0 b4" (text (hex "e6 b0 b4"))
    ∷ canonical "64 f0 90 85 91" (text (hex "f0 90 85 91"))
    ∷ canonical "c0 74 32 30 31 33 2d 30 33 2d 32 31 54 32 30 3a 30 34 3a 30 30 5a"
    (tag 0 (str "2013-03-21T20:04:00Z"))
    ∷ canonical "c1 1a 51 4b 67 b0" (tag 1 (number 1363896240))
    ∷ canonical "c1 fb 41 d4 52 d9 ec 20 00 00" (tag 1 (float double 0x41d452d9ec200000))
    ∷ canonical "d7 44 01 02 03 04" (tag 23 (octets "01 02 03 04"))
    ∷ canonical "d8 18 45 64 49 45 54 46" (tag 24 (octets "64 49 45 54 46"))
    ∷ canonical "d8 20 76 68 74 74 70 3a 2f 2f 77 77 77 2e 65 78 61 6d 70 6c 65 2e 63 6f 6d"
    (tag 32 (str "http://www.example.com")) ∷ [])
unfolding item_within trees_at pairs_at indefinite_trees_at indefinite_pairs_at
    parse_argument initial is_utf8 chars lib.Utf8.encode
strings_rows = refl

-- Arrays and maps (appendix A). Pairs keep their order, and equal keys are kept.
pub sequences_rows : AllEqual
    (canonical "80" (items [])
    ∷ canonical "83 01 02 03" (items (number 1 ∷ number 2 ∷ number 3 ∷ []))
    ∷ canonical "83 01 82 02 03 82 04 05" nested
    ∷ canonical
    "98 19 01 02 03 04 05 06 07 08 09 0a 0b 0c 0d 0e 0f 10 11 12 13 14 15 16 17 18 18 18 19"
    (items (numbers_from 1 25))
    ∷ canonical "a0" (pairs [])
    ∷ canonical "a2 01 02 03 04" (pairs ((number 1, number 2) ∷ (number 3, number 4) ∷ []))
    ∷ canonical "a2 61 61 01 61 62 82 02 03"
    (pairs ((str "a", number 1) ∷ (str "b", items (number 2 ∷ number 3 ∷ [])) ∷ []))
    ∷ canonical "82 61 61 a1 61 62 61 63" (items (str "a" ∷ pairs ((str "b", str "c") ∷ []) ∷ []))
    ∷ canonical "a2 03 04 01 02" (pairs ((number 3, number 4) ∷ (number 1, number 2) ∷ []))
    ∷ canonical "a2 01 02 01 03" (pairs ((number 1, number 2) ∷ (number 1, number 3) ∷ [])) ∷ [])
unfolding item_within trees_at pairs_at indefinite_trees_at indefinite_pairs_at
    parse_argument initial is_utf8 chars lib.Utf8.encode
sequences_rows = refl

-- Items without a length are read, and written with one (section 3.2). The text of a string is what
-- its chunks join to.
pub opens_rows : AllEqual
    (reads "5f 42 01 02 43 03 04 05 ff" (octets "01 02 03 04 05") "45 01 02 03 04 05"
    ∷ reads "7f 65 73 74 72 65 61 64 6d 69 6e 67 ff" (str "streaming")
    "69 73 74 72 65 61 6d 69 6e 67"
    ∷ reads "7f 61 c3 61 a9 ff" (text (hex "c3 a9")) "62 c3 a9"
    ∷ reads "7f ff" (text []) "60"
    ∷ reads "9f ff" (items []) "80"
    ∷ reads "9f 01 82 02 03 9f 04 05 ff ff" nested "83 01 82 02 03 82 04 05"
    ∷ reads "9f 01 82 02 03 82 04 05 ff" nested "83 01 82 02 03 82 04 05"
    ∷ reads "83 01 82 02 03 9f 04 05 ff" nested "83 01 82 02 03 82 04 05"
    ∷ reads "83 01 9f 02 03 ff 82 04 05" nested "83 01 82 02 03 82 04 05"
    ∷ reads "bf ff" (pairs []) "a0"
    ∷ reads "bf 61 61 01 61 62 9f 02 03 ff ff"
    (pairs ((str "a", number 1) ∷ (str "b", items (number 2 ∷ number 3 ∷ [])) ∷ []))
    "a2 61 61 01 61 62 82 02 03"
    ∷ reads "82 61 61 bf 61 62 61 63 ff" (items (str "a" ∷ pairs ((str "b", str "c") ∷ []) ∷ []))
    "82 61 61 a1 61 62 61 63"
    ∷ reads "bf 63 46 75 6e f5 63 41 6d 74 21 ff"
    (pairs ((str "Fun", boolean true) ∷ (str "Amt", integer (negsuc 1)) ∷ []))
    "a2 63 46 75 6e f5 63 41 6d 74 21"
    ∷ reads "9f 7f ff 61 61 ff" (items (text [] ∷ str "a" ∷ [])) "82 60 61 61"
    ∷ reads "a1 7f 61 6b ff 01" (pairs ((str "k", number 1) ∷ [])) "a1 61 6b 01"
    ∷ reads "9f 5f 41 01 ff 41 02 ff" (items (octets "01" ∷ octets "02" ∷ [])) "82 41 01 41 02"
    ∷ [])
unfolding item_within trees_at pairs_at indefinite_trees_at indefinite_pairs_at
    parse_argument initial is_utf8 chars lib.Utf8.encode
opens_rows = refl

-- The input ends: of a number, a float, a length or a tag the whole argument is asked for, of a
-- content what is missing.
pub ends_rows : AllEqual
    (rejects "" (eof (codes "value") (Small 1)) ""
    ∷ rejects "8a" (eof (codes "value") (Small 1)) ""
    ∷ rejects "82 01" (eof (codes "value") (Small 1)) ""
    ∷ rejects "a1 01" (eof (codes "value") (Small 1)) ""
    ∷ rejects "c1" (eof (codes "value") (Small 1)) ""
    ∷ rejects "9f 01" (eof (codes "break") (Small 1)) ""
    ∷ rejects "bf 01 02" (eof (codes "break") (Small 1)) ""
    ∷ rejects "5f 41 01" (eof (codes "break") (Small 1)) ""
    ∷ rejects "62 ff" (eof (codes "str") (Small 1)) ""
    ∷ rejects "63 61 61" (eof (codes "str") (Small 1)) ""
    ∷ rejects "43" (eof (codes "bytes") (Small 3)) ""
    ∷ rejects "7f 62 61" (eof (codes "str") (Small 1)) ""
    ∷ rejects "7a 86" (eof (codes "str") (Small 4)) ""
    ∷ rejects "5b ff ff ff ff ff ff ff ff" (eof (codes "bytes") Big) ""
    ∷ rejects "1b 01 02" (eof (codes "u64") (Small 8)) ""
    ∷ rejects "39 01" (eof (codes "-u64") (Small 2)) ""
    ∷ rejects "99 00" (eof (codes "array") (Small 2)) ""
    ∷ rejects "bb 00" (eof (codes "map") (Small 8)) ""
    ∷ rejects "da 00" (eof (codes "tag") (Small 4)) ""
    ∷ rejects "fa 00" (eof (codes "f32") (Small 4)) ""
    ∷ rejects "f9" (eof (codes "f16") (Small 2)) ""
    ∷ rejects "fb 00" (eof (codes "f64") (Small 8)) ""
    ∷ rejects "82 01 62 61" (eof (codes "str") (Small 1)) ""
    ∷ rejects "3a" (eof (codes "-u64") (Small 4)) ""
    ∷ rejects "5f" (eof (codes "break") (Small 1)) ""
    ∷ rejects "7f" (eof (codes "break") (Small 1)) ""
    ∷ rejects "bf" (eof (codes "break") (Small 1)) ""
    ∷ rejects "5f 42" (eof (codes "bytes") (Small 2)) ""
    ∷ rejects "5f 42 01" (eof (codes "bytes") (Small 1)) ""
    ∷ rejects "5f 42 01 02" (eof (codes "break") (Small 1)) ""
    ∷ rejects "5f 42 01 02 43" (eof (codes "bytes") (Small 3)) ""
    ∷ rejects "5f 42 01 02 43 03" (eof (codes "bytes") (Small 2)) ""
    ∷ rejects "5f 42 01 02 43 03 04" (eof (codes "bytes") (Small 1)) ""
    ∷ rejects "5f 42 01 02 43 03 04 05" (eof (codes "break") (Small 1)) ""
    ∷ rejects "5f 43 01" (eof (codes "bytes") (Small 2)) ""
    ∷ rejects "5f 44 01" (eof (codes "bytes") (Small 3)) ""
    ∷ rejects "a1" (eof (codes "value") (Small 1)) ""
    ∷ rejects "bf 01" (eof (codes "value") (Small 1)) ""
    ∷ rejects "bf 01 02 03" (eof (codes "value") (Small 1)) ""
    ∷ rejects "59 ff ff" (eof (codes "bytes") (Small 65535)) ""
    ∷ rejects "5a 00 01 00 00" (eof (codes "bytes") Big) "" ∷ [])
unfolding item_within trees_at pairs_at indefinite_trees_at indefinite_pairs_at
    parse_argument initial is_utf8 chars lib.Utf8.encode
ends_rows = refl

-- Bytes that no continuation mends, and what they leave.
pub faults_rows : AllEqual
    (rejects "1c 00" (mismatch (codes "u64") 0x1c) "00"
    ∷ rejects "3f 00" (mismatch (codes "-u64") 0x3f) "00"
    ∷ rejects "82 1c 00" (mismatch (codes "u64") 0x1c) "00"
    ∷ rejects "5c" (mismatch (codes "bytes") 0x5c) ""
    ∷ rejects "7d 00" (mismatch (codes "str") 0x7d) "00"
    ∷ rejects "9c 00" (mismatch (codes "array") 0x9c) "00"
    ∷ rejects "bd 00" (mismatch (codes "map") 0xbd) "00"
    ∷ rejects "dc 00" (mismatch (codes "tag") 0xdc) "00"
    ∷ rejects "df 00" (mismatch (codes "tag") 0xdf) "00"
    ∷ rejects "ff" (unsupported (codes "value") 0xff) "ff"
    ∷ rejects "e0" (unsupported (codes "value") 0xe0) "e0"
    ∷ rejects "f8 14" (unsupported (codes "value") 0xf8) "f8 14"
    ∷ rejects "bf 01 ff" (unsupported (codes "value") 0xff) "ff"
    ∷ rejects "81 ff" (unsupported (codes "value") 0xff) "ff"
    ∷ rejects "5f 80 ff" (mismatch (codes "bytes") 0x80) "ff"
    ∷ rejects "5f 41 01 61 62 ff" (mismatch (codes "bytes") 0x61) "62 ff"
    ∷ rejects "7f 41 61 ff" (mismatch (codes "str") 0x41) "61 ff"
    ∷ rejects "5f 5c ff" (mismatch (codes "bytes") 0x5c) "ff"
    ∷ rejects "5f 5f ff ff" (require_length (codes "bytes") Indefinite) "ff ff"
    ∷ rejects "7f 7f ff ff" (require_length (codes "str") Indefinite) "ff ff"
    ∷ rejects "62 ff ff" (require_utf8 (codes "str")) ""
    ∷ rejects "63 ed a0 80 00" (require_utf8 (codes "str")) "00"
    ∷ rejects "7f 61 c3 61 28 ff 00" (require_utf8 (codes "str")) "00"
    ∷ rejects "61 80" (require_utf8 (codes "str")) ""
    ∷ rejects "5f 7f ff ff" (mismatch (codes "bytes") 0x7f) "ff ff"
    ∷ rejects "7f 5f ff ff" (mismatch (codes "str") 0x5f) "ff ff"
    ∷ rejects "5f 9f ff ff" (mismatch (codes "bytes") 0x9f) "ff ff"
    ∷ rejects "5f e0 ff" (mismatch (codes "bytes") 0xe0) "ff"
    ∷ rejects "5f 00 ff" (mismatch (codes "bytes") 0x00) "ff"
    ∷ rejects "5f 78" (mismatch (codes "bytes") 0x78) ""
    ∷ rejects "82 5c 00" (mismatch (codes "bytes") 0x5c) "00"
    ∷ rejects "bf 01 02 03 ff" (unsupported (codes "value") 0xff) "ff"
    ∷ rejects "bf 81 ff ff" (unsupported (codes "value") 0xff) "ff ff"
    ∷ rejects "a1 ff" (unsupported (codes "value") 0xff) "ff"
    ∷ rejects "a1 01 ff" (unsupported (codes "value") 0xff) "ff"
    ∷ rejects "c1 ff" (unsupported (codes "value") 0xff) "ff"
    ∷ rejects "62 c0 80" (require_utf8 (codes "str")) ""
    ∷ rejects "63 ed a0 80" (require_utf8 (codes "str")) ""
    ∷ rejects "64 f4 90 80 80" (require_utf8 (codes "str")) ""
    ∷ rejects "9f 62 ff ff 00 ff" (require_utf8 (codes "str")) "00 ff" ∷ [])
unfolding item_within trees_at pairs_at indefinite_trees_at indefinite_pairs_at
    parse_argument initial is_utf8 chars lib.Utf8.encode
faults_rows = refl

-- What a budget allows: one step a value, one more for an array or a map, one for a chunk.
pub budgets_rows : AllEqual
    (rejects_under 0 "00" (depth_overflow (codes "value")) "00"
    ∷ rejects_under 0 "" (depth_overflow (codes "value")) ""
    ∷ reads_under 1 "00" (number 0)
    ∷ rejects_under 1 "" (eof (codes "value") (Small 1)) ""
    ∷ rejects_under 1 "80" (depth_overflow (codes "array")) "80"
    ∷ reads_under 2 "80" (items [])
    ∷ rejects_under 1 "9c" (depth_overflow (codes "array")) "9c"
    ∷ rejects_under 1 "a0" (depth_overflow (codes "map")) "a0"
    ∷ rejects_under 2 "81 00" (depth_overflow (codes "value")) "00"
    ∷ reads_under 3 "81 00" (items (number 0 ∷ []))
    ∷ reads_under 1 "7f ff" (text [])
    ∷ rejects_under 1 "7f 61 61 ff" (depth_overflow (codes "str")) "61 61 ff"
    ∷ reads_under 2 "7f 61 61 ff" (str "a")
    ∷ rejects_under 1 "c1 00" (depth_overflow (codes "value")) "00"
    ∷ reads_under 2 "c1 00" (tag 1 (number 0))
    ∷ rejects_under 1 "5f" (eof (codes "break") (Small 1)) ""
    ∷ rejects_under 1 "5f 41 01 ff" (depth_overflow (codes "bytes")) "41 01 ff"
    ∷ rejects_under 2 "81" (depth_overflow (codes "value")) ""
    ∷ rejects_under 1 "9f" (depth_overflow (codes "array")) "9f"
    ∷ rejects_under 2 "9f 00 ff" (depth_overflow (codes "value")) "00 ff"
    ∷ reads_under 3 "9f 00 ff" (items (number 0 ∷ []))
    ∷ rejects_under 2 "a1 00 00" (depth_overflow (codes "value")) "00 00"
    ∷ reads_under 3 "a1 00 00" (pairs ((number 0, number 0) ∷ []))
    ∷ rejects_under 3 "a1 00 81 00" (depth_overflow (codes "array")) "81 00"
    ∷ rejects_under 1 "bf" (depth_overflow (codes "map")) "bf"
    ∷ rejects_under 2 "bf 00 00 ff" (depth_overflow (codes "value")) "00 00 ff"
    ∷ reads_at_any_depth "c1 c1 00" (tag 1 (tag 1 (number 0))) ∷ [])
unfolding item_within trees_at pairs_at indefinite_trees_at indefinite_pairs_at
    parse_argument initial is_utf8 chars lib.Utf8.encode
budgets_rows = refl

-- Skipping tests no text, and takes any items as chunks. What is missing is reported of a number, a
-- float and a content.
pub skipping_rows : AllEqual
    (skips "00" ""
    ∷ skips "82 01 02 03" "03"
    ∷ skips "a1 01 02 03" "03"
    ∷ skips "5f 80 ff" ""
    ∷ skips "5f 5f ff ff" ""
    ∷ skips "62 ff ff" ""
    ∷ skips "7f 61 c3 61 28 ff" ""
    ∷ skips "bf 61 61 01 61 62 9f 02 03 ff ff 00" "00"
    ∷ skips "db ff ff ff ff ff ff ff fe 6b 68 65 6c 6c 6f 20 77 6f 72 6c 64" ""
    ∷ skip_rejects "" (eof (codes "ignored-any") (Small 1)) ""
    ∷ skip_rejects "63 61 61" (eof (codes "ignored-any") (Small 1)) ""
    ∷ skip_rejects "19 00" (eof (codes "ignored-any") (Small 1)) ""
    ∷ skip_rejects "3a" (eof (codes "ignored-any") (Small 4)) ""
    ∷ skip_rejects "1a 86" (eof (codes "ignored-any") (Small 3)) ""
    ∷ skip_rejects "1b 01 02" (eof (codes "ignored-any") (Small 6)) ""
    ∷ skip_rejects "fa 00" (eof (codes "ignored-any") (Small 3)) ""
    ∷ skip_rejects "7a 86" (eof (codes "ignored-any") (Small 4)) ""
    ∷ skip_rejects "da 00" (eof (codes "tag") (Small 4)) ""
    ∷ skip_rejects "9f 01" (eof (codes "break") (Small 1)) ""
    ∷ skip_rejects "5b ff ff ff ff ff ff ff ff 00" (eof (codes "ignored-any") Big) ""
    ∷ skip_rejects "1c 00" (mismatch (codes "ignored-any") 0x1c) "1c 00"
    ∷ skip_rejects "82 1c 00" (mismatch (codes "ignored-any") 0x1c) "1c 00"
    ∷ skip_rejects "5c" (mismatch (codes "ignored-any") 0x5c) ""
    ∷ skip_rejects "9d 00" (mismatch (codes "ignored-any") 0x9d) "00"
    ∷ skip_rejects "be 00" (mismatch (codes "ignored-any") 0xbe) "00"
    ∷ skip_rejects "dc 00" (mismatch (codes "tag") 0xdc) "00"
    ∷ skip_rejects "bf 01 ff" (unsupported (codes "ignored-any") 0xff) "ff"
    ∷ skip_rejects "f8 14" (unsupported (codes "ignored-any") 0xf8) "f8 14"
    ∷ skip_rejects_under 0 "00" (depth_overflow (codes "ignored-any")) "00"
    ∷ skip_rejects_under 1 "81 00" (depth_overflow (codes "ignored-any")) "00"
    ∷ skips "84 00 f4 60 a0 00" "00"
    ∷ skips "5f 00 40 ff" ""
    ∷ skips "bf 00 00 00 00 ff 00" "00"
    ∷ skips "5f 41 01 61 62 ff" ""
    ∷ skips "9f 62 ff ff 00 ff" ""
    ∷ skips_under 1 "a0" ""
    ∷ skips_under 1 "9f ff" ""
    ∷ skips_under 1 "bf ff" ""
    ∷ skips_under 2 "a1 00 00" ""
    ∷ skip_rejects_under 1 "a1 00 00" (depth_overflow (codes "ignored-any")) "00 00"
    ∷ skip_rejects_under 1 "c1 00" (depth_overflow (codes "ignored-any")) "00"
    ∷ skip_rejects_under 1 "5f 40 ff" (depth_overflow (codes "ignored-any")) "40 ff"
    ∷ skip_rejects "5f" (eof (codes "break") (Small 1)) ""
    ∷ skip_rejects "7f 01" (eof (codes "break") (Small 1)) ""
    ∷ skip_rejects "bf" (eof (codes "break") (Small 1)) ""
    ∷ skip_rejects "bf 00" (eof (codes "ignored-any") (Small 1)) ""
    ∷ skip_rejects "a1 00" (eof (codes "ignored-any") (Small 1)) ""
    ∷ skip_rejects "c1" (eof (codes "ignored-any") (Small 1)) ""
    ∷ skip_rejects "5f 42 01" (eof (codes "ignored-any") (Small 1)) ""
    ∷ skip_rejects "82 01 62 61" (eof (codes "ignored-any") (Small 1)) ""
    ∷ skip_rejects "9a 00" (eof (codes "ignored-any") (Small 4)) ""
    ∷ skip_rejects "9a 00 00 01" (eof (codes "ignored-any") (Small 4)) ""
    ∷ skip_rejects "f9 00" (eof (codes "ignored-any") (Small 1)) ""
    ∷ skip_rejects "3c 00" (mismatch (codes "ignored-any") 0x3c) "3c 00"
    ∷ skip_rejects "7c 00" (mismatch (codes "ignored-any") 0x7c) "00"
    ∷ skip_rejects "82 5c 00" (mismatch (codes "ignored-any") 0x5c) "00"
    ∷ skip_rejects "bf 00 ff" (unsupported (codes "ignored-any") 0xff) "ff"
    ∷ skip_rejects "bf 01 02 03 ff" (unsupported (codes "ignored-any") 0xff) "ff"
    ∷ skip_rejects "c1 ff" (unsupported (codes "ignored-any") 0xff) "ff"
    ∷ skips_at_any_depth "c1 c1 00" "" ∷ [])
unfolding item_within trees_at pairs_at indefinite_trees_at indefinite_pairs_at
    parse_argument initial is_utf8 chars lib.Utf8.encode
skipping_rows = refl

-- What values and trees measure. The size counts each value once and the bytes of texts and byte
-- strings. Reading takes a step a value, one more for an array or a map, one for chunks; skipping
-- one a level. A bignum is a tag over bytes.
abbrev Measure : Type 0
Measure = Result ℕ (InputError × List ℕ)

abbrev item_at : Answer Tree → (Tree → ℕ) → Measure
item_at (Ok p) measure = Ok (measure p.0)
item_at (Err z) measure = Err z

abbrev costs : String → ℕ → ℕ → (Measure × Measure) × (Measure × Measure)
costs input steps levels = (
  (
    item_at (read_tree (Some 256) (hex input)) cost,
    item_at (skip (Some 256) (hex input)) skip_cost,
  ),
  (Ok steps, Ok levels),
)

pub measures_rows : AllEqual
    (costs "00" 1 1
    ∷ costs "80" 2 1
    ∷ costs "82 01 61 61" 3 2
    ∷ costs "a1 00 81 00" 5 3
    ∷ costs "9f 9f 00 ff ff" 5 3
    ∷ costs "c1 00" 2 2
    ∷ costs "7f ff" 1 1
    ∷ costs "7f 61 61 ff" 2 2 ∷ [])
    × AllEqual ((size (items (number 1 ∷ str "a" ∷ [])), 4)
    ∷ (size (pairs ((number 0, tag 1 null) ∷ [])), 4)
    ∷ (size (octets "01 02 03"), 4)
    ∷ (canonical_cost null, 1)
    ∷ (canonical_cost (items (number 1 ∷ str "a" ∷ [])), 3)
    ∷ (canonical_cost (pairs ((number 0, items (number 0 ∷ [])) ∷ [])), 5)
    ∷ (canonical_cost (number 18446744073709551616), 2) ∷ [])
    × AllEqual ((with_bignums (number 18446744073709551615), number 18446744073709551615)
    ∷ (with_bignums (number 18446744073709551616), tag 2 (octets "01 00 00 00 00 00 00 00 00"))
    ∷ (
      with_bignums (integer (negsuc 18446744073709551616)),
      tag 3 (octets "01 00 00 00 00 00 00 00 00"),
    ) ∷ [])
unfolding item_within trees_at pairs_at indefinite_trees_at indefinite_pairs_at
    parse_argument initial is_utf8 chars lib.Utf8.encode
measures_rows = (refl, refl, refl)

-- How deep a budget of 256 steps goes: two steps an array, one step a tag, one a level for
-- skipping.
abbrev read_under_heads : ℕ → ℕ → String → Rest
read_under_heads n first trailing =
    rest_of (parse_value (Some 256) (replicate n first ++ hex trailing))

abbrev skipped_under_heads : ℕ → ℕ → String → Rest
skipped_under_heads n first trailing = rest_of (skip (Some 256) (replicate n first ++ hex trailing))

abbrev too_deep : String → String → Rest
too_deep name rest = Err (depth_overflow (codes name), hex rest)

pub depths_of_reading : AllEqual
    ((read_under_heads 127 0x81 "80", Ok [])
    ∷ (read_under_heads 128 0x81 "80", too_deep "value" "80")
    ∷ (read_under_heads 254 0xc1 "7f 61 61 ff", Ok [])
    ∷ (read_under_heads 255 0xc1 "7f 61 61 ff", too_deep "str" "61 61 ff")
    ∷ (read_under_heads 255 0xc1 "80", too_deep "array" "80") ∷ [])
unfolding item_within trees_at pairs_at indefinite_trees_at indefinite_pairs_at
    parse_argument initial is_utf8 chars lib.Utf8.encode
depths_of_reading = refl

pub depths_of_skipping : AllEqual
    ((skipped_under_heads 255 0x81 "80", Ok [])
    ∷ (skipped_under_heads 256 0x81 "80", too_deep "ignored-any" "80")
    ∷ (skipped_under_heads 255 0xc1 "80", Ok [])
    ∷ (skipped_under_heads 255 0xc1 "7f 61 61 ff", too_deep "ignored-any" "61 61 ff") ∷ [])
unfolding item_within trees_at pairs_at indefinite_trees_at indefinite_pairs_at
    parse_argument initial is_utf8 chars lib.Utf8.encode
depths_of_skipping = refl
