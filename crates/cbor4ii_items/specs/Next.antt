-- The next byte, which stays, and whether another part of an array or a map follows (RFC 8949
-- sections 3 and 3.2.2).
use Rattle.std.specs.Prelude.{◌≡◌, ℕ, ◌-◌, List, [], ◌∷◌, take, Bool, true, false, not, Option}
use Rattle.std.specs.Prelude.{Some, None, nat_lt}
use Rattle.cbor4ii_rw.specs.declared.error.Len.TheVariants.{Small}
use Rattle.cbor4ii_items.specs.Decoding.{Reads, RejectsAt, Format, looking_format}
use Rattle.cbor4ii_items.specs.InputError.{eof}
use Rattle.cbor4ii_items.specs.Strings.{ReadsBreak, RejectsBreak}

-- ---- the next byte

-- the first byte, and none is taken
abbrev pub ReadsNext : Reads ℕ
ReadsNext xs b n c = (take 1 xs ≡ b ∷ []) × (n ≡ 0) × (c ≡ 0)

-- no byte is left
abbrev pub RejectsNext : List ℕ → RejectsAt
RejectsNext name xs budget err rest = (xs ≡ []) × (err ≡ eof name (Small 1)) × (rest ≡ [])

abbrev pub next_format : List ℕ → Format ℕ
next_format name = looking_format ReadsNext (RejectsNext name)

-- ---- whether a part follows

-- Where parts are counted, one follows while some are left, and no byte is taken. Else a break is
-- taken, and another byte begins a part and stays.
-- Whether a part follows, by what is left of the length.
abbrev pub ReadsFollows : Option ℕ → Reads Bool
ReadsFollows (Some left) xs more n c = (more ≡ nat_lt 0 left) × (n ≡ 0) × (c ≡ 0)
ReadsFollows None xs more n c = ReadsBreak xs (not more) n c

-- what is left of the length then: one part fewer, and none after a break
abbrev pub length_left : Option ℕ → Bool → Option ℕ
length_left (Some left) more = Some (left - 1)
length_left None true = None
length_left None false = Some 0

abbrev pub follows_format : Option ℕ → Format Bool
follows_format len = looking_format (ReadsFollows len) RejectsBreak
