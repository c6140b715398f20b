-- Strings, read from the beginning of bytes: what the decoders do, without the reader.
use Rattle.std.specs.Prelude.{ℕ, zero, suc, ◌-◌, ◌==◌, List, [], ◌++◌, Bool, true, false, length}
use Rattle.std.specs.Prelude.{take, drop, Option, Some, None, Ok, Err, nat_lt, if◌then◌else◌, codes}
use Rattle.cbor4ii_rw.specs.declared.error.Len.TheVariants.{Indefinite}
use Rattle.cbor4ii_items.specs.Head.{break}
use Rattle.cbor4ii_items.specs.InputError.{eof, require_length, depth_overflow, len_of}
use Rattle.cbor4ii_items.specs.Reading.{Reading, give, reject, peek_at, ◌>=>◌}
use Rattle.cbor4ii_items.specs.ReadHead.{length_at}

-- ---- content of definite length

-- Where fewer are left, nothing is left then, and the error says how many are missing.
-- So many bytes are read, after a content.
abbrev pub content_on : List ℕ → ℕ → List ℕ → Reading (List ℕ)
content_on name count content xs =
    if nat_lt (length xs) count then Err (eof name (len_of (count - length xs)), [])
    else Ok (content ++ take count xs, drop count xs)

-- ---- breaks

-- a break, which is taken, or another byte, which stays
abbrev pub break_by : ℕ → Reading Bool
break_by b xs = if b == break then Ok (true, drop 1 xs) else Ok (false, xs)

abbrev pub break_at : Reading Bool
break_at = peek_at (codes "break") 1 >=> break_by

-- ---- chunks

-- a chunk's content after what came before it, by its length
abbrev pub chunk_by : List ℕ → List ℕ → Option ℕ → Reading (List ℕ)
chunk_by name content None = reject (require_length name Indefinite)
chunk_by name content (Some count) = content_on name count content

abbrev pub chunk_inside_at : List ℕ → ℕ → List ℕ → Reading (List ℕ)
chunk_inside_at name major content = length_at name major >=> chunk_by name content

-- a chunk under one step
abbrev pub chunk_at : List ℕ → ℕ → Option ℕ → List ℕ → Reading (List ℕ)
chunk_at name major None content = chunk_inside_at name major content
chunk_at name major (Some zero) content = reject (depth_overflow name)
chunk_at name major (Some (suc left)) content = chunk_inside_at name major content

-- at most so many chunks, and a break
abbrev pub chunks_on : ℕ → List ℕ → ℕ → Option ℕ → List ℕ → Reading (List ℕ)
chunks_on zero name major budget content = give content
chunks_on (suc more) name major budget content =
    break_at >=> λ ended. if ended then give content
    else (chunk_at name major budget content >=> chunks_on more name major budget)

-- chunks up to a break: each takes a byte
abbrev pub chunks_at : List ℕ → ℕ → Option ℕ → List ℕ → Reading (List ℕ)
chunks_at name major budget content xs = chunks_on (suc (length xs)) name major budget content xs

-- ---- strings

abbrev pub string_by : List ℕ → ℕ → Option ℕ → Option ℕ → Reading (List ℕ)
string_by name major budget None = chunks_at name major budget []
string_by name major budget (Some count) = content_on name count []

-- a string of this major type
abbrev pub string_at : List ℕ → ℕ → Option ℕ → Reading (List ℕ)
string_at name major budget = length_at name major >=> string_by name major budget
