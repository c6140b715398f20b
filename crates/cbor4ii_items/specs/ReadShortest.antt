-- Shortest heads, and strings after them, read from the beginning of bytes: what the decoders do,
-- without the reader.
use Rattle.std.specs.Prelude.{ℕ, ◌%◌, ◌==◌, List, [], ◌∷◌, Bool, false, Err, nat_le, if◌then◌else◌}
use Rattle.cbor4ii_rw.specs.declared.error.Len.TheVariants.{Small}
use Rattle.cbor4ii_items.specs.Head.{indefinite_head, additional, shortest_width}
use Rattle.cbor4ii_items.specs.InputError.{eof, not_canonical}
use Rattle.cbor4ii_items.specs.Reading.{Reading, give, reject, ◌>=>◌}
use Rattle.cbor4ii_items.specs.ReadHead.{head_at}
use Rattle.cbor4ii_items.specs.ReadStrings.{content_on}
use Rattle.cbor4ii_items.specs.Shortest.{canonical_name}

-- the byte begins a string, an array or a map of indefinite length
abbrev pub is_indefinite_head : ℕ → ℕ → Bool
is_indefinite_head major b =
    if nat_le 2 major then (if nat_le major 5 then b == indefinite_head major else false) else false

-- the argument of a head that begins with b, where it is the shortest
abbrev pub shortest_by : ℕ → ℕ → Reading ℕ
shortest_by b n =
    if (b % 32) == additional (shortest_width n) n then give n else reject
    (not_canonical canonical_name)

-- a head that begins with b
abbrev pub shortest_from : List ℕ → ℕ → ℕ → List ℕ → Reading ℕ
shortest_from name major b bs =
    if is_indefinite_head major b then (λ xs. Err (not_canonical canonical_name, bs))
    else (head_at name major 8 >=> shortest_by b)

-- a shortest head of this major type
abbrev pub shortest_at : List ℕ → ℕ → Reading ℕ
shortest_at name major [] = Err (eof name (Small 1), [])
shortest_at name major (b ∷ bs) = shortest_from name major b bs (b ∷ bs)

-- a shortest head, and as many bytes as it says
abbrev pub shortest_string_at : List ℕ → ℕ → Reading (List ℕ)
shortest_string_at name major = shortest_at name major >=> λ n. content_on name n []
