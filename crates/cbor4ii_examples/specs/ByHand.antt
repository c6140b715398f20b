-- A map of two pairs that is written by hand, and one that is read by hand.
use Rattle.std.specs.Prelude.{◌≡◌, ◌≢◌, ◌⊎◌, ℕ, List, [], ◌∷◌, ◌++◌, ◌+◌, drop, Option, None, Some}
use Rattle.std.specs.Prelude.{true, codes, take, max}
use Rattle.std.specs.declared.alloc.Global.{Global}
use Rattle.std.specs.declared.string.String.{String}
use Rattle.cbor4ii_items.specs.Decoding.{Reads}
use Rattle.cbor4ii_items.specs.Head.{indefinite_head}
use Rattle.cbor4ii_items.specs.Lengths.{ReadsLength}
use Rattle.cbor4ii_items.specs.Numbers.{ReadsUnsigned, shortest_head}
use Rattle.cbor4ii_items.specs.Containers.{ReadsTag}
use Rattle.cbor4ii_items.specs.Sequences.{ReadsElements, ReadsPair, Unbroken}
use Rattle.cbor4ii_items.specs.Sequences.{ReadsIndefiniteElements}
use Rattle.cbor4ii_items.specs.Strings.{definite_string, ReadsTextAs, text_content}
use Rattle.cbor4ii_examples.specs.declared.by_hand.Record.{Record}

-- ---- what is written

-- the number under "id", and under "key" the bytes with the tag 42
abbrev pub written_record : ℕ → List ℕ → List ℕ
written_record id key = shortest_head 5 2 ++ (definite_string 3 (codes "id")
    ++ (shortest_head 0 id ++ (definite_string 3 (codes "key")
    ++ (shortest_head 6 42 ++ definite_string 2 key))))

-- ---- what is read

-- what stands under a key: a number, or a name
pub data Part : Type 0 where
  number : ℕ → Part
  named : String Global → Part

-- under "id" a number stands, and under "name" a text with a tag
abbrev pub ReadsUnderKey : List ℕ → Reads Part
ReadsUnderKey key xs (number k) n c = (key ≡ codes "id") × ReadsUnsigned 8 xs k n c
ReadsUnderKey key xs (named text) n c =
    (key ≡ codes "name") × (tag : ℕ) × ReadsTag (ReadsTextAs text_content) xs tag text n c

-- a key, and what stands under it
abbrev pub ReadsPart : Reads Part
ReadsPart xs part n c =
    (key : String Global)
    × ReadsPair (ReadsTextAs text_content) (ReadsUnderKey (text_content key)) xs (key, part) n c

-- the number and the name that came so far
pub record Seen : Type 0 where
  pub id : Option ℕ
  pub name : Option (String Global)

-- neither came yet
abbrev pub none_seen : Seen
none_seen = record { id = None; name = None }

-- one more came, in the place of an earlier one
abbrev pub and_seen : Seen → Part → Seen
and_seen seen (number k) = record seen { id = Some k }
and_seen seen (named text) = record seen { name = Some text }

-- of parts that came one after another the last ones count
abbrev pub seen_after : Seen → List Part → Seen
seen_after seen [] = seen
seen_after seen (part ∷ parts) = seen_after (and_seen seen part) parts

-- a whole map of indefinite length, of pairs that are known, with the last number and name of them
pub record ReadsMap (xs : List ℕ) (seen : Seen) (n c : ℕ) : Type 0 where
  pub parts : List Part
  pub map : ReadsIndefiniteElements 5 ReadsPart true xs parts n c
  pub last : seen ≡ seen_after none_seen parts

-- a map of indefinite length up to a key that is not known, and the key
pub record ReadsOtherKey (xs : List ℕ) (n c : ℕ) : Type 0 where
  -- the first byte of the map
  pub begins : take 1 xs ≡ indefinite_head 5 ∷ []
  -- the pairs before the key, which are known
  pub parts : List Part
  pub between : ℕ
  pub between_cost : ℕ
  pub before : ReadsElements (Unbroken ReadsPart) (drop 1 xs) parts between between_cost
  -- the key, which is none of the two
  pub key : String Global
  pub size : ℕ
  pub cost : ℕ
  pub read : ReadsTextAs text_content (drop between (drop 1 xs)) key size cost
  pub other : (text_content key ≢ codes "id") × (text_content key ≢ codes "name")
  -- all of these are taken, at the greater cost
  pub taken : n ≡ 1 + (between + size)
  pub greater : c ≡ max between_cost cost

-- A map is no record by its head, which counts its pairs, or by another key; or it is whole, and
-- the number or the name is missing.
pub data ReadsNoRecord (xs : List ℕ) (n c : ℕ) : Type 0 where
  counted : (pairs : ℕ) → ReadsLength 5 xs (Some pairs) n c → ReadsNoRecord xs n c
  other_key : ReadsOtherKey xs n c → ReadsNoRecord xs n c
  part_missing : (seen : Seen) → ReadsMap xs seen n c → (seen.id ≡ None) ⊎ (seen.name ≡ None)
      → ReadsNoRecord xs n c

-- a record, from a map that has both, and none from another one
abbrev pub ReadsRecord : Reads (Option Record)
ReadsRecord xs (Some r) n c = ReadsMap xs (record { id = Some r.id; name = Some r.name }) n c
ReadsRecord xs None n c = ReadsNoRecord xs n c
