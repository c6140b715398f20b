-- Trees: one for each way in which bytes can be an encoded data item of RFC 8949 sections 3.1 to
-- 3.3. A tree keeps the width of each head and whether a length was given, so that it has one
-- encoding.
use Rattle.std.specs.Prelude.{◌≡◌, ℕ, suc, ◌^◌, ◌<◌, List, [], ◌∷◌, ◌++◌, length, IsUtf8}
use Rattle.std.specs.Int.{bytes_high_first}
use Rattle.cbor4ii_items.specs.Head.{Width, HeadFits, head, indefinite_head, break}
use Rattle.cbor4ii_items.specs.Initial.{Sign, sign_major, Kind, byte_string, text_string}
use Rattle.cbor4ii_items.specs.Initial.{kind_major, Simple, simple_byte, Precision, precision_byte}
use Rattle.cbor4ii_items.specs.Initial.{precision_bytes}

mutual
  pub data Tree : Type 0 where
    int : Sign → ℕ → Width → Tree
    string : Kind → Width → List ℕ → Tree
    chunked : Kind → Trees → Tree
    array : Width → Trees → Tree
    array_indefinite : Trees → Tree
    map_of : Width → Pairs → Tree
    map_indefinite : Pairs → Tree
    tagged : ℕ → Width → Tree → Tree
    simple : Simple → Tree
    bits : Precision → ℕ → Tree

  pub data Trees : Type 0 where
    no_trees : Trees
    tree : Tree → Trees → Trees

  pub data Pairs : Type 0 where
    no_pairs : Pairs
    pair : Tree → Tree → Pairs → Pairs

abbrev pub count : Trees → ℕ
count no_trees = 0
count (tree t ts) = suc (count ts)

abbrev pub pair_count : Pairs → ℕ
pair_count no_pairs = 0
pair_count (pair k v ps) = suc (pair_count ps)

-- The argument of a string's head counts bytes, of an array's items, of a map's pairs (section
-- 3.1); without a length the parts end at a break (section 3.2).
-- The bytes of a tree: heads and parts in order.
abbrev mutual
  pub bytes : Tree → List ℕ
  bytes (int s n w) = head (sign_major s) n w
  bytes (string k w content) = head (kind_major k) (length content) w ++ content
  bytes (chunked k ts) = indefinite_head (kind_major k) ∷ (bytes_all ts ++ break ∷ [])
  bytes (array w ts) = head 4 (count ts) w ++ bytes_all ts
  bytes (array_indefinite ts) = indefinite_head 4 ∷ (bytes_all ts ++ break ∷ [])
  bytes (map_of w ps) = head 5 (pair_count ps) w ++ bytes_pairs ps
  bytes (map_indefinite ps) = indefinite_head 5 ∷ (bytes_pairs ps ++ break ∷ [])
  bytes (tagged n w t) = head 6 n w ++ bytes t
  bytes (simple s) = simple_byte s ∷ []
  bytes (bits p n) = precision_byte p ∷ bytes_high_first (precision_bytes p) n

  pub bytes_all : Trees → List ℕ
  bytes_all no_trees = []
  bytes_all (tree t ts) = bytes t ++ bytes_all ts

  pub bytes_pairs : Pairs → List ℕ
  bytes_pairs no_pairs = []
  bytes_pairs (pair k v ps) = bytes k ++ (bytes v ++ bytes_pairs ps)

-- A tree is loose where every head in it fits (section 3). It is what skipping accepts.
abbrev mutual
  pub Loose : Tree → Type 0
  Loose (int s n w) = HeadFits w n
  Loose (string k w content) = HeadFits w (length content)
  Loose (chunked k ts) = LooseAll ts
  Loose (array w ts) = HeadFits w (count ts) × LooseAll ts
  Loose (array_indefinite ts) = LooseAll ts
  Loose (map_of w ps) = HeadFits w (pair_count ps) × LoosePairs ps
  Loose (map_indefinite ps) = LoosePairs ps
  Loose (tagged n w t) = HeadFits w n × Loose t
  Loose (simple s) = Unit {0}
  Loose (bits p n) = n < 256 ^ precision_bytes p

  pub LooseAll : Trees → Type 0
  LooseAll no_trees = Unit {0}
  LooseAll (tree t ts) = Loose t × LooseAll ts

  pub LoosePairs : Pairs → Type 0
  LoosePairs no_pairs = Unit {0}
  LoosePairs (pair k v ps) = Loose k × Loose v × LoosePairs ps

-- The chunks of a string without a length are strings of its kind with a length (section 3.2.3).
abbrev pub IsChunk : Kind → Tree → Type 0
IsChunk k (string j w content) = j ≡ k
IsChunk k _ = ⊥

abbrev pub AreChunks : Kind → Trees → Type 0
AreChunks k no_trees = Unit {0}
AreChunks k (tree t ts) = IsChunk k t × AreChunks k ts

-- the contents of the chunks, joined
abbrev pub joined_chunks : Trees → List ℕ
joined_chunks no_trees = []
joined_chunks (tree (string k w content) ts) = content ++ joined_chunks ts
joined_chunks (tree _ ts) = joined_chunks ts

-- A text is UTF-8 (section 3.1, major type 3).
abbrev pub TextIsUtf8 : Kind → List ℕ → Type 0
TextIsUtf8 byte_string content = Unit {0}
TextIsUtf8 text_string content = IsUtf8 content

-- This is all that a value's chunks owe while bytes are missing.
-- Every string without a length joins chunks of its kind.
abbrev mutual
  pub Joins : Tree → Type 0
  Joins (int s n w) = Unit {0}
  Joins (string k w content) = Unit {0}
  Joins (chunked k ts) = AreChunks k ts
  Joins (array w ts) = JoinsAll ts
  Joins (array_indefinite ts) = JoinsAll ts
  Joins (map_of w ps) = JoinsPairs ps
  Joins (map_indefinite ps) = JoinsPairs ps
  Joins (tagged n w t) = Joins t
  Joins (simple s) = Unit {0}
  Joins (bits p n) = Unit {0}

  pub JoinsAll : Trees → Type 0
  JoinsAll no_trees = Unit {0}
  JoinsAll (tree t ts) = Joins t × JoinsAll ts

  pub JoinsPairs : Pairs → Type 0
  JoinsPairs no_pairs = Unit {0}
  JoinsPairs (pair k v ps) = Joins k × Joins v × JoinsPairs ps

-- A text in chunks is tested as a whole: section 3.2.3 asks it of each chunk, and this codec does
-- not, so a character may stand across two chunks.
-- Every string without a length joins chunks of its kind, and every text is UTF-8.
abbrev mutual
  pub SoundStrings : Tree → Type 0
  SoundStrings (int s n w) = Unit {0}
  SoundStrings (string k w content) = TextIsUtf8 k content
  SoundStrings (chunked k ts) = AreChunks k ts × TextIsUtf8 k (joined_chunks ts)
  SoundStrings (array w ts) = SoundStringsAll ts
  SoundStrings (array_indefinite ts) = SoundStringsAll ts
  SoundStrings (map_of w ps) = SoundStringsPairs ps
  SoundStrings (map_indefinite ps) = SoundStringsPairs ps
  SoundStrings (tagged n w t) = SoundStrings t
  SoundStrings (simple s) = Unit {0}
  SoundStrings (bits p n) = Unit {0}

  pub SoundStringsAll : Trees → Type 0
  SoundStringsAll no_trees = Unit {0}
  SoundStringsAll (tree t ts) = SoundStrings t × SoundStringsAll ts

  pub SoundStringsPairs : Pairs → Type 0
  SoundStringsPairs no_pairs = Unit {0}
  SoundStringsPairs (pair k v ps) = SoundStrings k × SoundStrings v × SoundStringsPairs ps

-- A tree is plain where it is loose and its strings are sound. It is what reading a value accepts.
abbrev pub Plain : Tree → Type 0
Plain t = Loose t × SoundStrings t
