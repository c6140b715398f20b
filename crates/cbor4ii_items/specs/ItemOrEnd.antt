-- What comes next in a sequence of items (RFC 8742): an item, or the end of the input.
use Rattle.std.specs.Prelude.{◌≡◌, ◌≤◌, [], ◌∷◌, length, Bool, true, false, Option, None, Some, Ok}
use Rattle.cbor4ii_items.specs.Containers.{SameOption}
use Rattle.cbor4ii_items.specs.Decoding.{Format, Reads, RejectsAt}
use Rattle.cbor4ii_items.specs.Reading.{Reading}

-- no byte is left, and none is taken; or an item of the type begins what is left
abbrev pub ReadsItemOrEnd : {V : Type 0} → Reads V → Reads (Option V)
ReadsItemOrEnd reads xs None n c = (xs ≡ []) × (n ≡ 0) × (c ≡ 0)
ReadsItemOrEnd reads xs (Some v) n c = (1 ≤ length xs) × reads xs v n c

-- some byte is left, and the type rejects it
abbrev pub RejectsItemOrEnd : RejectsAt → RejectsAt
RejectsItemOrEnd rejects xs budget err rest = (1 ≤ length xs) × rejects xs budget err rest

abbrev pub item_or_end : {V : Type 0} → Format V → Format (Option V)
item_or_end s = record {
  reads = ReadsItemOrEnd s.reads;
  same = SameOption s.same;
  rejects = RejectsItemOrEnd s.rejects;
  begins = RejectsItemOrEnd s.begins;
  never_empty = false;
  owned = s.owned;
  takes_memory = s.takes_memory;
  closed = false;
}

-- whether no byte is left
abbrev pub end_at : Reading Bool
end_at [] = Ok (true, [])
end_at (b ∷ bs) = Ok (false, b ∷ bs)
