-- What a reader over a connection reports: none of its bytes, but how many may still come.
use Rattle.std.specs.Prelude.{ℕ, ◌+◌, ◌-◌, List, length, drop, None, Some, false}
use Rattle.cbor4ii_rw.specs.View.{View}
use Rattle.cbor4ii_vectors.specs.declared.connection.Connected.{Connected}

-- the bytes that were received and not taken
abbrev pub ready_bytes : {C E : Type 0} → Connected C E → List ℕ
ready_bytes reader = drop reader.start reader.ready.items

abbrev pub connected_view : {C E : Type 0} → Connected C E → View
connected_view reader = record {
  known = None;
  bound = reader.left + (length reader.ready.items - reader.start);
  advanceable = length reader.ready.items - reader.start;
  budget = Some reader.steps;
  failures = reader.failures;
  taken = None;
  zero_copy = false;
  remembers = false;
  ends_at = None;
}
