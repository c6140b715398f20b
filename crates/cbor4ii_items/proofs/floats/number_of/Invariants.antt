use Rattle.std.proofs.Common.{◌≡◌, ◌≤◌, ◌<◌, ◌^◌, length, take}
use Rattle.cbor4ii_items.specs.Magnitude.{number_of}
use Rattle.cbor4ii_items.proofs.floats.number_of.Given as goal

-- the number of the bytes so far
abbrev pub invariant-loop-byte : goal.invariant-loop-byte
invariant-loop-byte l = record {
  within : l.byte-index ≤ length l.bytes;
  value : l.number ≡ number_of (take l.byte-index l.bytes);
  small : l.number < 256 ^ l.byte-index;
}
