-- What is seen of an array or a map that is written part by part.
use Rattle.std.specs.Prelude.{ℕ, Bool, Option}
use Rattle.cbor4ii_rw.specs.Writer.{Output}
use Rattle.cbor4ii_ser.specs.Serializing.{output}
use Rattle.cbor4ii_ser.specs.declared.collect.Collect.{Collect}
use Rattle.cbor4ii_ser.specs.declared.bounded.BoundedCollect.{BoundedCollect}

-- ---- of any number of parts, or of so many

-- how many parts are still to come; none where any number may
abbrev pub left_of : {W E : Type 0} → Collect W E → Option ℕ
left_of c = c.left

-- the parts of a collector are pairs, each a key and a value
abbrev pub is_keyed : {W E : Type 0} → Collect W E → Bool
is_keyed c = c.keyed

-- a key is written, and its value is not
abbrev pub owes : {W E : Type 0} → Collect W E → Bool
owes c = c.owes

-- what the writer reports; the first argument is how it reports it
abbrev pub collect_output : {W E : Type 0} → (W → Output) → Collect W E → Output
collect_output view c = output view c.ser.now

-- which reference a collector holds to its serializer
abbrev pub serializer_name : {W E : Type 0} → Collect W E → ℕ
serializer_name c = c.ser.ghost_name

-- ---- of so many parts

abbrev pub bounded_left : {W E : Type 0} → BoundedCollect W E → ℕ
bounded_left c = c.left

-- the parts of a bounded collector are fields, each a name and a value
abbrev pub bounded_keyed : {W E : Type 0} → BoundedCollect W E → Bool
bounded_keyed c = c.keyed

abbrev pub bounded_output : {W E : Type 0} → (W → Output) → BoundedCollect W E → Output
bounded_output view c = output view c.ser.now

abbrev pub bounded_serializer_name : {W E : Type 0} → BoundedCollect W E → ℕ
bounded_serializer_name c = c.ser.ghost_name
