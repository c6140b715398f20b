-- Items that are kept as their bytes, and that reading a value accepts.
use Rattle.std.specs.Prelude.{◌≡◌, ℕ, List, take, true}
use Rattle.cbor4ii_items.specs.Decoding.{Format}
use Rattle.cbor4ii_tree.specs.declared.{plain_raw.PlainRawValue.PlainRawValue, value.Value.Value}
use Rattle.cbor4ii_tree.specs.{Calls.Promises.value_format, Calls.Raw.{raw_content, raw_place}}
use Rattle.cbor4ii_tree.specs.Calls.ReadingRejects.{ReadingRejects}

-- the bytes of a kept item that reading accepts
abbrev pub plain_raw_content : PlainRawValue → List ℕ
plain_raw_content p = raw_content p.0

-- where it stands
abbrev pub plain_raw_place : PlainRawValue → ℕ × ℕ
plain_raw_place p = raw_place p.0

-- the first n bytes are read as a value, and are what is kept
abbrev pub ReadsPlainRaw : List ℕ → PlainRawValue → ℕ → ℕ → Type 0
ReadsPlainRaw xs p n c = (v : Value) × (value_format.reads xs v n c ×
    (plain_raw_content p ≡ take n xs))

abbrev pub plain_raw_format : Format PlainRawValue
plain_raw_format = record {
  reads = ReadsPlainRaw;
  same = λ p q. plain_raw_content p ≡ plain_raw_content q;
  rejects = ReadingRejects;
  begins = ReadingRejects;
  never_empty = true;
  owned = true;
  takes_memory = true;
  closed = true;
}
