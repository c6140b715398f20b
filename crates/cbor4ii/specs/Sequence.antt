-- What arrays and maps share, and arrays that are read as vectors.
use Rattle.std.proofs.Common.{ℕ, ◌<◌, arith, List}
use Rattle.cbor4ii_items.specs.Decoding.{Format, IsLawful}
use Rattle.cbor4ii_items.specs.Sequences.{inside_of}
use Rattle.cbor4ii_items.specs.Laws.Sequences.{sequence_one, sequence_within, sequence_positive}
use Rattle.cbor4ii.specs.Stepped.{stepped_format}
use Rattle.cbor4ii.specs.Typed.{not_exact}

-- the major type of arrays is below 8, and likewise that of maps
pub four_small : 4 < 8
four_small = omega arith

pub five_small : 5 < 8
five_small = omega arith

-- parts after a head, under a step by this name
abbrev pub sequence_of : {P W : Type 0} → (W → List P) → List ℕ → List ℕ → ℕ → Format P
    → Format W
sequence_of items step name major s = stepped_format step (inside_of items name major s)

pub sequence_of_lawful : {P W : Type 0} (items : W → List P) (step name : List ℕ) (major : ℕ)
    → major < 8 → (s : Format P) → IsLawful s → IsLawful (sequence_of items step name major s)
sequence_of_lawful items step name major small s h = record {
  one = λ xs v w.
      sequence_one major small s.reads s.never_empty s.same h.one xs (items v) (items w);
  within = λ xs v. sequence_within major small s.reads s.never_empty h.within xs (items v);
  positive = λ e xs v. sequence_positive major small s.reads s.never_empty xs (items v);
  alone = not_exact;
}
