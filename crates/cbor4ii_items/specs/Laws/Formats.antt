-- A type that is read as its part has its part's laws.
use Rattle.cbor4ii_items.specs.Decoding.{Format, IsLawful, format_by, taking_memory}

pub lawful_by : {U V : Type 0} (part : V → U) (s : Format U) → IsLawful s
    → IsLawful (format_by part s)
lawful_by part s h = record {
  one = λ xs v w. h.one xs (part v) (part w);
  within = λ xs v. h.within xs (part v);
  positive = λ e xs v. h.positive e xs (part v);
  alone = λ e xs ys v. h.alone e xs ys (part v);
}

pub lawful_in_memory : {V : Type 0} (s : Format V) → IsLawful s → IsLawful (taking_memory s)
lawful_in_memory s h =
    record { one = h.one; within = h.within; positive = h.positive; alone = h.alone }
