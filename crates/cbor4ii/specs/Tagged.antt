-- Tagged values: a tag of one number, and the value that it tags (RFC 8949 section 3.4).
use Rattle.std.proofs.Common.{◌≡◌, ◌⊎◌, ℕ, List, drop, refl, arith}
use Rattle.std.specs.Prelude.{codes}
use Rattle.cbor4ii_items.specs.Decoding.{Reads, RejectsAt, Format, IsLawful, leaf_format}
use Rattle.cbor4ii_items.specs.Decoding.{format_by}
use Rattle.cbor4ii_items.specs.Heads.{ReadsHead, RejectsHead}
use Rattle.cbor4ii_items.specs.InputError.{InputError}
use Rattle.cbor4ii_items.specs.Sequences.{pair_format}
use Rattle.cbor4ii_items.specs.Laws.Arguments.{argument_lawful}
use Rattle.cbor4ii_items.specs.Laws.Formats.{lawful_by}
use Rattle.cbor4ii_items.specs.Laws.Sequences.{pair_lawful}
use Rattle.cbor4ii.specs.Typed.{Promise, in_words}
use Rattle.cbor4ii.specs.TypedParts.{part_of, part_lawful, container}

-- ---- the head

-- the head of a tag of this number, of any width
abbrev pub ReadsTagHead : ℕ → Reads (Unit {0})
ReadsTagHead number xs v n c = ReadsHead 6 8 xs number n × (c ≡ 0)

-- a tag whose number is another, whose head is taken
pub record OtherTag (number : ℕ) (xs : List ℕ) (err : InputError) (rest : List ℕ) : Type 0 where
  pub found : ℕ
  pub size : ℕ
  pub head : ReadsHead 6 8 xs found size
  pub other : found ≡ number → ⊥
  pub rejected : err ≡ in_words (codes "expected another tag")
  pub left : rest ≡ drop size xs

-- a tag's head is rejected, or its number is another
abbrev pub RejectsTagHead : ℕ → RejectsAt
RejectsTagHead number xs budget err rest =
    RejectsHead (codes "tag") 6 8 xs err rest ⊎ OtherTag number xs err rest

-- the head of a tag of this number
abbrev pub tag_head : ℕ → Format (Unit {0})
tag_head number = leaf_format (ReadsTagHead number) (RejectsTagHead number)

pub tag_head_lawful : (number : ℕ) → IsLawful (tag_head number)
tag_head_lawful number =
    let h = argument_lawful (codes "tag") 6 8 (omega arith) in
    record {
      one = λ xs v w n m c d p q.
          let e = h.one xs number number n m c d p q in (e.0, e.1, refl);
      within = λ xs v. h.within xs number;
      positive = λ some xs v. h.positive some xs number;
      alone = λ closed xs ys v. h.alone closed xs ys number;
    }

-- ---- the value after it

-- a value after the head of its tag, of which nothing is kept
abbrev pub after_tag : {V : Type 0} → V → Unit {0} × V
after_tag v = (tt, v)

-- the head of this tag, and then the value
abbrev pub tagged_format : {V : Type 0} → ℕ → Format V → Format V
tagged_format number s = format_by after_tag (pair_format (tag_head number) s)

pub tagged_lawful : {V : Type 0} (number : ℕ) (s : Format V) → IsLawful s
    → IsLawful (tagged_format number s)
tagged_lawful number s h =
    lawful_by after_tag (pair_format (tag_head number) s)
    (pair_lawful (tag_head number) s (tag_head_lawful number) h)

-- a tag of this number before a value of a type, exact where the type is
abbrev pub typed_tagged : {V : Type 0} → ℕ → Promise V → Promise V
typed_tagged number p =
    container p.exact (tagged_format number (part_of p)) refl
    (λ is. tagged_lawful number (part_of p) (part_lawful p is))
