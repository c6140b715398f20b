-- Lengths, items after a head, and sequences are read back from what is written.
use Rattle.std.proofs.Common.{◌≡◌, ℕ, ◌+◌, ◌<◌, ◌^◌, List, [], ◌∷◌, ◌++◌, length, drop, Bool, Some}
use Rattle.std.proofs.Common.{None, inl, refl, sym, subst, arith, append_assoc}
use Rattle.std.proofs.Common.{length-append, rules}
use Rattle.std.specs.Prelude.{All}
use Rattle.std.proofs.lemmas.List.Elements.{All-head, All-tail}
use Rattle.std.proofs.Math.Seq.{drop-append_seam}
use Rattle.cbor4ii_items.specs.Decoding.{Reads}
use Rattle.cbor4ii_items.specs.Head.{eight}
use Rattle.cbor4ii_items.specs.Heads.{ReadsHead}
use Rattle.cbor4ii_items.specs.Lengths.{ReadsLength}
use Rattle.cbor4ii_items.specs.Maybe.{ReadsMaybe}
use Rattle.cbor4ii_items.specs.Containers.{ReadsTag}
use Rattle.cbor4ii_items.specs.Numbers.{shortest_head}
use Rattle.cbor4ii_items.specs.ReadBack.{ReadsBack, greatest_part_cost, pair_cost}
use Rattle.cbor4ii_items.specs.SequenceBytes.{items_bytes, pair_bytes}
use Rattle.cbor4ii_items.specs.Sequences.{ReadsElements, ReadsDefiniteElements, ReadsSequence}
use Rattle.cbor4ii_items.specs.Sequences.{ReadsPair}
use Rattle.cbor4ii_items.specs.Strings.{open_head}
use Rattle.cbor4ii_items.specs.Laws.NumbersBack.{head_back}

pub length_back : (major len : ℕ) → len < 2 ^ 64
    → ReadsBack (ReadsLength major) (shortest_head major len) (Some len) 0
length_back major len h rest = (head_back major eight len h rest, refl)

pub indefinite_back : (major : ℕ) → ReadsBack (ReadsLength major) (open_head major) None 0
indefinite_back major rest = (refl, refl, refl)

-- bytes after a prefix, and others after them
pub record StandsBetween (prefix bytes rest : List ℕ) : Type 0 where
  pub whole : (prefix ++ bytes) ++ rest ≡ prefix ++ (bytes ++ rest)
  pub left : drop (length prefix) ((prefix ++ bytes) ++ rest) ≡ bytes ++ rest

pub stands_between : (prefix bytes rest : List ℕ) → StandsBetween prefix bytes rest
stands_between prefix bytes rest = search (rules, append_assoc, drop-append_seam)

-- a head of eight bytes of argument at most, whatever follows it
pub head_before : (major k : ℕ) (bytes rest : List ℕ) → k < 2 ^ 64
    → ReadsHead major 8 ((shortest_head major k ++ bytes) ++ rest) k
    (length (shortest_head major k))
head_before major k bytes rest h = search (rules, stands_between, head_back, eight)

-- what is read back, after a prefix
item_after : {V : Type 0} (reads : Reads V) (prefix bytes : List ℕ) (v : V) (cost : ℕ)
    → ReadsBack reads bytes v cost
    → (rest : List ℕ) → reads (drop (length prefix) ((prefix ++ bytes) ++ rest)) v
    (length bytes) cost
item_after reads prefix bytes v cost back rest = search (rules, stands_between)

-- ---- items after a head

module _ {V : Type 0} (reads : Reads V) (bytes : List ℕ) (v : V) (cost : ℕ)
    (back : ReadsBack reads bytes v cost) where
  pub tag_back : (number : ℕ) → number < 2 ^ 64 → (rest : List ℕ)
      → let tagged =
      shortest_head 6 number ++ bytes in
      ReadsTag reads (tagged ++ rest) number v (length tagged) cost
  tag_back number h rest =
      let start = shortest_head 6 number in
      record {
        before = length start;
        head = head_before 6 number bytes rest h;
        count = length bytes;
        item = item_after reads start bytes v cost back rest;
        bytes = length-append start bytes;
      }

  pub some_back : ReadsBack (ReadsMaybe reads) (shortest_head 4 1 ++ bytes) (Some v) cost
  some_back rest = search (rules, head_before, item_after, length-append)

pub none_back : {V : Type 0} (reads : Reads V)
    → ReadsBack (ReadsMaybe reads) (shortest_head 4 0) None 0
none_back reads rest = (head_back 4 eight 0 (omega arith) rest, refl)

-- ---- sequences

module _ {P : Type 0} (reads : Reads P) (bytes : P → List ℕ) (cost : P → ℕ) where
  parts_back : (ps : List P) → All (λ p. ReadsBack reads (bytes p) p (cost p)) ps → (rest : List ℕ)
      → ReadsElements reads (items_bytes bytes ps ++ rest) ps (length (items_bytes bytes ps))
      (greatest_part_cost cost ps)
  parts_back [] back rest = (refl, refl)
  parts_back (p ∷ ps) back rest =
      let P : P → Type 0 = λ q. ReadsBack reads (bytes q) q (cost q) in
      let others = items_bytes bytes ps in
      let n = length (bytes p) in
      let b = stands_between (bytes p) others rest in
      let tail = parts_back ps (All-tail P p ps back) rest in (
        n,
        cost p,
        length others,
        greatest_part_cost cost ps,
        subst (λ zs. reads zs p n (cost p)) (sym b.whole) (All-head P p ps back (others ++ rest)),
        subst (λ zs. ReadsElements reads zs ps (length others) (greatest_part_cost cost ps))
            (sym b.left) tail,
        length-append (bytes p) others,
        refl,
      )

  pub sequence_back : (major : ℕ) (never_empty : Bool) (ps : List P) → length ps < 2 ^ 64
      → All (λ p. ReadsBack reads (bytes p) p (cost p)) ps
      → ReadsBack (ReadsSequence major reads never_empty)
      (shortest_head major (length ps) ++ items_bytes bytes ps) ps (1 + greatest_part_cost cost ps)
  sequence_back major never_empty ps h back rest =
      let start = shortest_head major (length ps) in
      let inside = items_bytes bytes ps in
      let parts = subst (λ zs. ReadsElements reads zs ps (length inside)
      (greatest_part_cost cost ps))
      (sym (stands_between start inside rest).left) (parts_back ps back rest) in
      let counted : ReadsDefiniteElements major reads ((start ++ inside) ++ rest) ps
      (length (start ++ inside)) (greatest_part_cost cost ps) =
      record {
        before = length start;
        head = head_before major (length ps) inside rest h;
        between = length inside;
        parts = parts;
        size = length-append start inside;
      } in
      (greatest_part_cost cost ps, inl counted, refl)

pub pair_back : {K V : Type 0} (key_reads : Reads K) (value_reads : Reads V)
    (key_bytes : K → List ℕ) (value_bytes : V → List ℕ) (key_cost : K → ℕ) (value_cost : V → ℕ)
    (p : K × V)
    → ReadsBack key_reads (key_bytes p.0) p.0 (key_cost p.0)
    → ReadsBack value_reads (value_bytes p.1) p.1 (value_cost p.1)
    → ReadsBack (ReadsPair key_reads value_reads)
    (pair_bytes key_bytes value_bytes p) p (pair_cost key_cost value_cost p)
pair_back key_reads value_reads key_bytes value_bytes key_cost value_cost p key value rest =
    search (rules, stands_between, item_after, length-append)
