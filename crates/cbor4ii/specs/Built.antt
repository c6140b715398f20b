-- The map that pairs build.
use Rattle.std.specs.Prelude.{◌≡◌, List, [], ◌∷◌, true, false}
use Rattle.std.specs.declared.cmp.Ordering.{Ordering}
use Rattle.std.specs.BTreeMap.{insert_entry}
use Rattle.cbor4ii_items.specs.Decoding.{Reads, Format, IsLawful}
use Rattle.cbor4ii.specs.Typed.{not_exact}

-- pairs put into entries, one after another
abbrev pub put_all : {K V : Type 0} → (K → K → Ordering) → List (K × V) → List (K × V)
    → List (K × V)
put_all cmp es [] = es
put_all cmp es (p ∷ ps) = put_all cmp (insert_entry cmp es p.0 p.1) ps

-- what pairs build: of equal keys the first stays, with the last value
abbrev pub built_pairs : {K V : Type 0} → (K → K → Ordering) → List (K × V) → List (K × V)
built_pairs cmp ps = put_all cmp [] ps

-- pairs are read, and the map is what they build
abbrev pub ReadsBuilt : {K V M : Type 0} → (M → List (K × V)) → (K → K → Ordering)
    → Reads (List (K × V)) → Reads M
ReadsBuilt {K} {V} entries cmp reads xs m n c =
    (ps : List (K × V)) × reads xs ps n c × (entries m ≡ built_pairs cmp ps)

-- a map that its pairs build; two maps are the same where the same pairs build both
abbrev pub built_map : {K V M : Type 0} → (M → List (K × V)) → (K → K → Ordering)
    → Format (List (K × V)) → Format M
built_map {K} {V} entries cmp s = record {
  reads = ReadsBuilt entries cmp s.reads;
  same = λ m w. (ps qs : List (K × V)) × s.same ps qs
      × (entries m ≡ built_pairs cmp ps) × (entries w ≡ built_pairs cmp qs);
  rejects = s.rejects;
  begins = s.begins;
  never_empty = s.never_empty;
  owned = s.owned;
  takes_memory = true;
  closed = false;
}

pub map_of_lawful : {K V M : Type 0} (entries : M → List (K × V)) (cmp : K → K → Ordering)
    (s : Format (List (K × V))) → IsLawful s → IsLawful (built_map entries cmp s)
map_of_lawful entries cmp s h = record {
  one = λ xs v w n m c d p q. (let e = h.one xs p.0 q.0 n m c d p.1 q.1 in
      (e.0, e.1, (p.0, q.0, e.2, p.2, q.2)));
  within = λ xs v n c p. h.within xs p.0 n c p.1;
  positive = λ e xs v n c p. h.positive e xs p.0 n c p.1;
  alone = not_exact;
}
