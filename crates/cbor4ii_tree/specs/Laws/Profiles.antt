-- What reading a value and skipping an item have in common: a tree is taken whole where its parts
-- are, under what its step leaves.
use Rattle.std.proofs.Common.{◌≡◌, ℕ, ◌+◌, ◌^◌, ◌<◌, List, length, Some, Bool, true, false, None}
use Rattle.std.proofs.Common.{refl, subst, arith, ◌≤◌, rules}
use Rattle.cbor4ii_items.specs.{Budget.CostFits, Head.HeadFits, Initial.{Kind, precision_bytes}}
use Rattle.cbor4ii_items.specs.{Laws.Answering.fits_zero, Laws.SequenceParts.fits_less}
use Rattle.cbor4ii_items.specs.Sequences.{after_step}
use Rattle.cbor4ii_tree.specs.Basis.Cost.{Budget, step_in, cost, skip_cost, chunks_cost}
use Rattle.cbor4ii_tree.specs.{Basis.Cost.greatest_cost, Calls.ItemRejects.{Profile, ReadableChunk}}
use Rattle.cbor4ii_tree.specs.{Calls.ItemRejects.ChunkOf, Laws.Binds.{step_left, step_up}}
use Rattle.cbor4ii_tree.specs.{Laws.Budgets.{fits_left, fits_two}, Laws.Wholes.each_readable}
use Rattle.cbor4ii_tree.specs.Laws.Wholes.{each_pair_readable, each_chunk, each_skippable}
use Rattle.cbor4ii_tree.specs.Laws.Wholes.{each_pair_skippable, all_readable, all_pairs_readable}
use Rattle.cbor4ii_tree.specs.Laws.Wholes.{all_chunks, all_skippable, all_pairs_skippable}
use Rattle.cbor4ii_tree.specs.Calls.ReadingRejects.{Readable, reading_profile}
use Rattle.cbor4ii_tree.specs.{Calls.Rejections.{Each, EachPair}, Calls.SkippingRejects.Skippable}
use Rattle.cbor4ii_tree.specs.{Calls.SkippingRejects.skipping_profile, Basis.Tree.{Tree, int}}
use Rattle.cbor4ii_tree.specs.Basis.Tree.{string, chunked, array, array_indefinite, map_of}
use Rattle.cbor4ii_tree.specs.Basis.Tree.{map_indefinite, tagged, simple, bits, Trees, no_trees}
use Rattle.cbor4ii_tree.specs.Basis.Tree.{tree, count, pair_count, joined_chunks, Loose, AreChunks}
use Rattle.cbor4ii_tree.specs.Basis.Tree.{TextIsUtf8}

-- a text is UTF-8, where it is tested
abbrev pub Tested : Bool → Kind → List ℕ → Type 0
Tested true k content = TextIsUtf8 k content
Tested false k content = Unit {0}

-- under what is left for the items of an array or a map
abbrev pub Inside : Profile → Budget → (Budget → Type 0) → Type 0
Inside p budget P = (inner : Budget) × (p.inside budget ≡ Some inner) × P inner

abbrev pub HasWholeParts : Profile → Budget → Tree → Type 0
HasWholeParts p b (int s n w) = HeadFits w n
HasWholeParts p b (string k w content) = HeadFits w (length content) × Tested p.tests k content
HasWholeParts p b (chunked k ts) =
    Each (ChunkOf p.tests k b (p.Whole b)) ts × Tested p.tests k (joined_chunks ts)
HasWholeParts p b (array w ts) = HeadFits w (count ts) × Inside p b (λ c. Each (p.Whole c) ts)
HasWholeParts p b (array_indefinite ts) = Inside p b (λ c. Each (p.Whole c) ts)
HasWholeParts p b (map_of w ps) = HeadFits w (pair_count ps)
    × Inside p b (λ c. EachPair (p.Whole c) ps)
HasWholeParts p b (map_indefinite ps) = Inside p b (λ c. EachPair (p.Whole c) ps)
HasWholeParts p b (tagged n w t) = HeadFits w n × p.Whole b t
HasWholeParts p b (simple s) = Unit {0}
HasWholeParts p b (bits f n) = n < 256 ^ precision_bytes f

pub record IsLawfulProfile (p : Profile) : Type 0 where
  pub costs : (b : Budget) (t : Tree) → p.Whole b t → CostFits 1 b
  pub opens : (b : Budget) (t : Tree) → p.Whole b t → HasWholeParts p (after_step b) t
  pub closes : (b c : Budget) (t : Tree) → step_in b ≡ Some c → HasWholeParts p c t → p.Whole b t
  pub loose : (b : Budget) (t : Tree) → p.Whole b t → Loose t

-- ---- skipping

skip_cost-pos : (t : Tree) → 1 ≤ skip_cost t
skip_cost-pos (int s n w) = omega arith
skip_cost-pos _ = omega arith

skipping_opens : (b : Budget) (t : Tree) → Skippable b t → HasWholeParts skipping_profile
    (after_step b) t
skipping_opens b (int s n w) h = h.0
skipping_opens b (string k w content) h = (h.0, tt)
skipping_opens b (chunked k ts) h = (each_skippable ts (after_step b) h.0 (fits_left _ b h.1), tt)
skipping_opens b (array w ts) h =
    (h.0.0, (after_step b, refl, each_skippable ts (after_step b) h.0.1 (fits_left _ b h.1)))
skipping_opens b (array_indefinite ts) h =
    (after_step b, refl, each_skippable ts (after_step b) h.0 (fits_left _ b h.1))
skipping_opens b (map_of w ps) h =
    (h.0.0, (after_step b, refl, each_pair_skippable ps (after_step b) h.0.1 (fits_left _ b h.1)))
skipping_opens b (map_indefinite ps) h =
    (after_step b, refl, each_pair_skippable ps (after_step b) h.0 (fits_left _ b h.1))
skipping_opens b (tagged n w t) h = (h.0.0, (h.0.1, fits_left _ b h.1))
skipping_opens b (simple s) h = tt
skipping_opens b (bits f n) h = h.0

same_inside : (c : Budget) (P : Budget → Type 0) → Inside skipping_profile c P → P c
same_inside c P h = let same : h.0 ≡ c = cc in subst P same h.2

skipping_closes : (b c : Budget) (t : Tree) → step_in b ≡ Some c → HasWholeParts skipping_profile c
    t
    → Skippable b t
skipping_closes b c (int s n w) is h = (h, step_up b c 0 is (fits_zero c))
skipping_closes b c (string k w content) is h = (h.0, step_up b c 0 is (fits_zero c))
skipping_closes b c (chunked k ts) is h =
    let all = all_skippable ts c h.0 in (all.0, step_up b c _ is all.1)
skipping_closes b c (array w ts) is h =
    let all = all_skippable ts c (same_inside c _ h.1) in ((h.0, all.0), step_up b c _ is all.1)
skipping_closes b c (array_indefinite ts) is h =
    let all = all_skippable ts c (same_inside c _ h) in (all.0, step_up b c _ is all.1)
skipping_closes b c (map_of w ps) is h =
    let all = all_pairs_skippable ps c (same_inside c _ h.1) in
    ((h.0, all.0), step_up b c _ is all.1)
skipping_closes b c (map_indefinite ps) is h =
    let all = all_pairs_skippable ps c (same_inside c _ h) in (all.0, step_up b c _ is all.1)
skipping_closes b c (tagged n w t) is h = ((h.0, h.1.0), step_up b c _ is h.1.1)
skipping_closes b c (simple s) is h = (tt, step_up b c 0 is (fits_zero c))
skipping_closes b c (bits f n) is h = (h, step_up b c 0 is (fits_zero c))

pub skipping_lawful : IsLawfulProfile skipping_profile
skipping_lawful = record {
  costs = λ b t h. fits_less 1 (skip_cost t) b (skip_cost-pos t) h.1;
  opens = skipping_opens;
  closes = skipping_closes;
  loose = λ b t h. h.0;
}

-- ---- reading

cost-pos : (t : Tree) → 1 ≤ cost t
cost-pos (int s n w) = omega arith
cost-pos (chunked k no_trees) = omega arith
cost-pos (chunked k (tree t ts)) = omega arith
cost-pos _ = omega arith

greatest_chunk : (k : Kind) (ts : Trees) → AreChunks k ts → greatest_cost ts ≤ 1
greatest_chunk k no_trees a = omega arith
greatest_chunk k (tree (string j w content) ts) a = omega (arith, greatest_chunk k ts a.1)
greatest_chunk k (tree _ ts) a = absurd a.0

chunks_fit : (k : Kind) (ts : Trees) (b : Budget) → AreChunks k ts → CostFits (chunks_cost ts) b
    → CostFits (greatest_cost ts) (after_step b)
chunks_fit k ts None a f = tt
chunks_fit k no_trees (Some n) a f = omega arith
chunks_fit k (tree t ts) (Some n) a f = omega (arith, greatest_chunk k (tree t ts) a)

-- after two steps
inside : (b : Budget) (n : ℕ) (P : Budget → Type 0) → CostFits (2 + n) b
    → (CostFits n (after_step (after_step b)) → P (after_step (after_step b)))
    → Inside reading_profile (after_step b) P
inside b n P f k = search (rules, fits_two, step_left)

reading_opens : (b : Budget) (t : Tree) → Readable b t → HasWholeParts reading_profile
    (after_step b) t
reading_opens b (int s n w) h = h.0.0
reading_opens b (string k w content) h = h.0
reading_opens b (chunked k ts) h =
    (each_chunk k ts (after_step b) h.0.0 h.0.1.0 (chunks_fit k ts b h.0.1.0 h.1), h.0.1.1)
reading_opens b (array w ts) h =
    (h.0.0.0, inside b _ _ h.1 (λ f. each_readable ts _ h.0.0.1 h.0.1 f))
reading_opens b (array_indefinite ts) h =
    inside b _ _ h.1 (λ f. each_readable ts _ h.0.0 h.0.1 f)
reading_opens b (map_of w ps) h =
    (h.0.0.0, inside b _ _ h.1 (λ f. each_pair_readable ps _ h.0.0.1 h.0.1 f))
reading_opens b (map_indefinite ps) h =
    inside b _ _ h.1 (λ f. each_pair_readable ps _ h.0.0 h.0.1 f)
reading_opens b (tagged n w t) h = (h.0.0.0, ((h.0.0.1, h.0.1), fits_left _ b h.1))
reading_opens b (simple s) h = tt
reading_opens b (bits f n) h = h.0.0

-- a cost that fits two steps later
up_two : (b c d : Budget) (n : ℕ) → step_in b ≡ Some c → step_in c ≡ Some d → CostFits n d
    → CostFits (2 + n) b
up_two b c d n is also f = search (rules, fits_less, step_up)

chunks_up : (k : Kind) (ts : Trees) (b c : Budget) → step_in b ≡ Some c
    → Each (ReadableChunk k c) ts → CostFits (chunks_cost ts) b
chunks_up k no_trees b c is w = step_up b c 0 is (fits_zero c)
chunks_up k (tree (string j v content) ts) b c is w =
    fits_less 2 (1 + 1) b (omega arith) (step_up b c 1 is w.0.2)
chunks_up k (tree _ ts) b c is w = absurd w.0.1

reading_closes : (b c : Budget) (t : Tree) → step_in b ≡ Some c → HasWholeParts reading_profile c t
    → Readable b t
reading_closes b c (int s n w) is h = ((h, tt), step_up b c 0 is (fits_zero c))
reading_closes b c (string k w content) is h = (h, step_up b c 0 is (fits_zero c))
reading_closes b c (chunked k ts) is h = search (rules, all_chunks, chunks_up)
reading_closes b c (array w ts) is h =
    let all = all_readable ts h.1.0 h.1.2 in
    (((h.0, all.0.0), all.0.1), up_two b c h.1.0 _ is h.1.1 all.1)
reading_closes b c (array_indefinite ts) is h =
    let all = all_readable ts h.0 h.2 in (all.0, up_two b c h.0 _ is h.1 all.1)
reading_closes b c (map_of w ps) is h =
    let all = all_pairs_readable ps h.1.0 h.1.2 in
    (((h.0, all.0.0), all.0.1), up_two b c h.1.0 _ is h.1.1 all.1)
reading_closes b c (map_indefinite ps) is h =
    let all = all_pairs_readable ps h.0 h.2 in (all.0, up_two b c h.0 _ is h.1 all.1)
reading_closes b c (tagged n w t) is h = (((h.0, h.1.0.0), h.1.0.1), step_up b c _ is h.1.1)
reading_closes b c (simple s) is h = ((tt, tt), step_up b c 0 is (fits_zero c))
reading_closes b c (bits f n) is h = ((h, tt), step_up b c 0 is (fits_zero c))

pub reading_lawful : IsLawfulProfile reading_profile
reading_lawful = record {
  costs = λ b t h. fits_less 1 (cost t) b (cost-pos t) h.1;
  opens = reading_opens;
  closes = reading_closes;
  loose = λ b t h. h.0.0;
}
