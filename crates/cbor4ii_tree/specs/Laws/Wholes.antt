-- Lists of trees that are accepted, each by itself or all together.
use Rattle.std.proofs.Common.{arith, rules}
use Rattle.cbor4ii_items.specs.{Budget.CostFits, Initial.Kind, Laws.Answering.fits_zero}
use Rattle.cbor4ii_items.specs.Laws.SequenceParts.{fits_less, fits_max}
use Rattle.cbor4ii_tree.specs.Basis.Cost.{Budget, greatest_cost, greatest_pair_cost}
use Rattle.cbor4ii_tree.specs.Basis.{Cost.{greatest_skip_cost, greatest_pair_skip_cost}, Tree.Trees}
use Rattle.cbor4ii_tree.specs.Basis.Tree.{no_trees, tree, Pairs, no_pairs, pair, LooseAll}
use Rattle.cbor4ii_tree.specs.Basis.Tree.{LoosePairs, SoundStringsAll, SoundStringsPairs, AreChunks}
use Rattle.cbor4ii_tree.specs.Calls.{ReadingRejects.{Readable, ReadableChunk}, Rejections.Each}
use Rattle.cbor4ii_tree.specs.Calls.{Rejections.EachPair, SkippingRejects.Skippable}

pub each_skippable : (ts : Trees) (b : Budget) → LooseAll ts → CostFits (greatest_skip_cost ts) b
    → Each (Skippable b) ts
each_skippable no_trees b l f = tt
each_skippable (tree t ts) b l f =
    search (rules, fits_less, (each_skippable ts b l.1 (fits_less _ _ b (omega arith) f)))

pub all_skippable : (ts : Trees) (b : Budget) → Each (Skippable b) ts
    → LooseAll ts × CostFits (greatest_skip_cost ts) b
all_skippable no_trees b w = (tt, fits_zero b)
all_skippable (tree t ts) b w = search (rules, fits_max, (all_skippable ts b w.1))

pub each_pair_skippable : (ps : Pairs) (b : Budget) → LoosePairs ps
    → CostFits (greatest_pair_skip_cost ps) b → EachPair (Skippable b) ps
each_pair_skippable no_pairs b l f = tt
each_pair_skippable (pair k v ps) b l f =
    search (rules, fits_less, (each_pair_skippable ps b l.2 (fits_less _ _ b (omega arith) f)))

pub all_pairs_skippable : (ps : Pairs) (b : Budget) → EachPair (Skippable b) ps
    → LoosePairs ps × CostFits (greatest_pair_skip_cost ps) b
all_pairs_skippable no_pairs b w = (tt, fits_zero b)
all_pairs_skippable (pair k v ps) b w = search (rules, fits_max, (all_pairs_skippable ps b w.2))

pub each_readable : (ts : Trees) (b : Budget) → LooseAll ts → SoundStringsAll ts
    → CostFits (greatest_cost ts) b → Each (Readable b) ts
each_readable no_trees b l s f = tt
each_readable (tree t ts) b l s f =
    search (rules, fits_less, (each_readable ts b l.1 s.1 (fits_less _ _ b (omega arith) f)))

pub all_readable : (ts : Trees) (b : Budget) → Each (Readable b) ts
    → (LooseAll ts × SoundStringsAll ts) × CostFits (greatest_cost ts) b
all_readable no_trees b w = ((tt, tt), fits_zero b)
all_readable (tree t ts) b w = search (rules, fits_max, (all_readable ts b w.1))

pub each_pair_readable : (ps : Pairs) (b : Budget) → LoosePairs ps → SoundStringsPairs ps
    → CostFits (greatest_pair_cost ps) b → EachPair (Readable b) ps
each_pair_readable no_pairs b l s f = tt
each_pair_readable (pair k v ps) b l s f =
    search (rules, fits_less, (each_pair_readable ps b l.2 s.2 (fits_less _ _ b (omega arith) f)))

pub all_pairs_readable : (ps : Pairs) (b : Budget) → EachPair (Readable b) ps
    → (LoosePairs ps × SoundStringsPairs ps) × CostFits (greatest_pair_cost ps) b
all_pairs_readable no_pairs b w = ((tt, tt), fits_zero b)
all_pairs_readable (pair k v ps) b w = search (rules, fits_max, (all_pairs_readable ps b w.2))

pub each_chunk : (k : Kind) (ts : Trees) (b : Budget) → LooseAll ts → AreChunks k ts
    → CostFits (greatest_cost ts) b → Each (ReadableChunk k b) ts
each_chunk k no_trees b l a f = tt
each_chunk k (tree t ts) b l a f =
    search (rules, fits_less, (each_chunk k ts b l.1 a.1 (fits_less _ _ b (omega arith) f)))

pub all_chunks : (k : Kind) (ts : Trees) (b : Budget) → Each (ReadableChunk k b) ts
    → (LooseAll ts × AreChunks k ts) × CostFits (greatest_cost ts) b
all_chunks k no_trees b w = ((tt, tt), fits_zero b)
all_chunks k (tree t ts) b w = search (rules, fits_max, (all_chunks k ts b w.1))
