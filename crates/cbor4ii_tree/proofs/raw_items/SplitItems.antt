-- The item that begins some bytes, split off under as many steps as there are bytes.
use Rattle.std.proofs.Common.{◌≡◌, ℕ, ◌+◌, ◌-◌, ◌^◌, ◌<◌, ◌≤◌, ◌⊎◌, inl, inr, List, ◌++◌, length}
use Rattle.std.proofs.Common.{Some, Ok, Err, false, refl, sym, ap, ◌∙◌, subst, arith, IfSome}
use Rattle.std.proofs.Common.{length-append}
use Rattle.cbor4ii_rw.specs.{Slice.slice_view, declared.error.DecodeError.DecodeError}
use Rattle.cbor4ii_rw.specs.declared.error.DecodeError.TheVariants.{Read, OutOfMemory}
use Rattle.cbor4ii_rw.specs.declared.slice_reader.SliceReader.{SliceReader}
use Rattle.cbor4ii_items.specs.{Budget.CostFits, InputError.{input_error_of, is_read}}
use Rattle.cbor4ii_items.specs.InputError.{is_out_of_memory}
use Rattle.cbor4ii_tree.specs.Basis.Cost.{skip_cost, greatest_skip_cost, greatest_pair_skip_cost}
use Rattle.cbor4ii_tree.specs.{Basis.Encodings.Skips, Calls.Raw.{Captures, NotCaptured, failed}}
use Rattle.cbor4ii_tree.specs.{Calls.Raw.{not_lent, rejected, raw_content}, Basis.Tree.Tree}
use Rattle.cbor4ii_tree.specs.Basis.Tree.{chunked, array, array_indefinite, map_of, map_indefinite}
use Rattle.cbor4ii_tree.specs.Basis.Tree.{tagged, bytes, bytes_all, bytes_pairs, Loose, Trees}
use Rattle.cbor4ii_tree.specs.Basis.Tree.{no_trees, tree, Pairs, no_pairs, pair}
use Rattle.cbor4ii_tree.specs.declared.raw.RawValue.{RawValue}
use Rattle.cbor4ii_tree.proofs.raw_items.Captured.{raw_progress, raw_whole}

-- ---- an item has no more levels than bytes

mutual
  pub steps_within : (t : Tree) → skip_cost t ≤ length (bytes t)
  steps_within (chunked k ts) = simp length-append (omega (arith, steps_within_all ts))
  steps_within (array w ts) = simp length-append (omega (arith, steps_within_all ts))
  steps_within (array_indefinite ts) = simp length-append (omega (arith, steps_within_all ts))
  steps_within (map_of w ps) = simp length-append (omega (arith, steps_within_pairs ps))
  steps_within (map_indefinite ps) = simp length-append (omega (arith, steps_within_pairs ps))
  steps_within (tagged n w t) = simp length-append (omega (arith, steps_within t))
  steps_within _ = omega arith

  steps_within_all : (ts : Trees) → greatest_skip_cost ts ≤ length (bytes_all ts)
  steps_within_all no_trees = omega arith
  steps_within_all (tree t ts) =
      simp length-append (omega (arith, steps_within t, steps_within_all ts))

  steps_within_pairs : (ps : Pairs) → greatest_pair_skip_cost ps ≤ length (bytes_pairs ps)
  steps_within_pairs no_pairs = omega arith
  steps_within_pairs (pair k v ps) =
      simp length-append (omega (arith, steps_within k, steps_within v, steps_within_pairs ps))

-- ---- it is taken

says_some : {E : Type 0} (e : DecodeError E) → is_read e ≡ false → is_out_of_memory e ≡ false
    → IfSome (input_error_of e) (λ _. ⊥) → ⊥
says_some (Read e) r m h = cc
says_some OutOfMemory r m h = cc
says_some _ r m h = h

module _ (reader after : SliceReader) (input : List ℕ) (n : ℕ)
    (known : (slice_view reader).known ≡ Some input) (budget : (slice_view reader).budget ≡ Some n)
    (all : n ≡ length input) (short : n < 2 ^ 64) where
  skips : (t : Tree) (rest : List ℕ) → Loose t → input ≡ bytes t ++ rest
      → Skips input (slice_view reader).budget t rest
  skips t rest l e = record {
    loose = l;
    fits = subst (λ b. CostFits (skip_cost t) b) (sym budget)
        (omega (arith, steps_within t, ap length e, length-append {A = ℕ}));
    begins = e;
  }

  small : (xs : List ℕ) → (slice_view reader).known ≡ Some xs → length xs < 2 ^ 64
  small xs e = let same : input ≡ xs = cc in subst (λ z. length z < 2 ^ 64) same (omega arith)

  pub item_taken : (item : RawValue) (left : List ℕ) → Captures {E = ⊥} raw_content
      (slice_view reader) (slice_view after) (Ok item) → (slice_view after).known ≡ Some left
      → (t : Tree) (rest : List ℕ) → Loose t → input ≡ bytes t ++ rest
      → (raw_content item ≡ bytes t) × (left ≡ rest)
  item_taken item left c now t rest l e =
      let h = raw_whole {E = ⊥} raw_content (slice_view reader) (slice_view after) (Ok item) c
      (inr (refl, small)) input known t rest (skips t rest l e) in
      let same : Some left ≡ Some rest = sym now ∙ h.1 in (h.0, cc)

  pub item_shortens : (item : RawValue) (left : List ℕ) → Captures {E = ⊥} raw_content
      (slice_view reader) (slice_view after) (Ok item) → (slice_view after).known ≡ Some left
      → length left + 1 ≤ length input
  item_shortens item left c now =
      let h = raw_progress {E = ⊥} raw_content (slice_view reader) (slice_view after) (Ok item) c in
      let before : reader.bytes.now ≡ input = cc in
      let later : after.bytes.now ≡ left = cc in
      omega (arith, h, ap length before, ap length later)

  pub item_missed : {E : Type 0} (e : DecodeError E) → NotCaptured (slice_view reader)
      (slice_view after) e → (t : Tree) (rest : List ℕ) → Loose t → input ≡ bytes t ++ rest → ⊥
  item_missed {E} e c t rest l is =
      let h = raw_whole {E = E} raw_content (slice_view reader) (slice_view after) (Err e) c
      (inr (refl, small)) input known t rest (skips t rest l is) in missed e c h
    where
      missed : (e : DecodeError E) → NotCaptured (slice_view reader) (slice_view after) e
          → IfSome (input_error_of e) (λ _. ⊥) → ⊥
      missed e (failed p read none memory depth) h = never p.failures
        where
          never : (0 < 0) ⊎ (0 ≡ 2 ^ 64 - 1) → ⊥
          never (inl f) = omega arith
          never (inr f) = omega arith
      missed e (not_lent p read names memory depth) h = says_some e read memory h
      missed e (rejected shown l s) h = says_some e s.read s.memory h
