-- To be equal up to the order of pairs is an equivalence.
use Rattle.std.proofs.Common.{◌≡◌, ℕ, zero, suc, refl, sym, ap, ◌∙◌, subst}
use Rattle.cbor4ii_tree.specs.Basis.Item.{Item, sequence, mapping, tag, Items, no_items, item}
use Rattle.cbor4ii_tree.specs.Basis.Item.{ItemPairs}
use Rattle.cbor4ii_tree.specs.Basis.Item.{no_item_pairs, item_pair}
use Rattle.cbor4ii_examples.specs.Sorted.{with_pair_at, SameUpToOrder, SameItems, SamePairs}
use Rattle.cbor4ii_examples.proofs.SortedValues.{same_as_itself, items_as_themselves}

-- two pairs that were put in are put in in the other order
exchange : (i : ℕ) (k v : Item) (j : ℕ) (l w : Item) (ms : ItemPairs)
    → (s : ℕ) × (t : ℕ) × (with_pair_at i k v (with_pair_at j l w ms)
    ≡ with_pair_at s l w (with_pair_at t k v ms))
exchange zero k v j l w ms = (suc j, zero, refl)
exchange (suc i) k v zero l w ms = (zero, i, refl)
exchange (suc i) k v (suc j) l w no_item_pairs = (zero, i, refl)
exchange (suc i) k v (suc j) l w (item_pair m x ms) =
    let more = exchange i k v j l w ms in (suc more.0, suc more.1, ap (item_pair m x) more.2)

-- two pairs that are the same, put in anywhere
put_both : (i : ℕ) (k v : Item) (ms : ItemPairs) (j : ℕ) (l w : Item) (ns : ItemPairs)
    → SameUpToOrder k l → SameUpToOrder v w → SamePairs ms ns
    → SamePairs (with_pair_at i k v ms) (with_pair_at j l w ns)
put_both zero k v ms j l w ns key value more = (j, l, w, ns, refl, key, value, more)
put_both (suc i) k v no_item_pairs j l w ns key value more = (j, l, w, ns, refl, key, value, more)
put_both (suc i) k v (item_pair m x ms) j l w ns key value s =
    let other = exchange j l w s.0 s.1 s.2 s.3 in (
      other.0,
      s.1,
      s.2,
      with_pair_at other.1 l w s.3,
      sym other.2 ∙ ap (with_pair_at j l w) s.4,
      s.5,
      s.6,
      put_both i k v ms other.1 l w s.3 key value s.7,
    )

mutual
  pub same_back : (v w : Item) → SameUpToOrder v w → SameUpToOrder w v
  same_back (sequence vs) (sequence ws) s = items_back vs ws s
  same_back (mapping ms) (mapping ns) s = pairs_back ms ns s
  same_back (tag m v) (tag n w) s = (sym s.0, same_back v w s.1)
  same_back v w s = subst (λ (i : Item). SameUpToOrder i v) s (same_as_itself v)

  items_back : (vs ws : Items) → SameItems vs ws → SameItems ws vs
  items_back (item v vs) (item w ws) s = (same_back v w s.0, items_back vs ws s.1)
  items_back vs ws s = subst (λ (is : Items). SameItems is vs) s (items_as_themselves vs)

  pairs_back : (ms ns : ItemPairs) → SamePairs ms ns → SamePairs ns ms
  pairs_back no_item_pairs ns s = subst (λ (os : ItemPairs). SamePairs os no_item_pairs) s refl
  pairs_back (item_pair k v ms) ns s =
      subst (λ (os : ItemPairs). SamePairs os (item_pair k v ms)) s.4 (put_both s.0 s.1 s.2 s.3 zero
      k v
      ms (same_back k s.1 s.5) (same_back v s.2 s.6) (pairs_back ms s.3 s.7))

-- the pair that is the same as one that was put in, and the others
take_out : (i : ℕ) (k v : Item) (ms ns : ItemPairs) → SamePairs (with_pair_at i k v ms) ns
    → (j : ℕ) × (l : Item) × (w : Item) × (os : ItemPairs) × (with_pair_at j l w os ≡ ns)
    × SameUpToOrder k l × SameUpToOrder v w × SamePairs ms os
take_out zero k v ms ns s = s
take_out (suc i) k v no_item_pairs ns s = s
take_out (suc i) k v (item_pair m x ms) ns s =
    let more = take_out i k v ms s.3 s.7 in
    let other = exchange s.0 s.1 s.2 more.0 more.1 more.2 more.3 in (
      other.0,
      more.1,
      more.2,
      with_pair_at other.1 s.1 s.2 more.3,
      sym other.2 ∙ ap (with_pair_at s.0 s.1 s.2) more.4 ∙ s.4,
      more.5,
      more.6,
      (other.1, s.1, s.2, more.3, refl, s.5, s.6, more.7),
    )

mutual
  pub same_on : (v w x : Item) → SameUpToOrder v w → SameUpToOrder w x → SameUpToOrder v x
  same_on (sequence vs) (sequence ws) (sequence xs) s t = items_on vs ws xs s t
  same_on (mapping ms) (mapping ns) (mapping os) s t = pairs_on ms ns os s t
  same_on (tag m v) (tag n w) (tag o x) s t = (s.0 ∙ t.0, same_on v w x s.1 t.1)
  same_on (sequence vs) (sequence ws) x s t = cc
  same_on (mapping ms) (mapping ns) x s t = cc
  same_on (tag m v) (tag n w) x s t = cc
  same_on v w x s t = subst (λ (i : Item). SameUpToOrder i x) (sym s) t

  items_on : (vs ws xs : Items) → SameItems vs ws → SameItems ws xs → SameItems vs xs
  items_on (item v vs) (item w ws) (item x xs) s t =
      (same_on v w x s.0 t.0, items_on vs ws xs s.1 t.1)
  items_on (item v vs) (item w ws) no_items s t = cc
  items_on vs ws xs s t = subst (λ (is : Items). SameItems is xs) (sym s) t

  pairs_on : (ms ns os : ItemPairs) → SamePairs ms ns → SamePairs ns os → SamePairs ms os
  pairs_on no_item_pairs ns os s t = subst (λ (is : ItemPairs). SamePairs is os) (sym s) t
  pairs_on (item_pair k v ms) ns os s t =
      let out = take_out s.0 s.1 s.2 s.3 os (subst (λ (is : ItemPairs). SamePairs is os) (sym s.4)
      t)
      in (
        out.0,
        out.1,
        out.2,
        out.3,
        out.4,
        same_on k s.1 out.1 s.5 out.5,
        same_on v s.2 out.2 s.6 out.6,
        pairs_on ms s.3 out.3 s.7 out.7,
      )
