-- Equality of values as a test: equal trees, so that floats are equal with their width and bits,
-- and maps with their order.
use Rattle.std.specs.{Prelude.{◌≡◌, ℕ, ◌==◌, List, [], ◌∷◌, Bool, true, false, ◌&&◌}, Bool.Decides}
use Rattle.std.specs.{Bool.beq, Ordering.{int_eq, on}, Cmp.{IsEquivalence, decided, first_so}}
use Rattle.std.specs.Cmp.{second_so, unsigned_Decides, signed_Decides, booleans_Decides}
use Rattle.std.proofs.Common.{refl, sym, subst, ap, ap₂, ◌∙◌}
use Rattle.cbor4ii_items.specs.Initial.{Precision, half, single, double}
use Rattle.cbor4ii_tree.specs.Basis.Item.{Item, null, boolean, integer, float, bytes_item, text}
use Rattle.cbor4ii_tree.specs.Basis.Item.{sequence, mapping, tag, Items, no_items, item, ItemPairs}
use Rattle.cbor4ii_tree.specs.{Basis.Item.{no_item_pairs, item_pair}, Basis.View.view}
use Rattle.cbor4ii_tree.specs.declared.value.Value.{Value}

abbrev pub precision_eq : Precision → Precision → Bool
precision_eq half half = true
precision_eq single single = true
precision_eq double double = true
precision_eq _ _ = false

abbrev pub text_eq : List ℕ → List ℕ → Bool
text_eq [] [] = true
text_eq (b ∷ bs) (c ∷ cs) = (b == c) && text_eq bs cs
text_eq _ _ = false

abbrev mutual
  pub item_eq : Item → Item → Bool
  item_eq null null = true
  item_eq (boolean b) (boolean c) = beq b c
  item_eq (integer y) (integer z) = int_eq y z
  item_eq (float p m) (float q n) = precision_eq p q && (m == n)
  item_eq (bytes_item bs) (bytes_item cs) = text_eq bs cs
  item_eq (text bs) (text cs) = text_eq bs cs
  item_eq (sequence vs) (sequence ws) = items_eq vs ws
  item_eq (mapping ms) (mapping ns) = pairs_eq ms ns
  item_eq (tag m v) (tag n w) = (m == n) && item_eq v w
  item_eq _ _ = false

  pub items_eq : Items → Items → Bool
  items_eq no_items no_items = true
  items_eq (item v vs) (item w ws) = item_eq v w && items_eq vs ws
  items_eq _ _ = false

  pub pairs_eq : ItemPairs → ItemPairs → Bool
  pairs_eq no_item_pairs no_item_pairs = true
  pairs_eq (item_pair k v ms) (item_pair l w ns) = item_eq k l && (item_eq v w && pairs_eq ms ns)
  pairs_eq _ _ = false

-- ---- the test decides equality, so that it is an equivalence

abbrev Truth : Bool → Type 0
Truth true = Unit {0}
Truth false = ⊥

no_truth : {P : Type 0} → false ≡ true → P
no_truth e = absurd (subst Truth (sym e) tt)

together : (s t : Bool) → s ≡ true → t ≡ true → (s && t) ≡ true
together s t p q = ap₂ (λ x y. x && y) p q

precision_same : (p q : Precision) → precision_eq p q ≡ true → p ≡ q
precision_same half half e = refl
precision_same single single e = refl
precision_same double double e = refl
precision_same _ _ e = no_truth e

precision_itself : (p : Precision) → precision_eq p p ≡ true
precision_itself half = refl
precision_itself _ = refl

text_same : (bs cs : List ℕ) → text_eq bs cs ≡ true → bs ≡ cs
text_same [] [] e = refl
text_same (b ∷ bs) (c ∷ cs) e =
    ap₂ ◌∷◌ ((unsigned_Decides b c).0 (first_so (b == c) (text_eq bs cs) e))
    (text_same bs cs (second_so (b == c) (text_eq bs cs) e))
text_same [] (c ∷ cs) e = no_truth e
text_same (b ∷ bs) [] e = no_truth e

text_itself : (bs : List ℕ) → text_eq bs bs ≡ true
text_itself [] = refl
text_itself (b ∷ bs) =
    together (b == b) (text_eq bs bs) ((unsigned_Decides b b).1 refl) (text_itself bs)

mutual
  pub item_same : (v w : Item) → item_eq v w ≡ true → v ≡ w
  item_same null null e = refl
  item_same (boolean b) (boolean c) e = ap boolean ((booleans_Decides b c).0 e)
  item_same (integer y) (integer z) e = ap integer ((signed_Decides y z).0 e)
  item_same (float p m) (float q n) e =
      ap₂ float (precision_same p q (first_so (precision_eq p q) (m == n) e))
      ((unsigned_Decides m n).0 (second_so (precision_eq p q) (m == n) e))
  item_same (bytes_item bs) (bytes_item cs) e = ap bytes_item (text_same bs cs e)
  item_same (text bs) (text cs) e = ap text (text_same bs cs e)
  item_same (sequence vs) (sequence ws) e = ap sequence (items_same vs ws e)
  item_same (mapping ms) (mapping ns) e = ap mapping (pairs_same ms ns e)
  item_same (tag m v) (tag n w) e =
      ap₂ tag ((unsigned_Decides m n).0 (first_so (m == n) (item_eq v w) e))
      (item_same v w (second_so (m == n) (item_eq v w) e))
  item_same _ _ e = no_truth e

  items_same : (vs ws : Items) → items_eq vs ws ≡ true → vs ≡ ws
  items_same no_items no_items e = refl
  items_same (item v vs) (item w ws) e =
      ap₂ item (item_same v w (first_so (item_eq v w) (items_eq vs ws) e))
      (items_same vs ws (second_so (item_eq v w) (items_eq vs ws) e))
  items_same _ _ e = no_truth e

  pairs_same : (ms ns : ItemPairs) → pairs_eq ms ns ≡ true → ms ≡ ns
  pairs_same no_item_pairs no_item_pairs e = refl
  pairs_same (item_pair k v ms) (item_pair l w ns) e =
      let rest = second_so (item_eq k l) (item_eq v w && pairs_eq ms ns) e in
      let key : k ≡ l =
      item_same k l (first_so (item_eq k l) (item_eq v w && pairs_eq ms ns) e) in
      let value : v ≡ w = item_same v w (first_so (item_eq v w) (pairs_eq ms ns) rest) in
      ap (λ x. item_pair x v ms) key ∙ (ap (λ x. item_pair l x ms) value ∙ ap (item_pair l w)
      (pairs_same ms ns (second_so (item_eq v w) (pairs_eq ms ns) rest)))
  pairs_same _ _ e = no_truth e

mutual
  pub item_itself : (v : Item) → item_eq v v ≡ true
  item_itself null = refl
  item_itself (boolean b) = (booleans_Decides b b).1 refl
  item_itself (integer z) = (signed_Decides z z).1 refl
  item_itself (float p n) =
      together (precision_eq p p) (n == n) (precision_itself p) ((unsigned_Decides n n).1 refl)
  item_itself (bytes_item bs) = text_itself bs
  item_itself (text bs) = text_itself bs
  item_itself (sequence vs) = items_itself vs
  item_itself (mapping ms) = pairs_itself ms
  item_itself (tag n v) =
      together (n == n) (item_eq v v) ((unsigned_Decides n n).1 refl) (item_itself v)

  items_itself : (vs : Items) → items_eq vs vs ≡ true
  items_itself no_items = refl
  items_itself (item v vs) =
      together (item_eq v v) (items_eq vs vs) (item_itself v) (items_itself vs)

  pairs_itself : (ms : ItemPairs) → pairs_eq ms ms ≡ true
  pairs_itself no_item_pairs = refl
  pairs_itself (item_pair k v ms) =
      together (item_eq k k) (item_eq v v && pairs_eq ms ms) (item_itself k)
      (together (item_eq v v) (pairs_eq ms ms) (item_itself v) (pairs_itself ms))

pub item_eq-Decides : (v w : Item) → Decides (item_eq v w) (v ≡ w)
item_eq-Decides v w = (item_same v w, λ e. subst (λ x. item_eq v x ≡ true) e (item_itself v))

pub item_eq-equivalence : IsEquivalence item_eq
item_eq-equivalence = decided item_eq item_eq-Decides

-- what `==` of values answers
abbrev pub same_view : Value → Value → Bool
same_view = on view item_eq
