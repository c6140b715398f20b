-- One input is read in one way, since no loose tree begins another.
use Rattle.std.proofs.Common.{◌≡◌, ℕ, ◌≤◌, List, ◌++◌, length, take, drop, IsTrue, true, sym, ap}
use Rattle.std.proofs.Common.{◌∙◌, subst, arith, length-append, take-append-drop, rules}
use Rattle.std.proofs.{lemmas.List.length-take-le, Math.Seq.take-append_seam}
use Rattle.cbor4ii_tree.specs.{declared.value.Value.Value, Basis.Tree.bytes, Basis.Item.Item}
use Rattle.cbor4ii_tree.specs.{Basis.Meaning.value, Basis.Cost.cost, Basis.Encodings.Encodes}
use Rattle.cbor4ii_tree.specs.{Basis.View.view, Calls.Promises.{ReadsValue, value_format}}
use Rattle.cbor4ii_tree.specs.{Laws.Ignoring.one_encoding, Laws.Initials.length-bytes-pos}
use Rattle.cbor4ii_items.specs.Decoding.{IsLawful}

-- so many bytes are those of the tree
pub size_is : (xs : List ℕ) (v : Item) (n c : ℕ) → (p : ReadsValue xs v n c)
    → n ≡ length (bytes p.encodes.of_tree)
size_is xs v n c p = sym (length-take-le n xs p.within) ∙ ap length (sym p.encodes.bytes_are)

pub begins : (xs : List ℕ) (v : Item) (n c : ℕ) → (p : ReadsValue xs v n c)
    → xs ≡ bytes p.encodes.of_tree ++ drop n xs
begins xs v n c p = sym (take-append-drop n xs) ∙ ap (λ z. z ++ drop n xs) (sym p.encodes.bytes_are)

pub value_one : (xs : List ℕ) (v w : Value) (n m c d : ℕ) → ReadsValue xs (view v) n c
    → ReadsValue xs (view w) m d → (n ≡ m) × (c ≡ d) × (view v ≡ view w)
value_one xs v w n m c d p q =
    let s = p.encodes in
    let t = q.encodes in
    let same = one_encoding s.of_tree t.of_tree (drop n xs) (drop m xs) s.plain.0 t.plain.0
    (sym (begins xs (view v) n c p) ∙ begins xs (view w) m d q) in (
      size_is xs (view v) n c p ∙ ap (λ t. length (bytes t)) same.0
          ∙ sym (size_is xs (view w) m d q),
      sym s.cost_is ∙ ap cost same.0 ∙ t.cost_is,
      sym s.value_is ∙ ap value same.0 ∙ t.value_is,
    )

pub value_within : (xs : List ℕ) (v : Value) (n c : ℕ) → ReadsValue xs (view v) n c → n ≤ length xs
value_within xs v n c p = p.within

pub value_positive : IsTrue true → (xs : List ℕ) (v : Value) (n c : ℕ) → ReadsValue xs (view v) n c
    → 1 ≤ n
value_positive e xs v n c p =
    omega (arith, size_is xs (view v) n c p, length-bytes-pos p.encodes.of_tree)

pub value_alone : IsTrue true → (xs ys : List ℕ) (v : Value) (n c : ℕ) → ReadsValue xs (view v) n c
    → ReadsValue (take n xs ++ ys) (view v) n c
value_alone e xs ys v n c p =
    let long : length (take n xs) ≡ n = length-take-le n xs p.within in
    let prefix : take n (take n xs ++ ys) ≡ take n xs =
    ap (λ j. take j (take n xs ++ ys)) (sym long) ∙ take-append_seam (take n xs) ys in
    record {
      within = omega (arith, length-append (take n xs) ys, long);
      encodes = subst (λ z. Encodes z (view v) c) (sym prefix) p.encodes;
    }

pub value_lawful : IsLawful value_format
value_lawful = search (rules, value_one, value_within, value_positive, value_alone)
