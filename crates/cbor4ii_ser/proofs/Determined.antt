-- The pieces determine the chunks.
use Rattle.std.proofs.Common.{◌≡◌, ℕ, ◌<◌, List, [], ◌∷◌, ◌++◌, length, refl, sym, ap, ap₂}
use Rattle.std.proofs.Common.{◌∙◌, inl, inr, arith, append_assoc, length-append, subst, rules}
use Rattle.cbor4ii_items.specs.Strings.{joined_content}
use Rattle.cbor4ii_ser.specs.Pieces.{IsFull, IsChunkOf, IsCut, Chunks}
use Rattle.cbor4ii_ser.specs.Pieces.{one, several}

pub joined_append : (ps qs : List (List ℕ)) → joined_content (ps ++ qs) ≡ joined_content ps
    ++ joined_content qs
joined_append [] qs = refl
joined_append (p ∷ ps) qs = search (rules, append_assoc, (joined_append ps qs))

-- two prefixes of one list: they are the same, or one goes on after the other
data Prefixes (a b c d : List (List ℕ)) : Type 0 where
  same : a ≡ c → b ≡ d → Prefixes a b c d
  longer : (x : List ℕ) (t : List (List ℕ)) → c ≡ a ++ (x ∷ t) → b ≡ x ∷ (t ++ d) → Prefixes a b c d
  shorter : (x : List ℕ) (t : List (List ℕ)) → a ≡ c ++ (x ∷ t) → d ≡ x ∷ (t ++ b) →
      Prefixes a b c d

prefixes_more : (x y : List ℕ) (a b c d : List (List ℕ)) → x ≡ y → Prefixes a b c d
    → Prefixes (x ∷ a) b (y ∷ c) d
prefixes_more x y a b c d e (same p q) = same (ap₂ (λ u v. u ∷ v) e p) q
prefixes_more x y a b c d e (longer z t p q) = longer z t (ap₂ (λ u v. u ∷ v) (sym e) p) q
prefixes_more x y a b c d e (shorter z t p q) = shorter z t (ap₂ (λ u v. u ∷ v) e p) q

prefixes : (a b c d : List (List ℕ)) → a ++ b ≡ c ++ d → Prefixes a b c d
prefixes [] b [] d e = same refl e
prefixes [] b (y ∷ c) d e = longer y c refl e
prefixes (x ∷ a) b [] d e = shorter x a refl (sym e)
prefixes (x ∷ a) b (y ∷ c) d e =
    prefixes_more x y a b c d (let h : x ≡ y = cc in h)
    (prefixes a b c d (let h : a ++ b ≡ c ++ d = cc in h))

-- a run that goes on after a full chunk is too long
too_long : (chunk other : List ℕ) (run more t : List (List ℕ)) (x : List ℕ) (rest : List (List ℕ))
    → IsChunkOf chunk run → IsChunkOf other more → more ≡ run ++ (x ∷ t) → IsFull chunk (x ∷ rest)
    → ⊥
too_long chunk other run more t x rest is are e full =
    search (rules, joined_append, length-append, inl, inr)

no_run : (run rest : List (List ℕ)) → [] ≡ run ++ rest → 0 < length run → ⊥
no_run run rest e h = omega (arith, h, ap length e, length-append run rest)

pub cut_same : (pieces : List (List ℕ)) (cs ds : List (List ℕ)) → IsCut pieces cs → IsCut pieces ds
    → cs ≡ ds
cut_same pieces [] [] p q = refl
cut_same pieces [] (d ∷ ds) p q = absurd (no_run q.0 q.1 (sym p ∙ q.2) q.3.some)
cut_same pieces (c ∷ cs) [] p q = absurd (no_run p.0 p.1 (sym q ∙ p.2) p.3.some)
cut_same pieces (c ∷ cs) (d ∷ ds) p q =
    elim (prefixes p.0 p.1 q.0 q.1 (sym p.2 ∙ q.2)) [
      | same e f ↦ ap₂ (λ u v. u ∷ v) (p.3.joins ∙ (ap joined_content e ∙ sym q.3.joins))
          (cut_same q.1 cs ds (subst (λ z. IsCut z cs) f p.5) q.5)
      | longer x t e f ↦
          absurd (too_long c d p.0 q.0 t x (t ++ q.1) p.3 q.3 e (subst (λ z. IsFull c z) f p.4))
      | shorter x t e f ↦
          absurd (too_long d c q.0 p.0 t x (t ++ p.1) q.3 p.3 e (subst (λ z. IsFull d z) f q.4))
    ]

-- of the same pieces there are no two texts
pub chunks_same : (pieces : List (List ℕ)) (a b : List ℕ) → Chunks pieces a → Chunks pieces b
    → a ≡ b
chunks_same pieces a b (one h e) (one k f) = e ∙ sym f
chunks_same pieces a b (one h e) (several cs k cut f) = absurd (omega (arith, h, k))
chunks_same pieces a b (several cs h cut e) (one k f) = absurd (omega (arith, h, k))
chunks_same pieces a b (several cs h cut e) (several ds k other f) = search (rules, cut_same)
