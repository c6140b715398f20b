use Rattle.std.proofs.Common.{◌≡◌, ℕ, ◌<◌, ◌≤◌, List, [], ◌∷◌, length, get_or, map, string_bytes}
use Rattle.std.proofs.Common.{String, Global, refl, sym, ap, ◌∙◌, arith}
use Rattle.std.proofs.lemmas.Slice.Eq.{bytes_eq-Decides}
use Rattle.cbor4ii_tool.proofs.arguments.command.Goals as goal

-- the texts of a single word
one_text : (words : List (String Global)) (word : String Global) (text : List ℕ) → 1 ≤ length words
    → length words < 2 → word ≡ get_or words 0 word → string_bytes word ≡ text
    → map string_bytes words ≡ text ∷ []
one_text [] word text least most is e = absurd (omega arith)
one_text (w ∷ []) word text least most is e =
    ap (λ bytes. bytes ∷ []) (ap string_bytes (sym is) ∙ e)
one_text (w ∷ (v ∷ ws)) word text least most is e = absurd (omega arith)

pub returns-in-len1-clause-ints : goal.returns-in-len1-clause-ints
returns-in-len1-clause-ints c = (
  λ _. one_text _ _ _ c.in-len1.len_at_least c.in-len1.len_below c.word-item.is
      (sym c.as_str.ensures.value ∙ (bytes_eq-Decides _ _).0 (sym c.eq.ensures ∙ c.if-eq.true)),
  λ _. refl,
)

pub returns-in-len1-2-clause-canon : goal.returns-in-len1-2-clause-canon
returns-in-len1-2-clause-canon c = (
  λ _. one_text _ _ _ c.in-len1.len_at_least c.in-len1.len_below c.word-item-then-words-lt2.is
      (sym c.as_str-then-words-lt2.ensures.value
      ∙ (bytes_eq-Decides _ _).0 (sym c.eq-then-words-lt2.ensures ∙ c.if-eq-2.true)),
  λ _. refl,
)

pub returns-in-len1-3-clause-lens : goal.returns-in-len1-3-clause-lens
returns-in-len1-3-clause-lens c = (
  λ _. one_text _ _ _ c.in-len1.len_at_least c.in-len1.len_below c.word-item-then-words-lt2-2.is
      (sym c.as_str-then-words-lt2-2.ensures.value
      ∙ (bytes_eq-Decides _ _).0 (sym c.eq-then-words-lt2-2.ensures ∙ c.if-eq-3.true)),
  λ _. refl,
)

pub returns-in-len1-4-clause-strict : goal.returns-in-len1-4-clause-strict
returns-in-len1-4-clause-strict c = (
  λ _. one_text _ _ _ c.in-len1.len_at_least c.in-len1.len_below c.word-item-then-words-lt2-3.is
      (sym c.as_str-then-words-lt2-3.ensures.value
      ∙ (bytes_eq-Decides _ _).0 (sym c.eq-then-words-lt2-3.ensures ∙ c.if-eq-4.true)),
  λ _. refl,
)
