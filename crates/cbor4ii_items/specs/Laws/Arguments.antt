-- What a program reads is read once, and stands in the input.
use Rattle.std.proofs.Common.{◌≡◌, ℕ, ◌<◌, ◌≤◌, List, [], ◌++◌, length, drop, take, Ok, sym, ap}
use Rattle.std.proofs.Common.{◌∙◌, arith, rules}
use Rattle.std.proofs.lemmas.List.{length-drop}
use Rattle.cbor4ii_items.specs.Decoding.{IsLawful, Reads}
use Rattle.cbor4ii_items.specs.Numbers.{argument_format, negative_format, ReadsArgument}
use Rattle.cbor4ii_items.specs.Laws.Formats.{lawful_by}
use Rattle.cbor4ii_items.specs.Reading.{Reading}
use Rattle.cbor4ii_items.specs.Laws.Outcome.{same_value}
use Rattle.cbor4ii_items.specs.Laws.Heads.{head_read, head_alone}
use Rattle.cbor4ii_items.specs.ReadHead.{head_at}

-- the program reads all that the relation says, at least one byte, and at no cost
pub record ReadBy {V : Type 0} (program : Reading V) (xs : List ℕ) (v : V) (n c : ℕ) : Type 0 where
  pub answer : program xs ≡ Ok (v, drop n xs)
  pub within : n ≤ length xs
  pub positive : 1 ≤ n
  pub cost : c ≡ 0

module _ {V : Type 0} (program : Reading V) (reads : Reads V)
    (again : (xs : List ℕ) (v : V) (n c : ℕ) → reads xs v n c → ReadBy program xs v n c) where
  pub leaf_one : (xs : List ℕ) (v w : V) (n m c d : ℕ) → reads xs v n c → reads xs w m d
      → (n ≡ m) × (c ≡ d) × (v ≡ w)
  leaf_one xs v w n m c d p q =
      let a = again xs v n c p in
      let b = again xs w m d q in
      let same = same_value (program xs) a.answer b.answer in (
        omega (arith, ap length same.1, length-drop n xs, length-drop m xs, a.within, b.within),
        a.cost ∙ sym b.cost,
        same.0,
      )

  pub leaf_within : (xs : List ℕ) (v : V) (n c : ℕ) → reads xs v n c → n ≤ length xs
  leaf_within xs v n c p = (again xs v n c p).within

  pub leaf_positive : (xs : List ℕ) (v : V) (n c : ℕ) → reads xs v n c → 1 ≤ n
  leaf_positive xs v n c p = (again xs v n c p).positive

-- ---- arguments

pub argument_again : (name : List ℕ) (major width : ℕ) → major < 8 → (xs : List ℕ) (v n c : ℕ)
    → ReadsArgument major width xs v n c → ReadBy (head_at name major width) xs v n c
argument_again name major width m xs v n c p = search (rules, head_read)

pub argument_alone : (major width : ℕ) (xs ys : List ℕ) (v n c : ℕ)
    → ReadsArgument major width xs v n c → ReadsArgument major width (take n xs ++ ys) v n c
argument_alone major width xs ys v n c p = (head_alone major width xs ys v n p.0, p.1)

pub argument_one : (major width : ℕ) → major < 8 → (xs : List ℕ) (v w n m c d : ℕ)
    → ReadsArgument major width xs v n c → ReadsArgument major width xs w m d
    → (n ≡ m) × (c ≡ d) × (v ≡ w)
argument_one major width m =
    leaf_one (head_at [] major width) (ReadsArgument major width) (argument_again [] major width m)

pub argument_within : (major width : ℕ) → major < 8 → (xs : List ℕ) (v n c : ℕ)
    → ReadsArgument major width xs v n c → n ≤ length xs
argument_within major width m = search (rules, leaf_within, argument_again)

pub argument_positive : (major width : ℕ) → major < 8 → (xs : List ℕ) (v n c : ℕ)
    → ReadsArgument major width xs v n c → 1 ≤ n
argument_positive major width m = search (rules, leaf_positive, argument_again)

pub zero_small : 0 < 8
zero_small = omega arith

pub argument_lawful : (name : List ℕ) (major width : ℕ) → major < 8
    → IsLawful (argument_format name major width)
argument_lawful name major width m = search rules

-- ---- negative integers

pub negative_lawful : (name : List ℕ) (width : ℕ) → IsLawful (negative_format name width)
negative_lawful name width = search (rules, lawful_by, argument_lawful)
