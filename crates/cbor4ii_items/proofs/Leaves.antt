-- A call that does what a program does reads what the program reads.
use Rattle.std.proofs.Common.{◌≡◌, ℕ, ◌≤◌, List, length, drop, take, Option, Result, Ok, Err}
use Rattle.std.proofs.Common.{IfErr, OnOk, ◌+◌, false, sym, ◌∙◌, rules}
use Rattle.cbor4ii_rw.specs.View.{View}
use Rattle.cbor4ii_rw.specs.declared.error.DecodeError.{DecodeError}
use Rattle.cbor4ii_items.specs.Head.{IsBytes}
use Rattle.cbor4ii_items.specs.InputError.{InputError, is_out_of_memory}
use Rattle.cbor4ii_items.specs.Reading.{Reading, Runs}
use Rattle.cbor4ii_items.specs.Decoding.{Reads, RejectsAt, Decodes, leaf_format}
use Rattle.cbor4ii_items.specs.Laws.Calls.{ok}
use Rattle.cbor4ii_items.specs.Laws.Answering.{fits_zero, sound_at, complete_by, rejects_at}
use Rattle.cbor4ii_items.specs.Laws.Arguments.{ReadBy}

-- The program reads what the relation says, and rejects what the other relation says. The bytes
-- that it takes are bytes.
pub record IsLeaf {V : Type 0} (program : Reading V) (reads : Reads V)
    (rejects : RejectsAt) : Type 0 where
  pub means : (xs : List ℕ) (v : V) (n : ℕ) → program xs ≡ Ok (v, drop n xs) → n ≤ length xs
      → IsBytes (take n xs) → reads xs v n 0
  pub again : (xs : List ℕ) (v : V) (n c : ℕ) → reads xs v n c → ReadBy program xs v n c
  pub is_complete : (xs : List ℕ) (budget : Option ℕ) (z : InputError) (n : ℕ)
      → program xs ≡ Err (z, drop n xs) → n ≤ length xs → IsBytes (take n xs)
      → rejects xs budget z (drop n xs)

module _ {V E : Type 0} {program : Reading V} {reads : Reads V} {rejects : RejectsAt}
    (leaf : IsLeaf program reads rejects) where
  -- a call that does what a leaf's program does decodes the leaf
  pub decodes_of_runs : (r : Result V (DecodeError E)) {a b : View} → Runs program a b r
      → IfErr r (λ e. is_out_of_memory e ≡ false) → OnOk r (b.bound + 1 ≤ a.bound)
      → Decodes (leaf_format reads rejects) a b r
  decodes_of_runs (Ok v) {a = a} p memory progress = search (rules, ok, sound_at, fits_zero)
  decodes_of_runs (Err e) {a = a} p memory progress =
      let stop = rejects_at rejects (λ xs. leaf.is_complete xs a.budget) p in
      record {
        moves = p.moves;
        progress = λ _. tt;
        memory = λ out. sym memory ∙ out;
        sound = tt;
        complete = λ exact. complete_by reads
            (λ xs v n c read fits. (leaf.again xs v n c read).answer) p;
        rejects = λ exact. stop;
        begins = stop;
      }
