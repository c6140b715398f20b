use Rattle.std.proofs.Common.{ℕ, List, ◌++◌, rules}
use Rattle.cbor4ii_items.specs.Budget.{CostFits}
use Rattle.cbor4ii_tree.specs.Basis.Cost.{Budget, cost}
use Rattle.cbor4ii_tree.specs.Basis.Item.{Item}
use Rattle.cbor4ii_tree.specs.Basis.Meaning.{value}
use Rattle.cbor4ii_tree.specs.Basis.Encodings.{Encodes, DecodesTo, Skips}
use Rattle.cbor4ii_tree.specs.Basis.Tree.{Tree}
use Rattle.cbor4ii_ser.specs.OneItem.{Form, canonical, OneItem}
use Rattle.cbor4ii_ser.specs.OneItem.{IsReadWhole, IsReadCanonically}
use Rattle.cbor4ii_ser.proofs.laws.items_are_read.Goals as goal

encodes : (form : Form) (bytes : List ℕ) (p : OneItem form bytes)
    → Encodes bytes (value p.of_tree) (cost p.of_tree)
encodes form bytes p = search rules

reads : (form : Form) (bytes : List ℕ) (p : OneItem form bytes) (rest : List ℕ) (budget : Budget)
    → CostFits (cost p.of_tree) budget
    → DecodesTo (bytes ++ rest) budget (value p.of_tree) rest
reads form bytes p rest budget fits = search rules

-- where what is read as a value is skipped
whole : (form : Form) (bytes : List ℕ) (p : OneItem form bytes)
    → ((input : List ℕ) (budget : Budget) (v : Item) (rest : List ℕ)
    → DecodesTo input budget v rest → (t : Tree) × Skips input budget t rest)
    → IsReadWhole bytes (value p.of_tree) (cost p.of_tree)
whole form bytes p skipped = record {
  encodes = encodes form bytes p;
  reads = reads form bytes p;
  skips = λ rest budget fits. skipped (bytes ++ rest) budget (value p.of_tree) rest
      (reads form bytes p rest budget fits);
}

canonically : (bytes : List ℕ) (p : OneItem canonical bytes)
    → IsReadCanonically bytes (value p.of_tree) (cost p.of_tree)
canonically bytes p = search rules

pub returns-clause-any : goal.returns-clause-any
returns-clause-any c form bytes p = (
  value p.of_tree,
  cost p.of_tree,
  whole form bytes p c.skipping_takes_what_reading_takes.ensures,
)

pub returns-clause-canonically : goal.returns-clause-canonically
returns-clause-canonically c bytes p = (
  value p.of_tree,
  cost p.of_tree,
  whole canonical bytes p c.skipping_takes_what_reading_takes.ensures,
  canonically bytes p,
)
