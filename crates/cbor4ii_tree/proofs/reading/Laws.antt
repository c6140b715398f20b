-- What each error of reading a value says of the bytes that may still come; what is read is
-- skipped, and reads back.
use Rattle.std.proofs.Common.{◌≡◌, ℕ, ◌<◌, ◌≤◌, ◌^◌, List, [], ◌++◌, length, refl, subst, rules}
use Rattle.cbor4ii_items.specs.{Budget.CostFits, Head.IsBytes, Laws.SequenceParts.fits_less}
use Rattle.cbor4ii_tree.specs.Basis.Canonical.{canonical_encoding, canonical_cost, with_bignums}
use Rattle.cbor4ii_tree.specs.{Basis.Cost.{Budget}, Basis.Encodings.{Encodes, DecodesTo}}
use Rattle.cbor4ii_tree.specs.{Basis.Encodings.{Skips, IsProperPrefix}, Basis.InputError.InputError}
use Rattle.cbor4ii_tree.specs.Basis.InputError.{eof, depth_overflow, Len, IsFinal}
use Rattle.cbor4ii_tree.specs.{Basis.Item.{Item, IsItem}, Laws.Ignoring.one_encoding}
use Rattle.cbor4ii_tree.specs.{Calls.ReadingRejects.ReadingRejects}
use Rattle.cbor4ii_tree.specs.Basis.Tree.{Tree, bytes, Loose, Joins}
use Rattle.cbor4ii_tree.proofs.encodings.CanonicalShape.{canonical_encodes, with_bignums-value}
use Rattle.cbor4ii_tree.proofs.encodings.Sizes.{skip_cost-le, cost-canonical_encoding, IsItem-value}
use Rattle.cbor4ii_tree.proofs.{parts.Rejecting.skips_by, profile.Answer.reading_laws}
use Rattle.cbor4ii_tree.proofs.reading.Answer.{tree_of}
use Rattle.cbor4ii_tree.proofs.profile.Answer as items

-- a proper prefix of an encoding that fits fails with Eof
pub prefix_rejects : (encoding : List ℕ) (v : Item) (steps : ℕ) (prefix : List ℕ) (budget : Budget)
    → Encodes encoding v steps → CostFits steps budget → IsProperPrefix prefix encoding
    → IsBytes prefix
    → (name : List ℕ) × (expect : Len) × ReadingRejects prefix budget (eof name expect) []
prefix_rejects encoding v steps prefix budget s f b =
    items.prefix_rejects reading_laws s.of_tree prefix
    budget (s.plain, rw s.cost_is f) (rw s.bytes_are b)

pub eof_on_prefix : (input : List ℕ) (budget : Budget) (name : List ℕ) (expect : Len)
    (rest : List ℕ) → IsBytes input → ReadingRejects input budget (eof name expect) rest →
    (t : Tree) × Loose t × Joins t × IsBytes (bytes t) × IsProperPrefix input (bytes t)
eof_on_prefix input budget name expect rest h s =
    let t = items.eof_on_prefix reading_laws input budget
    (eof name expect) rest h tt s in (t.0, t.1.0, t.1.1 refl, t.2, t.3)

pub depth_stays : (input more : List ℕ) (budget : Budget) (name rest : List ℕ) (v : Item)
    (x : List ℕ) → ReadingRejects input budget (depth_overflow name) rest
    → DecodesTo (input ++ more) budget v x → ⊥
depth_stays input more budget name rest v x rejects s =
    let t = tree_of s in
    items.stays reading_laws input more budget t.0 x
    (depth_overflow name) rest (λ h. h) rejects t.1

pub final_stays : (input more : List ℕ) (budget other : Budget) (e : InputError) (rest : List ℕ)
    (v : Item) (x : List ℕ) → IsFinal e → ReadingRejects input budget e rest
    → DecodesTo (input ++ more) other v x → ⊥
final_stays input more budget other e rest v x h rejects s =
    let t = tree_of s in
    items.final_stays reading_laws input more budget
    other e rest t.0 x h rejects t.1

-- one input has one encoding of one value at one cost
pub one_encoded : (s t : List ℕ) (v w : Item) (c d : ℕ) (x y : List ℕ) → Encodes s v c
    → Encodes t w d → s ++ x ≡ t ++ y → (s ≡ t) × (v ≡ w) × (c ≡ d) × (x ≡ y)
one_encoded s t v w c d x y p q e = search (rules, one_encoding)

-- what is read is skipped
pub skips_what_reads : (input : List ℕ) (budget : Budget) (v : Item) (rest : List ℕ)
    → DecodesTo input budget v rest → (t : Tree) × Skips input budget t rest
skips_what_reads input budget v rest r =
    search (rules, tree_of, skips_by, fits_less, skip_cost-le)

-- ---- the canonical encoding

pub encoded_has_bignums : (encoding : List ℕ) (v : Item) (steps : ℕ) → Encodes encoding v steps
    → with_bignums v ≡ v
encoded_has_bignums encoding v steps s =
    subst (λ w. with_bignums w ≡ w) s.value_is (with_bignums-value s.of_tree s.plain.0)

pub canonical_costs_least : (encoding : List ℕ) (v : Item) (steps : ℕ) → Encodes encoding v steps
    → canonical_cost v ≤ steps
canonical_costs_least encoding v steps s = search (rules, cost-canonical_encoding)

pub reads_back : (encoding : List ℕ) (v : Item) (steps : ℕ) (budget : Budget) (more : List ℕ)
    → IsItem v → Encodes encoding v steps → CostFits steps budget
    → DecodesTo (canonical_encoding v ++ more) budget v more
reads_back encoding v steps budget more h s f = record {
  encoding = canonical_encoding v;
  steps = canonical_cost v;
  encodes =
      subst (λ w. Encodes (canonical_encoding v) w (canonical_cost v)) (encoded_has_bignums encoding
      v steps s) (canonical_encodes v h);
  fits = fits_less (canonical_cost v) steps budget (canonical_costs_least encoding v steps s) f;
  begins = refl;
}

-- every value of the program is read back, with its bignums as tags
pub reads_back_tagged : (v : Item) (budget : Budget) (more : List ℕ) → IsItem v
    → CostFits (canonical_cost v) budget → DecodesTo (canonical_encoding v ++ more) budget
    (with_bignums v) more
reads_back_tagged v budget more h f = search (rules, canonical_encodes)

pub encoded_is_item : (encoding : List ℕ) (v : Item) (steps : ℕ) → length encoding < 2 ^ 64
    → Encodes encoding v steps → IsItem v
encoded_is_item encoding v steps lt s = search (rules, IsItem-value)
