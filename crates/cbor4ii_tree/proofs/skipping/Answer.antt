-- Skipping has one answer for each input and budget, and no encoding begins another.
use Rattle.std.proofs.Common.{◌≡◌, ℕ, List, [], ◌++◌, Ok, Err, sym, ◌∙◌, append-nil}
use Rattle.cbor4ii_items.specs.{Head.IsBytes, Budget.CostFits}
use Rattle.cbor4ii_tree.specs.{Basis.Cost.{Budget, skip_cost}, Basis.Encodings.{Skips, SomeAnswer}}
use Rattle.cbor4ii_tree.specs.Basis.Encodings.{AtMostOne, IsProperPrefix}
use Rattle.cbor4ii_tree.specs.Basis.InputError.{InputError, eof, depth_overflow, Len, IsFinal}
use Rattle.cbor4ii_tree.specs.{Laws.Ignoring.one_encoding, Calls.Skip.skip}
use Rattle.cbor4ii_tree.specs.{Calls.SkippingRejects.SkippingRejects, Basis.Tree.{Tree, bytes}}
use Rattle.cbor4ii_tree.specs.Basis.Tree.{Loose}
use Rattle.cbor4ii_tree.proofs.answers.Answers.{some_answer_of, at_most_one_of}
use Rattle.cbor4ii_tree.proofs.{parts.Rejecting.skips_by, profile.Answer.at_from_takes}
use Rattle.cbor4ii_tree.proofs.profile.Answer.{takes_from_at, at_from_rejects, rejects_from_at}
use Rattle.cbor4ii_tree.proofs.profile.Answer.{skipping_laws}
use Rattle.cbor4ii_tree.proofs.profile.Answer as items

-- ---- what each error of skipping says of the bytes that may still come

-- a proper prefix of an item that fits fails with Eof
pub prefix_rejects : (t : Tree) (prefix : List ℕ) (budget : Budget) → Loose t
    → CostFits (skip_cost t) budget → IsProperPrefix prefix (bytes t) → IsBytes prefix
    → (name : List ℕ) × (expect : Len) × SkippingRejects prefix budget (eof name expect) []
prefix_rejects t prefix budget l f =
    items.prefix_rejects skipping_laws t prefix budget
    (l, f)

pub eof_on_prefix : (input : List ℕ) (budget : Budget) (name : List ℕ) (expect : Len)
    (rest : List ℕ) → IsBytes input → SkippingRejects input budget (eof name expect) rest →
    (t : Tree) × Loose t × IsBytes (bytes t) × IsProperPrefix input (bytes t)
eof_on_prefix input budget name expect rest h s =
    let t = items.eof_on_prefix skipping_laws input budget
    (eof name expect) rest h tt s in (t.0, t.1.0, t.2, t.3)

pub depth_stays : (input more : List ℕ) (budget : Budget) (name rest : List ℕ) (t : Tree)
    (x : List ℕ) → SkippingRejects input budget (depth_overflow name) rest
    → Skips (input ++ more) budget t x → ⊥
depth_stays input more budget name rest t x rejects s =
    items.stays skipping_laws input more budget t x
    (depth_overflow name) rest (λ h. h) rejects ((s.loose, s.fits), s.begins)

pub final_stays : (input more : List ℕ) (budget other : Budget) (e : InputError) (rest : List ℕ)
    (t : Tree) (x : List ℕ) → IsFinal e → SkippingRejects input budget e rest
    → Skips (input ++ more) other t x → ⊥
final_stays input more budget other e rest t x h rejects s =
    items.final_stays skipping_laws input more budget
    other e rest t x h rejects ((s.loose, s.fits), s.begins)

pub skip_from_Skips : (input : List ℕ) (budget : Budget) (t : Tree) (rest : List ℕ)
    → Skips input budget t rest → skip budget input ≡ Ok (t, rest)
skip_from_Skips input budget t rest s =
    at_from_takes skipping_laws input budget t rest ((s.loose, s.fits), s.begins)

pub Skips_from_skip : (input : List ℕ) (budget : Budget) (t : Tree) (rest : List ℕ) → IsBytes input
    → skip budget input ≡ Ok (t, rest) → Skips input budget t rest
Skips_from_skip input budget t rest h e =
    let s = takes_from_at skipping_laws input budget t rest h e in
    skips_by s.0.0 s.0.1 s.1

pub skip_from_Rejects : (input : List ℕ) (budget : Budget) (e : InputError) (rest : List ℕ)
    → SkippingRejects input budget e rest → skip budget input ≡ Err (e, rest)
skip_from_Rejects = at_from_rejects skipping_laws

pub Rejects_from_skip : (input : List ℕ) (budget : Budget) (e : InputError) (rest : List ℕ)
    → IsBytes input → skip budget input ≡ Err (e, rest) → SkippingRejects input budget e rest
Rejects_from_skip = rejects_from_at skipping_laws

pub some_skipping : (input : List ℕ) (budget : Budget) → IsBytes input
    → SomeAnswer (Skips input budget) (SkippingRejects input budget)
some_skipping input budget h =
    some_answer_of (skip budget input) _ _ (λ t x. Skips_from_skip input budget t x h)
    (λ e x. Rejects_from_skip input budget e x h)

-- of any numbers
pub one_skipping : (input : List ℕ) (budget : Budget)
    → AtMostOne (Skips input budget) (SkippingRejects input budget)
one_skipping input budget =
    at_most_one_of (skip budget input) _ _ (skip_from_Skips input budget)
    (skip_from_Rejects input budget)

-- what is accepted does not fail, of any numbers
pub not_both : (input : List ℕ) (budget : Budget) (t : Tree) (x : List ℕ) (e : InputError)
    (y : List ℕ) → Skips input budget t x → SkippingRejects input budget e y → ⊥
not_both input budget = (one_skipping input budget).not_both

pub prefix_free : (t u : Tree) (more : List ℕ) → Loose t → Loose u → bytes t ++ more ≡ bytes u
    → t ≡ u
prefix_free t u more l m e = (one_encoding t u more [] l m (e ∙ sym (append-nil (bytes u)))).0
