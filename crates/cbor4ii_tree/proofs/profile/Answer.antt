-- The program on lists answers with what begins the input and with what is rejected; what an error
-- says of the bytes that may still come.
use Rattle.std.proofs.Common.{◌≡◌, ℕ, suc, ◌⊎◌, inl, inr, List, [], ◌∷◌, ◌++◌, length, None, Ok}
use Rattle.std.proofs.Common.{Err, sym, ap, ◌∙◌, subst, arith, append_assoc, append-nil, rules}
use Rattle.cbor4ii_items.specs.Head.{IsBytes}
use Rattle.cbor4ii_tree.specs.Basis.{Cost.Budget, Encodings.{SomeAnswer, AtMostOne, IsProperPrefix}}
use Rattle.cbor4ii_tree.specs.Basis.InputError.{InputError, eof, Len, IsEof, IsFinal}
use Rattle.cbor4ii_tree.specs.Basis.{InputError.IsDepthOverflow, Tree.{Tree, bytes, Loose}}
use Rattle.cbor4ii_tree.specs.Calls.{ItemAt.item_at, ItemRejects.{Profile, ItemRejects}}
use Rattle.cbor4ii_tree.specs.Calls.ReadingRejects.{reading_profile}
use Rattle.cbor4ii_tree.specs.Calls.SkippingRejects.{skipping_profile}
use Rattle.cbor4ii_tree.specs.Laws.{Ignoring.one_encoding, ItemAgain.item_again}
use Rattle.cbor4ii_tree.specs.Laws.Profiles.{IsLawfulProfile, skipping_lawful, reading_lawful}
use Rattle.cbor4ii_tree.proofs.answers.Answers.{some_answer_of, at_most_one_of}
use Rattle.cbor4ii_tree.proofs.answers.MayReject.{final_only, may_reject, leaves_nothing}
use Rattle.cbor4ii_tree.proofs.parts.{Meets.{Meets, met_ok, met_err}, Prefixes.whole_bytes}
use Rattle.cbor4ii_tree.proofs.parts.{Stop.Took, Widen.widens_none}
use Rattle.cbor4ii_tree.proofs.profile.Widen.{Outline, Outlined, readable_outline, rejected_prefix}
use Rattle.cbor4ii_tree.proofs.profile.Widen.{Widening, persists, unbounded, reading_widens}
use Rattle.cbor4ii_tree.proofs.profile.{Widen.skipping_widens, Sound.{item_rejects, item_meets}}

pub none_left : (xs ys : List ℕ) → xs ++ ys ≡ [] → ys ≡ []
none_left [] ys e = e
none_left (x ∷ xs) ys e = cc

pub no_eof : (z : InputError) → IsDepthOverflow z ⊎ IsFinal z → ¬ (IsEof z)
no_eof (eof name expect) (inl d) q = absurd d
no_eof (eof name expect) (inr f) q = absurd f
no_eof _ d q = absurd q

-- no item begins a proper prefix of another
pub no_prefix : (prefix : List ℕ) (u t : Tree) (x : List ℕ) → Loose u → Loose t
    → prefix ≡ bytes u ++ x → IsProperPrefix prefix (bytes t) → ⊥
no_prefix prefix u t x l m is b =
    let same = one_encoding u t (x ++ b.0) [] l m (sym (append_assoc (bytes u) x b.0)
    ∙ ap (λ r. r ++ b.0) (sym is) ∙ sym b.2 ∙ sym (append-nil (bytes t))) in
    b.1 (none_left x b.0 same.1)

-- a tree that is taken whole begins the input, and the rest follows it
abbrev pub Takes : Profile → List ℕ → Budget → Tree → List ℕ → Type 0
Takes p input budget t rest = p.Whole budget t × (input ≡ bytes t ++ rest)

-- the laws of a profile
pub record Laws (p : Profile) : Type 0 where
  pub lawful : IsLawfulProfile p
  pub widens : Widening p
  pub outlined : Outlined p

pub skipping_laws : Laws skipping_profile
skipping_laws = search (rules, skipping_lawful, skipping_widens)

pub reading_laws : Laws reading_profile
reading_laws =
    record { lawful = reading_lawful; widens = reading_widens; outlined = readable_outline }

module _ {p : Profile} (l : Laws p) where
  pub at_from_takes : (input : List ℕ) (budget : Budget) (t : Tree) (rest : List ℕ)
      → Takes p input budget t rest → item_at p budget input ≡ Ok (t, rest)
  at_from_takes input budget t rest s = search (rules, item_again)

  meets : (input : List ℕ) (budget : Budget) → IsBytes input
      → Meets (Took (p.Whole budget) input) (ItemRejects p input budget) (item_at p budget input)
  meets input budget h =
      item_meets p l.lawful (suc (length input)) budget input h (omega arith)

  pub takes_from_at : (input : List ℕ) (budget : Budget) (t : Tree) (rest : List ℕ)
      → IsBytes input → item_at p budget input ≡ Ok (t, rest) → Takes p input budget t rest
  takes_from_at input budget t rest h e =
      let took = met_ok _ (t, rest) (meets input budget h) e in (took.whole, took.is)

  pub at_from_rejects : (input : List ℕ) (budget : Budget) (e : InputError) (rest : List ℕ)
      → ItemRejects p input budget e rest → item_at p budget input ≡ Err (e, rest)
  at_from_rejects input budget e rest s =
      item_rejects p l.lawful (suc (length input)) budget input e rest (omega arith) s

  pub rejects_from_at : (input : List ℕ) (budget : Budget) (e : InputError) (rest : List ℕ)
      → IsBytes input → item_at p budget input ≡ Err (e, rest) → ItemRejects p input budget e rest
  rejects_from_at input budget e rest h x = met_err _ e rest (meets input budget h) x

  pub some_item : (input : List ℕ) (budget : Budget) → IsBytes input
      → SomeAnswer (Takes p input budget) (ItemRejects p input budget)
  some_item input budget h =
      some_answer_of (item_at p budget input) _ _ (λ t x. takes_from_at input budget t x h)
      (λ e x. rejects_from_at input budget e x h)

  -- of any numbers
  pub one_item : (input : List ℕ) (budget : Budget)
      → AtMostOne (Takes p input budget) (ItemRejects p input budget)
  one_item input budget =
      at_most_one_of (item_at p budget input) _ _ (at_from_takes input budget)
      (at_from_rejects input budget)

  -- what is rejected goes on as no item that fits, unless the input ended
  pub stays : (input more : List ℕ) (budget : Budget) (t : Tree) (x : List ℕ) (e : InputError)
      (rest : List ℕ) → ¬ (IsEof e) → ItemRejects p input budget e rest
      → Takes p (input ++ more) budget t x → ⊥
  stays input more budget t x e rest h rejects s =
      (one_item (input ++ more) budget).not_both t x e (rest ++ more) s
      (persists p l.widens input more budget e rest h rejects)

  pub final_stays : (input more : List ℕ) (budget other : Budget) (e : InputError)
      (rest : List ℕ) (t : Tree) (x : List ℕ) → IsFinal e → ItemRejects p input budget e rest
      → Takes p (input ++ more) other t x → ⊥
  final_stays input more budget other e rest t x h rejects s =
      let only = final_only e h in
      (one_item (input ++ more) None).not_both t x e (rest ++ more)
      (l.widens.covers e other None (widens_none e other only.1) t s.0, s.1)
      (unbounded p l.widens input budget e rest only.0 only.1 more rejects)

  -- where a proper prefix of an item that fits is rejected, the input ended
  pub eof_alone : (prefix back : List ℕ) (budget : Budget) (t : Tree) (e : InputError)
      (rest : List ℕ) → ItemRejects p prefix budget e rest → Takes p (prefix ++ back) budget t []
      → IsEof e
  eof_alone prefix back budget t e rest s u = search (rules, may_reject, inl, inr, stays, no_eof)

  pub prefix_rejects : (t : Tree) (prefix : List ℕ) (budget : Budget) → p.Whole budget t
      → IsProperPrefix prefix (bytes t) → IsBytes prefix
      → (name : List ℕ) × (expect : Len) × ItemRejects p prefix budget (eof name expect) []
  prefix_rejects t prefix budget whole b h =
      elim (some_item prefix budget h) [
        | inl x ↦ absurd (no_prefix prefix x.0 t x.1 (l.lawful.loose budget x.0 x.2.0)
            (l.lawful.loose budget t whole) x.2.1 b)
        | inr x ↦ by_error x.0 x.1 x.2 (eof_alone prefix b.0 budget t x.0 x.1 x.2
            (whole, sym b.2 ∙ sym (append-nil (bytes t))))
      ]
    where
      by_error : (e : InputError) (rest : List ℕ) → ItemRejects p prefix budget e rest → IsEof e
          → (name : List ℕ) × (expect : Len) × ItemRejects p prefix budget (eof name expect) []
      by_error (eof name expect) rest s i = (
        name,
        expect,
        subst (ItemRejects p prefix budget (eof name expect))
            (leaves_nothing p prefix budget (eof name expect) rest tt s) s,
      )
      by_error _ rest s i = absurd i

  pub eof_on_prefix : (input : List ℕ) (budget : Budget) (e : InputError) (rest : List ℕ)
      → IsBytes input → IsEof e → ItemRejects p input budget e rest
      → (t : Tree) × Outline p.tests t × IsBytes (bytes t) × IsProperPrefix input (bytes t)
  eof_on_prefix input budget e rest h eo s = search (rules, rejected_prefix, whole_bytes)
