-- What is rejected stays rejected: after further bytes, unless it is at the end of the input, and
-- under a larger budget, unless for want of a step.
use Rattle.std.proofs.Common.{◌≡◌, ℕ, zero, suc, ◌<◌, ◌⊎◌, inl, inr, List, [], ◌∷◌, ◌++◌, length}
use Rattle.std.proofs.Common.{Option, Some, None, refl, sym, ap, ◌∙◌, arith, subst, append_assoc}
use Rattle.std.proofs.Common.{append-nil, length-append, rules}
use Rattle.std.specs.Int.{bytes_high_first}
use Rattle.cbor4ii_items.specs.{Budget.CostFits, Head.{Width, byte_count, head}}
use Rattle.cbor4ii_tree.specs.{Basis.Cost.{Budget, step_in}, Basis.InputError.{InputError, eof}}
use Rattle.cbor4ii_tree.specs.Basis.InputError.{Len, IsEof, IsDepthOverflow}
use Rattle.cbor4ii_tree.specs.Calls.Rejections.{Rejection, Is, Lacks, AfterHead, AtHead}
use Rattle.cbor4ii_tree.specs.Calls.Rejections.{RejectsAtStep, Each, EachPair, RejectsInCount}
use Rattle.cbor4ii_tree.specs.Calls.Rejections.{NoBreak, IndefiniteItems, AfterKey, IndefinitePairs}
use Rattle.cbor4ii_tree.specs.Basis.Tree.{Tree, Trees, no_trees, tree, Pairs, no_pairs, pair, bytes}
use Rattle.cbor4ii_tree.specs.Basis.Tree.{bytes_all, bytes_pairs}
use Rattle.cbor4ii_tree.proofs.parts.Rejecting.{headed_by, in_count, in_items, in_pairs}

-- of one error, before what comes later, where fewer than k bytes are there
abbrev pub Goes : ℕ → InputError → List ℕ → Rejection → Rejection → Type 0
Goes k e more s t =
    (bs rest : List ℕ) → length bs < k → s bs e rest → t (bs ++ more) e (rest ++ more)

-- the end of the input stays where it is
abbrev pub Calm : InputError → List ℕ → Type 0
Calm e more = IsEof e → more ≡ []

-- the other budget is this one, or, where no step was wanting, none
abbrev pub Widens : InputError → Budget → Budget → Type 0
Widens e None None = Unit {0}
Widens e None (Some m) = ⊥
Widens e (Some n) None = ¬ (IsDepthOverflow e)
Widens e (Some n) (Some m) = n ≡ m

pub widens_same : (e : InputError) (b : Budget) → Widens e b b
widens_same e None = tt
widens_same e (Some n) = refl

pub widens_none : (e : InputError) (b : Budget) → ¬ (IsDepthOverflow e) → Widens e b None
widens_none e None h = tt
widens_none e (Some n) h = h

pub widens_fits : (e : InputError) (b c : Budget) (n : ℕ) → Widens e b c → CostFits n b →
    CostFits n c
widens_fits e None (Some m) n w f = absurd w
widens_fits e (Some k) (Some m) n w f = omega arith
widens_fits e _ None n w f = tt

-- the same of the budgets that a step leaves, if it leaves any
abbrev pub StepWidens : InputError → Option Budget → Option Budget → Type 0
StepWidens e None other = ¬ (IsDepthOverflow e) ⊎ (other ≡ None)
StepWidens e (Some b) other = (c : Budget) × (other ≡ Some c) × Widens e b c

pub step_widens : (e : InputError) (b c : Budget) → Widens e b c
    → StepWidens e (step_in b) (step_in c)
step_widens e None None w = (None, refl, tt)
step_widens e None (Some m) w = absurd w
step_widens e (Some zero) None w = inl w
step_widens e (Some zero) (Some zero) w = inr refl
step_widens e (Some (suc n)) None w = (None, refl, w)
step_widens e (Some (suc n)) (Some (suc m)) w = (Some m, refl, omega arith)
step_widens e _ _ w = absurd (omega arith)

abbrev pub Covers : (Tree → Type 0) → (Tree → Type 0) → Type 0
Covers V W = (t : Tree) → V t → W t

pub each_covers : (V W : Tree → Type 0) → Covers V W → (ts : Trees) → Each V ts → Each W ts
each_covers V W c no_trees h = tt
each_covers V W c (tree t ts) h = (c t h.0, each_covers V W c ts h.1)

pub each_pair_covers : (V W : Tree → Type 0) → Covers V W → (ps : Pairs) → EachPair V ps
    → EachPair W ps
each_pair_covers V W c no_pairs h = tt
each_pair_covers V W c (pair k v ps) h = (c k h.0, c v h.1, each_pair_covers V W c ps h.2)

-- at the end of the input nothing follows it
pub at_end : (S : Rejection) (e : InputError) (more bs rest : List ℕ) → more ≡ [] → S bs e rest
    → S (bs ++ more) e (rest ++ more)
at_end S e more bs rest is s = search (rules, append-nil)

eof_is : (f e : InputError) → IsEof f → e ≡ f → IsEof e
eof_is f e h is = subst IsEof (sym is) h

depth_is : (f e : InputError) → IsDepthOverflow f → e ≡ f → IsDepthOverflow e
depth_is f e h is = subst IsDepthOverflow (sym is) h

pub is_goes : (f e : InputError) (left rest more : List ℕ) → Is f left e rest
    → Is f (left ++ more) e (rest ++ more)
is_goes f e left rest more h = (h.0, ap (λ r. r ++ more) h.1)

pub onward : (bs prefix after more : List ℕ) → bs ≡ prefix ++ after
    → bs ++ more ≡ prefix ++ (after ++ more)
onward bs prefix after more h = ap (λ r. r ++ more) h ∙ append_assoc prefix after more

pub trailing : (k : ℕ) (bs prefix after : List ℕ) → length bs < k → bs ≡ prefix ++ after
    → length after < k
trailing k bs prefix after lt is = omega (arith, ap length is, length-append prefix after)

pub stepped_goes : (name : List ℕ) (o u : Option Budget) (e : InputError) (here rest more : List ℕ)
    (s t : Budget → InputError → List ℕ → Type 0) → StepWidens e o u → ((x y : Budget)
    → Widens e x y → s x e rest → t y e (rest ++ more)) → RejectsAtStep name o here s e rest
    → RejectsAtStep name u (here ++ more) t e (rest ++ more)
stepped_goes name None u e here rest more s t (inl w) k x = absurd (w (depth_is _ e tt x.0))
stepped_goes name None u e here rest more s t (inr w) k x = rw w (is_goes _ e here rest more x)
stepped_goes name (Some b) u e here rest more s t w k x = rw w.1 (k b w.0 w.2 x)

module _ (k : ℕ) (e : InputError) (more : List ℕ) (calm : Calm e more) where
  -- no byte where an item should begin
  pub no_byte_goes : (name : List ℕ) (n : Len) (S : Rejection) (rest : List ℕ)
      → Is (eof name n) [] e rest → S [] e rest → S ([] ++ more) e (rest ++ more)
  no_byte_goes name n S rest is s = at_end S e more [] rest (calm (eof_is _ e tt is.0)) s

  pub lacks_goes : (asks : ℕ → ℕ → ℕ) (name : List ℕ) (n : ℕ)
      → Goes k e more (Lacks asks name n) (Lacks asks name n)
  lacks_goes asks name n bs rest lt s =
      at_end (Lacks asks name n) e more bs rest (calm (eof_is _ e tt s.1.0)) s

  pub after_head_goes : (major : ℕ) (w : Width) (b : ℕ) (s t : ℕ → Rejection)
      → ((n : ℕ) → Goes k e more (s n) (t n))
      → Goes k e more (AfterHead major w b s) (AfterHead major w b t)
  after_head_goes major w b s t g bs rest lt x =
      let same : suc (length bs) ≡ suc (length (bytes_high_first (byte_count w) x.argument
      ++ x.after)) = ap length x.is in
      headed_by x.argument (x.after ++ more) x.fits (onward (b ∷ bs) (head major x.argument w)
      x.after more x.is) (g x.argument x.after rest
      (omega (arith, same, length-append {A = ℕ})) x.rejected)

  pub at_head_goes : (name : List ℕ) (major : ℕ) (w : Width) (b : ℕ) (s t : ℕ → Rejection)
      → ((n : ℕ) → Goes k e more (s n) (t n))
      → Goes k e more (AtHead name major w b s) (AtHead name major w b t)
  at_head_goes name major w b s t g bs rest lt (inl x) =
      inl (lacks_goes (λ n m. n) name (byte_count w) bs rest lt x)
  at_head_goes name major w b s t g bs rest lt (inr x) =
      inr (after_head_goes major w b s t g bs rest lt x)

  module _ (V W : Tree → Type 0) (s t : Rejection) (c : Covers V W) (g : Goes k e more s t) where
    pub definite_goes : (n : ℕ) → Goes k e more (RejectsInCount V s n) (RejectsInCount W t n)
    definite_goes n bs rest lt x =
        in_count x.prefix (x.after ++ more) x.few (each_covers V W c x.prefix x.whole)
        (onward bs (bytes_all x.prefix) x.after more x.is)
        (g x.after rest (trailing k bs (bytes_all x.prefix) x.after lt x.is) x.rejected)

    no_break_goes : Goes k e more (NoBreak s) (NoBreak t)
    no_break_goes [] rest lt x =
        at_end (NoBreak t) e more [] rest (calm (eof_is _ e tt x.0)) x
    no_break_goes (b ∷ bs) rest lt x = (x.0, g (b ∷ bs) rest lt x.1)

    pub items_goes : Goes k e more (IndefiniteItems V s) (IndefiniteItems W t)
    items_goes bs rest lt x =
        in_items x.prefix (x.after ++ more) (each_covers V W c x.prefix x.whole) (onward bs
        (bytes_all x.prefix) x.after more x.is) (no_break_goes x.after rest
        (trailing k bs (bytes_all x.prefix) x.after lt x.is) x.rejected)

    pub pairs_goes : Goes k e more (IndefinitePairs V s) (IndefinitePairs W t)
    pairs_goes bs rest lt x =
        in_pairs x.prefix (x.after ++ more) (each_pair_covers V W c x.prefix x.whole) (onward bs
        (bytes_pairs x.prefix) x.after more x.is)
        (by_end x.after (trailing k bs (bytes_pairs x.prefix) x.after lt x.is) x.rejected)
      where
        by_end : (after : List ℕ) → length after < k → NoBreak s after e rest
            ⊎ AfterKey V s after e rest → NoBreak t (after ++ more) e (rest ++ more)
            ⊎ AfterKey W t (after ++ more) e (rest ++ more)
        by_end after less (inl y) = inl (no_break_goes after rest less y)
        by_end after less (inr y) =
            inr (record {
              key = y.key;
              after = y.after ++ more;
              whole = c y.key y.whole;
              is = onward after (bytes y.key) y.after more y.is;
              rejected = g y.after rest (trailing k after (bytes y.key) y.after less y.is)
                  y.rejected;
            })
