-- Calls of skipping that take some items, one after another and within others.
use Rattle.std.proofs.Common.{rules}
use denote.Ref.{Bor}
use Rattle.cbor4ii_tree.proofs.{parts.Rejecting.{in_count, skips_by}, skip_calls.Doing.lowered}
use Rattle.cbor4ii_tree.proofs.skip_calls.Doing.{Reached, reached_by, reached_as, still_rejected}
use Rattle.cbor4ii_tree.proofs.skip_calls.Doing.{refused, does_ok, does_after, does_on}
use Rattle.cbor4ii_tree.proofs.skip_calls.Doing.{does_reject_by, does_around, does_stepped}
use Rattle.cbor4ii_tree.proofs.skip_calls.Doing.{steps_in, with, keeps_alike, keeps_then, stays_put}
use Rattle.cbor4ii_tree.proofs.skip_calls.Doing.{apart_with, apart_on, apart_value, reached_then}
use Rattle.cbor4ii_tree.proofs.skip_calls.Doing.{does_err, does_between, apart_gains}
use Rattle.cbor4ii_tree.proofs.skip_calls.{Leaves.run_items, Parts.{items_join, items_later}}
use Rattle.cbor4ii_tree.proofs.skip_calls.Parts.{only_one, no_break, items_one, items_none}
use Rattle.cbor4ii_tree.proofs.skip_calls.{Parts.first_stop, Prefixes.{byte_stays, byte_taken}}
use Rattle.cbor4ii_tree.proofs.skipping.Answer.{not_both}
use Rattle.std.proofs.Common.{◌*◌, ◌≡◌, ◌≢◌, ℕ, ◌+◌, ◌≤◌, inl, inr, List, ◌∷◌, Result, Ok, Err}
use Rattle.std.proofs.Common.{Some, None, Bool, true, false, refl, sym, ap, ◌∙◌, subst, arith, IfOk}
use Rattle.std.proofs.Common.{IsTrue, zero, suc, ◌-◌, ◌<◌, ◌++◌, length, drop, Option, IfSome}
use Rattle.std.proofs.Math.Seq.{drop-append_seam}
use Rattle.cbor4ii_rw.specs.{Reader.{KeepsAllButBudget, StepsIn, step_back, Advances}, View.View}
use Rattle.cbor4ii_rw.specs.declared.error.DecodeError.{DecodeError, TheVariants.DepthOverflow}
use Rattle.cbor4ii_items.specs.{Budget.CostFits, Decoding.{Sound, Complete, NoneRead, Decodes}}
use Rattle.cbor4ii_items.specs.{Decoding.leaf_format, Head.break, InputError.InputError}
use Rattle.cbor4ii_items.specs.InputError.{input_error_of, is_out_of_memory}
use Rattle.cbor4ii_items.specs.Laws.{Answering.fits_zero, Calls.{ok, no_memory}, Steps.moves_err}
use Rattle.cbor4ii_items.specs.Laws.UnderStep.{no_step, step_again, step_unbound}
use Rattle.cbor4ii_tree.specs.Basis.{Cost.{Budget, step_in, skip_cost}}
use Rattle.cbor4ii_tree.specs.Basis.{InputError.{ignored_any, break_name}, Tree.bytes}
use Rattle.cbor4ii_tree.specs.Calls.{Ignored.ReadsIgnored, Rejections.{Rejection, NoBreak}}
use Rattle.cbor4ii_tree.specs.{Calls.SkippingRejects.SkippingRejects, Inner.Ahead.TakesAhead}
use Rattle.cbor4ii_tree.specs.Inner.Ahead.{TakesHead, Passes, Allows, Awaits, CountsAmong}
use Rattle.cbor4ii_tree.specs.Inner.Ahead.{IsIndefinite, NotBreak, SkipsSome, RejectsSome}
use Rattle.cbor4ii_tree.specs.Inner.Ahead.{SkipsSomeUnder, RejectsSomeUnder, GoesUnder, CountsSome}
use Rattle.cbor4ii_tree.specs.Inner.Ahead.{CountsWent, EndsOrNot, CountsNone, RejectsAtEnd}
use Rattle.cbor4ii_tree.specs.Inner.{Ahead.NeverRejects, BytesAhead.{Offers, FirstByteIs}}
use Rattle.cbor4ii_tree.specs.Inner.{Deeper.{Deeper, FollowsInside, with_budget}, Does.Accepting}
use Rattle.cbor4ii_tree.specs.Inner.Does.{Does, DoesUnder, DoesApart, Lowers, MayStay, Taking}
use Rattle.cbor4ii_tree.specs.Inner.{HeadParts.{TakesByte, NoByte}, Skipping.SkipsOne}
use Rattle.cbor4ii_tree.specs.Inner.Skipping.{RejectsSkippingOne, SkipsItems, RejectsSkippingItems}
use Rattle.cbor4ii_tree.specs.Inner.Skipping.{SkipsUnder, RejectsSkippingUnder, HeadLeads}
use Rattle.cbor4ii_tree.specs.Inner.Skipping.{SkipsAfter, RejectsSkippingAfter}
use Rattle.cbor4ii_tree.specs.{Laws.Binds.step_up, declared.ahead.Ahead.Ahead}
use Rattle.cbor4ii_tree.specs.declared.ahead.Ahead.TheVariants.{Run, Head, Break, Unseen}
use Rattle.cbor4ii_tree.specs.declared.ahead.Among.{Among, TheVariants.{Items, Indefinite}}
use Rattle.cbor4ii_tree.specs.declared.{ignored.IgnoredAny.IgnoredAny, skip.initial.After.After}
use Rattle.cbor4ii_tree.specs.declared.skip.{initial.After.TheVariants.Nothing, items.Went.Went}
use Rattle.cbor4ii_tree.specs.declared.skip.items.Went.TheVariants.{Past, Into}
use Rattle.cbor4ii_tree.specs.declared.ahead.Among.TheVariants as among
use Rattle.cbor4ii_tree.specs.declared.skip.initial.After.TheVariants as left_after

-- Calls of skipping that take some items, one after another.

-- ---- counts

pub counts_one : (among : Among) → Awaits among → CountsAmong among 1
counts_one (Items most) h = (omega arith, h)
counts_one Indefinite h = tt

pub counts_none : (among : Among) → IsIndefinite among → CountsAmong among 0
counts_none (Items most) h = absurd h
counts_none Indefinite h = tt

-- as many as may be taken at once
pub counts_run : (among : Among) (n : ℕ) → 1 ≤ n → Allows among n → CountsAmong among n
counts_run (Items most) n some h = (some, h)
counts_run Indefinite n some h = tt

module _ {E : Type 0} (among : Among) where
  -- under a step
  pub counts_around : (r : Result ℕ (DecodeError E)) (a b c d : ℕ) → IfOk r (CountsSome among b c)
      → b ≤ a → d ≤ c → IfOk r (CountsSome among a d)
  counts_around (Ok n) a b c d h e f = (h.0, λ some. omega (arith, e, f, h.1 some))
  counts_around (Err e) a b c d h k f = tt

  -- the item that was begun
  pub counts_led : (r : Result (Unit {0}) (DecodeError E)) (a m b : ℕ) → Awaits among
      → IfOk r (Lowers m b) → m ≤ a → IfOk (with (λ _. 1) r) (CountsSome among a b)
  counts_led (Ok u) a m b awaits fell le = (counts_one among awaits, λ _. omega (arith, fell, le))
  counts_led (Err e) a m b awaits fell le = tt

-- ---- where an item is rejected

rejects_among : (among : Among) (budget : Budget) (xs : List ℕ) (e : InputError) (rest : List ℕ)
    → (IsIndefinite among → NotBreak xs)
    → RejectsSkippingOne budget xs e rest → RejectsSome among budget xs e rest
rejects_among (Items most) budget xs e rest h s = s
rejects_among Indefinite budget xs e rest h s =
    no_break (RejectsSkippingOne budget) xs e rest (h tt) s

end_rejects : (among : Among) (budget : Budget) (xs : List ℕ) (e : InputError) (rest : List ℕ)
    → RejectsAtEnd among xs e rest → RejectsSome among budget xs e rest
end_rejects (Items most) budget xs e rest h = absurd h.0
end_rejects Indefinite budget xs e rest h =
    subst (λ ys. NoBreak (RejectsSkippingOne budget) ys e rest) (sym h.1) h.2

module _ {E : Type 0} (among : Among) where
  -- a break where one may come
  abbrev pub Ends : View → View → Result Bool (DecodeError E) → Type 0
  Ends a b r = Does (EndsOrNot among) (RejectsAtEnd among) a b r

  -- what comes next, how far that leads, and some items, where the step was taken and where not
  abbrev pub Takes : Bool → View → View → View → View → Result Ahead (DecodeError E) → Type 0
  Takes t o i a b r = DoesApart (TakesAhead among) (λ _. NeverRejects) (Passes among) t o i a b r

  abbrev pub Goes : Bool → View → View → View → View → Result Went (DecodeError E) → Type 0
  Goes t o i a b r =
      DoesApart (GoesUnder among) (RejectsSomeUnder among) (CountsWent among) t o i a b r

  abbrev pub Inside : Bool → View → View → View → View → Result ℕ (DecodeError E) → Type 0
  Inside t o i a b r =
      DoesApart (SkipsSomeUnder among) (RejectsSomeUnder among) (CountsSome among) t o i a b r

  abbrev pub Outside : Bool → View → View → View → View → Result ℕ (DecodeError E) → Type 0
  Outside t o i a b r = DoesApart (SkipsSome among) (RejectsSome among)
      (CountsSome among) t o i a b r

  -- ---- a break where one may come

  module _ {a m : View} where
    -- another byte stays
    pub ends_later : {b : ℕ} → b ≢ break → Offers 1 (FirstByteIs b) a m → Ends a m (Ok false)
    ends_later {b = b} other o =
        does_ok _ _ (reached_as _ (λ xs ys. EndsOrNot among xs false ys)
        (λ xs ys h. let is : ys ≡ b ∷ h.1 = h.0 ∙ h.2 in
        (h.0, λ _. (λ none. cc, λ bs e. other (by_first b break h.1 bs (sym is ∙ e)))))
        (byte_stays o))
      where
        by_first : (x y : ℕ) (xs ys : List ℕ) → x ∷ xs ≡ y ∷ ys → x ≡ y
        by_first x y xs ys e = cc

    pub ends_here : IsIndefinite among → {b : ℕ} {c : View} → b ≡ break
        → Offers 1 (FirstByteIs b) a m → Advances 1 m c → Ends a c (Ok true)
    ends_here here is o adv =
        does_ok _ _ (reached_as _ (λ xs ys. EndsOrNot among xs true ys)
        (λ xs ys e. (here, e ∙ ap (λ z. z ∷ ys) is)) (byte_taken o adv))

    pub ends_cut : IsIndefinite among → {e : DecodeError E}
        → Does {V = ℕ} TakesByte (NoByte break_name 1) a m (Err e) → Ends a m (Err e)
    ends_cut here d = still_rejected _ _ _ (RejectsAtEnd among) (λ xs z rest h. (here, h.0, h.1)) d

    -- it was taken, and no item, under whatever budget
    pub ended : (A : Accepting ℕ) → ((xs ys : List ℕ) → ((budget : Budget) → SkipsSome among budget
        xs 0 ys) → A xs 0 ys) → (S : Rejection) → Ends a m (Ok true) → Does {E = E} A S a m (Ok 0)
    ended A f S d = search (rules, does_ok, reached_as, inl, reached_by)

    pub cut : (A : Accepting ℕ) (S : Rejection) → ((xs : List ℕ) (z : InputError) (rest : List ℕ)
        → ((budget : Budget) → RejectsSome among budget xs z rest) → S xs z rest)
        → {e : DecodeError E} → Ends a m (Err e) → Does {V = ℕ} A S a m (Err e)
    cut A S f d = search (rules, still_rejected, end_rejects)

    -- the item that stands here was tried
    pub unseen : {r : Result (Unit {0}) (DecodeError E)} {t : Bool} {o p i b : View} → Awaits among
        → Ends a m (Ok false) → (IsTrue t → KeepsAllButBudget o p) → DoesApart (Taking SkipsUnder)
        RejectsSkippingUnder Lowers t p i m b r → Inside t o i a b (with (λ _. 1) r)
    unseen {r = r} awaits d before k =
        apart_with (λ _. 1) (does_on (reached_by d) (λ _. 1) (Taking SkipsUnder)
        RejectsSkippingUnder (λ xs ys zs u o s budget step. inr (
          omega arith,
          items_one budget xs zs (subst (λ x. SkipsOne budget x zs) o.0 (s budget step)),
        )) (λ xs ys z rest o s budget step. subst (λ x. RejectsSome among budget x z rest) o.0
        (rejects_among among budget ys z rest o.1 (s budget step))) k.does)
        (counts_led among r _ _ _ awaits k.gains d.moves.by.bound) before k

    -- no step is left
    pub rejected_none : {name : Bor (List ℕ)} → a.budget ≡ Some 0 → name.now ≡ ignored_any
        → Ends a m (Ok false) → Does {V = ℕ} {E = E} (SkipsSome among (Some 0))
        (RejectsSome among (Some 0)) a m (Err (DepthOverflow name))
    rejected_none {name = name} left named d =
        search (rules, does_reject_by, rejects_among, reached_by)

  -- ---- under a step

  module _ {t : Bool} {o i a m : View} where
    -- a run was taken
    pub ran : (n size : ℕ) → Takes t o i a m (Ok (Run n size)) → Inside t o i a m (Ok n)
    ran n size d =
        search (rules, apart_with, does_ok, reached_as, inr, run_items, step_up, fits_zero, reached_by, counts_run, stays_put)

    -- a break was taken
    pub broke : Takes t o i a m (Ok Break) → Inside t o i a m (Ok 0)
    broke d =
        search (rules, apart_with, does_ok, reached_as, inl, reached_by, counts_none, stays_put)

    -- the head of counted items was taken
    pub went_into : (size n : ℕ) {trailing : After} → trailing ≡ left_after.Items n
        → Takes t o i a m (Ok (Head size trailing)) → Goes t o i a m (Ok (Into n))
    went_into size n is d =
        search (rules, apart_value, apart_with, does_ok, reached_by, stays_put)

    pub past : {r : Result ℕ (DecodeError E)} → Inside t o i a m r → Goes t o i a m (with Past r)
    past {r = Ok n} d = apart_with Past (does_ok _ _ (reached_by d.does)) d.gains stays_put d
    past {r = Err e} d = apart_with Past (refused d.does) tt stays_put d

    pub was_past : (n : ℕ) → Goes t o i a m (Ok (Past n)) → Inside t o i a m (Ok n)
    was_past n h = apart_with (λ _. n) (does_ok _ _ (reached_by h.does)) h.gains stays_put h

  -- nothing was taken
  pub after_nothing : {r : Result ℕ (DecodeError E)} {t : Bool} {o p i a m b : View}
      → Takes t o p a m (Ok Unseen) → Inside t p i m b r → Inside t o i a b r
  after_nothing {r = r} {a = a} {m = m} h d =
      let same : m.budget ≡ a.budget = h.does.moves.by.budget in
      apart_on (does_after _ _ _ _ _ (λ xs ys zs n e s. subst (λ x. SkipsSomeUnder among a.budget x
      n zs) e (subst (λ o. SkipsSomeUnder among o ys n zs) same s))
      (λ xs ys z rest e s. subst (λ x. RejectsSomeUnder among a.budget x z rest) e
      (subst (λ o. RejectsSomeUnder among o ys z rest) same s)) (reached_by h.does) d.does)
      (counts_around among r _ _ _ _ d.gains h.gains (omega arith)) h.stays d

  -- after a head, what is left of its item was tried
  module _ {r : Result (Unit {0}) (DecodeError E)} {t : Bool} {o p i a m b : View}
      (awaits : Awaits among) where
    after : (trailing : After) → Reached (λ xs ys. TakesHead a.budget xs trailing ys) a m
        → m.bound + 1 ≤ a.bound → (IsTrue t → KeepsAllButBudget o p) → DoesApart (Taking
        (SkipsAfter trailing)) (RejectsSkippingAfter trailing) MayStay t p i m b r
        → Inside t o i a b (with (λ _. 1) r)
    after trailing q fell before d =
        apart_with (λ _. 1) (does_on q (λ _. 1) (Taking (SkipsAfter trailing))
        (RejectsSkippingAfter trailing) (λ xs ys zs u t s budget step. inr (
          omega arith,
          items_one budget xs zs (t.leads.skips zs s budget step),
        )) (λ xs ys z rest t s budget step. rejects_among among budget xs z rest
        (λ _. t.item z rest s) (t.leads.rejects z rest s budget step)) d.does)
        (counts_led among r _ _ _ awaits (lowered _ fell d.does.moves) (omega arith)) before d

    pub into : (n : ℕ) → Goes t o p a m (Ok (Into n)) → DoesApart (Taking (SkipsItems n))
        (RejectsSkippingItems n) MayStay t p i m b r → Inside t o i a b (with (λ _. 1) r)
    into n h d = after (left_after.Items n) (reached_by h.does) h.gains h.stays d

    pub headed : (size : ℕ) (trailing : After) → Takes t o p a m (Ok (Head size trailing))
        → DoesApart (Taking (SkipsAfter trailing)) (RejectsSkippingAfter trailing) MayStay t p i m b
        r → Goes t o i a b (with Past (with (λ _. 1) r))
    headed size trailing h d = past (after trailing (reached_by h.does) h.gains h.stays d)

-- what follows a head, byte by byte
pub went_on : {E : Type 0} (trailing : After) {r : Result (Unit {0}) (DecodeError E)}
    {a m b : View} → DoesUnder {E = E} HeadLeads RejectsSkippingUnder a m (Ok trailing)
    → DoesUnder (Taking (SkipsAfter trailing)) (RejectsSkippingAfter trailing) m b r
    → DoesUnder (Taking SkipsUnder) RejectsSkippingUnder a b r
went_on trailing {a = a} {m = m} h d =
    let same : m.budget ≡ a.budget = h.moves.by.budget in
    does_after _ _ (Taking SkipsUnder a.budget) _ (RejectsSkippingUnder a.budget) (λ xs ys zs u l s.
    l.skips zs (subst (λ o. SkipsAfter trailing o ys zs) same s)) (λ xs ys z rest l s. l.rejects z
    rest (subst (λ o. RejectsSkippingAfter trailing o ys z rest) same s)) (reached_by h) d

-- ---- a step of the reader

pub none_left : (sa sb left : Budget) → left ≡ sb → StepsIn sa sb false → left ≡ Some 0
none_left sa sb left e h = let n = no_step sa sb h in e ∙ (n.1 ∙ n.0)

module _ {F S : Type 0} (view : F → S → View) (own : S → View)
    (same : (f : F) (s : S) → (view f s).budget ≡ (own s).budget) where
  pub steps : (f : F) (s t : S) → StepsIn (own s).budget (own t).budget true
      → StepsIn (view f s).budget (view f t).budget true
  steps f s t takes = subst (λ o. StepsIn o (view f t).budget true) (sym (same f s))
      (subst (λ o. StepsIn (own s).budget o true) (sym (same f t)) takes)

  module _ (moved : (f : F) (s t : S) → KeepsAllButBudget (own s) (own t)
      → KeepsAllButBudget (view f s) (view f t)) {E : Type 0} (among : Among)
      {r : Result ℕ (DecodeError E)} {f : F} {s t : S} (inward : KeepsAllButBudget (own s) (own t))
    where
      -- none was left
      pub without_step : {apart : Bool} {i c : View} → StepsIn (own s).budget (own t).budget false
          → DoesApart (λ _. SkipsSome among (Some 0)) (λ _. RejectsSome among (Some 0))
          (CountsNone among) apart (own t) i (view f t) c r → DoesApart (SkipsSome among)
          (RejectsSome among) (CountsNone among) apart (own s) i (view f s) c r
      without_step {c = c} takes d = search (rules, no_step, apart_on, does_around, keeps_alike)

      -- one was taken, and given back
      pub stepped : {apart : Bool} {g : F} {u v : S} → StepsIn (own s).budget (own t).budget true
          → Inside among apart (own t) (own u) (view f t) (view g u) r
          → (own v).budget ≡ step_back (own u).budget → KeepsAllButBudget (own u) (own v)
          → Outside among apart (own s) (own v) (view f s) (view g v) r
      stepped {g = g} {u = u} {v = v} takes d gives outward =
          let step = steps f s t takes in
          let k = steps_in (view f s).budget (view f t).budget step in
          let into = moved f s t inward in
          let back = moved g u v outward in record {
            does = does_stepped (SkipsSomeUnder among (view f t).budget) _
                (RejectsSomeUnder among (view f t).budget) _ (λ xs ys n h. h (view f s).budget k)
                (λ xs z rest h. h (view f s).budget k) step into d.does (same g v
                ∙ (gives ∙ ap step_back (sym (same g u)))) back;
            spares = d.spares;
            gains = counts_around among r _ _ _ _ d.gains (omega (arith, into.bound))
                (omega (arith, back.bound));
            stays = λ t. keeps_then inward (keeps_then (d.stays t) outward);
          }

-- ---- one after another

module _ {E : Type 0} (among : Among) (n : ℕ) {t : Bool} {o i a b : View}
    (d : Outside {E = E} among t o i a b (Ok n)) where
  -- some items, and not a break
  pub some_of : 1 ≤ n → Reached (SkipsItems n a.budget) a b
  some_of some = reached_as _ _ (λ xs ys h. items h) (reached_by d.does)
    where
      items : {xs ys : List ℕ} → SkipsSome among a.budget xs n ys → SkipsItems n a.budget xs ys
      items (inl h) = absurd (omega (arith, some, h.1))
      items (inr h) = h.1

  -- a break, and no items
  pub break_of : n ≡ 0 → Reached (λ xs ys. IsIndefinite among × (xs ≡ break ∷ ys)) a b
  break_of none = reached_as _ _ (λ xs ys h. alone h) (reached_by d.does)
    where
      alone : {xs ys : List ℕ} → SkipsSome among a.budget xs n ys
          → IsIndefinite among × (xs ≡ break ∷ ys)
      alone (inl h) = (h.0, h.2)
      alone (inr h) = absurd (omega (arith, none, h.0))

-- ---- so many items, and as many again

pub twice : {E : Type 0} (n : ℕ) {u : Unit {0}} {r : Result (Unit {0}) (DecodeError E)}
    {a m b : View} → DoesUnder {E = E} (Taking (SkipsItems n)) (RejectsSkippingItems n) a m (Ok u)
    → DoesUnder (Taking (SkipsItems n)) (RejectsSkippingItems n) m b r
    → DoesUnder (Taking (SkipsItems (2 * n))) (RejectsSkippingItems (2 * n)) a b r
twice n {a = a} {m = m} h d =
    let same : m.budget ≡ a.budget = h.moves.by.budget in
    does_after _ _ (Taking (SkipsItems (2 * n)) a.budget) _ (RejectsSkippingItems (2 * n) a.budget)
    (λ xs ys zs v k s. subst (λ j. SkipsItems j a.budget xs zs) (omega arith) (items_join n n
    a.budget xs ys zs k (subst (λ o. SkipsItems n o ys zs) same s)))
    (λ xs ys z rest k s. items_later n n (2 * n) a.budget xs ys z rest (omega arith) k
    (subst (λ o. RejectsSkippingItems n o ys z rest) same s)) (reached_by h) d

pub once : {E : Type 0} (n : ℕ) {e : DecodeError E} {a b : View}
    → DoesUnder (Taking (SkipsItems n)) (RejectsSkippingItems n) a b (Err e)
    → DoesUnder (Taking (SkipsItems (2 * n))) (RejectsSkippingItems (2 * n)) a b (Err e)
once n d =
    still_rejected _ _ (RejectsSkippingItems n _) _ (λ xs z rest k. in_count k.prefix k.after
    (omega (arith, k.few)) k.whole k.is k.rejected) d

-- ---- one item

pub one_done : {E : Type 0} (n : ℕ) {t : Bool} {o i a b : View} → Outside {E = E} (Items 1) t o i a
    b (Ok n) → DoesApart {E = E} (Taking SkipsOne) RejectsSkippingOne Lowers t o i a b (Ok tt)
one_done n {a = a} d =
    search (rules, apart_with, does_ok, reached_as, only_one, some_of, stays_put)

-- ---- after a head, whatever is left

pub goes_on : {E : Type 0} {v trailing : After} {r : Result (Unit {0}) (DecodeError E)} {t : Bool}
    {o i a b : View} → trailing ≡ v
    → DoesApart (Taking (SkipsAfter v)) (RejectsSkippingAfter v) MayStay t o i a b r
    → DoesApart (Taking (SkipsAfter trailing)) (RejectsSkippingAfter trailing) MayStay t o i a b r
goes_on {r = r} {t = t} {o = o} {i = i} {a = a} {b = b} is d = search rules

-- Items in the last place of others: calls that go on with them under steps that are kept.

-- ---- steps that are kept

pub deeper_none : (d : ℕ) (outer inner : Budget) → Deeper d outer inner → outer ≡ None
    → inner ≡ None
deeper_none zero outer inner h none = h ∙ none
deeper_none (suc d) outer inner h none =
    step_unbound h.0 inner h.2 (deeper_none d outer h.0 h.1 none)

pub one_back : (d now : ℕ) (outer inner between : Budget) → 0 < d → now ≡ d - 1
    → between ≡ step_back inner → Deeper d outer inner → Deeper now outer between
one_back zero now outer inner between some is gives h = absurd (omega (arith, some))
one_back (suc d) now outer inner between some is gives h = search (rules, step_again)

pub all_back : (d : ℕ) (start : Budget) {inner given back : Budget} → inner ≡ given
    → ((outer : Budget) → Deeper d outer given → back ≡ outer) → Deeper d start inner → back ≡ start
all_back d start same gives h = gives start (subst (λ b. Deeper d start b) same h)

-- ---- the same with another budget

alike_both : (s u : Budget) (v : View) → KeepsAllButBudget (with_budget s v) (with_budget u v)
alike_both s u v = search rules

pub alike_within : (s : Budget) (v : View) → KeepsAllButBudget v (with_budget s v)
alike_within s v = alike_both v.budget s v

pub alike_without : (s : Budget) (v : View) → KeepsAllButBudget (with_budget s v) v
alike_without s v = alike_both s v.budget v

-- what leads from one view to another leads so under any budget
does_budgeted : {V E : Type 0} (s : Budget) (A : Accepting V) (S : Rejection)
    {r : Result V (DecodeError E)} {m : View} (n : View) → (s ≡ None → m.budget ≡ None)
    → Does A S m (with_budget m.budget n) r → Does A S (with_budget s m) (with_budget s n) r
does_budgeted s A S {m = m} n unbound d =
    does_between A S (alike_without s m) (alike_both m.budget s n) unbound (λ same. refl) d

-- its own budget is given back, or left out
pub does_back : {V E : Type 0} (A : Accepting V) (S : Rejection) {r : Result V (DecodeError E)}
    {a b c : View} → KeepsAllButBudget b c → c.budget ≡ a.budget
    → Does A S a (with_budget a.budget b) r → Does A S a c r
does_back A S {a = a} {b = b} outward restored d =
    search (rules, does_between, keeps_alike, keeps_then, alike_without)

does_without : {V E : Type 0} (A : Accepting V) (S : Rejection) {r : Result V (DecodeError E)}
    {a b : View} → Does A S a b r → Does A S a (with_budget a.budget b) r
does_without A S {a = a} {b = b} d = search (rules, does_between, keeps_alike, alike_within)

-- ---- going on

goes_then : (total left now : ℕ) (a m n : Budget) (xs ys zs : List ℕ) → FollowsInside total m a xs
    left ys
    → FollowsInside left n m ys now zs → FollowsInside total n a xs now zs
goes_then total left now a m n xs ys zs g h = search rules

-- some of them were skipped
goes_past : (total left some : ℕ) (budget inner : Budget) (xs ys : List ℕ) → inner ≡ budget
    → left + some ≡ total → SkipsItems some budget xs ys → FollowsInside total inner budget xs left
    ys
goes_past total left some budget inner xs ys same sum h = record {
  skips = λ rest s. subst (λ n. SkipsItems n budget xs rest) (omega (arith, sum))
      (items_join some left budget xs ys rest h (subst (λ b. SkipsItems left b ys rest) same s));
  rejects = λ e rest s. items_later some left total budget xs ys e rest (omega (arith, sum)) h
      (subst (λ b. RejectsSkippingItems left b ys e rest) same s);
}

-- the head of the last was taken
goes_into : (total n : ℕ) (budget between inner : Budget) (xs ys : List ℕ) → total ≡ 1
    → inner ≡ between → step_in budget ≡ Some between → TakesHead between xs (left_after.Items n) ys
    → FollowsInside total inner budget xs n ys
goes_into total n budget between inner xs ys last same step h = record {
  skips = λ rest s. subst (λ k. SkipsItems k budget xs rest) (sym last) (items_one budget xs rest
      (h.leads.skips rest (subst (λ b. SkipsItems n b ys rest) same s) budget step));
  rejects = λ e rest s. first_stop total budget xs e rest (omega (arith, last))
      (h.leads.rejects e rest (subst (λ b. RejectsSkippingItems n b ys e rest) same s) budget step);
}

-- ---- one look further

module _ {F S : Type 0} (view : F → S → View) (own : S → View)
    (same : (f : F) (s : S) → (view f s).budget ≡ (own s).budget)
    (moved : (f : F) (s t : S) → KeepsAllButBudget (own s) (own t)
    → KeepsAllButBudget (view f s) (view f t)) where
  -- the head of the last item was taken
  pub gone_into : {E : Type 0} (left n : ℕ) {f : F} {s t : S} {apart : Bool} {i c : View}
      → KeepsAllButBudget (own s) (own t) → StepsIn (own s).budget (own t).budget true → left ≡ 1
      → DoesApart {E = E} (GoesUnder (among.Items left)) (RejectsSomeUnder (among.Items left))
      (CountsWent (among.Items left)) apart (own t) i (view f t) c (Ok (Into n))
      → DoesApart {E = E} (FollowsInside left c.budget) (RejectsSkippingItems left) Lowers apart
      (own s) i
      (view f s) (with_budget (view f s).budget c) (Ok n)
  gone_into left n {f = f} {s = s} {t = t} {c = c} inward takes last d =
      search (rules, into, apart_with, does_around, alike_within, step_unbound, does_ok, reached_as, goes_into, steps_in, reached_by)

module _ {E : Type 0} (left : ℕ) {apart : Bool} {o i a d : View} (any : 1 ≤ left) where
  -- some were skipped
  pub gone : {r : Result ℕ (DecodeError E)} → DoesApart (SkipsSome (among.Items left))
      (RejectsSome (among.Items left)) (CountsSome (among.Items left)) apart o i a d r
      → DoesApart (FollowsInside left d.budget) (RejectsSkippingItems left) Lowers apart o i a
      (with_budget a.budget d) (with (λ n. left - n) r)
  gone {r = Ok n} k =
      let same : d.budget ≡ a.budget = k.does.moves.by.budget in
      apart_with (λ n. left - n) (does_without _ _ (does_ok _ _ (reached_as _ _ (λ xs ys h.
      goes_past left (left - n) n a.budget d.budget xs ys same (omega (arith, k.gains.0.1)) h)
      (some_of (among.Items left) n k k.gains.0.0)))) (k.gains.1 k.gains.0.0) stays_put k
  gone {r = Err e} k =
      search (rules, apart_with, does_without, still_rejected, first_stop, stays_put)

  -- no step was left
  pub gone_without : {r : Result ℕ (DecodeError E)} → DoesApart (SkipsSome (among.Items left))
      (RejectsSome (among.Items left)) (CountsNone (among.Items left)) apart o i a d r → DoesApart
      (FollowsInside left d.budget) (RejectsSkippingItems left) Lowers apart o i a
      (with_budget a.budget d) r
  gone_without {r = Ok n} k = absurd (omega (arith, k.gains.0.0, k.gains.1))
  gone_without {r = Err e} k = gone
      (apart_gains (λ n h. (h.0, λ some. absurd (omega (arith, some, h.1)))) k)

-- ---- all of them

module _ {E : Type 0} (total left : ℕ) {a m : View}
    (p : Reached (λ xs ys. FollowsInside total m.budget a.budget xs left ys) a
    (with_budget a.budget m)) where
  pub gone_on : (now : ℕ) {n : View} → DoesUnder {E = E} (FollowsInside left n.budget)
      (RejectsSkippingItems left) m (with_budget m.budget n) (Ok now) → (a.budget ≡ None → m.budget
      ≡ None) → Reached (λ xs ys. FollowsInside total n.budget a.budget xs now ys) a
      (with_budget a.budget n)
  gone_on now {n = n} d unbound =
      reached_then _ _ _ (λ xs ys zs g h. goes_then total left now a.budget m.budget n.budget xs ys
      zs g h) p (reached_by (does_budgeted a.budget _ _ n unbound d))

  pub gone_no_further : {e : DecodeError E} {n : View} → DoesUnder {V = ℕ}
      (FollowsInside left n.budget)
      (RejectsSkippingItems left) m (with_budget m.budget n) (Err e)
      → (a.budget ≡ None → m.budget ≡ None) → DoesUnder (Taking (SkipsItems total))
      (RejectsSkippingItems total) a (with_budget a.budget n) (Err e)
  gone_no_further {n = n} d unbound =
      does_err _ _ _ (RejectsSkippingItems left m.budget) _ (λ xs ys z rest g s. g.rejects z rest s)
      p (does_budgeted a.budget _ _ n unbound d)

  pub all_gone : left ≡ 0 → DoesUnder {E = E} (Taking (SkipsItems total))
      (RejectsSkippingItems total) a (with_budget a.budget m) (Ok tt)
  all_gone none =
      does_ok _ _ (reached_as _ (SkipsItems total a.budget) (λ xs ys g.
      g.skips ys (subst (λ n. SkipsItems n m.budget ys ys) (sym none) (items_none m.budget ys))) p)

-- Skipping, as a decoding call.

ignored_sound : {E : Type 0} (v : IgnoredAny) {u : Unit {0}} {a b : View} → Does {E = E} (λ xs _ ys.
    SkipsOne a.budget xs ys) (RejectsSkippingOne a.budget) a b (Ok u) → Sound ReadsIgnored a b v
ignored_sound v d = record {
  at = λ xs known.
      let s = d.ok xs known in
      let t = s.2.0 in
      let trailing : drop (length (bytes t)) xs ≡ s.0 =
      ap (drop (length (bytes t))) s.2.1.begins ∙ drop-append_seam (bytes t) s.0 in
      record {
        count = length (bytes t);
        cost = skip_cost t;
        read = record {
          of_tree = t;
          loose = s.2.1.loose;
          begins = s.2.1.begins ∙ ap (λ z. bytes t ++ z) (sym trailing);
          size = refl;
          cost = refl;
        };
        fits = s.2.1.fits;
        left = s.1 ∙ ap Some (sym trailing);
      };
}

none_skipped : (o : Option InputError) (xs : List ℕ) (budget : Option ℕ) (new : Option (List ℕ))
    → IfSome o (λ z. (ys : List ℕ) × (new ≡ Some ys) × SkippingRejects xs budget z ys)
    → IfSome o (λ z. NoneRead ReadsIgnored xs budget)
none_skipped None xs budget new h = tt
none_skipped (Some z) xs budget new h =
    λ v n c r fits. not_both xs budget r.of_tree (drop n xs) z h.0 (skips_by r.loose (subst (λ j.
    CostFits j budget) r.cost fits) r.begins) h.2

ignored_complete : {U E : Type 0} {e : DecodeError E} {a b : View} → Does {V = U} (λ xs _ ys.
    SkipsOne a.budget xs ys) (RejectsSkippingOne a.budget) a b (Err e) → Complete ReadsIgnored a e
ignored_complete {e = e} {a = a} {b = b} d =
    record { at = λ xs known. none_skipped (input_error_of e) xs a.budget b.known (d.err xs known) }

pub ignored_ok : {E : Type 0} (v : IgnoredAny) {u : Unit {0}} {a b : View}
    → Does {E = E} (λ xs _ ys. SkipsOne a.budget xs ys) (RejectsSkippingOne a.budget) a b (Ok u)
    → b.bound + 1 ≤ a.bound → Decodes {E = E} (leaf_format ReadsIgnored SkippingRejects) a b (Ok v)
ignored_ok v d progress =
    ok (leaf_format ReadsIgnored SkippingRejects) d.moves.by (λ some. progress) (ignored_sound v d)

pub ignored_err : {U E : Type 0} {e : DecodeError E} {a b : View}
    → Does {V = U} (λ xs _ ys. SkipsOne a.budget xs ys) (RejectsSkippingOne a.budget) a b (Err e)
    → is_out_of_memory e ≡ false → Decodes (leaf_format ReadsIgnored SkippingRejects) a b (Err e)
ignored_err {e = e} d spares = record {
  moves = moves_err d.moves;
  progress = λ some. tt;
  memory = no_memory {V = IgnoredAny} (Err e) spares;
  sound = tt;
  complete = λ exact. ignored_complete d;
  rejects = λ exact. record { at = d.err };
  begins = record { at = d.err };
}
