-- Runs of values in shown bytes, arrays and maps of values, and where reading them asks for memory.
-- What is said of arrays and maps alike is said of `keyed`, which is true of a map.
use Rattle.std.proofs.Common.{rules}
use Rattle.std.proofs.Common.{◌≡◌, ℕ, ◌+◌, ◌-◌, ◌*◌, ◌<◌, ◌≤◌, ◌⊎◌, List, [], ◌∷◌, ◌++◌, length}
use Rattle.std.proofs.Common.{take, drop, Option, Some, None, refl, sym, ap, ap₂, ◌∙◌, subst, arith}
use Rattle.std.proofs.Common.{append_assoc, length-append, length-drop, take-append-drop, Vec}
use Rattle.std.proofs.Common.{Global, Bool, true, false, not, OnSome, IsTrue, Ok, Err, inl}
use Rattle.std.proofs.Common.{inr, ◌≢◌, ◌/◌, ◌%◌, Result, IfOk, IfErr, suc, OnOk, IfNone, IfSome}
use Rattle.std.proofs.{Math.Seq.take-add, lemmas.List.append-nil}
use Rattle.std.proofs.{lemmas.List.drop-take, lemmas.Result.err_from_is_err_and}
use Rattle.std.specs.{Option.is_some, Result.IsErrAnd}
use denote.Ref.{Bor}
use Rattle.cbor4ii_rw.specs.Reader.{Advances, ReaderFails, IsPrefix, KeepsAllButBudget, Shows}
use Rattle.cbor4ii_rw.specs.{Reader.{StepsIn, step_back}, View.{View, IfKnown}}
use Rattle.cbor4ii_rw.specs.declared.error.DecodeError.{DecodeError}
use Rattle.cbor4ii_rw.specs.declared.error.DecodeError.TheVariants.{OutOfMemory, Eof, Read}
use Rattle.cbor4ii_rw.specs.declared.error.DecodeError.TheVariants.{DepthOverflow}
use Rattle.cbor4ii_items.specs.InputError.{input_error_of, is_out_of_memory, is_read}
use Rattle.cbor4ii_items.specs.{Laws.Answering.fits_zero, Budget.CostFits}
use Rattle.cbor4ii_items.specs.Head.{additional, HeadFits, indefinite_head, break, Width}
use Rattle.cbor4ii_items.specs.{Laws.Contents.lends_prefix, Moves.{ReaderFailed, Kept, Moves}}
use Rattle.cbor4ii_items.specs.{Laws.SequenceParts.{fits_less, fits_max}, Decoding.{Sound, Rejects}}
use Rattle.cbor4ii_items.specs.{Decoding.Decodes, Heads.RejectsHead, Initial.{Info, wide}}
use Rattle.cbor4ii_items.specs.Initial.{indefinite_ended, reserved, info_of, array_by_info}
use Rattle.cbor4ii_items.specs.Initial.{map_by_info, starts_array, starts_indefinite_array}
use Rattle.cbor4ii_items.specs.Initial.{starts_map, starts_indefinite_map, bad_array, bad_map}
use Rattle.cbor4ii_items.specs.{Initial.{Initial, initial}, Lengths.{ReadsLength, RejectsLength}}
use Rattle.cbor4ii_items.specs.{Shortest.RejectsShortest, Strings.break_format}
use Rattle.cbor4ii_items.specs.{Laws.Prefixes.the_prefix, Laws.Steps.kept_then}
use Rattle.cbor4ii_tree.specs.Basis.InputError.{depth_overflow, InputError, value_name, Small}
use Rattle.cbor4ii_tree.specs.Basis.InputError.{array_name, map_name, mismatch, eof, break_name}
use Rattle.cbor4ii_tree.specs.Inner.Valuing.{ReadsValuePairs, ReadsOneValue, flat_values, Whole}
use Rattle.cbor4ii_tree.specs.Inner.Valuing.{RejectsItems, ReadsItems, ReadsEach, ReadsUnder}
use Rattle.cbor4ii_tree.specs.Inner.Valuing.{RejectsOneValue, RejectsUnder, TakesLength}
use Rattle.cbor4ii_tree.specs.Inner.Valuing.{ReadsIndefiniteItems, RejectsIndefiniteItems}
use Rattle.cbor4ii_tree.specs.Inner.Valuing.{RejectsPairsToBreak, ReadsValuePair, RejectsValuePair}
use Rattle.cbor4ii_tree.specs.Inner.Valuing.{RejectsMajor, RejectsOf, ReadsTwoStepsIn, InRange}
use Rattle.cbor4ii_tree.specs.{Inner.BytesAhead.Offers, declared.leaf.Next.Next, Basis.Cost.Budget}
use Rattle.cbor4ii_tree.specs.Basis.Cost.{step_in, greatest_cost, greatest_pair_cost}
use Rattle.cbor4ii_tree.specs.Inner.Does.{Accepting, Does, error_left, value_or_error}
use Rattle.cbor4ii_tree.specs.{Inner.Does.{Anything, Gives}, Calls.Asking.{Asks, HeadAt}}
use Rattle.cbor4ii_tree.specs.Calls.Asking.{IndefiniteAt, LengthAt, BeginsParts, BeginsString}
use Rattle.cbor4ii_tree.specs.Calls.Asking.{Grows, InValue, IsRead, Values, boxed, content, grown}
use Rattle.cbor4ii_tree.specs.Calls.Asking.{in_tag, inside, Asking, Never, WantsOnly}
use Rattle.cbor4ii_tree.specs.{Inner.Asking.{InParts, InTagged}, Basis.Item.{AreItems, item}}
use Rattle.cbor4ii_tree.specs.{Basis.Item.{no_items, sequence, mapping}, Laws.Binds.step_up}
use Rattle.cbor4ii_tree.specs.Inner.Leaf.{DoesAfterNext, SeesNext, ShowsNext, StandsAhead}
use Rattle.cbor4ii_tree.specs.Inner.Leaf.{WantsContent, AsksAfterNext, ShowsFirst, TakesLeaf}
use Rattle.cbor4ii_tree.specs.{Inner.Leaf.{GivesNext, GivesValue}, Inner.LeafRuns.flat_pairs}
use Rattle.cbor4ii_tree.specs.Inner.LeafRuns.{IsValueLeaf, StandFirst, PutsAfter, PutsRun}
use Rattle.cbor4ii_tree.specs.Inner.LeafRuns.{RefusedMemory, PutsItems, RunsBefore, PutsItemsUnder}
use Rattle.cbor4ii_tree.specs.Inner.LeafRuns.{KeepsItems, RejectsItemsUnder, RejectsWhereNone}
use Rattle.cbor4ii_tree.specs.Inner.LeafRuns.{TakesValuesBy, TakesRun, DoesRun, DoesTurn}
use Rattle.cbor4ii_tree.specs.{Inner.LeafRuns.GivesItems, Basis.Meaning.{values, pair_values_of}}
use Rattle.cbor4ii_tree.specs.Calls.Rejections.{Each, Rejection, RejectsInCount, Is, AtHead}
use Rattle.cbor4ii_tree.specs.{Calls.Rejections.{RejectsAtStep, EachPair, NoBreak}, Basis.Tree.Tree}
use Rattle.cbor4ii_tree.specs.Basis.Tree.{Trees, no_trees, tree, bytes, bytes_all, count, Pairs}
use Rattle.cbor4ii_tree.specs.Basis.Tree.{no_pairs, pair, array, array_indefinite, map_of}
use Rattle.cbor4ii_tree.specs.Basis.Tree.{map_indefinite, bytes_pairs, LooseAll, LoosePairs}
use Rattle.cbor4ii_tree.specs.Basis.Tree.{SoundStringsAll, SoundStringsPairs, pair_count}
use Rattle.cbor4ii_tree.specs.{Basis.View.{items_view, pairs_view}, declared.value.Value.Value}
use Rattle.cbor4ii_tree.specs.declared.value.Value.{Array, Map}
use Rattle.cbor4ii_tree.specs.Laws.Initials.{initial_indefinite_map, initial_array, initial_map}
use Rattle.cbor4ii_tree.specs.Laws.Initials.{initial_indefinite_array}
use Rattle.cbor4ii_tree.specs.Calls.CanonicalShape.{CanonicalShapeAll, CanonicalShapePairs}
use Rattle.cbor4ii_tree.specs.Calls.CanonicalRejects.{AtShortest, FitsCanonically}
use Rattle.cbor4ii_tree.specs.{Inner.Deeper.with_budget, declared.leaf.TakenOrNext.TakenOrNext}
use Rattle.cbor4ii_tree.proofs.{parts.Prefixes.IsBytes-append, skip_calls.Doing.does_ok}
use Rattle.cbor4ii_tree.proofs.skip_calls.Doing.{does_no_step, does_no_memory, Reached}
use Rattle.cbor4ii_tree.proofs.skip_calls.Doing.{reached_start, reached_then, reached_by}
use Rattle.cbor4ii_tree.proofs.skip_calls.Doing.{reached_as, reached_on, stops_on, still_rejected}
use Rattle.cbor4ii_tree.proofs.skip_calls.Doing.{call_rejects, reached_sound, Before, broke, other}
use Rattle.cbor4ii_tree.proofs.skip_calls.Doing.{at_end, does_stepped, refused, steps_in}
use Rattle.cbor4ii_tree.proofs.parts.Pushed.{join, count-join, each-join, bytes-join}
use Rattle.cbor4ii_tree.proofs.parts.Rejecting.{in_count, in_items, in_pairs, headed_by}
use Rattle.cbor4ii_tree.proofs.values.Heads.{whole, value_no_step, value_no_byte, rejects_under}
use Rattle.cbor4ii_tree.proofs.values.Heads.{indefinite_byte, head_cut, no_head}
use Rattle.cbor4ii_tree.proofs.values.Heads.{initial_of, whole_is, does_under, none_shown, MayTake}
use Rattle.cbor4ii_tree.proofs.values.Heads.{wants_may, shown_taken, width_of_head, begins_with}
use Rattle.cbor4ii_tree.proofs.values.Heads.{peeked_first, next_step, next_stepped, at_row}
use Rattle.cbor4ii_tree.proofs.values.Heads.{at_major, first_is, head_at, after_shortest}
use Rattle.cbor4ii_tree.proofs.values.InRange.{AreItems-append, array_encoding, items_are}
use Rattle.cbor4ii_tree.proofs.{values.InRange.map_encoding, parts.Widen.each_covers}
use Rattle.cbor4ii_tree.proofs.values.Encoding.{view-Array, view-Map}
use Rattle.cbor4ii_tree.proofs.skip_calls.Deeper.{alike_within}
use Rattle.cbor4ii_tree.specs.declared.leaf.TakenOrNext.TheVariants as looked
use Rattle.cbor4ii_tree.specs.declared.run.RunSeen.TheVariants as run

-- ---- lists of values

values-join : (ts us : Trees) (vs ws : List Value) → values ts ≡ items_view vs
    → values us ≡ items_view ws → values (join ts us) ≡ items_view (vs ++ ws)
unfolding join
values-join no_trees us [] ws e f = f
values-join (tree t ts) us (v ∷ vs) ws e f = cc (values-join ts us vs ws (cc) f)
values-join _ us _ ws e f = cc

pub flat-push : (ms : List (Value × Value)) (m : Value × Value)
    → flat_values (ms ++ m ∷ []) ≡ flat_values ms ++ m.0 ∷ m.1 ∷ []
flat-push [] m = refl
flat-push (n ∷ ms) m = ap (λ r. n.0 ∷ (n.1 ∷ r)) (flat-push ms m)

length-flat : (ms : List (Value × Value)) → length (flat_values ms) ≡ 2 * length ms
length-flat [] = refl
length-flat (m ∷ ms) = omega (arith, length-flat ms)

-- a key is one value more
pub pairs_long : (ms : List (Value × Value)) (key : Option Value)
    → (2 * length ms ≤ length (flat_pairs ms key))
    × (length (flat_pairs ms key) < 2 * length ms + 2)
pairs_long ms None = (omega (arith, length-flat ms), omega (arith, length-flat ms))
pairs_long ms (Some k) = search (rules, length-append, length-flat)

-- a key gets its value
pub pair_put : {A : Type 0} (ms ns : List (Value × Value)) (before after : Option Value)
    (k v : Value) (r : Option A) → before ≡ Some k → after ≡ None
    → OnSome r (ns ≡ ms ++ (k, v) ∷ [])
    → OnSome r (flat_pairs ns after ≡ flat_pairs ms before ++ v ∷ [])
pair_put ms ns before after k v (Some u) e f g =
    rw (e, f, g) (flat-push ms (k, v) ∙ sym (append_assoc (flat_values ms) (k ∷ []) (v ∷ [])))
pair_put ms ns before after k v None e f g = tt

pub many_pairs : (v : Vec (Value × Value) Global) → v.len ≡ length v.items
many_pairs v = omega (arith, v.ok.0, v.ok.1)

-- ---- in shown bytes

may_more : {at n size : ℕ} {shown : List ℕ} → MayTake at shown → MayTake n (drop at shown)
    → size ≡ at + n → MayTake size shown
may_more {at = at} {n = n} {shown = shown} h l e =
    search (rules, length-drop, take-add, IsBytes-append)

module _ (canonical : Type 0) where
  stand_one : {v : Value} {n : ℕ} {shown : List ℕ} → StandsAhead canonical v n shown
      → StandFirst canonical (v ∷ []) n shown
  stand_one l = record {
    within = l.within;
    fresh = l.fresh;
    trees = tree l.item no_trees;
    many = refl;
    each = ((l.plain, l.step, l.shape), tt);
    means = ap (λ i. item i no_items) l.means;
    ranged = (l.ranged, tt);
    is = l.is ∙ sym (append-nil (bytes l.item));
  }

  may_take : {vs : List Value} {size : ℕ} {shown : List ℕ} → StandFirst canonical vs size shown
      → MayTake size shown
  may_take s = record { within = s.within; fresh = s.fresh }

  stand_join : {vs ws : List Value} {at n : ℕ} {shown : List ℕ}
      → StandFirst canonical vs at shown → StandFirst canonical ws n (drop at shown)
      → StandFirst canonical (vs ++ ws) (at + n) shown
  stand_join {vs = vs} {ws = ws} {at = at} {n = n} {shown = shown} h l =
      let may = may_more {size = at + n} (may_take h) (may_take l) refl in
      record {
        within = may.within;
        fresh = may.fresh;
        trees = join h.trees l.trees;
        many = count-join h.trees l.trees ∙ ap₂ ◌+◌ h.many l.many ∙ sym (length-append vs ws);
        each = each-join (IsValueLeaf canonical) h.trees l.trees h.each l.each;
        means = values-join h.trees l.trees vs ws h.means l.means;
        ranged = AreItems-append vs ws h.ranged l.ranged;
        is =
            take-add at n shown ∙ ap₂ ◌++◌ h.is l.is
            ∙ ap (λ r. bytes_all h.trees ++ r) (sym (append-nil (bytes_all l.trees)))
            ∙ sym (bytes-join h.trees l.trees []) ∙ append-nil (bytes_all (join h.trees l.trees));
      }

  pub put_none : (items : List Value) (shown : List ℕ) → PutsAfter canonical 0 shown items items
  put_none items shown = record {
    new = [];
    is = sym (append-nil items);
    stand = record {
      within = omega arith;
      fresh = tt;
      trees = no_trees;
      many = refl;
      each = tt;
      means = refl;
      ranged = tt;
      is = refl;
    };
  }

  -- a value after others
  module _ {before items : List Value} {v : Value} {at n : ℕ} {shown : List ℕ}
      (p : PutsAfter canonical at shown before items)
      (l : StandsAhead canonical v n (drop at shown))
    where
      -- it was put
      pub put_one : {after : List Value} → after ≡ items ++ v ∷ []
          → PutsAfter canonical (at + n) shown before after
      put_one is = search (rules, append_assoc, stand_join, stand_one)

      -- memory was refused for its place
      pub refused_growth : RefusedMemory canonical (at + n) shown
      refused_growth = record {
        values = p.new ++ v ∷ [];
        taken = at + n;
        stand = stand_join p.stand (stand_one l);
        at = inl (omega (arith, length-append p.new (v ∷ [])), refl);
      }

  -- so many bytes may be taken then
  refused_may : {size : ℕ} {shown : List ℕ} → RefusedMemory canonical size shown
      → MayTake size shown
  refused_may r = elim r.at [
    | inl h ↦ rw h.1 (may_take r.stand)
    | inr h ↦ may_more (may_take r.stand) (wants_may h.0 _ h.2) h.1
  ]

-- it was put well
pub put_well : {A : Type 0} {P : Type 0} {b : Bool} (r : Option A) → is_some r ≡ not b → b ≡ false
    → OnSome r P → P
put_well (Some v) e f p = p
put_well None e f p = cc

-- ---- taken

pub begins_after : (size : ℕ) (shown xs : List ℕ) → size ≤ length shown → take (length shown) xs ≡
    shown
    → take (length (drop size shown)) (drop size xs) ≡ drop size shown
begins_after size shown xs within e =
    let many : size + length (drop size shown) ≡ length shown =
    omega (arith, within, length-drop size shown) in
    sym (drop-take size (length (drop size shown)) xs)
    ∙ ap (λ n. drop size (take n xs)) many ∙ ap (drop size) e

-- known bytes only where they were reported before
abbrev narrowed : Option (List ℕ) → Option (List ℕ) → Option (List ℕ)
narrowed None new = None
narrowed (Some xs) new = new

narrowed_known : (old new : Option (List ℕ)) (xs : List ℕ) → old ≡ Some xs → narrowed old new ≡ new
narrowed_known None new xs e = cc
narrowed_known (Some ys) new xs e = refl

known_narrowed : (old new : Option (List ℕ)) (ys : List ℕ) → narrowed old new ≡ Some ys
    → (xs : List ℕ) × (old ≡ Some xs) × (new ≡ Some ys)
known_narrowed None new ys e = cc
known_narrowed (Some xs) new ys e = (xs, refl, e)

abbrev narrow : View → View → View
narrow old new = record new { known = narrowed old.known new.known }

narrow_kept : {a b : View} → Kept a b → Kept a (narrow a b)
narrow_kept {a = a} {b = b} k = search (rules, narrowed_known)

does_narrow : {V E : Type 0} {A : Accepting V} {S : Rejection} {v : V} {a b : View}
    → Does {E = E} A S a b (Ok v) → Does {E = E} A S a (narrow a b) (Ok v)
does_narrow {a = a} {b = b} d = search (rules, narrow_kept, narrowed_known)

-- what follows what was taken was shown, from where its bytes are known only as before
next_after : (canonical : Type 0) (size : ℕ) (n : Next) {shown : List ℕ} {a m b : View}
    → Shows shown a m → IfKnown a.known (IsPrefix 1 shown) → size ≤ length shown → Advances size m b
    → SeesNext canonical n (drop size shown) → ShowsNext canonical n (narrow a b) b
next_after canonical size n {shown = shown} {a = a} {b = b} shows prefix within adv s = record {
  shown = drop size shown;
  shows = record {
    known = λ ys known. (known_narrowed a.known b.known ys known).2;
    bound = omega arith;
    advanceable =
        omega (arith, shows.advanceable, adv.advanceable, length-drop size shown, within);
    budget = refl;
    failures = refl;
    taken = refl;
    zero_copy = λ h. h;
    remembers = λ h. h;
    ends_at = refl;
  };
  prefix = λ ys known.
      let t = known_narrowed a.known b.known ys known in
      let p = prefix t.0 t.1 in
      let e : ys ≡ drop size t.0 =
      let f = t.2 in
      let g = adv.known t.0 (shows.known t.0 t.1) in
      cc in
      record {
        begins =
            rw e (begins_after size shown t.0 within p.begins);
        within =
            omega (arith, ap length e, length-drop {A = ℕ}, p.within, within);
        ends = λ some none. absurd (omega (arith, none, ap length s.begins));
      };
  is = s;
}

pub after_are : (canonical : Type 0) (before after : List Value) {size : ℕ} {shown : List ℕ}
    → PutsAfter canonical size shown before after → KeepsItems before after
after_are canonical before after p kept =
    subst (λ x. AreItems (items_view x)) (sym p.is) (AreItems-append _ _ kept p.stand.ranged)

module _ (canonical : Bool) (before after : List Value) {E : Type 0} {a m : View} where
  pub puts_taken : (size : ℕ) {shown : List ℕ} {b : View} → Shows shown a m
      → IfKnown a.known (IsPrefix 1 shown) → PutsAfter (canonical ≡ true) size shown before after
      → Advances size m b
      → DoesRun {E = E} canonical before after a b (Ok tt)
  puts_taken size shows prefix p adv =
      let s = p.stand in
      does_ok _ _ (reached_as (λ xs ys. xs ≡ take size _ ++ ys) _ (λ xs ys e budget step. (
        p.new,
        p.is,
        (
          s.trees,
          s.many,
          each_covers _ _ (λ t h. whole canonical budget t h.0 h.2
              (rw h.1 (step_up budget a.budget 0 step (fits_zero a.budget)))) s.trees s.each,
          s.means,
          e ∙ ap (λ r. r ++ ys) s.is,
        ),
      )) (shown_taken shows prefix s.within s.fresh adv))

  pub takes_before : (full size : ℕ) (n : Next) {b : View}
      → Offers 1 (PutsRun (canonical ≡ true) full before after (run.Before n size)) a m
      → Advances size m b → RunsBefore E canonical n before after a b
  takes_before full size n {b = b} o adv = record {
    mid = narrow a b;
    puts = does_narrow (puts_taken size o.shows o.prefix o.is.puts adv);
    shows = next_after _ _ _ o.shows o.prefix o.is.puts.stand.within adv o.is.next;
  }

  pub run_no_memory : (size : ℕ) {b : View} → Offers 1 (RefusedMemory (canonical ≡ true) size) a m
      → Advances size m b → DoesRun {E = E} canonical before after a b (Err OutOfMemory)
  run_no_memory size o adv =
      let may = refused_may (canonical ≡ true) o.is in
      does_no_memory _ _ refl (lends_prefix o.shows o.prefix may.within may.fresh refl adv).kept

  -- nothing was put
  pub takes_none : (n : Next)
      → Offers 1 (λ shown. (after ≡ before) × SeesNext (canonical ≡ true) n shown) a m
      → RunsBefore E canonical n before after a m
  takes_none n o = record {
    mid = a;
    puts =
        does_ok _ _ (reached_start (λ xs ys. PutsItemsUnder canonical before after a.budget xs tt
        ys) a (λ xs budget step. (
          [],
          o.is.0 ∙ sym (append-nil before),
          (
            no_trees,
            refl,
            tt,
            refl,
            refl,
          ),
        )));
    shows =
        record { shown = o.shown; shows = o.shows; prefix = o.prefix; is = o.is.1 };
  }

  pub run_ends : Offers 1 (λ shown. length shown ≡ 0) a m → {name : Bor (List ℕ)}
      → name.now ≡ value_name
      → DoesRun {E = E} canonical before after a m (Err (Eof name (Small 1)))
  run_ends o says = search (rules, none_shown)

breaks_broke : {a b : View} → ReaderFails a b → ReaderFailed a b
breaks_broke b = search rules

-- the reader failed
pub run_broke : (canonical : Bool) (before after : List Value) {E : Type 0} {a b : View} (error : E)
    → ReaderFails a b → DoesRun canonical before after a b (Err (Read error))
run_broke canonical before after error breaks = search (rules, breaks_broke)

-- where a run fails it promises no more
pub run_fails : {canonical : Bool} {full : ℕ} {before after : List Value} {E : Type 0} {a b : View}
    {failure : Option (DecodeError E)} → (IsTrue (is_out_of_memory (error_left failure))
    → Asks (InParts canonical 1) a b) → TakesValuesBy canonical before after a b None failure
    → TakesRun canonical full before after a b None failure
run_fails wants puts = search rules

-- ---- after other items

-- these values
abbrev pub ReadEach : Bool → List Value → Budget → List ℕ → List ℕ → Type 0
ReadEach canonical vs budget xs ys = ReadsItems canonical (length vs) budget xs vs ys

pub none_read : (canonical : Bool) (a : View) (vs : List Value) → vs ≡ []
    → Reached (ReadEach canonical vs a.budget) a a
none_read canonical a vs e =
    rw e (reached_start (ReadEach canonical [] a.budget) a
    (λ xs. (no_trees, refl, tt, refl, refl)))

pub none_too_many : {A : Type 0} (vs : List A) (count : ℕ) → vs ≡ [] → length vs ≤ count
none_too_many vs count e = omega (arith, ap length e)

pub join_items : (W : Tree → Type 0) (vs ws : List Value) (xs ys zs : List ℕ)
    → ReadsEach W (length vs) xs vs ys → ReadsEach W (length ws) ys ws zs
    → ReadsEach W (length (vs ++ ws)) xs (vs ++ ws) zs
join_items W vs ws xs ys zs h k = search (rules, count-join, ◌+◌, length-append, each-join, values-join, bytes-join)

module _ {W : Tree → Type 0} {stop : Rejection} {full : ℕ} {xs : List ℕ} {z : InputError}
    {rest : List ℕ} (vs : List Value) (ys : List ℕ) (h : ReadsEach W (length vs) xs vs ys) where
  -- after more values before them
  rejected_further : RejectsInCount W stop (full - length vs) ys z rest
      → RejectsInCount W stop full xs z rest
  rejected_further s =
      in_count _ _ (omega (arith, count-join h.0 s.prefix, h.1, s.few)) (each-join W _ _ h.2
      s.whole) (h.4 ∙ ap (λ r. bytes_all h.0 ++ r) s.is ∙ sym (bytes-join h.0 s.prefix s.after))
      s.rejected

  rejected_after : length vs < full → stop ys z rest → RejectsInCount W stop full xs z rest
  rejected_after few s = in_count h.0 ys (omega (arith, h.1, few)) h.2 h.4 s

-- ---- a turn: a run, and the value after it

-- one value
pub one_item : (canonical : Bool) (budget : Budget) (xs : List ℕ) (v : Value) (ys : List ℕ)
    → ReadsOneValue canonical budget xs v ys → ReadsItems canonical 1 budget xs (v ∷ []) ys
one_item canonical budget xs v ys t = (
  tree t.0 no_trees,
  refl,
  (t.1, tt),
  ap (λ i. item i no_items) t.2,
  t.3 ∙ ap (λ r. r ++ ys) (sym (append-nil (bytes t.0))),
)

module _ (canonical : Bool) (full : ℕ) (before : List Value) {E : Type 0} {a : View} where
  -- no byte is left
  pub turn_ends : (after : List Value) {e : DecodeError E} {b : View} → length before < full
      → DoesRun canonical before after a b (Err e)
      → DoesTurn canonical full before after a b (Err e)
  turn_ends after lacks d =
      still_rejected _ _ RejectsWhereNone _ (λ xs z rest s budget step. rejected_after [] xs
      (no_trees, refl, tt, refl, refl) (omega (arith, lacks))
      (rejects_under canonical a.budget budget xs z rest step
      (rw s.0 (value_no_byte _ _ _ _ s.1)))) d

  module _ (mid : List Value) {m : View} (n : Next) (run : RunsBefore E canonical n before mid a m)
    where
      -- the run, and a value after it
      pub turn_value : (after : List Value) {v : Value} {b : View} → after ≡ mid ++ v ∷ []
          → DoesAfterNext {E = E} canonical n (ReadsUnder canonical) (RejectsUnder canonical) m b
          (Ok v) → DoesTurn {E = E} canonical full before after a b (Ok tt)
      turn_value after {v = v} is d =
          does_ok _ _ (reached_on (reached_by run.puts) (λ o xs ys. ReadsUnder canonical o xs v ys)
          (λ xs ys zs h s budget step.
          let p = h budget step in (
            p.0 ++ v ∷ [],
            is ∙ ap (λ r. r ++ v ∷ []) p.1 ∙ append_assoc before p.0 (v ∷ []),
            join_items _ p.0 (v ∷ []) xs ys zs p.2
                (one_item canonical budget ys v zs (s budget step)),
          )) (reached_by (d run.mid run.shows)))

      -- the value is rejected
      pub turn_rejected : {V : Type 0} (B : Accepting V) {e : DecodeError E} {b : View}
          → length mid < full → DoesAfterNext {V = Value} {E = E} canonical n
          (ReadsUnder canonical) (RejectsUnder canonical) m b (Err e)
          → Does {V = V} B (RejectsItemsUnder
          canonical (full - length before) a.budget) a b (Err e)
      turn_rejected B lacks d =
          stops_on (reached_by run.puts) (RejectsUnder canonical) (λ xs ys z rest h s budget step.
          let p = h budget step in
          rejected_after p.0 ys p.2
          (omega (arith, lacks, ap length p.1, length-append {A = Value}))
          (rejects_under canonical a.budget budget ys z rest step s)) (d run.mid run.shows)

-- ---- what a run answers

pub run_before : (canonical : Bool) {E : Type 0} (before after : List Value) {a b : View}
    {found : Option Next} (n : Next) (failure : Option (DecodeError E)) → found ≡ Some n
    → TakesValuesBy canonical before after a b (Some found) failure → RunsBefore E canonical n
    before after a b
run_before canonical before after {a = a} {b = b} n failure is t =
    subst (λ o. TakesValuesBy canonical before after a b (Some o) failure) is t

pub on_found : {A : Type 0} {P : Type 0} {found : Option A} (v : A) → found ≡ Some v
    → OnSome found P → P
on_found {P = P} v is h = subst (λ o. OnSome o P) is h

-- no step is left
pub turn_unstepped : (canonical : Bool) (full : ℕ) (before after : List Value) {E : Type 0}
    {e : DecodeError E} {a b : View} → length before < full
    → input_error_of e ≡ Some (depth_overflow value_name) → is_read e ≡ false
    → StepsIn a.budget b.budget false → KeepsAllButBudget a b → Does {V = Unit {0}}
    (PutsItems canonical before after a.budget)
    (RejectsItems canonical (full - length before) a.budget) a b (Err e)
turn_unstepped canonical full before after {a = a} lacks says read takes k =
    does_no_step value_name _ _ says read
    (λ none xs. rejected_after [] xs (no_trees, refl, tt, refl, refl)
    (omega (arith, lacks)) (value_no_step canonical a.budget none xs)) takes k

-- ---- turns, one after another

module _ (canonical : Bool) (full : ℕ) (items after : List Value) {a m : View}
    (p : Reached (ReadEach canonical items a.budget) a m) {E : Type 0} {b : View} where
  pub ran : {u : Unit {0}} → Does {E = E} (PutsItems canonical items after m.budget)
      (RejectsItems canonical (full - length items) m.budget) m b (Ok u)
      → Reached (ReadEach canonical after a.budget) a b
  ran {u = u} d =
      reached_on p (λ o xs ys. PutsItems canonical items after o xs u ys) (λ xs ys zs h s. rw s.1
      (join_items _ items s.0 xs ys zs h s.2)) (reached_by d)

  pub run_rejects : {V : Type 0} (B : Accepting V) {e : DecodeError E}
      → Does {V = Unit {0}} (PutsItems canonical items after m.budget)
      (RejectsItems canonical (full - length items) m.budget) m b (Err e)
      → Does {V = V} B (RejectsItems canonical full a.budget) a b (Err e)
  run_rejects B =
      stops_on p (RejectsItems canonical (full - length items))
      (λ xs ys z rest h s. rejected_further items ys h s)

-- ---- pairs

-- of twice as many values no key is left without its value
whole_pairs : (ms : List (Value × Value)) (key : Option Value) (n : ℕ)
    → length (flat_pairs ms key) ≡ 2 * n → flat_pairs ms key ≡ flat_values ms
whole_pairs ms None n e = refl
whole_pairs ms (Some k) n e =
    absurd (omega (arith, e, length-append (flat_values ms) (k ∷ []), length-flat ms))

pub pairs_are_read : (canonical : Bool) (budget : Budget) (ms : List (Value × Value))
    (key : Option Value) (n : ℕ) (xs ys : List ℕ) → length (flat_pairs ms key) ≡ 2 * n
    → ReadEach canonical (flat_pairs ms key) budget xs ys → ReadsValuePairs canonical n budget xs ms
    ys
pairs_are_read canonical budget ms key n xs ys e h =
    rw (← whole_pairs ms key n e) (rw (← e) h)

-- they stay in range
pub pairs_are : (ms : List (Value × Value)) (key : Option Value) (n : ℕ)
    → length (flat_pairs ms key) ≡ 2 * n → AreItems (items_view (flat_pairs ms key))
    → AreItems (items_view (flat_values ms))
pairs_are ms key n e h = subst (λ us. AreItems (items_view us)) (whole_pairs ms key n e) h

-- all are there
pub both_there : (ms : List (Value × Value)) (key : Option Value) (most : ℕ)
    → length (flat_pairs ms key) ≤ 2 * most → 2 * most ≤ length (flat_pairs ms key)
    → length (flat_pairs ms key) ≡ 2 * most
both_there ms key most few full = omega (arith, few, full)

-- of one value a part, so many parts
pub stop_alone : (canonical : Bool) (n : ℕ) (budget : Budget) {V E : Type 0} (B : Accepting V)
    {e : DecodeError E} {a b : View}
    → Does {V = V} B (RejectsItems canonical (1 * n) budget) a b (Err e)
    → Does {V = V} B (RejectsItems canonical n budget) a b (Err e)
stop_alone canonical n budget {V = V} B {e = e} {a = a} {b = b} d = search rules

-- ---- what they differ in

abbrev pub major_of : Bool → ℕ
major_of false = 4
major_of true = 5

abbrev pub name_of : Bool → List ℕ
name_of false = array_name
name_of true = map_name

abbrev pub Element : Bool → Type 0
Element false = Value
Element true = Value × Value

-- how many values so many elements have, and which
abbrev pub in_all : Bool → ℕ → ℕ
in_all false n = n
in_all true n = 2 * n

abbrev pub values_of : (keyed : Bool) → List (Element keyed) → List Value
values_of false vs = vs
values_of true ms = flat_values ms

abbrev pub made_of : (keyed : Bool) → Vec (Element keyed) Global → Value
made_of false v = Array v
made_of true v = Map v

abbrev by_info : Bool → Info → Initial
by_info false = array_by_info
by_info true = map_by_info

-- what is rejected after the step, by what the first byte adds
abbrev pub RejectsOpen : Bool → Bool → Budget → Rejection
RejectsOpen false = RejectsIndefiniteItems
RejectsOpen true = RejectsPairsToBreak

-- so many elements, or elements up to a break
abbrev pub ReadsParts : Bool → Bool → Option ℕ → Budget → Accepting (List Value)
ReadsParts keyed canonical (Some n) = ReadsItems canonical (in_all keyed n)
ReadsParts keyed canonical None = ReadsIndefiniteItems canonical

abbrev pub RejectsParts : Bool → Bool → Option ℕ → Budget → Rejection
RejectsParts keyed canonical (Some n) = RejectsItems canonical (in_all keyed n)
RejectsParts keyed canonical None = RejectsOpen keyed canonical

abbrev pub RejectsInside : Bool → Info → Budget → ℕ → Rejection
RejectsInside keyed (wide w) inner b bs =
    AtHead (name_of keyed) (major_of keyed) w b (λ n. RejectsItems false (in_all keyed n) inner) bs
RejectsInside keyed indefinite_ended inner b bs = RejectsOpen keyed false inner bs
RejectsInside keyed reserved inner b bs = Is (mismatch (name_of keyed) b) bs

-- the same of a canonical one
abbrev pub RejectsCanonically : Bool → (Budget → Rejection) → Budget → Rejection
RejectsCanonically keyed rejects inner xs e rest =
    AtShortest (name_of keyed) (major_of keyed) inner (λ n. RejectsInCount (FitsCanonically inner)
    (rejects inner) (in_all keyed n)) xs e rest

-- ---- a step, and what is rejected after it

module _ (outer : Budget) (b : ℕ) (bs : List ℕ) (e : InputError) (rest : List ℕ) where
  at_info : (keyed : Bool) (i : Info) → initial b ≡ by_info keyed i → RejectsAtStep (name_of keyed)
      (step_in outer) (b ∷ bs) (λ inner. RejectsInside keyed i inner b bs) e rest
      → RejectsUnder false outer (b ∷ bs) e rest
  at_info false (wide w) is h = at_row outer (starts_array w) b bs e rest is h
  at_info false indefinite_ended is h = at_row outer starts_indefinite_array b bs e rest is h
  at_info false reserved is h = at_row outer bad_array b bs e rest is h
  at_info true (wide w) is h = at_row outer (starts_map w) b bs e rest is h
  at_info true indefinite_ended is h = at_row outer starts_indefinite_map b bs e rest is h
  at_info true reserved is h = at_row outer bad_map b bs e rest is h

  at_canonical : (keyed : Bool) → b / 32 ≡ major_of keyed → RejectsAtStep (name_of keyed)
      (step_in outer) (b ∷ bs) (λ inner. RejectsCanonically keyed (RejectsOneValue true) inner
      (b ∷ bs)) e rest → RejectsUnder true outer (b ∷ bs) e rest
  at_canonical false m h = at_major 4 outer b bs e rest m h
  at_canonical true m h = at_major 5 outer b bs e rest m h

  -- a step was taken
  pub step_inside : (keyed : Bool) (i : Info) (inner : Budget) → initial b ≡ by_info keyed i
      → step_in outer ≡ Some inner → RejectsInside keyed i inner b bs e rest
      → RejectsUnder false outer (b ∷ bs) e rest
  step_inside keyed i inner is step h =
      at_info keyed i is (rw step h)

initial_by : (keyed : Bool) (b : ℕ) → b / 32 ≡ major_of keyed
    → initial b ≡ by_info keyed (info_of (b % 32))
initial_by false b m = initial_of b 4 m
initial_by true b m = initial_of b 5 m

pub initial_wide : (keyed : Bool) (n : ℕ) (w : Width) → HeadFits w n
    → initial (32 * major_of keyed + additional w n) ≡ by_info keyed (wide w)
initial_wide false n w fits = initial_array n w fits
initial_wide true n w fits = initial_map n w fits

initial_open : (keyed : Bool) → initial (indefinite_head (major_of keyed))
    ≡ by_info keyed indefinite_ended
initial_open false = initial_indefinite_array
initial_open true = initial_indefinite_map

-- no step is left
pub parts_no_step : (keyed canonical : Bool) (budget : Budget) → budget ≡ Some 0 → (xs : List ℕ)
    → RejectsOf canonical (major_of keyed) budget xs (depth_overflow (name_of keyed)) xs
parts_no_step keyed false budget none xs b bs is m =
    rw is (at_info budget b bs _ _ keyed _ (initial_by keyed b m) (rw none (refl, refl)))
parts_no_step keyed true budget none xs b bs is m =
    rw is (at_canonical budget b bs _ _ keyed m (rw none (refl, refl)))

pub parts_deep : (keyed canonical : Bool) {V E : Type 0} {name : Bor (List ℕ)} {A : Accepting V}
    {a b : View} → name.now ≡ name_of keyed → StepsIn a.budget b.budget false
    → KeepsAllButBudget a b
    → Does {E = E} A (RejectsOf canonical (major_of keyed) a.budget) a b (Err (DepthOverflow name))
parts_deep keyed canonical {a = a} is takes k =
    does_no_step _ _ _ (ap (λ n. Some (depth_overflow n)) is) refl (parts_no_step _ _ _) takes k

-- ---- heads

head_rejects : (keyed : Bool) (i : Info) (inner : Budget) (b : ℕ) (bs : List ℕ) (e : InputError)
    (rest : List ℕ) → info_of (b % 32) ≡ i → b / 32 ≡ major_of keyed
    → (take 1 (b ∷ bs) ≡ indefinite_head (major_of keyed) ∷ [] → ⊥)
    → RejectsHead (name_of keyed) (major_of keyed) 8 (b ∷ bs) e rest
    → RejectsInside keyed i inner b bs e rest
head_rejects keyed (wide w) inner b bs e rest is m closed h =
    inl (head_cut (name_of keyed) (major_of keyed) b bs w e rest m is h)
head_rejects keyed indefinite_ended inner b bs e rest is m closed h =
    absurd (closed (ap (λ c. c ∷ []) (indefinite_byte (major_of keyed) b m is)))
head_rejects keyed reserved inner b bs e rest is m closed h =
    no_head (name_of keyed) (major_of keyed) b bs e rest (λ w f. cc) h

pub length_rejects : (keyed : Bool) (inner : Budget) (xs : List ℕ) (budget : Budget)
    (e : InputError) (rest : List ℕ)
    → RejectsLength (name_of keyed) (major_of keyed) xs budget e rest
    → RejectsMajor false (major_of keyed) inner xs e rest
length_rejects keyed inner xs budget e rest h b bs is m outer step =
    let k = rw is at h in
    rw is (step_inside outer b bs e rest keyed _ inner (initial_by keyed b m) step
    (head_rejects keyed _ inner b bs e rest refl m k.0 k.1))

-- after the step a canonical array or map fails by its head, or by what follows it
canonical_rejects : (keyed : Bool) (inner : Budget) (xs : List ℕ) (e : InputError) (rest : List ℕ)
    → RejectsCanonically keyed (RejectsOneValue true) inner xs e rest
    → RejectsMajor true (major_of keyed) inner xs e rest
canonical_rejects keyed inner xs e rest h b bs is m outer step =
    rw is (at_canonical outer b bs e rest keyed m (rw step (rw is at h)))

-- its head is rejected
pub shortest_rejected : (keyed : Bool) {major : ℕ} → major ≡ major_of keyed → {E : Type 0}
    {e : DecodeError E} {a c : View} → Moves {V = ℕ} a c (Err e)
    → Rejects (RejectsShortest (name_of keyed) major) a c e → Does {V = Option ℕ}
    (TakesLength true major a.budget) (RejectsMajor true major a.budget) a c (Err e)
shortest_rejected keyed {major = major} is {a = a} moves s =
    call_rejects {U = ℕ} (TakesLength true major a.budget) (RejectsShortest (name_of keyed) major)
    (RejectsMajor true major a.budget) (λ xs z rest h. rw is (canonical_rejects keyed a.budget xs z
    rest (inl (rw is at h)))) moves s

-- the length that a head says
pub length_does : (keyed : Bool) {E : Type 0} {a c : View} (r : Option (Option ℕ))
    (failure : Option (DecodeError E)) → Moves a c (value_or_error r failure)
    → IfOk (value_or_error r failure) (Sound (ReadsLength (major_of keyed)) a c)
    → IfErr (value_or_error r failure) (Rejects (RejectsLength (name_of keyed) (major_of keyed)) a
    c)
    → Does (TakesLength false (major_of keyed) a.budget)
    (RejectsMajor false (major_of keyed) a.budget) a c (value_or_error r failure)
length_does keyed (Some (Some n)) failure moves s h =
    does_ok _ _ (reached_sound (ReadsLength (major_of keyed)) (HeadAt false (major_of keyed) n)
    (λ xs k c _ r. head_at false (major_of keyed) n xs k r.0 (λ e. cc)) moves s)
length_does keyed (Some None) failure moves s h =
    let b = indefinite_head (major_of keyed) in
    does_ok _ _ (reached_sound (ReadsLength (major_of keyed)) (IndefiniteAt false (major_of keyed))
    (λ xs k c _ r. (refl, first_is b xs r.0 ∙ ap (λ j. b ∷ drop j xs) (sym r.1))) moves s)
length_does keyed {a = a} None failure moves s h = search (rules, call_rejects, length_rejects)

-- ---- what is rejected after a head

pub row : (keyed canonical : Bool) (o : Option ℕ) (inner : Budget) (xs ys : List ℕ)
    (e : InputError) (rest : List ℕ) → LengthAt canonical (major_of keyed) o xs ys
    → RejectsParts keyed canonical o inner ys e rest
    → RejectsMajor canonical (major_of keyed) inner xs e rest
row keyed false (Some n) inner xs ys e rest h s b bs is m outer step =
    search (rules, step_inside, initial_wide, inr, headed_by)
row keyed true (Some n) inner xs ys e rest h s b bs is m outer step =
    canonical_rejects _ _ _ _ _ (inr (after_shortest n ys h s)) b bs is m outer step
row keyed false None inner xs ys e rest h s b bs is m outer step =
    rw h.1 (step_inside outer _ ys e rest keyed indefinite_ended inner (initial_open keyed) step s)
row keyed true None inner xs ys e rest h s b bs is m outer step = cc

-- ---- what is read

two_steps : (c : ℕ) (budget inner deep : Budget) → step_in budget ≡ Some inner
    → step_in inner ≡ Some deep → CostFits c deep → CostFits (2 + c) budget
two_steps c budget inner deep s t f =
    fits_less (2 + c) (1 + (1 + c)) budget (omega arith) (step_up _ _ _ s (step_up _ _ _ t f))

all_whole : (canonical : Bool) (ts : Trees) (b : Budget) → Each (Whole canonical b) ts
    → (LooseAll ts × SoundStringsAll ts) × (canonical ≡ true → CanonicalShapeAll ts)
    × CostFits (greatest_cost ts) b
all_whole canonical no_trees b w = ((tt, tt), (λ e. tt), fits_zero b)
all_whole canonical (tree t ts) b w =
    search (rules, whole_is, fits_max, (all_whole canonical ts b w.1))

all_pairs_whole : (canonical : Bool) (ps : Pairs) (b : Budget) → EachPair (Whole canonical b) ps
    → (LoosePairs ps × SoundStringsPairs ps) × (canonical ≡ true → CanonicalShapePairs ps)
    × CostFits (greatest_pair_cost ps) b
all_pairs_whole canonical no_pairs b w = ((tt, tt), (λ e. tt), fits_zero b)
all_pairs_whole canonical (pair k v ps) b w =
    search (rules, whole_is, fits_max, (all_pairs_whole canonical ps b w.2))

-- the trees of keys and values, in pairs
paired : (W : Tree → Type 0) (ms : List (Value × Value)) (ts : Trees) → Each W ts
    → values ts ≡ items_view (flat_values ms)
    → (ps : Pairs) × (count ts ≡ 2 * pair_count ps) × EachPair W ps
    × (pair_values_of ps ≡ pairs_view ms) × (bytes_all ts ≡ bytes_pairs ps)
paired W [] no_trees h e = (no_pairs, refl, tt, refl, refl)
paired W (m ∷ ms) (tree k (tree v ts)) h e =
    let r = paired W ms ts h.1.1 (cc) in (
      pair k v r.0,
      omega (arith, r.1),
      (h.0, h.1.0, r.2),
      cc r.3,
      ap (λ z. bytes k ++ (bytes v ++ z)) r.4,
    )
paired W _ _ h e = cc

pub reads : (keyed canonical : Bool) (deep : Budget) (o : Option ℕ)
    (v : Vec (Element keyed) Global) (xs ys zs : List ℕ)
    → LengthAt canonical (major_of keyed) o xs ys
    → ReadsParts keyed canonical o deep ys (values_of keyed v.items) zs
    → ReadsTwoStepsIn canonical deep xs (made_of keyed v) zs
reads false canonical deep (Some n) v xs ys zs h r inner t budget s =
    let k = width_of_head canonical 4 (count r.0) xs ys (rw r.1 h) in
    let all = all_whole canonical r.0 deep r.2 in (
      array k.0 r.0,
      whole canonical budget (array k.0 r.0) ((k.1, all.0.0), all.0.1) (λ e. (k.2 e, all.1 e))
          (two_steps _ budget inner deep s t all.2),
      ap sequence r.3 ∙ sym (view-Array v),
      rw (append_assoc, ← r.4) k.3,
    )
reads true canonical deep (Some n) v xs ys zs h r inner t budget s =
    let p = paired (Whole canonical deep) v.items r.0 r.2 r.3 in
    let many : n ≡ pair_count p.0 = omega (arith, r.1, p.1) in
    let k = width_of_head canonical 5 (pair_count p.0) xs ys (rw (← many) h) in
    let all = all_pairs_whole canonical p.0 deep p.2 in (
      map_of k.0 p.0,
      whole canonical budget (map_of k.0 p.0) ((k.1, all.0.0), all.0.1) (λ e. (k.2 e, all.1 e))
          (two_steps _ budget inner deep s t all.2),
      ap mapping p.3 ∙ sym (view-Map v),
      rw (append_assoc, ← p.4, ← r.4) k.3,
    )
reads false canonical deep None v xs ys zs h r inner t budget s =
    let all = all_whole canonical r.0 deep r.2 in (
      array_indefinite r.0,
      whole canonical budget (array_indefinite r.0) all.0 (λ e. cc)
          (two_steps _ budget inner deep s t all.2),
      ap sequence r.3 ∙ sym (view-Array v),
      rw (append_assoc, ← r.4) h.1,
    )
reads true canonical deep None v xs ys zs h r inner t budget s =
    let p = paired (Whole canonical deep) v.items r.0 r.2 r.3 in
    let all = all_pairs_whole canonical p.0 deep p.2 in (
      map_indefinite p.0,
      whole canonical budget (map_indefinite p.0) all.0 (λ e. cc)
          (two_steps _ budget inner deep s t all.2),
      ap mapping p.3 ∙ sym (view-Map v),
      rw (append_assoc, ← p.4, ← r.4) h.1,
    )

-- ---- calls

-- what a call answers, made a value
abbrev pub answer_as : {U V E : Type 0} → (U → V) → Result U E → Result V E
answer_as f (Ok u) = Ok (f u)
answer_as f (Err e) = Err e

-- the length that was taken
pub follow : (canonical : Bool) {E : Type 0} (major : ℕ) (o p : Option ℕ) {S : Rejection}
    {a m : View}
    → o ≡ p → Does {E = E} (TakesLength canonical major a.budget) S a m (Ok o)
    → Reached (λ xs ys. TakesLength canonical major a.budget xs p ys) a m
follow canonical major o p is d = rw (← is) (reached_by d)

-- no element
pub none_follow : (canonical : Bool) {E T : Type 0} (f : T → List Value) (v : T) {m : View}
    → f v ≡ []
    → Does {E = E} (λ xs u ys. ReadsItems canonical 0 m.budget xs (f u) ys)
    (RejectsItems canonical 0 m.budget) m m (Ok v)
none_follow canonical f v {m = m} e =
    does_ok _ _ (reached_as (ReadEach canonical (f v) m.budget) _
    (λ xs ys h. subst (λ us. ReadsItems
    canonical (length us) m.budget xs (f v) ys) e h) (none_read canonical m (f v) e))

-- it is a map where it is no array
pub is_map : {major : ℕ} → (major ≡ 4) ⊎ (major ≡ 5) → major ≢ 4 → major ≡ 5
is_map h other = omega (arith, h, other)

-- ---- values one after another, up to a break

no_break : (canonical : Bool) (budget : Budget) (ys : List ℕ) (e : InputError) (rest : List ℕ)
    → ys ≢ []
    → ((bs : List ℕ) → ys ≡ break ∷ bs → ⊥) → RejectsOneValue canonical budget ys e rest
    → NoBreak (RejectsOneValue canonical budget) ys e rest
no_break canonical budget [] e rest some none s = absurd (some refl)
no_break canonical budget (b ∷ bs) e rest some none s = ((λ f. none bs (ap (λ c. c ∷ bs) f)), s)

open_stop : (keyed canonical : Bool) (budget : Budget) (vs : List (Element keyed)) (xs ys : List ℕ)
    (e : InputError) (rest : List ℕ) → ReadEach canonical (values_of keyed vs) budget xs ys
    → NoBreak (RejectsOneValue canonical budget) ys e rest → RejectsOpen keyed canonical budget xs e
    rest
open_stop false canonical budget vs xs ys e rest h s = in_items h.0 ys h.2 h.4 s
open_stop true canonical budget ms xs ys e rest h s = search (rules, paired, in_pairs, inl)

pair_stop : (canonical : Bool) (budget : Budget) (ms : List (Value × Value)) (xs ys : List ℕ)
    (e : InputError) (rest : List ℕ) → Before (ReadEach canonical (flat_values ms)) budget xs ys
    → RejectsValuePair canonical budget ys e rest → RejectsPairsToBreak canonical budget xs e rest
pair_stop canonical budget ms xs ys e rest h (inl s) =
    open_stop true canonical budget ms xs ys e rest h.0 (no_break canonical budget ys e rest h.1 h.2
    s)
pair_stop canonical budget ms xs ys e rest h (inr k) = search (rules, paired, in_pairs, inr)

-- after a look for a break
module _ (canonical : Bool) (vs : List Value) {E : Type 0} {a m b : View}
    {r : Result Bool (DecodeError E)} (p : Reached (ReadEach canonical vs a.budget) a m)
    (d : Decodes break_format m b r) where
  -- there is one
  pub break_taken : {v : Bool} → r ≡ Ok v → v ≡ true
      → Reached (λ xs ys. ReadsIndefiniteItems canonical a.budget xs vs ys) a b
  break_taken is v =
      broke (ReadEach canonical vs) p _ (λ xs ys zs h e. rw (← e) h) v (rw is at d.moves) (rw is at
      d.sound)

  -- another byte comes next
  pub no_break_yet : {v : Bool} → r ≡ Ok v → v ≡ false
      → Reached (Before (ReadEach canonical vs) a.budget) a b
  no_break_yet is v =
      other (ReadEach canonical vs) p v (rw is at d.moves) (rw is at d.sound)

-- there is no byte
pub no_byte_left : (keyed canonical : Bool) (vs : List (Element keyed)) {V E : Type 0}
    (B : Accepting V) {a m b : View} {r : Result Bool (DecodeError E)} {e : DecodeError E}
    → Reached (ReadEach canonical (values_of keyed vs) a.budget) a m → Decodes break_format m b r
    → r ≡ Err e → Does {V = V} B (RejectsOpen keyed canonical a.budget) a b (Err e)
no_byte_left keyed canonical vs B {a = a} p d is =
    let z = eof break_name (Small 1) in
    at_end (ReadEach canonical (values_of keyed vs)) p B _ (λ xs ys h e. open_stop keyed canonical
    a.budget
    vs xs ys z [] h (rw e (refl, refl))) (rw is at d.moves) (rw is at d.begins)

-- ---- one more

-- values after those that were read
pub put_read : (canonical : Bool) (vs part : List Value) {ws : List Value} {a m b : View}
    → ws ≡ vs ++ part → Reached (Before (ReadEach canonical vs) a.budget) a m
    → Reached (λ xs ys. ReadEach canonical part m.budget xs ys) m b
    → Reached (ReadEach canonical ws a.budget) a b
put_read canonical vs part is p =
    reached_on p (ReadEach canonical part)
    (λ xs ys zs h s. rw is (join_items _ vs part xs ys zs h.0 s))

-- a value, or a pair, that is rejected after them
module _ (canonical : Bool) {V E : Type 0} (B : Accepting V)
    {e : DecodeError E} {a m b : View} where
  pub value_stops : (vs : List Value) → Reached (Before (ReadEach canonical vs) a.budget) a m
      → Does {V = Value} (ReadsOneValue canonical m.budget) (RejectsOneValue canonical m.budget) m b
      (Err e)
      → Does {V = V} B (RejectsIndefiniteItems canonical a.budget) a b (Err e)
  value_stops vs p =
      stops_on p (RejectsOneValue canonical) (λ xs ys z rest h s. open_stop false canonical a.budget
      vs xs ys z rest h.0 (no_break canonical a.budget ys z rest h.1 h.2 s))

  pub pair_stops : (ms : List (Value × Value))
      → Reached (Before (ReadEach canonical (flat_values ms)) a.budget) a m
      → Does {V = Value × Value} (ReadsValuePair canonical m.budget)
      (RejectsValuePair canonical m.budget) m b (Err e)
      → Does {V = V} B (RejectsPairsToBreak canonical a.budget) a b (Err e)
  pair_stops ms p =
      stops_on p (RejectsValuePair canonical) (λ xs ys. pair_stop canonical a.budget ms xs ys)

-- ---- a pair

module _ (canonical : Bool) {k : Value} {E : Type 0} {S : Rejection} {a m : View}
    (key : Does {E = E} (ReadsOneValue canonical a.budget) S a m (Ok k)) where
  pub pair_read : {v : Value} {b : View} {T : Rejection}
      → Does {E = E} (ReadsOneValue canonical m.budget) T m b (Ok v)
      → Reached (λ xs ys. ReadsValuePair canonical a.budget xs (k, v) ys) a b
  pair_read {v = v} d =
      reached_on (reached_by key) (λ o xs ys. ReadsOneValue canonical o xs v ys)
      (λ xs ys zs h s. join_items _ (k ∷ []) (v ∷ []) xs ys zs (one_item canonical a.budget xs k ys
      h) (one_item canonical a.budget ys v zs s)) (reached_by d)

  pub value_rejected : {V : Type 0} (B : Accepting V) {e : DecodeError E} {b : View}
      → Does {V = Value} (ReadsOneValue canonical m.budget) (RejectsOneValue canonical m.budget) m b
      (Err e)
      → Does {V = V} B (RejectsValuePair canonical a.budget) a b (Err e)
  value_rejected B =
      stops_on (reached_by key) (RejectsOneValue canonical) (λ xs ys z rest h s. inr (record {
        key = h.0;
        after = ys;
        whole = h.1;
        is = h.3;
        rejected = s;
      }))

-- ---- the answer of a `?`

-- the error that a `?` hands on
pub passed : {V E : Type 0} {A : Accepting V} {S : Rejection} {e : DecodeError E} {a b : View}
    (r : Result V (DecodeError E)) → IsErrAnd r (λ y. y ≡ e) → Does A S a b (Err e) → Does A S a b r
passed r is d = let p = err_from_is_err_and r is in rw (p.1, p.2) d

-- ---- errors

-- the error is another one
pub not_wanted : {P : Type 0} → IsTrue false → P
not_wanted want = let never : false ≡ true = want in cc

pub passed_memory : {V E P : Type 0} (e : DecodeError E) (r : Result V (DecodeError E))
    → IsErrAnd r (λ y. y ≡ e) → (IsTrue (is_out_of_memory e) → P)
    → IfErr r (λ e. IsTrue (is_out_of_memory e) → P)
passed_memory e r is f = let p = err_from_is_err_and r is in rw (p.1, p.2) f

-- ---- after others, and around them

module _ {at to : List ℕ → List ℕ → Type 0} {a b : View} where
  pub asks_as : ((xs ys : List ℕ) → at xs ys → to xs ys) → Asks at a b → Asks to a b
  asks_as f h = record { at = λ xs known ys left. f xs ys (h.at xs known ys left) }

  pub asks_after : {P : List ℕ → List ℕ → Type 0} {m : View}
      → ((xs us ys : List ℕ) → P xs us → at us ys → to xs ys) → Reached P a m → Asks at m b
      → Asks to a b
  asks_after f p h = search rules

-- behind what was taken
pub asks_here : {P : List ℕ → List ℕ → Type 0} (to : List ℕ → List ℕ → Type 0) {a b : View}
    → ((xs ys : List ℕ) → P xs ys → to xs ys) → Reached P a b → Asks to a b
asks_here {P = P} to f p = search rules

pub asks_around : {at : List ℕ → List ℕ → Type 0} {a b c d : View} → KeepsAllButBudget a b
    → KeepsAllButBudget c d → Asks at b c → Asks at a d
asks_around inward outward h = search rules

-- ---- values

read_is : (canonical : Bool) (budget : Budget) (t : Tree) → Whole canonical budget t
    → IsRead canonical t
read_is canonical budget t h = let w = whole_is canonical budget t h in (w.0, w.1)

pub values_are : (canonical : Bool) {n : ℕ} (budget : Budget) (vs : List Value) (xs ys : List ℕ)
    → ReadsItems canonical n budget xs vs ys → Values canonical n xs ys
values_are canonical budget vs xs ys h = search (rules, each_covers, read_is)

pub value_is : (canonical : Bool) (budget : Budget) (v : Value) (xs ys : List ℕ)
    → ReadsOneValue canonical budget xs v ys → Values canonical 1 xs ys
value_is canonical budget v xs ys h =
    values_are canonical budget (v ∷ []) xs ys (one_item canonical budget xs v ys h)

pub values_join : (canonical : Bool) {j k : ℕ} (xs us ys : List ℕ) → Values canonical j xs us
    → Values canonical k us ys → Values canonical (j + k) xs ys
values_join canonical xs us ys h s = search (rules, count-join, ◌+◌, each-join, bytes-join)

-- a step was taken before
outer_of : (inner : Budget) → (budget : Budget) × (step_in budget ≡ Some inner)
outer_of None = (None, refl)
outer_of (Some n) = (Some (suc n), refl)

value_under : (canonical : Bool) (inner : Budget) (v : Value) (xs ys : List ℕ)
    → ReadsUnder canonical inner xs v ys → Values canonical 1 xs ys
value_under canonical inner v xs ys h =
    let o = outer_of inner in value_is canonical o.0 v xs ys (h o.0 o.1)

values_under : (canonical : Bool) (before after : List Value) (inner : Budget) (xs ys : List ℕ)
    → PutsItemsUnder canonical before after inner xs tt ys → (k : ℕ) × Values canonical k xs ys
values_under canonical before after inner xs ys h =
    let o = outer_of inner in
    let p = h o.0 o.1 in (length p.0, values_are canonical o.0 p.0 xs ys p.2)

-- ---- parts

-- in the value after so many
pub in_next : (canonical : Bool) (least : ℕ) {k : ℕ} (xs us ys : List ℕ) → Values canonical k xs us
    → InValue canonical us ys → InParts canonical least xs ys
in_next canonical least xs us ys h s = inr (_, us, h, s)

-- after more values before them
pub in_further : (canonical : Bool) {least : ℕ} {j : ℕ} (xs us ys : List ℕ) → Values canonical j xs
    us
    → InParts canonical least us ys → InParts canonical least xs ys
in_further canonical xs us ys h (inl s) =
    inl (_, omega (arith, s.1), values_join canonical xs us ys h s.2)
in_further canonical xs us ys h (inr s) = inr (_, s.1, values_join canonical xs us s.1 h s.2, s.3)

-- any number of them
pub in_any : (canonical : Bool) {least : ℕ} (xs ys : List ℕ) → InParts canonical least xs ys
    → InParts canonical 0 xs ys
in_any canonical xs ys (inl s) = inl (s.0, omega arith, s.2)
in_any canonical xs ys (inr s) = inr s

-- after the head of an array or a map
pub in_parts : (canonical : Bool) {least : ℕ} (o : Option ℕ)
    → ((k : ℕ) → least ≤ k → Grows o k) → (xs us ys : List ℕ) → BeginsParts canonical o xs us
    → InParts canonical least us ys → InValue canonical xs ys
in_parts canonical o grows xs us ys h (inl s) = (grown s.0, (o, us, h, grows s.0 s.1, s.2))
in_parts canonical o grows xs us ys h (inr s) = (inside s.0 s.3.0, (o, us, s.1, h, s.2, s.3.1))

-- after the head of a tag
pub in_tagged : (canonical : Bool) (n : ℕ) (xs us ys : List ℕ) → HeadAt canonical 6 n xs us
    → InTagged canonical us ys → InValue canonical xs ys
in_tagged canonical n xs us ys h (inl s) = (boxed, (n, us, h, s))
in_tagged canonical n xs us ys h (inr s) = (in_tag s.0, (n, us, h, s.1))

-- in the first value
pub in_first : (canonical : Bool) {least : ℕ} (xs ys : List ℕ) → InValue canonical xs ys
    → InParts canonical least xs ys
in_first canonical xs ys s = inr (0, xs, (no_trees, refl, tt, refl), s)

-- ---- a turn: a run, and the value after it

module _ (canonical : Bool) {E : Type 0} {before mid : List Value} {n : Next} {a m b : View}
    (run : RunsBefore E canonical n before mid a m) where
  -- in the value
  pub turn_asks : AsksAfterNext canonical n (InValue canonical) m b → Asks (InParts canonical 1) a b
  turn_asks h =
      asks_after (λ xs us ys p s. let v = values_under canonical before mid a.budget xs us p in
      in_next canonical 1 xs us ys v.1 s) (reached_by run.puts) (h run.mid run.shows)

  -- for the place of the value
  pub turn_grows : {v : Value} → DoesAfterNext {E = E} canonical n (ReadsUnder canonical)
      (RejectsUnder canonical) m b (Ok v) → Asks (InParts canonical 1) a b
  turn_grows {v = v} d =
      asks_here (InParts canonical 1) (λ xs ys h. h) (reached_then
      (λ xs ys. PutsItemsUnder canonical before mid a.budget xs tt ys)
      (λ xs ys. ReadsUnder canonical run.mid.budget xs v ys) (InParts canonical 1) (λ xs us ys p s.
      let k = values_under canonical before mid a.budget xs us p in
      let one = value_under canonical run.mid.budget v us ys s in
      inl (k.0 + 1, omega arith, values_join canonical xs us ys k.1 one))
      (reached_by run.puts) (reached_by (d run.mid run.shows)))

-- ---- values up to a break

-- for the place of what was read after others
pub put_grows : (canonical : Bool) (vs part : List Value) {a m b : View} → 1 ≤ length part
    → Reached (Before (ReadEach canonical vs) a.budget) a m
    → Reached (λ xs ys. ReadEach canonical part m.budget xs ys) m b → Asks (InParts canonical 1) a b
put_grows canonical vs part {a = a} some p q =
    asks_here (InParts canonical 1) (λ xs ys h. inl (
      _,
      omega (arith, some, length-append vs part),
      values_are canonical a.budget (vs ++ part) xs ys h,
    )) (put_read canonical vs part refl p q)

-- ---- a run

prefix_of_shown : (n : ℕ) (shown xs : List ℕ) → n ≤ length shown → length shown ≤ length xs
    → take (length shown) xs ≡ shown → take n xs ≡ take n shown
prefix_of_shown n shown xs within long e =
    let more = length (drop n shown) in
    let many : n + more ≡ length shown = omega (arith, within, length-drop n shown) in
    let all : take n xs ++ take more (drop n xs) ≡ shown = sym (take-add n more xs)
    ∙ ap (λ j. take j xs) many ∙ e in
    sym (the_prefix n xs (take more (drop n xs)) (omega (arith, within, long))) ∙ ap (take n) all

stand_in : (canonical : Bool) {vs : List Value} (taken : ℕ) (shown xs : List ℕ)
    → StandFirst (canonical ≡ true) vs taken shown → take taken xs ≡ take taken shown
    → Values canonical (length vs) xs (drop taken xs)
stand_in canonical taken shown xs s same = search (rules, each_covers, take-append-drop)

in_run : (canonical : Bool) (size : ℕ) (shown xs ys : List ℕ) → IsPrefix 1 shown xs
    → ys ≡ drop size xs → RefusedMemory (canonical ≡ true) size shown → InParts canonical 1 xs ys
in_run canonical size shown xs ys p after r =
    by_place (stand_in canonical r.taken shown xs r.stand (prefix_of_shown r.taken shown xs
    r.stand.within p.within p.begins)) r.at
  where
    by_place : Values canonical (length r.values) xs (drop r.taken xs)
        → ((1 ≤ length r.values) × (size ≡ r.taken)) ⊎ ((head : ℕ) × (size ≡ r.taken + head)
        × WantsContent head (drop r.taken shown)) → InParts canonical 1 xs ys
    by_place here (inl h) =
        inl (
          length r.values,
          h.0,
          rw (after ∙ ap (λ j. drop j xs) h.1) here,
        )
    by_place here (inr h) =
        let w = h.2 in
        let begins = begins_with w.first w.trailing (drop r.taken shown) (drop r.taken xs) w.begins
        (begins_after r.taken shown xs r.stand.within p.begins) in
        inr (
          length r.values,
          drop r.taken xs,
          here,
          (
            content,
            (
              w.first,
              drop 1 (drop r.taken xs),
              begins,
              w.major,
            ),
          ),
        )

-- no memory was found in a run
pub run_asks : (canonical : Bool) {size : ℕ} {a m b : View}
    → Offers 1 (RefusedMemory (canonical ≡ true) size) a m → Advances size m b
    → Asks (InParts canonical 1) a b
run_asks canonical {size = size} {m = m} {b = b} o adv = record {
  at = λ xs known ys left.
      let gone = sym left ∙ adv.known xs (o.shows.known xs known) in
      let after : ys ≡ drop size xs = cc in
      in_run canonical size o.shown xs ys (o.prefix xs known) after o.is;
}

-- ---- strings

pub in_string : (canonical : Bool) (first : ℕ) {a m b : View} → ShowsFirst first a m
    → BeginsString first → Asks (InValue canonical) a b
in_string canonical first shows string = record {
  at = λ xs known ys left.
      let s = (peeked_first first shows).at xs known in
      (content, (first, s.2.0, s.2.1, string));
}

-- a look has shown it whole
pub in_content : (canonical : Bool) {size : ℕ} {a m b : View} → Offers 1 (WantsContent size) a m
    → Asks (InValue canonical) a b
in_content canonical {a = a} {m = m} o =
    let shows : ShowsFirst o.is.first a m = record {
      shown = o.shown;
      shows = o.shows;
      prefix = o.prefix;
      is = (o.is.trailing, o.is.begins);
    } in
    in_string canonical o.is.first shows o.is.major

-- ---- memory

-- what asks for none answers no want of it
pub no_want : {x : Bool} → (IsTrue x → IsTrue false) → IsTrue x → ⊥
no_want f want = let never : false ≡ true = f want in cc

pub wants_as : {V E P Q : Type 0} (r : Result V (DecodeError E)) → (P → Q)
    → IfErr r (λ e. IsTrue (is_out_of_memory e) → P)
    → IfErr r (λ e. IsTrue (is_out_of_memory e) → Q)
wants_as (Ok v) f w = tt
wants_as (Err e) f w = λ want. f (w want)

-- ---- one clause of some

module _ {V E : Type 0} {K : Asking} {is : V → Type 0}
    {C : View → View → Result V (DecodeError E) → Type 0} {a b : View} where
  -- an error alone
  pub gives_err : {e : DecodeError E} → (IsTrue (is_out_of_memory e) → K a b) → C a b (Err e)
      → Gives K is C a b (Err e)
  gives_err wants d = record { does = d; memory = wants; ranged = tt; gains = tt }

  -- by four clauses
  pub gives_of : {r : Result V (DecodeError E)} → C a b r → WantsOnly K a b r → IfOk r is
      → OnOk r (b.bound + 1 ≤ a.bound) → Gives K is C a b r
  gives_of {r = Ok v} d wants ranged fell =
      record { does = d; memory = wants; ranged = ranged; gains = fell }
  gives_of {r = Err e} d wants ranged fell = gives_err wants d

  pub gives_fall : {r : Result V (DecodeError E)} → Gives K is C a b r
      → OnOk r (b.bound + 1 ≤ a.bound)
  gives_fall {r = Ok v} g = g.gains
  gives_fall {r = Err e} g = tt

-- by a decoding call that takes no memory
pub gives_none : {V E : Type 0} {C : View → View → Result V (DecodeError E) → Type 0} {a b : View}
    {r : Result V (DecodeError E)} → C a b r
    → IfErr r (λ e. IsTrue (is_out_of_memory e) → IsTrue false) → OnOk r (b.bound + 1 ≤ a.bound)
    → Gives Never Anything C a b r
gives_none {r = Ok v} d wants fell = record { does = d; memory = tt; ranged = tt; gains = fell }
gives_none {r = Err e} d wants fell = gives_err (no_want wants) d

module _ {V E : Type 0} {K L : Asking} {is : V → Type 0}
    {C D : View → View → Result V (DecodeError E) → Type 0} {r : Result V (DecodeError E)} where
  -- reported in other words
  pub gives_as : {a b : View} → (K a b → L a b) → (C a b r → D a b r) → Gives K is C a b r
      → Gives L is D a b r
  gives_as k f g = search (rules, wants_as)

  -- from before, to after
  pub gives_on : {a b c d : View} → (K b c → L a d) → (C b c r → D a d r) → b.bound ≤ a.bound
      → d.bound ≤ c.bound → Gives K is C b c r → Gives L is D a d r
  gives_on {a = a} {b = b} {c = c} {d = d} k f before after g =
      gives_of (f g.does) (wants_as r k g.memory) g.ranged (less r (gives_fall g))
    where
      less : (r : Result V (DecodeError E)) → OnOk r (c.bound + 1 ≤ b.bound)
          → OnOk r (d.bound + 1 ≤ a.bound)
      less (Ok v) fell = omega (arith, before, after, fell)
      less (Err e) fell = tt

-- ---- under a step

module _ (canonical : Bool) {E : Type 0} {a b c d : View} (takes : StepsIn a.budget b.budget true)
    (inward : KeepsAllButBudget a b) (gives : d.budget ≡ step_back c.budget)
    (outward : KeepsAllButBudget c d) where
  around : {V : Type 0} {is : V → Type 0}
      {C D : View → View → Result V (DecodeError E) → Type 0} {K L : Asking}
      {r : Result V (DecodeError E)} → (K b c → L a d) → (C b c r → D a d r) → Gives K is C b c r
      → Gives L is D a d r
  around k f = gives_on k f (omega (arith, inward.bound)) (omega (arith, outward.bound))

  pub value_stepped : {r : Result Value (DecodeError E)}
      → GivesValue canonical (ReadsUnder canonical) (RejectsUnder canonical) b c r
      → GivesValue canonical (ReadsOneValue canonical) (RejectsOneValue canonical) a d r
  value_stepped =
      let step = steps_in a.budget b.budget takes in
      around (asks_around inward outward) (λ w. does_stepped (ReadsUnder canonical b.budget) _
      (RejectsUnder canonical b.budget) _ (λ xs ys v h. h a.budget step)
      (λ xs e rest h. rejects_under canonical b.budget a.budget xs e rest step h) takes inward w
      gives
      outward)

  pub items_stepped : (full : ℕ) (before after : List Value) {r : Result (Unit {0}) (DecodeError E)}
      → GivesItems canonical (PutsItemsUnder canonical) (RejectsItemsUnder canonical) full before
      after b c r
      → GivesItems canonical (PutsItems canonical) (RejectsItems canonical) full before after a d r
  items_stepped full before after = search (rules, steps_in, around, asks_around, does_stepped)

  -- the second step of an array or a map
  pub second_stepped : (major : ℕ) (n : Next) {r : Result Value (DecodeError E)}
      → GivesNext canonical n (ReadsTwoStepsIn canonical) (RejectsMajor canonical major) b c r
      → GivesNext canonical n (ReadsUnder canonical) (RejectsOf canonical major) a d r
  second_stepped major n =
      around (λ h before shows. asks_around (alike_within b.budget before) outward
      (h (with_budget b.budget before) (next_stepped n shows inward))) (λ w before shows.
      let stepped = next_step n shows b takes in
      let step = steps_in before.budget b.budget stepped in
      does_stepped (ReadsTwoStepsIn canonical b.budget) _ (RejectsMajor canonical major b.budget) _
      (λ xs ys v h. h before.budget step)
      (λ xs e rest h first bs is m. h first bs is m before.budget step) stepped
      (alike_within b.budget before) (w (with_budget b.budget before) (next_stepped n shows inward))
      gives outward)

-- ---- a value after a look, or after a run

-- nothing was taken yet
pub look_gives : (canonical : Bool) {E : Type 0} {r : Result Value (DecodeError E)} {a m b : View}
    {seen : TakenOrNext} (n : Next) (failure : Option (DecodeError E)) → seen ≡ looked.Begins n
    → TakesLeaf canonical a m (Some seen) failure
    → GivesNext canonical n (ReadsUnder canonical) (RejectsUnder canonical) m b r
    → GivesValue canonical (ReadsUnder canonical) (RejectsUnder canonical) a b r
look_gives canonical {a = a} {m = m} n failure is t = search (rules, gives_on)

-- it is put after the run, or there is no memory for that
pub item_put : (canonical : Bool) {E : Type 0} (full : ℕ) (before mid after : List Value)
    {found : Option Next} (n : Next) {v : Value} {a m b : View} (r : Option (Unit {0}))
    (left failure : Option (DecodeError E)) → found ≡ Some n
    → TakesRun canonical full before mid a m (Some found) left → OnSome r (after ≡ mid ++ v ∷ [])
    → IfNone r (failure ≡ None)
    → GivesNext {E = E} canonical n (ReadsUnder canonical) (RejectsUnder canonical) m b (Ok v)
    → GivesItems canonical (PutsItemsUnder canonical) (RejectsItemsUnder canonical) full before
    after a b (value_or_error r failure)
item_put canonical full before mid after n {v = v} (Some u) left failure is t put none g = record {
  does =
      turn_value canonical full before mid n (run_before canonical before mid n left is t.puts)
      after put
      g.does;
  memory = tt;
  ranged = (
    λ are. items_are after mid (v ∷ []) put (t.items are) (g.ranged, tt),
    omega (arith, ap length put, length-append mid (v ∷ []), on_found n is t.lacks),
  );
  gains = omega (arith, t.bound, g.gains);
}
item_put canonical full before mid after n None left failure is t put none g =
    let run = run_before canonical before mid n left is t.puts in
    gives_err (λ want. turn_grows canonical run g.does) (does_no_memory _ _ (ap error_left none)
    (kept_then run.puts.moves.by (g.does run.mid run.shows).moves.by))

-- ---- an array or a map, by its length and its elements

made_is : (keyed : Bool) (v : Vec (Element keyed) Global)
    → AreItems (items_view (values_of keyed v.items)) → InRange (made_of keyed v)
made_is false v h = array_encoding v h
made_is true v h = map_encoding v h

nests : (keyed : Bool) → (major_of keyed ≡ 4) ⊎ (major_of keyed ≡ 5)
nests false = inl refl
nests true = inr refl

-- how many elements were read where their places are asked for
abbrev pub least_of : Option ℕ → ℕ
least_of (Some k) = 0
least_of None = 1

grows : (p : Option ℕ) → IfSome p (λ k. 1 ≤ k) → (j : ℕ) → least_of p ≤ j → Grows p j
grows (Some k) some j least = some
grows None some j least = least

-- a property of what was found
some_ok : {V E : Type 0} (is : V → Type 0) (o : Option V) (failure : Option (DecodeError E))
    → IfSome o is → IfOk (value_or_error o failure) is
some_ok is (Some v) failure h = h
some_ok is None failure h = tt

-- so many elements, or those up to a break
module _ (keyed canonical : Bool) {E : Type 0} {o : Option ℕ} {n : Next} {a m b : View}
    (length : DoesAfterNext {E = E} canonical n (TakesLength canonical (major_of keyed))
    (RejectsMajor canonical (major_of keyed)) a m (Ok o)) (fell : m.bound + 1 ≤ a.bound)
    (p : Option ℕ) (is : o ≡ p) where
  from_look : {r : Result (Vec (Element keyed) Global) (DecodeError E)} (before : View)
      → ShowsNext (canonical ≡ true) n before a
      → Does (λ xs v ys. ReadsParts keyed canonical p m.budget xs (values_of keyed v.items) ys)
      (RejectsParts keyed canonical p m.budget) m b r
      → Does (λ xs v ys. ReadsTwoStepsIn canonical before.budget xs (made_of keyed v) ys)
      (RejectsMajor canonical (major_of keyed) before.budget) before b r
  from_look before shows =
      does_under (LengthAt canonical (major_of keyed) p) (λ l xs v ys. ReadsParts keyed canonical p
      l xs (values_of keyed v.items) ys) _ (RejectsParts keyed canonical p) _
      (λ xs ys zs v. reads keyed canonical before.budget p v xs ys zs)
      (λ xs ys e rest. row keyed canonical p before.budget xs ys e rest)
      (follow canonical _ o p is (length before shows))

  pub parts_give : {r : Result (Vec (Element keyed) Global) (DecodeError E)}
      → IfOk r (λ v. AreItems (items_view (values_of keyed v.items)))
      → WantsOnly (AsksAfterNext canonical n (InValue canonical)) a b r
      → Does (λ xs v ys. ReadsParts keyed canonical p m.budget xs (values_of keyed v.items) ys)
      (RejectsParts keyed canonical p m.budget) m b r
      → GivesNext canonical n (ReadsTwoStepsIn canonical) (RejectsMajor canonical (major_of keyed))
      a b (answer_as (made_of keyed) r)
  parts_give {r = Ok v} are wants d = record {
    does = λ before shows. does_ok _ _ (reached_by (from_look before shows d));
    memory = tt;
    ranged = made_is keyed v are;
    gains = omega (arith, fell, d.moves.by.bound);
  }
  parts_give {r = Err e} are wants d =
      gives_err wants (λ before shows. refused (from_look before shows d))

  -- the elements that were found, or the error that was left
  pub parts_found : (items : Option (Vec (Element keyed) Global)) (failure : Option (DecodeError E))
      → IfSome items (λ v. AreItems (items_view (values_of keyed v.items)))
      → IfSome p (λ k. 1 ≤ k)
      → WantsOnly (Asks (InParts canonical (least_of p))) m b (value_or_error items failure)
      → Does (λ xs v ys. ReadsParts keyed canonical p m.budget xs (values_of keyed v.items) ys)
      (RejectsParts keyed canonical p m.budget) m b (value_or_error items failure)
      → GivesNext canonical n (ReadsTwoStepsIn canonical) (RejectsMajor canonical (major_of keyed))
      a b (answer_as (made_of keyed) (value_or_error items failure))
  parts_found items failure are some wants =
      parts_give (some_ok _ items failure are) (wants_as (value_or_error items failure)
      (λ h before shows. asks_after (λ xs us ys t s. in_parts canonical p (grows p some) xs us ys
      (major_of keyed, nests keyed, t) s) (follow canonical _ o p is (length before shows)) h)
      wants)

module _ {V W E : Type 0} {K : Asking} {is : W → Type 0}
    {C : View → View → Result W (DecodeError E) → Type 0} {a b : View} (f : V → W) (o : Option V)
    (failure : Option (DecodeError E)) where
  pub as_found : (v : V) → o ≡ Some v → Gives K is C a b (answer_as f (value_or_error o failure))
      → Gives K is C a b (Ok (f v))
  as_found v found = subst (λ o. Gives K is C a b (answer_as f (value_or_error o failure))) found

  pub as_left : o ≡ None → Gives K is C a b (answer_as f (value_or_error o failure))
      → Gives K is C a b (Err (error_left failure))
  as_left none = subst (λ o. Gives K is C a b (answer_as f (value_or_error o failure))) none
