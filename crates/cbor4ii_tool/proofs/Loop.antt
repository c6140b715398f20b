-- The loop over the items of a command.
use Rattle.std.proofs.Common.{◌≡◌, ◌≢◌, ℕ, ◌+◌, ◌-◌, List, [], ◌∷◌, ◌++◌}
use Rattle.std.proofs.Common.{length, drop, Bool, IsTrue}
use Rattle.std.proofs.Common.{Option, None, Some, Ok, Err, true, false, inl, inr, refl, sym, ap}
use Rattle.std.proofs.Common.{◌∙◌, subst, arith, append-nil}
use Rattle.std.proofs.lemmas.Grind.{flat_map-append}
use Rattle.std.proofs.lemmas.List.{drop-drop, length-drop}
use Rattle.cbor4ii_rw.specs.View.{View, IfKnown}
use Rattle.cbor4ii_rw.specs.Reader.{Shows, Failed, counts}
use Rattle.cbor4ii_rw.specs.Writer.{Output, Appends}
use Rattle.cbor4ii_tool.specs.Item.{Converts, BeginsItem, ItemIsTaken, RejectsAs, IsRow, together}
use Rattle.cbor4ii_tool.specs.Run.{RestStandsAt, FaultAt, RunsOver, FailedOrCounted}
use Rattle.cbor4ii_tool.specs.Steps.{Leaves, StandUpTo, Saw, Done, Fails, Ran}
use Rattle.cbor4ii_tool.proofs.Items.{same_bytes}
use Rattle.cbor4ii_tool.specs.declared.command.Command.{Command}
use Rattle.cbor4ii_tool.specs.declared.fault.Kind.{Kind}
use Rattle.cbor4ii_tool.specs.declared.fault.Kind.TheVariants.{Read, OutOfMemory, Write}
use Rattle.cbor4ii_items.specs.Laws.Steps.{counts_more}
use Rattle.cbor4ii_items.specs.Laws.Written.{appends_then}

-- ---- rows

pub row_more : (command : Command) (budget : Option ℕ) (texts : List (List ℕ))
    (text input rest left : List ℕ) → IsRow command budget texts input rest
    → Converts command budget rest text left
    → IsRow command budget (texts ++ text ∷ []) input left
row_more command budget [] text input rest left row takes =
    (left, subst (λ (xs : List ℕ). Converts command budget xs text left) (sym row) takes, refl)
row_more command budget (t ∷ ts) text input rest left row takes =
    (row.0, row.1, row_more command budget ts text row.0 rest left row.2 takes)

pub together_more : (texts : List (List ℕ)) (text : List ℕ)
    → together (texts ++ text ∷ []) ≡ together texts ++ text
together_more texts text =
    flat_map-append (λ (xs : List ℕ). xs) texts (text ∷ [])
    ∙ ap (λ xs. together texts ++ xs) (append-nil text)

appends_nothing : (a : Option (List ℕ)) → Appends [] a a
appends_nothing a = λ xs known. known ∙ ap Some (sym (append-nil xs))

-- ---- what was taken

counts_none : (taken : Option ℕ) → taken ≡ counts 0 taken
counts_none None = refl
counts_none (Some n) = ap Some (omega arith)

-- ---- the loop

pub begun : (command : Command) (a : View) (held : Output) → Ran command a a held held
begun command a held = record {
  budget = refl;
  failures = refl;
  unfailing = refl;
  over = λ input known.
      record {
        texts = [];
        rest = input;
        count = 0;
        left_is = known;
        taken_is = counts_none a.taken;
        rest_is = refl;
        sum = omega arith;
        row = refl;
        written = appends_nothing held.written;
      };
}

pub more : (command : Command) (start a b c : View) (held h i : Output) → Ran command start a held h
    → Shows [] a b → Done command b c h i → Ran command start c held i
more command start a b c held h i ran shows done = record {
  budget = done.kept.budget ∙ (shows.budget ∙ ran.budget);
  failures = done.kept.failures ∙ (shows.failures ∙ ran.failures);
  unfailing = done.failures ∙ ran.unfailing;
  over = λ input known.
      let r = ran.over input known in
      let shown = shows.known r.rest r.left_is in
      let d = done.item r.rest shown in
      let took = done.kept.rest r.rest shown in
      let left : d.rest ≡ drop took.0 r.rest =
      same_bytes d.rest (drop took.0 r.rest) c.known d.left_is took.1.left in
      let all : took.0 + length d.rest ≡ length r.rest =
      omega (arith, ap length left, length-drop took.0 r.rest, took.1.within) in
      let moved : c.taken ≡ counts took.0 b.taken =
      done.kept.counted r.rest shown d.rest d.left_is took.0 all in
      let before = r.sum in
      let converts = subst (λ (budget : Option ℕ). Converts command budget r.rest d.text d.rest)
      (shows.budget ∙ ran.budget) d.converts in
      record {
        texts = r.texts ++ d.text ∷ [];
        rest = d.rest;
        count = r.count + took.0;
        left_is = d.left_is;
        taken_is = moved ∙ (ap (counts took.0) (shows.taken ∙ r.taken_is)
            ∙ counts_more r.count took.0 (r.count + took.0) start.taken refl);
        rest_is = left ∙ (ap (drop took.0) r.rest_is ∙ drop-drop took.0 r.count input);
        sum = omega (arith, before, all);
        row = row_more command start.budget r.texts d.text input r.rest d.rest r.row converts;
        written = subst (λ (xs : List ℕ). Appends xs held.written i.written)
            (sym (together_more r.texts d.text))
            (appends_then (together r.texts) d.text held.written h.written i.written r.written
            d.written);
      };
}

-- ---- what was seen

stand_on : (seen count : ℕ) (taken : Option ℕ) (xs ys : List ℕ)
    → count + length ys ≡ length xs → StandUpTo seen taken xs
    → StandUpTo seen (counts count taken) ys
stand_on seen count None xs ys sum stand = tt
stand_on seen count (Some before) xs ys sum stand = omega (arith, sum, stand)

-- an item after the look, or after none
pub saw_more : (command : Command) (seen next : ℕ) (start a b c : View) (held h i : Output)
    → Ran command start a held h → Saw seen start a → Shows [] a b
    → IfKnown a.known (λ xs. StandUpTo seen a.taken xs → StandUpTo next b.taken xs)
    → Done command b c h i → Saw next start c
saw_more command seen next start a b c held h i ran saw shows sees done input known ys is =
    let r = ran.over input known in
    let shown = shows.known r.rest r.left_is in
    let took = done.kept.rest r.rest shown in
    let left : ys ≡ drop took.0 r.rest =
    same_bytes ys (drop took.0 r.rest) c.known is took.1.left in
    let all : took.0 + length ys ≡ length r.rest =
    omega (arith, ap length left, length-drop took.0 r.rest, took.1.within) in
    let moved : c.taken ≡ counts took.0 b.taken =
    done.kept.counted r.rest shown ys is took.0 all in
    subst (λ (taken : Option ℕ). StandUpTo next taken ys) (sym moved)
    (stand_on next took.0 b.taken r.rest ys all
    (sees r.rest r.left_is (saw input known r.rest r.left_is)))

-- ---- the end

pub not_true : (flag : Bool) → flag ≡ false → IsTrue flag → ⊥
not_true true e t = cc
not_true false e t = cc

pub ended : (command : Command) (start a b : View) (held h : Output)
    → Ran command start a held h → IfKnown a.known (λ xs. xs ≡ [])
    → IfKnown start.known (λ input. RunsOver command input start b held.written h.written (Ok tt))
ended command start a b held h ran end input known =
    let r = ran.over input known in
    record {
      texts = r.texts;
      rest = r.rest;
      row = r.row;
      ok = (end r.rest r.left_is, r.written);
      err = tt;
    }

at_is : (at count : ℕ) (input rest : List ℕ) (start known : Option ℕ) → known ≡ counts count start
    → known ≡ Some at → count + length rest ≡ length input → RestStandsAt start input rest at
at_is at count input rest None known p q sum = tt
at_is at count input rest (Some before) known p q sum =
    let same : at ≡ before + count = cc in omega (arith, same, sum)

pub unread : (command : Command) (at : ℕ) (start a b : View) (held h : Output)
    → Ran command start a held h → a.taken ≡ Some at
    → IfKnown start.known (λ input. RunsOver command input start b held.written h.written
    (Err (record { at = at; kind = Read })))
unread command at start a b held h ran taken input known =
    let r = ran.over input known in
    record {
      texts = r.texts;
      rest = r.rest;
      row = r.row;
      ok = tt;
      err = (
        at_is at r.count input r.rest start.taken a.taken r.taken_is taken r.sum,
        r.written,
      );
    }

fault_at : (command : Command) (at : ℕ) (kind : Kind) (texts : List (List ℕ))
    (input rest : List ℕ) (start b c : View) (held h i : Output)
    → RestStandsAt start.taken input rest at → b.budget ≡ start.budget
    → Appends (together texts) held.written h.written → b.known ≡ Some rest
    → rest ≢ [] → Fails command kind b c h i
    → FaultAt command texts input rest start c held.written i.written at kind
fault_at command at Read texts input rest start b c held h i stands budget appends known some
    fails = (
      stands,
      subst (λ (o : Output). Appends (together texts) held.written o.written) (sym fails.1) appends,
    )
fault_at command at Write texts input rest start b c held h i stands budget appends known some
    fails = inl (
      stands,
      subst (λ (steps : Option ℕ). ItemIsTaken command steps rest c.known) budget
          (fails.2 rest known),
    )
fault_at command at OutOfMemory texts input rest start b c held h i stands budget appends known some
    fails = (
      stands,
      subst (λ (o : Output). Appends (together texts) held.written o.written) (sym fails.2) appends,
    )
fault_at command at kind texts input rest start b c held h i stands budget appends known some
    fails =
    let f = subst (λ (steps : Option ℕ). RejectsAs command steps kind rest
    × ¬ (BeginsItem command steps rest)) budget (fails.2 rest known) in (
      stands,
      subst (λ (o : Output). Appends (together texts) held.written o.written) (sym fails.1) appends,
      some,
      f.0,
      f.1,
    )

pub stopped : (command : Command) (at : ℕ) (kind : Kind) (start a b c : View) (held h i : Output)
    → Ran command start a held h → a.taken ≡ Some at → Shows [] a b → IfKnown a.known
    (λ xs. xs ≢ [])
    → Fails command kind b c h i
    → IfKnown start.known (λ input. RunsOver command input start c held.written i.written
    (Err (record { at = at; kind = kind })))
stopped command at kind start a b c held h i ran taken shows some fails input known =
    let r = ran.over input known in record {
      texts = r.texts;
      rest = r.rest;
      row = r.row;
      ok = tt;
      err = fault_at command at kind r.texts input r.rest start b c held h i
          (at_is at r.count input r.rest start.taken a.taken r.taken_is taken r.sum)
          (shows.budget ∙ ran.budget) r.written (shows.known r.rest r.left_is)
          (some r.rest r.left_is) fails;
    }

-- ---- failures

pub failed_from : (a b c : ℕ) → b ≡ a → Failed b c → Failed a c
failed_from a b c same failed = subst (λ n. Failed n c) same failed

-- ---- what is left

ran_counted : (command : Command) (start a b : View) (held h : Output)
    → Ran command start a held h → Leaves a b → FailedOrCounted a b → FailedOrCounted start b
ran_counted command start a b held h ran leaves (inl failed) =
    inl (failed_from start.failures a.failures b.failures ran.failures failed)
ran_counted command start a b held h ran leaves (inr counted) = inr (λ input known ys left n gone.
    let r = ran.over input known in
    let l = leaves.rest r.rest r.left_is ys left in
    let sum = r.sum in
    let size : length ys ≡ length r.rest - l.0 = ap length l.1 ∙ length-drop l.0 r.rest in
    let more : length r.rest - length ys + length ys ≡ length r.rest = omega (arith, size) in
    let all : r.count + (length r.rest - length ys) ≡ n = omega (arith, sum, size, gone) in
    counted r.rest r.left_is ys left (length r.rest - length ys) more
    ∙ (ap (counts (length r.rest - length ys)) r.taken_is
    ∙ counts_more r.count (length r.rest - length ys) n start.taken all))

pub ran_leaves : (command : Command) (start a b : View) (held h : Output)
    → Ran command start a held h → Leaves a b → Leaves start b
ran_leaves command start a b held h ran leaves = record {
  budget = leaves.budget ∙ ran.budget;
  rest = λ input known ys left.
      let r = ran.over input known in
      let l = leaves.rest r.rest r.left_is ys left in
      (r.count + l.0, l.1 ∙ (ap (drop l.0) r.rest_is ∙ drop-drop l.0 r.count input));
  counted = ran_counted command start a b held h ran leaves leaves.counted;
}

pub nothing_left : (command : Command) (start a b : View) (held h : Output)
    → Ran command start a held h → Shows [] a b → IfKnown a.known (λ xs. xs ≡ [])
    → IfKnown start.known (λ input. b.known ≡ Some [])
nothing_left command start a b held h ran shows end input known = let r =
    ran.over input known in shows.known r.rest r.left_is ∙ ap Some (end r.rest r.left_is)
