-- Where whole items stand before one that is rejected, the sequence is rejected.
use Rattle.std.proofs.Common.{rules}
use Rattle.std.proofs.Common.{◌≡◌, ℕ, zero, suc, ◌*◌, ◌<◌, ◌≤◌, ◌⊎◌, inl, inr, List, [], ◌∷◌, ◌++◌}
use Rattle.std.proofs.Common.{length, Err, ap, ◌∙◌, arith, lt-ltb, ne_eqb, subst, append_assoc}
use Rattle.std.proofs.{Common.{length-append, refl, sym, ap₂, eqb, eqb-true}, lemmas.Bool.eqb-false}
use Rattle.std.specs.Int.{bytes_high_first}
use Rattle.cbor4ii_items.specs.Head.{Width, in_first, one, two, four, eight, byte_count, break}
use Rattle.cbor4ii_items.specs.{Head.{head, IsBytes}, Reading.{Reading, go_on}, Laws.Heads.if_cases}
use Rattle.cbor4ii_tree.specs.{Basis.InputError.InputError, Laws.Binds.{err, then_err}}
use Rattle.cbor4ii_tree.specs.{Laws.HeadsAgain.argument_of, Laws.Initials.length-bytes-pos}
use Rattle.cbor4ii_tree.specs.Laws.PartsAgain.{Again, StartNoBreak, shorter, pair_split}
use Rattle.cbor4ii_tree.specs.Laws.PartsAgain.{indefinite_turn, indefinite_pair_turn}
use Rattle.cbor4ii_tree.specs.Calls.Parse.{Parser, prefix_at, number_of_width, parse_argument}
use Rattle.cbor4ii_tree.specs.Calls.Parse.{argument_of_width, trees_at, pairs_at}
use Rattle.cbor4ii_tree.specs.Calls.Parse.{indefinite_trees_at, indefinite_pairs_at}
use Rattle.cbor4ii_tree.specs.Calls.Rejections.{Rejection, Lacks, Missing, AtHead, Each, EachPair}
use Rattle.cbor4ii_tree.specs.Calls.Rejections.{RejectsInCount, NoBreak, IndefiniteItems, AfterKey}
use Rattle.cbor4ii_tree.specs.{Calls.Rejections.IndefinitePairs, Basis.Tree.{Tree, Trees, no_trees}}
use Rattle.cbor4ii_tree.specs.Basis.Tree.{tree, Pairs, no_pairs, pair, count, bytes, bytes_all}
use Rattle.cbor4ii_tree.specs.Basis.Tree.{bytes_pairs, pair_count}
use Rattle.cbor4ii_tree.proofs.parts.Meets.{Meets, ok_meets, err_meets, then_meets}
use Rattle.cbor4ii_tree.proofs.parts.Rejecting.{in_count, in_items, in_pairs}

-- ---- what is read as a sequence is whole items, one after another; where it is rejected, whole
-- items stand before one that is rejected

pub record Took (Whole : Tree → Type 0) (bs : List ℕ) (p : Tree × List ℕ) : Type 0 where
  pub whole : Whole p.0
  pub is : bs ≡ bytes p.0 ++ p.1
  pub more : IsBytes p.1

pub took : {Whole : Tree → Type 0} {bs : List ℕ} {p : Tree × List ℕ} → Whole p.0
    → bs ≡ bytes p.0 ++ p.1 → IsBytes p.1 → Took Whole bs p
took whole is more = record { whole = whole; is = is; more = more }

pub record TookAll (Whole : Tree → Type 0) (n : ℕ) (bs : List ℕ) (p : Trees × List ℕ) : Type 0 where
  pub number : count p.0 ≡ n
  pub whole : Each Whole p.0
  pub is : bs ≡ bytes_all p.0 ++ p.1
  pub more : IsBytes p.1

pub record TookPairs (Whole : Tree → Type 0) (n : ℕ) (bs : List ℕ)
    (p : Pairs × List ℕ) : Type 0 where
  pub number : pair_count p.0 ≡ n
  pub whole : EachPair Whole p.0
  pub is : bs ≡ bytes_pairs p.0 ++ p.1
  pub more : IsBytes p.1

-- items, and then a break
pub record TookIndefinite (Whole : Tree → Type 0) (bs : List ℕ) (p : Trees × List ℕ) : Type 0 where
  pub whole : Each Whole p.0
  pub is : bs ≡ (bytes_all p.0 ++ break ∷ []) ++ p.1
  pub more : IsBytes p.1

pub record TookIndefinitePairs (Whole : Tree → Type 0) (bs : List ℕ) (p : Pairs × List ℕ) :
    Type 0 where
  pub whole : EachPair Whole p.0
  pub is : bs ≡ (bytes_pairs p.0 ++ break ∷ []) ++ p.1
  pub more : IsBytes p.1

-- below so many bytes, an item is whole or rejected
abbrev pub Decides : Parser Tree → (Tree → Type 0) → Rejection → ℕ → Type 0
Decides item Whole rejects bound =
    (bs : List ℕ) → IsBytes bs → length bs < bound → Meets (Took Whole bs) (rejects bs) (item bs)

-- fewer bytes are consumed an item
fewer : {Whole : Tree → Type 0} (bs : List ℕ) (p : Tree × List ℕ) → Took Whole bs p
    → suc (length p.1) ≤ length bs
fewer bs p t = omega (arith, ap length t.is, length-append (bytes p.0) p.1, length-bytes-pos p.0)

module _ (item : Parser Tree) (Whole : Tree → Type 0) (rejects : Rejection) (bound : ℕ)
    (d : Decides item Whole rejects bound) where
  pub trees_meet : (n : ℕ) (bs : List ℕ) → IsBytes bs → length bs < bound
      → Meets (TookAll Whole n bs) (RejectsInCount Whole rejects n bs) (trees_at item n bs)
  unfolding trees_at
  trees_meet zero bs h lt =
      ok_meets _ (record { number = refl; whole = tt; is = refl; more = h })
  trees_meet (suc n) bs h lt =
      then_meets (d bs h lt) (λ t x one. let less = fewer bs (t, x) one in
      then_meets (trees_meet n x one.more (omega (arith, less))) (λ ts y all. ok_meets _ (record {
        number = ap suc all.number;
        whole = (one.whole, all.whole);
        is = one.is ∙ ap (λ r. bytes t ++ r) all.is ∙ sym (append_assoc (bytes t) (bytes_all ts) y);
        more = all.more;
      })) (λ e rest all. in_count (tree t all.prefix) all.after (omega (arith, all.few))
      (one.whole, all.whole) (rw (one.is, all.is) (simp append_assoc))
      all.rejected))
      (λ e rest f. in_count no_trees bs (omega arith) tt refl f)

  pub pairs_meet : (n : ℕ) (bs : List ℕ) → IsBytes bs → length bs < bound
      → Meets (TookPairs Whole n bs) (RejectsInCount Whole rejects (2 * n) bs) (pairs_at item n bs)
  unfolding pairs_at
  pairs_meet zero bs h lt =
      ok_meets _ (record { number = refl; whole = tt; is = refl; more = h })
  pairs_meet (suc n) bs h lt =
      then_meets (d bs h lt) (λ k x key. let less = fewer bs (k, x) key in
      then_meets (d x key.more (omega (arith, less))) (λ v y val. then_meets
      (pairs_meet n y val.more (omega (arith, less, fewer x (v, y) val))) (λ ps z all. ok_meets _
      (record {
        number = ap suc all.number;
        whole = (key.whole, val.whole, all.whole);
        is = rw (key.is, val.is, all.is) (simp append_assoc);
        more = all.more;
      })) (λ e rest all. in_count (tree k (tree v all.prefix)) all.after (omega (arith, all.few))
      (key.whole, (val.whole, all.whole)) (rw (key.is, val.is, all.is) (simp append_assoc))
      all.rejected))
      (λ e rest f. in_count (tree k no_trees) x (omega arith) (key.whole, tt)
      (key.is ∙ sym (append_assoc (bytes k) [] x)) f))
      (λ e rest f. in_count no_trees bs (omega arith) tt refl f)

  pub indefinite_trees_meet : (n : ℕ) (bs : List ℕ) → IsBytes bs → length bs < bound
      → length bs < n → Meets (TookIndefinite Whole bs) (IndefiniteItems Whole rejects bs)
      (indefinite_trees_at item n bs)
  unfolding indefinite_trees_at
  indefinite_trees_meet n [] h lt more = err_meets _ (in_items no_trees [] tt refl (refl, refl))
  indefinite_trees_meet zero (b ∷ bs) h lt more = absurd (omega arith)
  indefinite_trees_meet (suc n) (b ∷ bs) h lt more =
      if_cases (Meets (TookIndefinite Whole (b ∷ bs)) (IndefiniteItems Whole rejects (b ∷ bs)))
      (eqb b break) _ _ (λ e. ok_meets _ (record
      { whole = tt; is = ap (λ c. c ∷ bs) (eqb-true b break e); more = h.1 }))
      (λ no. then_meets (d (b ∷ bs) h lt) (λ t x one. let less = fewer (b ∷ bs) (t, x) one in
      then_meets (indefinite_trees_meet n x one.more (omega (arith, less)) (omega (arith, less)))
      (λ ts y all. ok_meets _ (record {
        whole = (one.whole, all.whole);
        is = rw (one.is, all.is) (simp append_assoc);
        more = all.more;
      })) (λ e rest all. in_items (tree t all.prefix) all.after (one.whole, all.whole)
      (rw (one.is, all.is) (simp append_assoc))
      all.rejected))
      (λ e rest f. in_items no_trees (b ∷ bs) tt refl (eqb-false b break no, f)))

  pub indefinite_pairs_meet : (n : ℕ) (bs : List ℕ) → IsBytes bs → length bs < bound
      → length bs < n → Meets (TookIndefinitePairs Whole bs) (IndefinitePairs Whole rejects bs)
      (indefinite_pairs_at item n bs)
  unfolding indefinite_pairs_at
  indefinite_pairs_meet n [] h lt more =
      err_meets _ (in_pairs no_pairs [] tt refl (inl (refl, refl)))
  indefinite_pairs_meet zero (b ∷ bs) h lt more = absurd (omega arith)
  indefinite_pairs_meet (suc n) (b ∷ bs) h lt more =
      if_cases
      (Meets (TookIndefinitePairs Whole (b ∷ bs)) (IndefinitePairs Whole rejects (b ∷ bs)))
      (eqb b break) _ _ (λ e. ok_meets _ (record
      { whole = tt; is = ap (λ c. c ∷ bs) (eqb-true b break e); more = h.1 }))
      (λ no. then_meets (d (b ∷ bs) h lt) (λ k x key. let less = fewer (b ∷ bs) (k, x) key in
      then_meets (d x key.more (omega (arith, less))) (λ v y val. let less2 = fewer x (v, y) val in
      then_meets (indefinite_pairs_meet n y val.more (omega (arith, less, less2))
      (omega (arith, less, less2))) (λ ps z all. ok_meets _ (record {
        whole = (key.whole, val.whole, all.whole);
        is = rw (key.is, val.is, all.is) (simp append_assoc);
        more = all.more;
      })) (λ e rest all. in_pairs (pair k v all.prefix) all.after (key.whole, val.whole, all.whole)
      (rw (key.is, val.is, all.is) (simp append_assoc)) all.rejected))
      (λ e rest f. in_pairs no_pairs (b ∷ bs) tt refl (inr (record
      { key = k; after = x; whole = key.whole; is = key.is; rejected = f }))))
      (λ e rest f. in_pairs no_pairs (b ∷ bs) tt refl (inl (eqb-false b break no, f))))

-- after a head whose argument counts what follows
pub counted : (major n m : ℕ) (w : Width) (b : ℕ) (bs after part rest : List ℕ)
    → b ∷ bs ≡ head major n w ++ after → m ≡ n → after ≡ part ++ rest
    → b ∷ bs ≡ (head major m w ++ part) ++ rest
counted major n m w b bs after part rest e f g =
    e ∙ ap₂ (λ j r. head major j w ++ r) (sym f) g ∙ sym (append_assoc (head major m w) part rest)

-- ---- heads and contents

pub missing_prefix : (name : List ℕ) (k : ℕ) (bs : List ℕ) (e : InputError) (rest : List ℕ)
    → Missing name k bs e rest → prefix_at name k bs ≡ Err (e, rest)
missing_prefix name k bs e rest h = rw (lt-ltb (length bs) k h.0) (err _ _ _ _ h.1)

pub lacks_number : (asks : ℕ → ℕ → ℕ) (name : List ℕ) (k : ℕ) (bs : List ℕ) (e : InputError)
    (rest : List ℕ) → Lacks asks name k bs e rest → number_of_width asks name k bs ≡ Err (e, rest)
lacks_number asks name k bs e rest h = rw (lt-ltb (length bs) k h.0) (err _ _ _ _ h.1)

pub lacks_argument : (asks : ℕ → ℕ → ℕ) (name : List ℕ) (w : Width) (b : ℕ) (bs : List ℕ)
    (e : InputError) (rest : List ℕ) → Lacks asks name (byte_count w) bs e rest
    → parse_argument asks name w b bs ≡ Err (e, rest)
unfolding parse_argument
lacks_argument asks name in_first b bs e rest h = absurd (omega (arith, h.0))
lacks_argument asks name one b bs e rest h = lacks_number asks name 1 bs e rest h
lacks_argument asks name two b bs e rest h = lacks_number asks name 2 bs e rest h
lacks_argument asks name four b bs e rest h = lacks_number asks name 4 bs e rest h
lacks_argument asks name eight b bs e rest h = lacks_number asks name 8 bs e rest h

-- after a head, whose bytes after it are no more than those before
pub head_rejects : {A : Type 0} (name : List ℕ) (major : ℕ) (w : Width) (b : ℕ) (bs : List ℕ)
    (next : ℕ → Reading A) (then : ℕ → Rejection) (e : InputError) (rest : List ℕ)
    → ((n : ℕ) (after : List ℕ) → length after ≤ length bs → then n after e rest
    → next n after ≡ Err (e, rest)) → AtHead name major w b then bs e rest
    → go_on (argument_of_width name w b bs) next ≡ Err (e, rest)
head_rejects name major w b bs next then e rest k (inl s) =
    then_err (argument_of_width name w b bs) _ (e, rest) (lacks_argument _ name w b bs e rest s)
head_rejects name major w b bs next then e rest k (inr s) =
    let same :
    suc (length bs) ≡ suc (length (bytes_high_first (byte_count w) s.argument ++ s.after)) =
    ap length s.is in
    rw (argument_of name major s.argument w b bs s.after s.fits s.is)
    (k s.argument s.after (omega (arith, same, length-append {A = ℕ})) s.rejected)

-- ---- sequences

-- what is rejected is rejected, below so many bytes
abbrev pub Gives : Parser Tree → Rejection → ℕ → Type 0
Gives item rejects bound =
    (bs : List ℕ) (e : InputError) (rest : List ℕ) → length bs < bound → rejects bs e rest
    → item bs ≡ Err (e, rest)

module _ (item : Parser Tree) (Whole : Tree → Type 0) (rejects : Rejection) (bound : ℕ)
    (a : Again item Whole bound) (g : Gives item rejects bound) where
  definite_trees : (prefix : Trees) (n : ℕ) (after : List ℕ) (e : InputError) (rest : List ℕ)
      → count prefix < n → Each Whole prefix → length (bytes_all prefix ++ after) < bound
      → rejects after e rest → trees_at item n (bytes_all prefix ++ after) ≡ Err (e, rest)
  unfolding trees_at
  definite_trees prefix zero after e rest few l lt st =
      absurd (omega arith)
  definite_trees no_trees (suc n) after e rest few l lt st =
      then_err (item after) _ (e, rest) (g after e rest lt st)
  definite_trees (tree t ts) (suc n) after e rest few l lt st =
      let all : List ℕ = bytes_all ts ++ after in
      let lt2 : length (bytes t ++ all) < bound =
      subst (λ y. length y < bound) (append_assoc (bytes t) (bytes_all ts) after) lt in
      rw (append_assoc (bytes t) (bytes_all ts) after, a t all l.0 lt2) (then_err
      (trees_at item n all) _ (e, rest) (definite_trees ts n after e rest
      (omega arith) l.1 (shorter (bytes t) all bound lt2) st))

  pub trees_stop : (n : ℕ) (bs : List ℕ) (e : InputError)
      (rest : List ℕ) → length bs < bound → RejectsInCount Whole rejects n bs e rest
      → trees_at item n bs ≡ Err (e, rest)
  trees_stop n bs e rest lt st = search (rules, definite_trees)

  definite_pairs : (prefix : Trees) (n : ℕ) (after : List ℕ) (e : InputError) (rest : List ℕ)
      → count prefix < 2 * n → Each Whole prefix → length (bytes_all prefix ++ after) < bound
      → rejects after e rest → pairs_at item n (bytes_all prefix ++ after) ≡ Err (e, rest)
  unfolding pairs_at
  definite_pairs prefix zero after e rest few l lt st =
      absurd (omega arith)
  definite_pairs no_trees (suc n) after e rest few l lt st =
      then_err (item after) _ (e, rest) (g after e rest lt st)
  definite_pairs (tree k no_trees) (suc n) after e rest few l lt st =
      let lt2 : length (bytes k ++ after) < bound =
      subst (λ y. length y < bound) (append_assoc (bytes k) [] after) lt in
      rw (append_assoc (bytes k) [] after, a k after l.0 lt2)
      (then_err (item after) _ (e, rest) (g after e rest (shorter (bytes k) after bound lt2) st))
  definite_pairs (tree k (tree v ts)) (suc n) after e rest few l lt st =
      let all : List ℕ = bytes_all ts ++ after in
      let same = pair_split (bytes k) (bytes v) (bytes_all ts) after in
      let lt2 : length (bytes k ++ (bytes v ++ all)) < bound =
      subst (λ y. length y < bound) same lt in
      let lt3 : length (bytes v ++ all) < bound = shorter (bytes k) (bytes v ++ all) bound lt2 in
      rw (same, a k (bytes v ++ all) l.0 lt2, a v all l.1.0 lt3) (then_err (pairs_at item n all) _
      (e, rest) (definite_pairs ts n after e rest (omega arith) l.1.1
      (shorter (bytes v) all bound lt3) st))

  pub pairs_stop : (n : ℕ) (bs : List ℕ) (e : InputError)
      (rest : List ℕ) → length bs < bound → RejectsInCount Whole rejects (2 * n) bs e rest
      → pairs_at item n bs ≡ Err (e, rest)
  pairs_stop n bs e rest lt st = search (rules, definite_pairs)

  -- the end of an indefinite-length sequence that is rejected
  indefinite_end_rejects : (n : ℕ) (after : List ℕ) (e : InputError) (rest : List ℕ)
      → length after < n → length after < bound → NoBreak rejects after e rest
      → indefinite_trees_at item n after ≡ Err (e, rest)
  unfolding indefinite_trees_at
  indefinite_end_rejects n [] e rest more lt st = err _ _ _ _ st
  indefinite_end_rejects zero (b ∷ bs) e rest more lt st = absurd (omega arith)
  indefinite_end_rejects (suc n) (b ∷ bs) e rest more lt st =
      rw (ne_eqb b break st.0) (then_err (item (b ∷ bs)) _ (e, rest) (g (b ∷ bs) e rest lt st.1))

  module _ (s : StartNoBreak Whole) where
    indefinite_items : (prefix : Trees) (n : ℕ) (after : List ℕ) (e : InputError) (rest : List ℕ)
        → Each Whole prefix → length (bytes_all prefix ++ after) < n
        → length (bytes_all prefix ++ after) < bound → NoBreak rejects after e rest
        → indefinite_trees_at item n (bytes_all prefix ++ after) ≡ Err (e, rest)
    indefinite_items no_trees n after e rest l more lt st =
        indefinite_end_rejects n after e rest more lt st
    indefinite_items (tree t ts) zero after e rest l more lt st = absurd (omega arith)
    indefinite_items (tree t ts) (suc n) after e rest l more lt st =
        let all : List ℕ = bytes_all ts ++ after in
        let same = append_assoc (bytes t) (bytes_all ts) after in
        let lt2 : length (bytes t ++ all) < bound = subst (λ y. length y < bound) same lt in
        let more2 : length (bytes t ++ all) < suc n = subst (λ y. length y < suc n) same more in
        ap (indefinite_trees_at item (suc n)) same ∙ (indefinite_turn item n (bytes t) all (s t l.0)
        ∙ rw (a t all l.0 lt2) (then_err (indefinite_trees_at item n all) _ (e, rest)
        (indefinite_items ts n after e rest l.1
        (omega (arith, length-append {A = ℕ}, length-bytes-pos))
        (shorter (bytes t) all bound lt2) st)))

    pub indefinite_trees_stop : (n : ℕ) (bs : List ℕ) (e : InputError) (rest : List ℕ)
        → length bs < n → length bs < bound
        → IndefiniteItems Whole rejects bs e rest → indefinite_trees_at item n bs ≡ Err (e, rest)
    indefinite_trees_stop n bs e rest more lt st = search (rules, indefinite_items)

    indefinite_pair_rejects : (n : ℕ) (after : List ℕ) (e : InputError) (rest : List ℕ)
        → length after < n → length after < bound
        → NoBreak rejects after e rest ⊎ AfterKey Whole rejects after e rest
        → indefinite_pairs_at item n after ≡ Err (e, rest)
    unfolding indefinite_pairs_at
    indefinite_pair_rejects n [] e rest more lt (inl st) = err _ _ _ _ st
    indefinite_pair_rejects (suc n) (b ∷ bs) e rest more lt (inl st) =
        rw (ne_eqb b break st.0) (then_err (item (b ∷ bs)) _ (e, rest) (g (b ∷ bs) e rest lt st.1))
    indefinite_pair_rejects (suc n) after e rest more lt (inr st) =
        let key : List ℕ = bytes st.key in
        let lt2 : length (key ++ st.after) < bound = subst (λ y. length y < bound) st.is lt in
        ap (indefinite_pairs_at item (suc n)) st.is
        ∙ (indefinite_pair_turn item n key st.after (s st.key st.whole)
        ∙ rw (a st.key st.after st.whole lt2) (then_err (item st.after) _ (e, rest)
        (g st.after e rest (shorter key st.after bound lt2) st.rejected)))
    indefinite_pair_rejects zero _ e rest more lt _ = absurd (omega arith)

    indefinite_pairs : (prefix : Pairs) (n : ℕ) (after : List ℕ) (e : InputError) (rest : List ℕ)
        → EachPair Whole prefix → length (bytes_pairs prefix ++ after) < n
        → length (bytes_pairs prefix ++ after) < bound
        → NoBreak rejects after e rest ⊎ AfterKey Whole rejects after e rest
        → indefinite_pairs_at item n (bytes_pairs prefix ++ after) ≡ Err (e, rest)
    indefinite_pairs no_pairs n after e rest l more lt st =
        indefinite_pair_rejects n after e rest more lt st
    indefinite_pairs (pair k v ps) zero after e rest l more lt st = absurd (omega arith)
    indefinite_pairs (pair k v ps) (suc n) after e rest l more lt st =
        let all : List ℕ = bytes_pairs ps ++ after in
        let same = pair_split (bytes k) (bytes v) (bytes_pairs ps) after in
        let lt2 : length (bytes k ++ (bytes v ++ all)) < bound =
        subst (λ y. length y < bound) same lt in
        let lt3 : length (bytes v ++ all) < bound = shorter (bytes k) (bytes v ++ all) bound lt2 in
        let less : length all < n =
        omega (arith, more, ap length same, length-append {A = ℕ}, length-bytes-pos) in
        ap (indefinite_pairs_at item (suc n)) same ∙ (indefinite_pair_turn item n (bytes k)
        (bytes v ++ all) (s k l.0) ∙ rw (a k (bytes v ++ all) l.0 lt2, a v all l.1 lt3) (then_err
        (indefinite_pairs_at item n all) _ (e, rest)
        (indefinite_pairs ps n after e rest l.2 less (shorter (bytes v) all bound lt3) st)))

    pub indefinite_pairs_stop : (n : ℕ) (bs : List ℕ) (e : InputError) (rest : List ℕ)
        → length bs < n → length bs < bound
        → IndefinitePairs Whole rejects bs e rest → indefinite_pairs_at item n bs ≡ Err (e, rest)
    indefinite_pairs_stop n bs e rest more lt st =
        ap (indefinite_pairs_at item n) st.is
        ∙ indefinite_pairs st.prefix n st.after e rest st.whole
        (subst (λ y. length y < n) st.is more) (subst (λ y. length y < bound) st.is lt) st.rejected
