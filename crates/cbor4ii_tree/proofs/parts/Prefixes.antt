-- Bytes that end too early, filled up to a whole tree: heads and contents with zeros, sequences
-- with the number 0.
use Rattle.std.proofs.Common.{◌≡◌, ◌≢◌, ℕ, zero, suc, ◌+◌, ◌-◌, ◌*◌, ◌^◌, ◌<◌, ◌⊎◌, inl, inr, List}
use Rattle.std.proofs.Common.{[], ◌∷◌, ◌++◌, length, replicate, Option, Some, None, refl, sym, ap}
use Rattle.std.proofs.Common.{ap₂, ◌∙◌, arith, subst, length-append, append_assoc, append-nil}
use Rattle.std.proofs.lemmas.List.{length-replicate}
use Rattle.std.specs.Int.{bytes_high_first}
use Rattle.cbor4ii_items.specs.Head.{Width, in_first, HeadFits, additional, byte_count, head, break}
use Rattle.cbor4ii_items.specs.{Head.IsBytes, Laws.Contents.IsBytes-append as IsBytes-after}
use Rattle.cbor4ii_items.specs.Initial.{unsigned, Sign, sign_major, Kind, kind_major, Precision}
use Rattle.cbor4ii_items.specs.Initial.{precision_bytes, starts_bits, starts_indefinite_array}
use Rattle.cbor4ii_items.specs.{Initial.starts_indefinite_map, Magnitude.number_of}
use Rattle.cbor4ii_tree.specs.{Basis.Cost.Budget, Basis.InputError.{InputError, IsEof, tag_name}}
use Rattle.cbor4ii_tree.specs.Calls.Rejections.{Rejection, RejectsAtStep, Each, EachPair, NoBreak}
use Rattle.cbor4ii_tree.specs.Calls.Rejections.{AfterKey, AtHead, AfterHead, RejectsInCount}
use Rattle.cbor4ii_tree.specs.Calls.Rejections.{Missing, IndefiniteItems, IndefinitePairs}
use Rattle.cbor4ii_tree.specs.Basis.Tree.{Tree, int, Trees, no_trees, tree, Pairs, no_pairs, pair}
use Rattle.cbor4ii_tree.specs.Basis.Tree.{count, pair_count, bytes, bytes_all, bytes_pairs, string}
use Rattle.cbor4ii_tree.specs.Basis.Tree.{array, array_indefinite, map_of, map_indefinite, tagged}
use Rattle.cbor4ii_tree.specs.Basis.Tree.{bits}
use Rattle.cbor4ii_tree.proofs.heads.Means.{number_of_bytes, WidthSays, HeadByte, Means}
use Rattle.cbor4ii_tree.proofs.parts.Pushed.{join, count-join, each-join, bytes_all-join}
use Rattle.cbor4ii_tree.proofs.parts.Pushed.{bytes_pairs-join, join_pairs, each-join_pairs}
use Rattle.cbor4ii_tree.proofs.parts.Widen.{each_covers, Covers, each_pair_covers}

-- bytes that are after others
abbrev pub IsMore : List ℕ → Type 0
IsMore more = (more ≢ []) × IsBytes more

-- bytes that go on as a tree of this sort
pub record Prefix (Good : Tree → Type 0) (bs : List ℕ) : Type 0 where
  pub whole : Tree
  pub good : Good whole
  pub more : List ℕ
  pub some : IsMore more
  pub is : bytes whole ≡ bs ++ more

pub prefix_of : (Good : Tree → Type 0) (bs : List ℕ) (t : Tree) (more : List ℕ) → Good t
    → IsMore more → bytes t ≡ bs ++ more → Prefix Good bs
prefix_of Good bs t more good some is =
    record { whole = t; good = good; more = more; some = some; is = is }

pub IsBytes-append : (xs ys : List ℕ) → IsBytes xs → IsBytes ys → IsBytes (xs ++ ys)
IsBytes-append [] ys h k = k
IsBytes-append (x ∷ xs) ys h k = (h.0, IsBytes-append xs ys h.1 k)

pub cons_some : (b : ℕ) (bs : List ℕ) → (b ∷ bs) ≢ []
cons_some b bs e = cc

not_none : (xs ys : List ℕ) → xs ≢ [] → (xs ++ ys) ≢ []
not_none [] ys h e = h refl
not_none (x ∷ xs) ys h e = cons_some x (xs ++ ys) e

pub then_some : (xs ys : List ℕ) → IsMore xs → IsBytes ys → IsMore (xs ++ ys)
then_some xs ys h k = (not_none xs ys h.0, IsBytes-append xs ys h.1 k)

pub break_some : IsMore (break ∷ [])
break_some = (cons_some break [], (omega arith, tt))

-- so the whole is bytes
pub whole_bytes : (bs more : List ℕ) (whole : List ℕ) → IsBytes bs → IsMore more
    → whole ≡ bs ++ more → IsBytes whole
whole_bytes bs more whole h m e = subst IsBytes (sym e) (IsBytes-append bs more h m.1)

pub zeros : ℕ → List ℕ
zeros n = replicate n 0

pub zeros_bytes : (n : ℕ) → IsBytes (zeros n)
unfolding zeros
zeros_bytes zero = tt
zeros_bytes (suc n) = (omega arith, zeros_bytes n)

pub zeros_some : (n : ℕ) → 0 < n → IsMore (zeros n)
unfolding zeros
zeros_some zero h = absurd (omega arith)
zeros_some (suc n) h = (cons_some 0 (replicate n 0), zeros_bytes (suc n))

pub length-zeros : (n : ℕ) → length (zeros n) ≡ n
unfolding zeros
length-zeros n = length-replicate n 0

width_fits : (w : Width) (i n : ℕ) → WidthSays w i → 0 < byte_count w → n < 256 ^ byte_count w
    → HeadFits w n × (additional w n ≡ i)
width_fits in_first i n h p k = absurd (omega arith)
width_fits _ i n h p k = (k, sym h)

-- a head that is cut
pub record Filled (major : ℕ) (w : Width) (b : ℕ) (bs : List ℕ) : Type 0 where
  pub argument : ℕ
  pub fits : HeadFits w argument
  pub fill : List ℕ
  pub some : IsMore fill
  pub is : head major argument w ≡ b ∷ (bs ++ fill)

pub filled_number : (k : ℕ) (bs : List ℕ) → IsBytes bs → length bs < k → (n : ℕ) × (n < 256 ^ k)
    × (bytes_high_first k n ≡ bs ++ zeros (k - length bs)) × IsMore (zeros (k - length bs))
filled_number k bs h lt =
    let all : List ℕ = bs ++ zeros (k - length bs) in
    let len : length all ≡ k =
    omega (arith, length-append bs (zeros (k - length bs)), length-zeros (k - length bs)) in
    let p = number_of_bytes k all len
    (IsBytes-append bs (zeros (k - length bs)) h (zeros_bytes (k - length bs))) in
    (number_of all, p.1, p.0, zeros_some (k - length bs) (omega arith))

pub filled : (major : ℕ) (w : Width) (b : ℕ) (bs : List ℕ) → IsBytes bs → HeadByte major w b
    → length bs < byte_count w → Filled major w b bs
filled major w b bs h m lt =
    let f = filled_number (byte_count w) bs h lt in
    let g = width_fits w m.0 f.0 m.2 (omega arith) f.1 in
    record {
      argument = f.0;
      fits = g.0;
      fill = zeros (byte_count w - length bs);
      some = f.3;
      is = ap₂ ◌∷◌ (ap (λ j. 32 * major + j) g.1 ∙ sym m.1) f.2;
    }

-- the bytes of a head and a content that goes on
pub with_head : (top : List ℕ) (b : ℕ) (bs after content more : List ℕ) → b ∷ bs ≡ top ++ after
    → content ≡ after ++ more → top ++ content ≡ b ∷ bs ++ more
with_head top b bs after content more e f =
    ap (λ r. top ++ r) f ∙ sym (append_assoc top after more) ∙ ap (λ r. r ++ more) (sym e)

-- ---- lists of trees

unfoldable pub nought : Tree
nought = int unsigned 0 in_first

pub nought_bytes : IsBytes (bytes nought)
unfolding nought
nought_bytes = (omega arith, tt)

pub nought_some : IsMore (bytes nought)
unfolding nought
nought_some = (λ e. cc, nought_bytes)

pub noughts : ℕ → Trees
noughts zero = no_trees
noughts (suc n) = tree nought (noughts n)

pub count-noughts : (n : ℕ) → count (noughts n) ≡ n
unfolding noughts
count-noughts zero = refl
count-noughts (suc n) = ap suc (count-noughts n)

pub each-noughts : (Good : Tree → Type 0) → Good nought → (n : ℕ) → Each Good (noughts n)
unfolding noughts
each-noughts Good g zero = tt
each-noughts Good g (suc n) = (g, each-noughts Good g n)

pub noughts_bytes : (n : ℕ) → IsBytes (bytes_all (noughts n))
unfolding noughts
noughts_bytes zero = tt
noughts_bytes (suc n) =
    IsBytes-append (bytes nought) (bytes_all (noughts n)) nought_bytes (noughts_bytes n)

-- whole items, one that goes on, and noughts up to n
pub filled_items : (Good : Tree → Type 0) → Good nought → (n : ℕ) (prefix : Trees) (after : List ℕ)
    → count prefix < n → Each Good prefix → Prefix Good after
    → (ts : Trees) × (count ts ≡ n) × Each Good ts × (more : List ℕ) × IsMore more
    × (bytes_all ts ≡ (bytes_all prefix ++ after) ++ more)
filled_items Good g n prefix after lt l f =
    let last = noughts (n - suc (count prefix)) in
    let back : Trees = tree f.whole last in (
      join prefix back,
      omega (arith, count-join prefix back, count-noughts (n - suc (count prefix))),
      each-join Good prefix back l (f.good, each-noughts Good g (n - suc (count prefix))),
      f.more ++ bytes_all last,
      then_some f.more (bytes_all last) f.some (noughts_bytes (n - suc (count prefix))),
      rw (bytes_all-join prefix back, f.is) (simp append_assoc),
    )

-- an even list of trees as pairs
pub paired : (Good : Tree → Type 0) (n : ℕ) (ts : Trees) → count ts ≡ 2 * n → Each Good ts
    → (ps : Pairs) × (pair_count ps ≡ n) × EachPair Good ps × (bytes_pairs ps ≡ bytes_all ts)
paired Good zero no_trees e l = (no_pairs, refl, tt, refl)
paired Good (suc n) (tree k (tree v ts)) e l =
    let p = paired Good n ts (omega arith) l.1.1 in
    (pair k v p.0, ap suc p.1, (l.0, l.1.0, p.2), ap (λ r. bytes k ++ (bytes v ++ r)) p.3)
paired Good _ _ e l = absurd (omega arith)

-- ---- indefinite-length sequences

-- what fails at the end of the input goes on
abbrev pub Prefixes : (Tree → Type 0) → Rejection → Type 0
Prefixes Good rejects =
    (bs : List ℕ) (e : InputError) (rest : List ℕ) → IsBytes bs → IsEof e → rejects bs e rest
    → Prefix Good bs

pub eof_only : (e f : InputError) → IsEof e → e ≡ f → IsEof f
eof_only e f h is = subst IsEof is h

pub indefinite_prefix : (Good : Tree → Type 0) (rejects : Rejection) → Prefixes Good rejects
    → (bs : List ℕ) (prefix : Trees) (after : List ℕ) (e : InputError) (rest : List ℕ) → IsBytes bs
    → IsEof e → Each Good prefix → bs ≡ bytes_all prefix ++ after → NoBreak rejects after e rest
    → (ts : Trees) × Each Good ts × (more : List ℕ) × IsMore more
    × (bytes_all ts ++ break ∷ [] ≡ bs ++ more)
indefinite_prefix Good rejects g bs prefix [] e rest h eo l is st = (
  prefix,
  l,
  break ∷ [],
  break_some,
  ap (λ r. r ++ break ∷ []) (sym (append-nil (bytes_all prefix)) ∙ sym is),
)
indefinite_prefix Good rejects g bs prefix (b ∷ after) e rest h eo l is st =
    let t = g (b ∷ after) e rest (IsBytes-after (bytes_all prefix) (b ∷ after) (subst IsBytes is h))
    eo st.1 in (
      join prefix (tree t.whole no_trees),
      each-join Good prefix (tree t.whole no_trees) l (t.good, tt),
      t.more ++ break ∷ [],
      then_some t.more (break ∷ []) t.some break_some.1,
      rw (bytes_all-join prefix (tree t.whole no_trees), t.is, is)
          (regroup (bytes_all prefix) (b ∷ after) t.more),
    )
  where
    regroup : (a c d : List ℕ)
        → (a ++ ((c ++ d) ++ [])) ++ break ∷ [] ≡ (a ++ c) ++ (d ++ break ∷ [])
    regroup a c d = simp (append_assoc, append-nil)

-- one more pair, of which the first bytes are there
indefinite_pair : (Good : Tree → Type 0) (bs : List ℕ) (prefix : Pairs) (after : List ℕ)
    (k v : Tree) (more : List ℕ) → EachPair Good prefix → Good k → Good v
    → bs ≡ bytes_pairs prefix ++ after → IsMore more → bytes k ++ bytes v ≡ after ++ more →
    (ps : Pairs) × EachPair Good ps × (more' : List ℕ) × IsMore more'
    × (bytes_pairs ps ++ break ∷ [] ≡ bs ++ more')
indefinite_pair Good bs prefix after k v more l lk lv is some e =
    let last : Pairs = pair k v no_pairs in (
      join_pairs prefix last,
      each-join_pairs Good prefix last l (lk, lv, tt),
      more ++ break ∷ [],
      then_some more (break ∷ []) some break_some.1,
      rw (bytes_pairs-join prefix last, append-nil (bytes v), e, is) (simp append_assoc),
    )

pub indefinite_pairs_prefix : (Good Whole : Tree → Type 0) (rejects : Rejection) → Good nought
    → ((t : Tree) → Whole t → Good t) → Prefixes Good rejects → (bs : List ℕ) (prefix : Pairs)
    (after : List ℕ) (e : InputError) (rest : List ℕ) → IsBytes bs → IsEof e → EachPair Good prefix
    → bs ≡ bytes_pairs prefix ++ after → NoBreak rejects after e rest
    ⊎ AfterKey Whole rejects after e rest → (ps : Pairs) × EachPair Good ps × (more : List ℕ)
    × IsMore more × (bytes_pairs ps ++ break ∷ [] ≡ bs ++ more)
indefinite_pairs_prefix Good Whole rejects zero_good w g bs prefix [] e rest h eo l is (inl st) = (
  prefix,
  l,
  break ∷ [],
  break_some,
  ap (λ r. r ++ break ∷ []) (sym (append-nil (bytes_pairs prefix)) ∙ sym is),
)
indefinite_pairs_prefix Good Whole rejects zero_good w g bs prefix (b ∷ after) e rest h eo l is
    (inl st) =
    let t = g (b ∷ after) e rest
    (IsBytes-after (bytes_pairs prefix) (b ∷ after) (subst IsBytes is h)) eo st.1 in
    indefinite_pair Good bs prefix (b ∷ after) t.whole nought (t.more ++ bytes nought) l t.good
    zero_good is (then_some t.more (bytes nought) t.some nought_bytes)
    (ap (λ r. r ++ bytes nought) t.is ∙ append_assoc (b ∷ after) t.more (bytes nought))
indefinite_pairs_prefix Good Whole rejects zero_good w g bs prefix after e rest h eo l is (inr st) =
    let t = g st.after e rest (IsBytes-after (bytes st.key) st.after (subst IsBytes st.is
    (IsBytes-after (bytes_pairs prefix) after (subst IsBytes is h)))) eo st.rejected in
    indefinite_pair Good bs prefix after st.key t.whole t.more l (w st.key st.whole) t.good is
    t.some (ap (λ r. bytes st.key ++ r) t.is ∙ sym (append_assoc (bytes st.key) st.after t.more)
    ∙ ap (λ r. r ++ t.more) (sym st.is))

pub stepped_prefix : (Good : Tree → Type 0) (name : List ℕ) (step : Option Budget) (bs : List ℕ)
    (rejects : Budget → InputError → List ℕ → Type 0) (e : InputError) (rest : List ℕ) → IsEof e
    → ((inner : Budget) → rejects inner e rest → Prefix Good bs)
    → RejectsAtStep name step bs rejects e rest → Prefix Good bs
stepped_prefix Good name None bs rejects e rest eo k st = absurd (eof_only e _ eo st.0)
stepped_prefix Good name (Some inner) bs rejects e rest eo k st = k inner st

-- ---- heads that are cut, and what follows them, are a proper prefix of a tree of some good kind

-- a head that is cut, filled up, and what then follows it
head_filled : (Good : Tree → Type 0) (major : ℕ) (w : Width) (b : ℕ) (bs : List ℕ) (t : ℕ → Tree)
    (content : ℕ → List ℕ) → ((n : ℕ) → HeadFits w n → Good (t n))
    → ((n : ℕ) → bytes (t n) ≡ head major n w ++ content n) → ((n : ℕ) → IsBytes (content n))
    → IsBytes bs → HeadByte major w b → length bs < byte_count w → Prefix Good (b ∷ bs)
head_filled Good major w b bs t content good is ok h m short =
    let f = filled major w b bs h m short in
    let more : List ℕ = content f.argument in
    prefix_of Good (b ∷ bs) (t f.argument) (f.fill ++ more) (good f.argument f.fits)
    (then_some f.fill more f.some (ok f.argument))
    (is f.argument ∙ ap (λ r. r ++ more) f.is ∙ append_assoc (b ∷ bs) f.fill more)

-- a string that is good whatever its content is
pub cut_string : (Good : Tree → Type 0) (name : List ℕ) (k : Kind) (w : Width) (b : ℕ) (bs : List ℕ)
    (e : InputError) (rest : List ℕ) → ((content : List ℕ) → HeadFits w (length content) → Good
    (string k w content)) → HeadByte (kind_major k) w b → IsBytes (b ∷ bs)
    → AtHead name (kind_major k) w b (Missing name) bs e rest → Prefix Good (b ∷ bs)
cut_string Good name k w b bs e rest good m h (inl st) =
    head_filled Good (kind_major k) w b bs (λ n. string k w (zeros n)) zeros
    (λ n fits. good (zeros n) (subst (HeadFits w) (sym (length-zeros n)) fits))
    (λ n. ap (λ j. head (kind_major k) j w ++ zeros n) (length-zeros n)) zeros_bytes h.1 m st.0
cut_string Good name k w b bs e rest good m h (inr st) =
    let fill : List ℕ = zeros (st.argument - length st.after) in
    let content : List ℕ = st.after ++ fill in
    let len : length content ≡ st.argument = omega (
      arith,
      length-append st.after fill,
      length-zeros (st.argument - length st.after),
      st.rejected.0,
    ) in
    prefix_of Good (b ∷ bs) (string k w content) fill
    (good content (subst (HeadFits w) (sym len) st.fits))
    (zeros_some (st.argument - length st.after) (omega (arith, st.rejected.0)))
    (ap (λ j. head (kind_major k) j w ++ content) len
    ∙ with_head (head (kind_major k) st.argument w) b bs st.after content fill st.is refl)

-- which trees are good
pub record Shapes (Good : Tree → Type 0) : Type 0 where
  pub nothing : Good nought
  pub number : (s : Sign) (n : ℕ) (w : Width) → HeadFits w n → Good (int s n w)
  pub items : (w : Width) (ts : Trees) → HeadFits w (count ts) → Each Good ts → Good (array w ts)
  pub open_items : (ts : Trees) → Each Good ts → Good (array_indefinite ts)
  pub pairs : (w : Width) (ps : Pairs) → HeadFits w (pair_count ps) → EachPair Good ps
      → Good (map_of w ps)
  pub open_pairs : (ps : Pairs) → EachPair Good ps → Good (map_indefinite ps)
  pub under_tag : (n : ℕ) (w : Width) (t : Tree) → HeadFits w n → Good t → Good (tagged n w t)
  pub float : (p : Precision) (n : ℕ) → n < 256 ^ precision_bytes p → Good (bits p n)

module _ (Good : Tree → Type 0) (shapes : Shapes Good) (b : ℕ) (bs : List ℕ) (e : InputError)
    (rest : List ℕ) (h : IsBytes (b ∷ bs)) where
  pub cut_int : (s : Sign) (w : Width) → HeadByte (sign_major s) w b → length bs < byte_count w
      → Prefix Good (b ∷ bs)
  cut_int s w m short =
      let f = filled (sign_major s) w b bs h.1 m short in
      prefix_of Good (b ∷ bs) (int s f.argument w) f.fill (shapes.number s f.argument w f.fits)
      f.some f.is

  pub cut_float : (p : Precision) → Means b (starts_bits p) → length bs < precision_bytes p
      → Prefix Good (b ∷ bs)
  cut_float p m short =
      let f = filled_number (precision_bytes p) bs h.1 short in
      prefix_of Good (b ∷ bs) (bits p f.0) (zeros (precision_bytes p - length bs))
      (shapes.float p f.0 f.1) f.3 (ap₂ ◌∷◌ (sym m) f.2)

  module _ (rejects : Rejection) (g : Prefixes Good rejects) (eo : IsEof e) where
    pub cut_tag : (w : Width) → HeadByte 6 w b → AtHead tag_name 6 w b (λ n. rejects) bs e rest
        → Prefix Good (b ∷ bs)
    cut_tag w m (inl st) =
        head_filled Good 6 w b bs (λ n. tagged n w nought) (λ n. bytes nought)
        (λ n fits. shapes.under_tag n w nought fits shapes.nothing) (λ n. refl) (λ n. nought_bytes)
        h.1 m st.0
    cut_tag w m (inr st) =
        let f = g st.after e rest
        (IsBytes-after (head 6 st.argument w) st.after (subst IsBytes st.is h)) eo st.rejected in
        prefix_of Good (b ∷ bs) (tagged st.argument w f.whole) f.more
        (shapes.under_tag st.argument w f.whole st.fits f.good) f.some
        (with_head (head 6 st.argument w) b bs st.after (bytes f.whole) f.more st.is f.is)

    module _ (W : Tree → Type 0) (covers : Covers W Good) where
      -- the items after a head that are there, and those that are missing
      counted : (major : ℕ) (w : Width) (count_of : ℕ → ℕ)
          (st : AfterHead major w b (λ n. RejectsInCount W rejects (count_of n)) bs e rest)
          → (ts : Trees) × (count ts ≡ count_of st.argument) × Each Good ts × (more : List ℕ)
          × IsMore more × (bytes_all ts ≡ st.after ++ more)
      counted major w count_of st =
          let c = st.rejected in
          let after : IsBytes st.after =
          IsBytes-after (head major st.argument w) st.after (subst IsBytes st.is h) in
          let f = g c.after e rest (IsBytes-after (bytes_all c.prefix) c.after
          (subst IsBytes c.is after)) eo c.rejected in
          let all = filled_items Good shapes.nothing (count_of st.argument) c.prefix c.after c.few
          (each_covers W Good covers c.prefix c.whole) f in
          (all.0, all.1, all.2, all.3, all.4, all.5 ∙ ap (λ r. r ++ all.3) (sym c.is))

      pub cut_array : (name : List ℕ) (w : Width) → HeadByte 4 w b
          → AtHead name 4 w b (RejectsInCount W rejects) bs e rest → Prefix Good (b ∷ bs)
      cut_array name w m (inl st) =
          head_filled Good 4 w b bs (λ n. array w (noughts n)) (λ n. bytes_all (noughts n))
          (λ n fits. shapes.items w (noughts n) (subst (HeadFits w) (sym (count-noughts n)) fits)
          (each-noughts Good shapes.nothing n))
          (λ n. ap (λ j. head 4 j w ++ bytes_all (noughts n)) (count-noughts n)) noughts_bytes h.1 m
          st.0
      cut_array name w m (inr st) =
          let all = counted 4 w (λ n. n) st in
          prefix_of Good (b ∷ bs) (array w all.0) all.3
          (shapes.items w all.0 (subst (HeadFits w) (sym all.1) st.fits) all.2) all.4
          (ap (λ j. head 4 j w ++ bytes_all all.0) all.1 ∙ with_head (head 4 st.argument w) b bs
          st.after (bytes_all all.0) all.3 st.is all.5)

      pub cut_open_array : Means b starts_indefinite_array → IndefiniteItems W rejects bs e rest
          → Prefix Good (b ∷ bs)
      cut_open_array m st =
          let f = indefinite_prefix Good rejects g bs st.prefix st.after e rest h.1 eo
          (each_covers W Good covers st.prefix st.whole) st.is st.rejected in
          prefix_of Good (b ∷ bs) (array_indefinite f.0) f.2 (shapes.open_items f.0 f.1) f.3
          (ap₂ ◌∷◌ (sym m) f.4)

      pub cut_map : (name : List ℕ) (w : Width) → HeadByte 5 w b
          → AtHead name 5 w b (λ n. RejectsInCount W rejects (2 * n)) bs e rest
          → Prefix Good (b ∷ bs)
      cut_map name w m (inl st) =
          let ps = λ (n : ℕ). paired Good n (noughts (2 * n)) (count-noughts (2 * n))
          (each-noughts Good shapes.nothing (2 * n)) in
          head_filled Good 5 w b bs (λ n. map_of w (ps n).0) (λ n. bytes_pairs (ps n).0)
          (λ n fits. shapes.pairs w (ps n).0 (subst (HeadFits w) (sym (ps n).1) fits) (ps n).2)
          (λ n. ap (λ j. head 5 j w ++ bytes_pairs (ps n).0) (ps n).1)
          (λ n. subst IsBytes (sym (ps n).3) (noughts_bytes (2 * n))) h.1 m st.0
      cut_map name w m (inr st) =
          let all = counted 5 w (λ n. 2 * n) st in
          let p = paired Good st.argument all.0 all.1 all.2 in
          prefix_of Good (b ∷ bs) (map_of w p.0) all.3
          (shapes.pairs w p.0 (subst (HeadFits w) (sym p.1) st.fits) p.2) all.4
          (ap (λ j. head 5 j w ++ bytes_pairs p.0) p.1 ∙ with_head (head 5 st.argument w) b bs
          st.after (bytes_pairs p.0) all.3 st.is (p.3 ∙ all.5))

      pub cut_open_map : Means b starts_indefinite_map → IndefinitePairs W rejects bs e rest
          → Prefix Good (b ∷ bs)
      cut_open_map m st =
          let f = indefinite_pairs_prefix Good W rejects shapes.nothing covers g bs st.prefix
          st.after e rest h.1 eo (each_pair_covers W Good covers st.prefix st.whole) st.is
          st.rejected in
          prefix_of Good (b ∷ bs) (map_indefinite f.0) f.2 (shapes.open_pairs f.0 f.1) f.3
          (ap₂ ◌∷◌ (sym m) f.4)
