-- Where an item is rejected, it stays rejected. How deep items nest bounds nothing, so that a
-- rejection goes by those of the parts.
use Rattle.std.proofs.Common.{◌≡◌, ℕ, zero, suc, ◌-◌, ◌*◌, ◌≤◌, ◌↔◌, List, [], ◌∷◌, ◌++◌, length}
use Rattle.std.proofs.Common.{Option, Some, None, Bool, true, false, refl, ap, ◌∙◌, arith}
use Rattle.std.proofs.Common.{append-nil, length-append, sym, ap₂, rules}
use Rattle.cbor4ii_items.specs.Head.{Width, byte_count, break, in_first, IsBytes}
use Rattle.cbor4ii_items.specs.Initial.{Kind, byte_string, text_string, kind_major, precision_bytes}
use Rattle.cbor4ii_items.specs.Initial.{Initial, starts_int, bad_int, starts_string, starts_chunks}
use Rattle.cbor4ii_items.specs.Initial.{starts_array, starts_indefinite_array, bad_array}
use Rattle.cbor4ii_items.specs.Initial.{starts_map, starts_indefinite_map, bad_map, starts_tag}
use Rattle.cbor4ii_items.specs.Initial.{starts_simple, starts_bits, initial, bad_string, bad_tag}
use Rattle.cbor4ii_items.specs.Initial.{other_simple}
use Rattle.cbor4ii_tree.specs.Basis.{Cost.{Budget, step_in, cost}, InputError.InputError}
use Rattle.cbor4ii_tree.specs.Basis.InputError.{IsEof, IsDepthOverflow, tag_name}
use Rattle.cbor4ii_tree.specs.Basis.Tree.{Tree, bytes_all, string, chunked, array, array_indefinite}
use Rattle.cbor4ii_tree.specs.Basis.Tree.{map_of, map_indefinite, tagged, Trees, no_trees, tree}
use Rattle.cbor4ii_tree.specs.Basis.Tree.{Pairs, no_pairs, pair, bytes, Loose, LooseAll, LoosePairs}
use Rattle.cbor4ii_tree.specs.Basis.Tree.{IsChunk, SoundStrings, SoundStringsAll}
use Rattle.cbor4ii_tree.specs.Basis.Tree.{SoundStringsPairs, Joins, JoinsAll, JoinsPairs}
use Rattle.cbor4ii_tree.specs.Calls.ItemRejects.{Profile, NoUtf8, NoUtf8Joined, ChunkRejectsBy}
use Rattle.cbor4ii_tree.specs.Calls.ItemRejects.{ChunkOf, RejectsChunkBy, RejectsBy, RejectsFrom}
use Rattle.cbor4ii_tree.specs.Calls.ItemRejects.{RejectsWithin, ItemRejects, same_kind, no_chunk}
use Rattle.cbor4ii_tree.specs.Calls.ReadingRejects.{reading_profile, Readable}
use Rattle.cbor4ii_tree.specs.Calls.Rejections.{Rejection, Missing, AtHead, RejectsInCount}
use Rattle.cbor4ii_tree.specs.Calls.Rejections.{RejectsAtStep, IndefiniteItems, IndefinitePairs}
use Rattle.cbor4ii_tree.specs.Calls.{Rejections.{Each, EachPair}, SkippingRejects.skipping_profile}
use Rattle.cbor4ii_tree.proofs.parts.{Rejecting.{or_both, either}, Widen.{Goes, Calm, Widens}}
use Rattle.cbor4ii_tree.proofs.parts.Widen.{widens_same, widens_none, widens_fits, StepWidens}
use Rattle.cbor4ii_tree.proofs.parts.Widen.{step_widens, Covers, each_covers, is_goes, onward}
use Rattle.cbor4ii_tree.proofs.parts.Widen.{stepped_goes, no_byte_goes, lacks_goes, after_head_goes}
use Rattle.cbor4ii_tree.proofs.parts.Widen.{at_head_goes, definite_goes, items_goes, pairs_goes}
use Rattle.cbor4ii_tree.proofs.parts.Prefixes.{Shapes, cut_string, cut_int, cut_float, cut_tag}
use Rattle.cbor4ii_tree.proofs.parts.Prefixes.{cut_array, cut_open_array, cut_map, cut_open_map}
use Rattle.cbor4ii_tree.proofs.parts.Prefixes.{Prefix, prefix_of, Prefixes, IsMore, cons_some}
use Rattle.cbor4ii_tree.proofs.parts.Prefixes.{then_some, stepped_prefix, nought, nought_some}
use Rattle.cbor4ii_tree.proofs.parts.Prefixes.{eof_only, indefinite_prefix}
use Rattle.cbor4ii_tree.proofs.heads.Means.{Means, means}

-- ---- where an item is rejected at the end of the input, the input is a proper prefix of a loose
-- tree, which joins chunks where strings are tested

abbrev pub Outline : Bool → Tree → Type 0
Outline tests t = Loose t × (tests ≡ true → Joins t)

each_outline : (tests : Bool) (ts : Trees) → Each (Outline tests) ts
    → LooseAll ts × (tests ≡ true → JoinsAll ts)
each_outline tests no_trees h = (tt, λ e. tt)
each_outline tests (tree t ts) h =
    let r = each_outline tests ts h.1 in ((h.0.0, r.0), λ e. (h.0.1 e, r.1 e))

each_pair_outline : (tests : Bool) (ps : Pairs) → EachPair (Outline tests) ps
    → LoosePairs ps × (tests ≡ true → JoinsPairs ps)
each_pair_outline tests no_pairs h = (tt, λ e. tt)
each_pair_outline tests (pair k v ps) h = search (rules, (each_pair_outline tests ps h.2))

outlines : (tests : Bool) → Shapes (Outline tests)
unfolding nought
outlines tests = search (rules, each_outline, each_pair_outline)

mutual
  joins_sound : (t : Tree) → SoundStrings t → Joins t
  joins_sound (chunked k ts) h = h.0
  joins_sound (array w ts) h = joins_sound_all ts h
  joins_sound (array_indefinite ts) h = joins_sound_all ts h
  joins_sound (map_of w ps) h = joins_sound_pairs ps h
  joins_sound (map_indefinite ps) h = joins_sound_pairs ps h
  joins_sound (tagged n w t) h = joins_sound t h
  joins_sound _ h = tt

  joins_sound_all : (ts : Trees) → SoundStringsAll ts → JoinsAll ts
  joins_sound_all no_trees h = tt
  joins_sound_all (tree t ts) h = (joins_sound t h.0, joins_sound_all ts h.1)

  joins_sound_pairs : (ps : Pairs) → SoundStringsPairs ps → JoinsPairs ps
  joins_sound_pairs no_pairs h = tt
  joins_sound_pairs (pair k v ps) h =
      (joins_sound k h.0, joins_sound v h.1, joins_sound_pairs ps h.2)

pub readable_outline : (b : Budget) (t : Tree) → Readable b t → Outline true t
readable_outline b t w = (w.0.0, λ e. joins_sound t w.0.1)

-- ---- strings

abbrev Chunk : Bool → Kind → Tree → Type 0
Chunk tests k t = Loose t × (tests ≡ true → IsChunk k t)

no_chunk_mends : (t : Bool) (k : Kind) (b : ℕ) → IsEof (no_chunk t k b) → ⊥
no_chunk_mends true k b h = h
no_chunk_mends false k b h = h

chunk_by_prefix : (k : Kind) (i : Initial) (b : ℕ) (bs : List ℕ) (e : InputError) (rest : List ℕ)
    → Means b i → IsBytes (b ∷ bs) → IsEof e → ChunkRejectsBy k i b bs e rest
    → Prefix (Chunk true k) (b ∷ bs)
chunk_by_prefix byte_string (starts_string byte_string w) b bs e rest m h eo st =
    search (rules, cut_string)
chunk_by_prefix text_string (starts_string text_string w) b bs e rest m h eo st =
    search (rules, cut_string)
chunk_by_prefix k (starts_chunks j) b bs e rest m h eo st =
    absurd (no_chunk_mends (same_kind j k) k b (eof_only e _ eo st.0))
chunk_by_prefix k i b bs e rest m h eo st = absurd (eof_only e _ eo st.0)

empty_some : (k : Kind) → IsMore (bytes (string k in_first []))
empty_some byte_string = then_some (64 ∷ []) [] (cons_some _ [], (omega arith, tt)) tt
empty_some text_string = then_some (96 ∷ []) [] (cons_some _ [], (omega arith, tt)) tt

chunk_prefix : (tests : Bool) (k : Kind) (budget : Budget) (rejects : Rejection)
    → Prefixes (Outline tests) rejects
    → Prefixes (Chunk tests k) (RejectsChunkBy tests k budget rejects)
chunk_prefix false k budget rejects g bs e rest h eo st = search (rules, prefix_of)
chunk_prefix true k budget rejects g [] e rest h eo st =
    prefix_of (Chunk true k) [] (string k in_first []) (bytes (string k in_first []))
    (omega arith, λ e. refl) (empty_some k) refl
chunk_prefix true k budget rejects g (b ∷ bs) e rest h eo st =
    search (rules, stepped_prefix, chunk_by_prefix, means)

chunks_outline : (tests : Bool) (k : Kind) (ts : Trees) → Each (Chunk tests k) ts
    → Outline tests (chunked k ts)
chunks_outline tests k no_trees h = (tt, λ e. tt)
chunks_outline tests k (tree t ts) h =
    let r = chunks_outline tests k ts h.1 in ((h.0.0, r.0), λ e. (h.0.1 e, r.1 e))

whole_chunk : (tests : Bool) (k : Kind) (b : Budget) (W : Tree → Type 0) (t : Tree)
    → (W t → Outline tests t) → ChunkOf tests k b W t → Chunk tests k t
whole_chunk true k b W t f w = (w.0, λ e. w.1)
whole_chunk false k b W t f w = ((f w).0, λ e. cc)

-- ---- items

abbrev pub Outlined : Profile → Type 0
Outlined p = (b : Budget) (t : Tree) → p.Whole b t → Outline p.tests t

module _ (p : Profile) (outlined : Outlined p) where
  abbrev Good : Tree → Type 0
  Good = Outline p.tests

  module _ (budget : Budget) (rejects : Budget → Rejection)
      (g : (c : Budget) → Prefixes Good (rejects c)) where
    by_prefix : (i : Initial) (b : ℕ) (bs : List ℕ) (e : InputError) (rest : List ℕ) → Means b i
        → IsBytes (b ∷ bs) → IsEof e → RejectsBy p rejects budget i b bs e rest
        → Prefix Good (b ∷ bs)
    by_prefix (starts_int s w) b bs e rest m h eo st =
        cut_int Good (outlines p.tests) b bs e rest h s w m st.0
    by_prefix (bad_int s) b bs e rest m h eo st = absurd (eof_only e _ eo st.0)
    by_prefix (starts_string k w) b bs e rest m h eo st =
        search (rules, either, cut_string, eof_only)
    by_prefix (starts_chunks k) b bs e rest m h eo st =
        let W : Tree → Type 0 = ChunkOf p.tests k budget (p.Whole budget) in
        either {B = NoUtf8Joined k W bs e rest} p.tests (λ x.
        let f = indefinite_prefix (Chunk p.tests k) _
        (chunk_prefix p.tests k budget (rejects budget) (g budget)) bs x.prefix x.after e rest h.1
        eo (each_covers W (Chunk p.tests k) (λ t. whole_chunk p.tests k budget (p.Whole budget) t
        (outlined budget t)) x.prefix x.whole) x.is x.rejected in prefix_of Good (b ∷ bs)
        (chunked k f.0) f.2 (chunks_outline p.tests k f.0 f.1) f.3 (ap₂ ◌∷◌ (sym m) f.4))
        (λ y x. absurd (eof_only e _ eo x.err)) st
    by_prefix (bad_string k) b bs e rest m h eo st = absurd (eof_only e _ eo st.0)
    by_prefix (starts_array w) b bs e rest m h eo st =
        stepped_prefix Good _ (p.inside budget) (b ∷ bs) _ e rest eo (λ c. cut_array Good
        (outlines p.tests) b bs e rest h _ (g c) eo _ (outlined c) p.of_array w m) st
    by_prefix starts_indefinite_array b bs e rest m h eo st =
        stepped_prefix Good _ (p.inside budget) (b ∷ bs) _ e rest eo (λ c x. cut_open_array Good
        (outlines p.tests) b bs e rest h _ (g c) eo _ (outlined c) m x) st
    by_prefix bad_array b bs e rest m h eo st = search (rules, stepped_prefix, eof_only)
    by_prefix (starts_map w) b bs e rest m h eo st =
        stepped_prefix Good _ (p.inside budget) (b ∷ bs) _ e rest eo (λ c. cut_map Good
        (outlines p.tests) b bs e rest h _ (g c) eo _ (outlined c) p.of_map w m) st
    by_prefix starts_indefinite_map b bs e rest m h eo st =
        stepped_prefix Good _ (p.inside budget) (b ∷ bs) _ e rest eo (λ c x. cut_open_map Good
        (outlines p.tests) b bs e rest h _ (g c) eo _ (outlined c) m x) st
    by_prefix bad_map b bs e rest m h eo st = search (rules, stepped_prefix, eof_only)
    by_prefix (starts_tag w) b bs e rest m h eo st =
        cut_tag Good (outlines p.tests) b bs e rest h (rejects budget) (g budget) eo w m st
    by_prefix bad_tag b bs e rest m h eo st = absurd (eof_only e _ eo st.0)
    by_prefix (starts_simple s) b bs e rest m h eo st = absurd st
    by_prefix (starts_bits q) b bs e rest m h eo st =
        cut_float Good (outlines p.tests) b bs e rest h q m st.0
    by_prefix other_simple b bs e rest m h eo st = absurd (eof_only e _ eo st.0)

    from_prefix : Prefixes Good (RejectsFrom p rejects budget)
    from_prefix [] e rest h eo st =
        prefix_of Good [] nought (bytes nought) (outlines p.tests).nothing nought_some refl
    from_prefix (b ∷ bs) e rest h eo st =
        by_prefix (initial b) b bs e rest (means b h.0) h eo st

  within_prefix : (n : ℕ) (budget : Budget) → Prefixes Good (RejectsWithin p n budget)
  within_prefix zero budget bs e rest h eo st = absurd st
  within_prefix (suc n) budget bs e rest h eo st =
      search (rules, stepped_prefix, from_prefix, (within_prefix n))

  pub rejected_prefix : (input : List ℕ) (budget : Budget) (e : InputError) (rest : List ℕ)
      → IsBytes input → IsEof e → ItemRejects p input budget e rest → Prefix Good input
  rejected_prefix input budget e rest h eo st =
      within_prefix (suc (length input)) budget input e rest h eo st

-- what is taken whole stays so under a wider budget, and so do the budgets inside
pub record Widening (p : Profile) : Type 0 where
  pub covers : (e : InputError) (b c : Budget) → Widens e b c → Covers (p.Whole b) (p.Whole c)
  pub inside : (e : InputError) (b c : Budget) → Widens e b c
      → StepWidens e (p.inside b) (p.inside c)
  pub stays : (b : ℕ) (bs more : List ℕ) → p.leaves b bs ++ more ≡ p.leaves b (bs ++ more)

pub reading_widens : Widening reading_profile
reading_widens = search (rules, widens_fits, step_widens)

pub skipping_widens : Widening skipping_profile
skipping_widens = search (rules, widens_fits)

module _ (k : ℕ) (e : InputError) (more : List ℕ) (calm : Calm e more) where
  -- ---- strings

  cut_goes : (name : List ℕ) (d : Kind) (v : Width) (a : ℕ)
      → Goes k e more (AtHead name (kind_major d) v a (Missing name))
      (AtHead name (kind_major d) v a (Missing name))
  cut_goes name d v a = search (rules, at_head_goes, lacks_goes, ◌-◌)

  no_utf8_goes : (d : Kind) (n : ℕ) → Goes k e more (NoUtf8 d n) (NoUtf8 d n)
  no_utf8_goes d n bs rest lt x = search (rules, onward)

  chunk_by_goes : (d : Kind) (i : Initial) (a : ℕ)
      → Goes k e more (ChunkRejectsBy d i a) (ChunkRejectsBy d i a)
  chunk_by_goes byte_string (starts_string byte_string v) a bs rest lt x =
      cut_goes _ byte_string v a bs rest lt x
  chunk_by_goes text_string (starts_string text_string v) a bs rest lt x =
      cut_goes _ text_string v a bs rest lt x
  chunk_by_goes d i a bs rest lt x = is_goes _ e _ rest more x

  -- ---- items

  module _ (p : Profile) (l : Widening p) where
    chunk_covers : (tests : Bool) (d : Kind) (b c : Budget) → Widens e b c
        → Covers (ChunkOf tests d b (p.Whole b)) (ChunkOf tests d c (p.Whole c))
    chunk_covers true d b c w t h = (h.0, h.1, widens_fits e b c (cost t) w h.2)
    chunk_covers false d b c w t h = l.covers e b c w t h

    chunk_goes : (tests : Bool) (d : Kind) (b c : Budget) (s t : Rejection) → Widens e b c
        → Goes k e more s t → Goes k e more (RejectsChunkBy tests d b s)
        (RejectsChunkBy tests d c t)
    chunk_goes false d b c s t w g bs rest lt x = g bs rest lt x
    chunk_goes true d b c s t w g [] rest lt x =
        no_byte_goes k e more calm _ _ (RejectsChunkBy true d c t) rest x x
    chunk_goes true d b c s t w g (a ∷ bs) rest lt x =
        search (rules, stepped_goes, step_widens, chunk_by_goes)

    module _ (b c : Budget) (w : Widens e b c) (s t : Budget → Rejection)
        (g : (x y : Budget) → Widens e x y → Goes k e more (s x) (t y)) where
      by_goes : (i : Initial) (a : ℕ) → Goes k e more (RejectsBy p s b i a) (RejectsBy p t c i a)
      by_goes (starts_int sg v) a bs rest lt x =
          lacks_goes k e more calm p.asks (p.of_int sg) (byte_count v) bs rest lt x
      by_goes (bad_int sg) a bs rest lt x =
          (x.0, ap (λ r. r ++ more) x.1 ∙ l.stays a bs more)
      by_goes (starts_string d v) a bs rest lt x =
          search (rules, or_both, cut_goes, after_head_goes, no_utf8_goes)
      by_goes (starts_chunks d) a bs rest lt x =
          let V : Tree → Type 0 = ChunkOf p.tests d b (p.Whole b) in
          let W : Tree → Type 0 = ChunkOf p.tests d c (p.Whole c) in
          let covers = chunk_covers p.tests d b c w in
          or_both {B = NoUtf8Joined d V bs e rest} {D = NoUtf8Joined d W (bs ++ more) e
          (rest ++ more)} p.tests (items_goes k e more calm V W
          (RejectsChunkBy p.tests d b (s b)) (RejectsChunkBy p.tests d c (t c)) covers
          (chunk_goes p.tests d b c (s b) (t c) w (g b c w)) bs rest lt) (λ x. record {
            chunks = x.chunks;
            whole = each_covers V W covers x.chunks x.whole;
            is = onward bs (bytes_all x.chunks) (break ∷ rest) more x.is;
            invalid = x.invalid;
            err = x.err;
          }) x
      by_goes (starts_array v) a bs rest lt x =
          stepped_goes p.of_array (p.inside b) (p.inside c) e (a ∷ bs) rest more _
          (λ y. AtHead p.of_array 4 v a (RejectsInCount (p.Whole y) (t y)) (bs ++ more))
          (l.inside e b c w) (λ x y u. at_head_goes k e more calm p.of_array 4 v a _ _
          (definite_goes k e more calm _ _ _ _ (l.covers e x y u) (g x y u)) bs rest lt) x
      by_goes starts_indefinite_array a bs rest lt x =
          stepped_goes p.of_array (p.inside b) (p.inside c) e (a ∷ bs) rest more _
          (λ y. IndefiniteItems (p.Whole y) (t y) (bs ++ more)) (l.inside e b c w)
          (λ x y u. items_goes k e more calm _ _ _ _ (l.covers e x y u) (g x y u) bs rest lt) x
      by_goes bad_array a bs rest lt x = search (rules, stepped_goes, is_goes)
      by_goes (starts_map v) a bs rest lt x =
          stepped_goes p.of_map (p.inside b) (p.inside c) e (a ∷ bs) rest more _ (λ y. AtHead
          p.of_map 5 v a (λ n. RejectsInCount (p.Whole y) (t y) (2 * n)) (bs ++ more))
          (l.inside e b c w) (λ x y u. at_head_goes k e more calm p.of_map 5 v a _ _ (λ n.
          definite_goes k e more calm _ _ _ _ (l.covers e x y u) (g x y u) (2 * n)) bs rest lt) x
      by_goes starts_indefinite_map a bs rest lt x =
          stepped_goes p.of_map (p.inside b) (p.inside c) e (a ∷ bs) rest more _
          (λ y. IndefinitePairs (p.Whole y) (t y) (bs ++ more)) (l.inside e b c w)
          (λ x y u. pairs_goes k e more calm _ _ _ _ (l.covers e x y u) (g x y u) bs rest lt) x
      by_goes bad_map a bs rest lt x = search (rules, stepped_goes, is_goes)
      by_goes (starts_tag v) a bs rest lt x =
          at_head_goes k e more calm tag_name 6 v a _ _ (λ n. g b c w) bs rest lt x
      by_goes (starts_simple v) a bs rest lt x = x
      by_goes (starts_bits q) a bs rest lt x =
          lacks_goes k e more calm p.asks (p.of_float q) (precision_bytes q) bs rest lt x
      by_goes _ a bs rest lt x = is_goes _ e _ rest more x

      from_goes : Goes (suc k) e more (RejectsFrom p s b) (RejectsFrom p t c)
      from_goes [] rest lt x = no_byte_goes k e more calm _ _ (RejectsFrom p t c) rest x x
      from_goes (a ∷ bs) rest lt x = by_goes (initial a) a bs rest (omega arith) x

pub step_same : (name : List ℕ) (step : Option Budget) (here : List ℕ)
    (s t : Budget → InputError → List ℕ → Type 0) (e : InputError) (rest : List ℕ)
    → ((c : Budget) → s c e rest → t c e rest) → RejectsAtStep name step here s e rest
    → RejectsAtStep name step here t e rest
step_same name None here s t e rest f x = x
step_same name (Some c) here s t e rest f x = f c x

module _ (p : Profile) (l : Widening p) where
  -- below k bytes, from one bound on how deep items nest to another
  within_goes : (k n m : ℕ) (b c : Budget) (e : InputError) (more : List ℕ) → k ≤ n → k ≤ m
      → Calm e more → Widens e b c → Goes k e more (RejectsWithin p n b) (RejectsWithin p m c)
  within_goes (suc k) zero m b c e more le lm calm w bs rest lt x = absurd x
  within_goes (suc k) (suc n) (suc m) b c e more le lm calm w bs rest lt x =
      stepped_goes p.of_item (step_in b) (step_in c) e bs rest more _
      (λ y. RejectsFrom p (RejectsWithin p m) y (bs ++ more)) (step_widens e b c w) (λ x y v z.
      from_goes k e more calm p l x y v (RejectsWithin p n) (RejectsWithin p m) (λ q r u.
      within_goes k n m q r e more (omega arith) (omega arith) calm u) bs rest lt z) x
  within_goes _ _ _ b c e more le lm calm w bs rest lt x = absurd (omega arith)

  -- further bytes mend no error but the end of the input
  pub persists : (input more : List ℕ) (budget : Budget) (e : InputError) (rest : List ℕ)
      → ¬ (IsEof e) → ItemRejects p input budget e rest
      → ItemRejects p (input ++ more) budget e (rest ++ more)
  persists input more budget e rest h =
      within_goes (suc (length input)) (suc (length input)) (suc (length (input ++ more))) budget
      budget e more (omega arith) (omega (arith, length-append input more)) (λ y. absurd (h y))
      (widens_same e budget) input rest (omega arith)

  -- nor do further steps, but one for want of a step
  pub unbounded : (input : List ℕ) (budget : Budget) (e : InputError) (rest : List ℕ)
      → ¬ (IsEof e) → ¬ (IsDepthOverflow e) → (more : List ℕ) → ItemRejects p input budget e rest
      → ItemRejects p (input ++ more) None e (rest ++ more)
  unbounded input budget e rest h d more =
      within_goes (suc (length input)) (suc (length input)) (suc (length (input ++ more))) budget
      None e more (omega arith) (omega (arith, length-append input more)) (λ y. absurd (h y))
      (widens_none e budget d) input rest (omega arith)

  as_is : (S : Rejection) (bs : List ℕ) (e : InputError) (rest : List ℕ)
      → S (bs ++ []) e (rest ++ []) → S bs e rest
  as_is S bs e rest s = search (rules, append-nil)

  free : Budget → Rejection
  free b part = ItemRejects p part b

  -- from one bound on how deep the parts nest to another that bounds nothing
  from_same : (n : ℕ) (s t : Budget → Rejection) (c : Budget) (input : List ℕ) (e : InputError)
      (rest : List ℕ) → length input ≤ n
      → ((b d : Budget) → Widens e b d → Goes n e [] (s b) (t d))
      → RejectsFrom p s c input e rest → RejectsFrom p t c input e rest
  from_same n s t c input e rest le g x =
      as_is (RejectsFrom p t c) input e rest (from_goes n e [] (λ y. refl) p l c c
      (widens_same e c) s t g input rest (omega arith) x)

  -- a rejection goes by those of the parts, however deep these go
  pub by_parts : (input : List ℕ) (budget : Budget) (e : InputError) (rest : List ℕ)
      → ItemRejects p input budget e rest ↔ RejectsAtStep p.of_item (step_in budget) input
      (λ c. RejectsFrom p (λ left part. ItemRejects p part left) c input) e rest
  unfolding free
  by_parts input budget e rest =
      let n : ℕ = length input in (
        step_same p.of_item (step_in budget) input _ _ e rest (λ c. from_same n
            (RejectsWithin p n) free c input e rest (omega arith) (λ b d w bs rest' lt.
            within_goes (suc (length bs)) n (suc (length (bs ++ []))) b d e [] (omega arith)
            (omega (arith, length-append bs [])) (λ y. refl) w bs rest' (omega arith))),
        step_same p.of_item (step_in budget) input _ _ e rest (λ c. from_same n free
            (RejectsWithin p n) c input e rest (omega arith) (λ b d w bs rest' lt.
            within_goes (suc (length bs)) (suc (length bs)) n b d e [] (omega arith) (omega arith)
            (λ y. refl) w bs rest' (omega arith))),
      )
