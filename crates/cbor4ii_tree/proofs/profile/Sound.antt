-- What the program on lists takes is a tree that is whole; where it fails, it is rejected so.
use Rattle.std.proofs.Common.{◌≡◌, ℕ, zero, suc, ◌<◌, ◌≤◌, inl, inr, List, [], ◌∷◌, ◌++◌, length}
use Rattle.std.proofs.Common.{Some, Bool, true, false, refl, sym, ap, ap₂, ◌∙◌, subst, arith}
use Rattle.std.proofs.Common.{append_assoc, length-append, Ok, ◌*◌, Err, rules}
use Rattle.std.proofs.lemmas.Str.{IsUtf8-from_is_utf8, is_utf8-from_IsUtf8}
use Rattle.std.specs.{Int.bytes_high_first, Str.is_utf8}
use Rattle.cbor4ii_items.specs.{Budget.CostFits, Head.{Width, HeadFits, head, byte_count, break}}
use Rattle.cbor4ii_items.specs.{Head.IsBytes, Initial.{sign_major, Kind, byte_string, text_string}}
use Rattle.cbor4ii_items.specs.Initial.{kind_major, precision_bytes, Initial, starts_int}
use Rattle.cbor4ii_items.specs.Initial.{starts_string, starts_chunks, starts_array}
use Rattle.cbor4ii_items.specs.Initial.{starts_indefinite_array, bad_array, starts_map}
use Rattle.cbor4ii_items.specs.Initial.{starts_indefinite_map, bad_map, starts_tag, starts_simple}
use Rattle.cbor4ii_items.specs.{Initial.{starts_bits, initial}, Laws.Answering.fits_zero}
use Rattle.cbor4ii_items.specs.{Laws.Heads.if_cases, Reading.{Reading, go_on}}
use Rattle.cbor4ii_tree.specs.Basis.{Cost.{Budget, step_in}, InputError.{kind_name, require_utf8}}
use Rattle.cbor4ii_tree.specs.Basis.{InputError.{tag_name, InputError}, Tree.{Tree, int, string}}
use Rattle.cbor4ii_tree.specs.Basis.Tree.{chunked, array, array_indefinite, map_of, map_indefinite}
use Rattle.cbor4ii_tree.specs.Basis.Tree.{tagged, simple, bits, count, pair_count, bytes, bytes_all}
use Rattle.cbor4ii_tree.specs.{Basis.Tree.{bytes_pairs, joined_chunks}, Calls.ItemAt.tested_string}
use Rattle.cbor4ii_tree.specs.Calls.ItemAt.{string_tree_at, chunk_tree_by, chunk_tree_at, item_by}
use Rattle.cbor4ii_tree.specs.Calls.{ItemAt.{item_from, item_within}, ItemRejects.Profile}
use Rattle.cbor4ii_tree.specs.Calls.ItemRejects.{ReadableChunk, IsNoUtf8, ChunkRejectsBy, ChunkOf}
use Rattle.cbor4ii_tree.specs.Calls.ItemRejects.{RejectsChunkBy, RejectsBy, RejectsFrom}
use Rattle.cbor4ii_tree.specs.Calls.{ItemRejects.{RejectsWithin, NoUtf8Joined}, Parse.Parser}
use Rattle.cbor4ii_tree.specs.Calls.Parse.{argument_of_width, prefix_at, trees_at, pairs_at}
use Rattle.cbor4ii_tree.specs.Calls.Rejections.{Rejection, Missing, AtHead, RejectsInCount}
use Rattle.cbor4ii_tree.specs.Laws.Binds.{step_up, err, then_err, stepped_rejects}
use Rattle.cbor4ii_tree.specs.Laws.{HeadsAgain.{prefix_again, argument_of}, ItemAgain.chunk_again}
use Rattle.cbor4ii_tree.specs.Laws.{ItemAgain.{chunks_start, starts, item_again}, PartsAgain.Again}
use Rattle.cbor4ii_tree.specs.Laws.{PartsAgain.indefinite_trees_again, Profiles.Tested}
use Rattle.cbor4ii_tree.specs.Laws.Profiles.{IsLawfulProfile, HasWholeParts}
use Rattle.cbor4ii_tree.proofs.heads.Means.{prefix_meets, number_meets, HeadByte, Means, means}
use Rattle.cbor4ii_tree.proofs.{heads.Means.{Headed, argument_meets}, parts.Meets.and_meets}
use Rattle.cbor4ii_tree.proofs.parts.Meets.{Failing, Meets, ok_meets, err_meets, then_meets}
use Rattle.cbor4ii_tree.proofs.parts.{Meets.{map_meets, step_meets}, Rejecting.{headed_by, cut_or}}
use Rattle.cbor4ii_tree.proofs.parts.{Rejecting.{tested_or, either}, Stop.{Took, took, Decides}}
use Rattle.cbor4ii_tree.proofs.parts.Stop.{trees_meet, pairs_meet, counted, indefinite_trees_meet}
use Rattle.cbor4ii_tree.proofs.parts.Stop.{indefinite_pairs_meet, Gives, missing_prefix}
use Rattle.cbor4ii_tree.proofs.parts.Stop.{lacks_number, lacks_argument, head_rejects, trees_stop}
use Rattle.cbor4ii_tree.proofs.parts.Stop.{pairs_stop, indefinite_trees_stop, indefinite_pairs_stop}

-- ---- where an item is rejected, the program on lists fails so

string_rejects : (name : List ℕ) (k : Kind) (w : Width) (b : ℕ) (bs : List ℕ) (e : InputError)
    (rest : List ℕ) → AtHead name (kind_major k) w b (Missing name) bs e rest
    → string_tree_at name w b bs ≡ Err (e, rest)
string_rejects name k w b bs e rest s = search (rules, head_rejects, missing_prefix)

chunk_by_rejects : (k : Kind) (i : Initial) (b : ℕ) (bs : List ℕ) (e : InputError) (rest : List ℕ)
    → ChunkRejectsBy k i b bs e rest → chunk_tree_by k i b bs ≡ Err (e, rest)
chunk_by_rejects byte_string (starts_string byte_string w) b bs e rest s =
    then_err (string_tree_at _ w b bs) _ (e, rest) (string_rejects _ byte_string w b bs e rest s)
chunk_by_rejects text_string (starts_string text_string w) b bs e rest s =
    then_err (string_tree_at _ w b bs) _ (e, rest) (string_rejects _ text_string w b bs e rest s)
chunk_by_rejects k i b bs e rest s = err _ _ _ _ s

chunk_rejects : (tests : Bool) (k : Kind) (budget : Budget) (item : Parser Tree)
    (rejects : Rejection) (bound : ℕ) → Gives item rejects bound
    → Gives (chunk_tree_at tests k budget item) (RejectsChunkBy tests k budget rejects) bound
chunk_rejects false k budget item rejects bound g bs e rest lt s = g bs e rest lt s
chunk_rejects true k budget item rejects bound g [] e rest lt s = err _ _ _ _ s
chunk_rejects true k budget item rejects bound g (b ∷ bs) e rest lt s =
    search (rules, stepped_rejects, chunk_by_rejects)

-- a whole content that is no UTF-8
tested_rejects : (tests : Bool) (k : Kind) (content : List ℕ) (t : Tree) (rest : List ℕ)
    → tests ≡ true → IsNoUtf8 k content
    → tested_string tests k content t rest ≡ Err (require_utf8 (kind_name k), rest)
tested_rejects false k content t rest is n = cc
tested_rejects true byte_string content t rest is n = absurd n
tested_rejects true text_string content t rest is n = by_test (is_utf8 content) refl
  where
    by_test : (c : Bool) → is_utf8 content ≡ c
        → tested_string true text_string content t rest ≡ Err (
          require_utf8 (kind_name text_string),
          rest,
        )
    by_test true e = absurd (n (IsUtf8-from_is_utf8 content e))
    by_test false e = rw e refl

module _ (p : Profile) (l : IsLawfulProfile p) where
  module _ (item : Budget → Parser Tree) (budget : Budget) (rejects : Budget
      → Rejection) (bound : ℕ)
      (a : (c : Budget) → Again (item c) (p.Whole c) bound)
      (g : (c : Budget) → Gives (item c) (rejects c) bound) where
    by_rejects : (i : Initial) (b : ℕ) (bs : List ℕ) (e : InputError) (rest : List ℕ)
        → length bs < bound → RejectsBy p rejects budget i b bs e rest
        → item_by p item budget i b bs ≡ Err (e, rest)
    by_rejects (starts_int sg w) b bs e rest lt s = search (rules, then_err, lacks_argument)
    by_rejects (starts_string k w) b bs e rest lt s =
        either p.tests (λ x. then_err (string_tree_at (p.of_string k) w b bs) _ (e, rest)
        (string_rejects (p.of_string k) k w b bs e rest x)) (λ tests x.
        let content : List ℕ = x.rejected.content in
        let prefix : prefix_at (p.of_string k) x.argument x.after ≡ Ok (content, rest) =
        ap (prefix_at (p.of_string k) x.argument) x.rejected.is
        ∙ prefix_again (p.of_string k) x.argument content rest x.rejected.long in
        let top = argument_of (p.of_string k) (kind_major k) x.argument w b bs x.after x.fits x.is
        in rw (top, prefix) (tested_rejects p.tests k content (string k w content) rest tests
        x.rejected.invalid ∙ ap (λ f. Err (f, rest)) (sym x.rejected.err))) s
    by_rejects (starts_chunks k) b bs e rest lt s =
        search (rules, chunk_again, chunks_start, starts, either, NoUtf8Joined, then_err, indefinite_trees_stop, chunk_rejects, indefinite_trees_again, tested_rejects)
    by_rejects (starts_array w) b bs e rest lt s =
        stepped_rejects {A = Tree} p.of_array (p.inside budget) (b ∷ bs) _
        (λ c. AtHead p.of_array 4 w b (RejectsInCount (p.Whole c) (rejects c)) bs) e rest
        (λ c is. head_rejects {A = Tree} p.of_array 4 w b bs _ _ e rest (λ n after le st.
        then_err {B = Tree} (trees_at (item c) n after) _ (e, rest)
        (trees_stop _ _ _ bound (a c) (g c) n after e rest (omega arith) st))) s
    by_rejects starts_indefinite_array b bs e rest lt s =
        search (rules, stepped_rejects, then_err, indefinite_trees_stop, starts)
    by_rejects bad_array b bs e rest lt s = search (rules, stepped_rejects, err)
    by_rejects (starts_map w) b bs e rest lt s =
        stepped_rejects {A = Tree} p.of_map (p.inside budget) (b ∷ bs) _
        (λ c. AtHead p.of_map 5 w b (λ n. RejectsInCount (p.Whole c) (rejects c) (2 * n)) bs) e rest
        (λ c is. head_rejects {A = Tree} p.of_map 5 w b bs _ _ e rest (λ n after le st.
        then_err {B = Tree} (pairs_at (item c) n after) _ (e, rest)
        (pairs_stop _ _ _ bound (a c) (g c) n after e rest (omega arith) st))) s
    by_rejects starts_indefinite_map b bs e rest lt s =
        search (rules, stepped_rejects, then_err, indefinite_pairs_stop, starts)
    by_rejects bad_map b bs e rest lt s = search (rules, stepped_rejects, err)
    by_rejects (starts_tag w) b bs e rest lt s =
        head_rejects {A = Tree} tag_name 6 w b bs _ _ e rest (λ n after le st. then_err {B = Tree}
        (item budget after) _ (e, rest) (g budget after e rest (omega arith) st)) s
    by_rejects (starts_simple v) b bs e rest lt s = absurd s
    by_rejects (starts_bits q) b bs e rest lt s = search (rules, then_err, lacks_number)
    by_rejects _ b bs e rest lt s = err _ _ _ _ s

    from_rejects : (bs : List ℕ) (e : InputError) (rest : List ℕ) → length bs < suc bound
        → RejectsFrom p rejects budget bs e rest → item_from p item budget bs ≡ Err (e, rest)
    from_rejects [] e rest lt s = err _ _ _ _ s
    from_rejects (b ∷ bs) e rest lt s = by_rejects (initial b) b bs e rest (omega arith) s

  pub item_rejects : (n : ℕ) (budget : Budget)
      → Gives (item_within p n budget) (RejectsWithin p n budget) n
  unfolding item_within
  item_rejects zero budget bs e rest lt s = absurd s
  item_rejects (suc n) budget bs e rest lt s =
      search (rules, stepped_rejects, from_rejects, item_again, (item_rejects n))

-- ---- heads and strings

-- a head is rejected, or what follows it is
head_meets : {A : Type 0} {Good : A × List ℕ → Type 0} {next : ℕ → Reading A} (name : List ℕ)
    (major : ℕ) (w : Width) (b : ℕ) (bs : List ℕ) (then : ℕ → Rejection) → IsBytes bs
    → HeadByte major w b → ((n : ℕ) (x : List ℕ) → Headed major n w b bs x → length x ≤ length bs
    → Meets Good (then n x) (next n x))
    → Meets Good (AtHead name major w b then bs) (go_on (argument_of_width name w b bs) next)
head_meets name major w b bs then h m k =
    then_meets (argument_meets _ name major w b bs h m) (λ n x top.
    let same : suc (length bs) ≡ suc (length (bytes_high_first (byte_count w) n ++ x)) =
    ap length top.is in
    map_meets (k n x top (omega (arith, same, length-append (bytes_high_first (byte_count w) n) x)))
    (λ p g. g) (λ e rest f. inr (headed_by n x top.fits top.is f))) (λ e rest f. inl f)

record TookString (k : Kind) (w : Width) (b : ℕ) (bs : List ℕ) (p : List ℕ × List ℕ) : Type 0 where
  pub fits : HeadFits w (length p.0)
  pub is : b ∷ bs ≡ (head (kind_major k) (length p.0) w ++ p.0) ++ p.1
  pub more : IsBytes p.1

string_meets : (name : List ℕ) (k : Kind) (w : Width) (b : ℕ) (bs : List ℕ) → IsBytes bs
    → HeadByte (kind_major k) w b → Meets (TookString k w b bs)
    (AtHead name (kind_major k) w b (Missing name) bs) (string_tree_at name w b bs)
string_meets name k w b bs h m =
    head_meets name (kind_major k) w b bs (Missing name) h m (λ n x top le.
    map_meets (prefix_meets name n x top.more) (λ q c. record {
      fits = subst (HeadFits w) (sym c.long) top.fits;
      is = counted (kind_major k) n (length q.0) w b bs x q.0 q.1 top.is c.long c.is;
      more = c.more;
    }) (λ e rest f. f))

tested_meets : {Good : Tree × List ℕ → Type 0} {Bad : Failing} (tests : Bool) (k : Kind)
    (content : List ℕ) (t : Tree) (x : List ℕ) → (Tested tests k content → Good (t, x))
    → (tests ≡ true → IsNoUtf8 k content → Bad (require_utf8 (kind_name k)) x)
    → Meets Good Bad (tested_string tests k content t x)
tested_meets {Good = Good} {Bad = Bad} true text_string content t x g f =
    search (rules, if_cases, ok_meets, IsUtf8-from_is_utf8, err_meets, is_utf8-from_IsUtf8)
tested_meets true byte_string content t x g f = ok_meets _ (g tt)
tested_meets false k content t x g f = ok_meets _ (g tt)

chunk_by_meets : (k : Kind) (budget : Budget) (i : Initial) (b : ℕ) (bs : List ℕ)
    → CostFits 1 budget → Means b i → IsBytes bs → Meets (Took (ReadableChunk k budget) (b ∷ bs))
    (ChunkRejectsBy k i b bs) (chunk_tree_by k i b bs)
chunk_by_meets byte_string budget (starts_string byte_string w) b bs f m h =
    and_meets (string_meets _ byte_string w b bs h m)
    (λ content x t. ok_meets _ (took (t.fits, refl, f) t.is t.more))
chunk_by_meets text_string budget (starts_string text_string w) b bs f m h =
    and_meets (string_meets _ text_string w b bs h m)
    (λ content x t. ok_meets _ (took (t.fits, refl, f) t.is t.more))
chunk_by_meets k budget i b bs f m h = err_meets _ (refl, refl)

chunk_meets : (tests : Bool) (k : Kind) (budget : Budget) (item : Parser Tree)
    (Whole : Tree → Type 0) (rejects : Rejection) (bound : ℕ) → Decides item Whole rejects bound
    → Decides (chunk_tree_at tests k budget item) (ChunkOf tests k budget Whole)
    (RejectsChunkBy tests k budget rejects) bound
chunk_meets false k budget item Whole rejects bound d bs h lt = d bs h lt
chunk_meets true k budget item Whole rejects bound d [] h lt = err_meets _ (refl, refl)
chunk_meets true k budget item Whole rejects bound d (b ∷ bs) h lt =
    step_meets (kind_name k) (step_in budget) (b ∷ bs) _
    (λ inner. ChunkRejectsBy k (initial b) b bs) (λ inner is.
    chunk_by_meets k budget (initial b) b bs (step_up budget inner 0 is (fits_zero inner))
    (means b h.0) h.1)

-- ---- items

module _ (p : Profile) (l : IsLawfulProfile p) where
  module _ (item : Budget → Parser Tree) (rejects : Budget → Rejection) (bound : ℕ)
      (d : (c : Budget) → Decides (item c) (p.Whole c) (rejects c) bound) (outer budget : Budget)
      (is : step_in outer ≡ Some budget) where
    gives : {Bad : Failing} {b : ℕ} {bs x : List ℕ} (t : Tree) → HasWholeParts p budget t
        → b ∷ bs ≡ bytes t ++ x → IsBytes x
        → Meets (Took (p.Whole outer) (b ∷ bs)) Bad (Ok (t, x))
    gives t parts same more = ok_meets _ (took (l.closes outer budget t is parts) same more)

    by_meets : (i : Initial) (b : ℕ) (bs : List ℕ) → Means b i → IsBytes bs → length bs < bound
        → Meets (Took (p.Whole outer) (b ∷ bs)) (RejectsBy p rejects budget i b bs)
        (item_by p item budget i b bs)
    by_meets (starts_int s w) b bs m h lt =
        and_meets (argument_meets p.asks (p.of_int s) (sign_major s) w b bs h m)
        (λ n x top. gives (int s n w) top.fits top.is top.more)
    by_meets (starts_string k w) b bs m h lt =
        then_meets (string_meets (p.of_string k) k w b bs h m) (λ content x t.
        tested_meets p.tests k content (string k w content) x
        (λ good. took (l.closes outer budget (string k w content) is (t.fits, good)) t.is t.more)
        (λ tests bad. tested_or _ p.tests tests (headed_by (length content) (content ++ x) t.fits
        (t.is ∙ append_assoc (head (kind_major k) (length content) w) content x) (record
        { content = content; long = refl; invalid = bad; is = refl; err = refl }))))
        (λ e rest f. cut_or _ p.tests f)
    by_meets (starts_chunks k) b bs m h lt =
        then_meets (indefinite_trees_meet _ _ _ bound (chunk_meets p.tests k budget
        (item budget) (p.Whole budget) (rejects budget) bound (d budget)) (suc (length bs)) bs h lt
        (omega arith)) (λ ts x all. tested_meets p.tests k (joined_chunks ts) (chunked k ts) x
        (λ good. took (l.closes outer budget (chunked k ts) is (all.whole, good))
        (ap₂ ◌∷◌ m all.is) all.more) (λ tests bad. tested_or _ p.tests tests (record {
          chunks = ts;
          whole = all.whole;
          is = all.is ∙ append_assoc (bytes_all ts) (break ∷ []) x;
          invalid = bad;
          err = refl;
        }))) (λ e rest f. cut_or _ p.tests f)
    by_meets (starts_array w) b bs m h lt =
        step_meets p.of_array (p.inside budget) (b ∷ bs) _ _ (λ c go. head_meets p.of_array 4 w b bs
        _ h m (λ n x top le. and_meets (trees_meet _ _ _ bound (d c) n x top.more (omega arith))
        (λ ts y all. gives (array w ts) (
          subst (HeadFits w) (sym all.number) top.fits,
          (c, go, all.whole),
        ) (counted 4 n (count ts) w b bs x (bytes_all ts) y top.is all.number
        all.is) all.more)))
    by_meets starts_indefinite_array b bs m h lt =
        step_meets p.of_array (p.inside budget) (b ∷ bs) _ _ (λ c go. and_meets
        (indefinite_trees_meet _ _ _ bound (d c) (suc (length bs)) bs h lt (omega arith))
        (λ ts y all. gives (array_indefinite ts) (c, go, all.whole) (ap₂ ◌∷◌ m all.is) all.more))
    by_meets bad_array b bs m h lt =
        step_meets p.of_array (p.inside budget) (b ∷ bs) _ _ (λ c go. err_meets _ (refl, refl))
    by_meets (starts_map w) b bs m h lt =
        step_meets p.of_map (p.inside budget) (b ∷ bs) _ _ (λ c go. head_meets p.of_map 5 w b bs _ h
        m (λ n x top le. and_meets (pairs_meet _ _ _ bound (d c) n x top.more (omega arith))
        (λ ps y all. gives (map_of w ps) (
          subst (HeadFits w) (sym all.number) top.fits,
          (c, go, all.whole),
        ) (counted 5 n (pair_count ps) w b bs x (bytes_pairs ps) y top.is
        all.number all.is) all.more)))
    by_meets starts_indefinite_map b bs m h lt =
        step_meets p.of_map (p.inside budget) (b ∷ bs) _ _ (λ c go. and_meets
        (indefinite_pairs_meet _ _ _ bound (d c) (suc (length bs)) bs h lt (omega arith))
        (λ ps y all. gives (map_indefinite ps) (c, go, all.whole) (ap₂ ◌∷◌ m all.is) all.more))
    by_meets bad_map b bs m h lt =
        step_meets p.of_map (p.inside budget) (b ∷ bs) _ _ (λ c go. err_meets _ (refl, refl))
    by_meets (starts_tag w) b bs m h lt =
        head_meets tag_name 6 w b bs _ h m (λ n x top le. and_meets (d budget x top.more (omega
        arith)) (λ t y part. gives (tagged n w t) (top.fits, part.whole) (counted 6 n n w b bs x
        (bytes t) y top.is refl part.is) part.more))
    by_meets (starts_simple s) b bs m h lt = gives (simple s) tt (ap (λ c. c ∷ bs) m) h
    by_meets (starts_bits q) b bs m h lt =
        and_meets (number_meets p.asks (p.of_float q) (precision_bytes q) bs h)
        (λ n x whole. gives (bits q n) whole.below (ap₂ ◌∷◌ m whole.is) whole.more)
    by_meets _ b bs m h lt = err_meets _ (refl, refl)

    from_meets : (bs : List ℕ) → IsBytes bs → length bs < suc bound
        → Meets (Took (p.Whole outer) bs) (RejectsFrom p rejects budget bs)
        (item_from p item budget bs)
    from_meets [] h lt = err_meets _ (refl, refl)
    from_meets (b ∷ bs) h lt = by_meets (initial b) b bs (means b h.0) h.1 (omega arith)

  pub item_meets : (n : ℕ) (budget : Budget)
      → Decides (item_within p n budget) (p.Whole budget) (RejectsWithin p n budget) n
  unfolding item_within
  item_meets zero budget bs h lt = absurd (omega arith)
  item_meets (suc n) budget bs h lt =
      step_meets p.of_item (step_in budget) bs _ (λ c. RejectsFrom p (RejectsWithin p n) c bs)
      (λ c is. from_meets (item_within p n) (RejectsWithin p n) n (item_meets n) budget c is bs h
      lt)
