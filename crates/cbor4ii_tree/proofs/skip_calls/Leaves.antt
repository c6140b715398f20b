-- Heads and leaves, where items are skipped.
use Rattle.std.proofs.Common.{◌≡◌, ℕ, ◌+◌, ◌*◌, ◌%◌, ◌<◌, ◌^◌, ◌⊎◌, inl, inr, List, [], ◌∷◌, ◌++◌}
use Rattle.std.proofs.Common.{length, Some, None, Bool, true, false, cond, ltb, refl, sym, ap, ap₂}
use Rattle.std.proofs.Common.{◌∙◌, subst, arith, append_assoc, append-nil, lt-ltb, ◌≢◌, zero, suc}
use Rattle.std.proofs.Common.{◌-◌, ◌≤◌, ◌&&◌, get_or, take, drop, ltb-true, eqb, eqb-true, nat_eq}
use Rattle.std.proofs.Common.{drop-cons, length-drop, take-append-drop, length-append}
use Rattle.std.proofs.{Math.Seq.{take-add, take-length}, lemmas.Bool.cases_eq}
use Rattle.std.proofs.lemmas.List.{nil_from_length, length-take-le, get_or-take, get_or-drop}
use Rattle.cbor4ii_items.specs.{Budget.CostFits, Head.{Width, in_first, one, two, four, eight}}
use Rattle.cbor4ii_items.specs.Head.{byte_count, HeadFits, head, indefinite_head, break, additional}
use Rattle.cbor4ii_items.specs.{Head.{IsBytes, ArgumentAfter}, Initial.{sign_major, kind_major}}
use Rattle.cbor4ii_items.specs.Initial.{precision_bytes, info_of, wide, Info, indefinite_ended}
use Rattle.cbor4ii_items.specs.Initial.{bad_int, other_simple, Initial, Kind, starts_int}
use Rattle.cbor4ii_items.specs.Initial.{starts_string, starts_chunks, bad_string, starts_array}
use Rattle.cbor4ii_items.specs.Initial.{starts_indefinite_array, bad_array, starts_map}
use Rattle.cbor4ii_items.specs.Initial.{starts_indefinite_map, bad_map, starts_tag, bad_tag}
use Rattle.cbor4ii_items.specs.Initial.{starts_simple, starts_bits, initial, simple_byte}
use Rattle.cbor4ii_items.specs.{Initial.precision_byte, Laws.Answering.fits_zero}
use Rattle.cbor4ii_items.specs.Laws.{Contents.first_bytes, Heads.info-additional}
use Rattle.cbor4ii_items.specs.Laws.Heads.{length-bytes_high_first, if_cases}
use Rattle.cbor4ii_items.specs.Laws.Prefixes.{drop_more}
use Rattle.cbor4ii_items.specs.Magnitude.{number_of}
use Rattle.cbor4ii_tree.specs.Basis.Cost.{Budget, skip_cost, greatest_skip_cost}
use Rattle.cbor4ii_tree.specs.Basis.{Cost.greatest_pair_skip_cost, InputError.InputError}
use Rattle.cbor4ii_tree.specs.Basis.{InputError.{tag_name, ignored_any}, Tree.{Tree, no_trees}}
use Rattle.cbor4ii_tree.specs.Basis.Tree.{no_pairs, int, string, chunked, array, array_indefinite}
use Rattle.cbor4ii_tree.specs.Basis.Tree.{map_of, map_indefinite, tagged, simple, bits, count}
use Rattle.cbor4ii_tree.specs.Basis.Tree.{pair_count, bytes, bytes_all, bytes_pairs, Loose, Trees}
use Rattle.cbor4ii_tree.specs.{Basis.Tree.tree, Calls.Rejections.{Missing, Rejection, AtHead}}
use Rattle.cbor4ii_tree.specs.Calls.{Rejections.{RejectsAtStep, Each}, SkippingRejects.Skippable}
use Rattle.cbor4ii_tree.specs.Calls.SkippingRejects.{SkippingRejectsBy, SkippingRejects}
use Rattle.cbor4ii_tree.specs.{Calls.SkippingRejects.SkippingRejectsFrom, Inner.Ahead.leaf_by}
use Rattle.cbor4ii_tree.specs.Inner.{Ahead.{leaf_bytes, AllShort, BeginsHead}, HeadParts.ArgumentAt}
use Rattle.cbor4ii_tree.specs.Inner.HeadParts.{ArgumentBy, CutBy, DropsBytes, NoByte}
use Rattle.cbor4ii_tree.specs.Inner.Runs.{SkipsLeaf, IsItemLeaf, IsLeafAt, BeginsRun, SkipsRun}
use Rattle.cbor4ii_tree.specs.Inner.Skipping.{start_of, RejectsSkippingOne, RejectsSkippingItems}
use Rattle.cbor4ii_tree.specs.Inner.Skipping.{SkipsItems, SkipsUnder, SkipsAfter}
use Rattle.cbor4ii_tree.specs.Inner.Skipping.{RejectsSkippingAfter, RejectsSkippingUnder, HeadLeads}
use Rattle.cbor4ii_tree.specs.Inner.Skipping.{TakesFirst, rejection_of, additional_of, head_name}
use Rattle.cbor4ii_tree.specs.{Inner.Skipping.{items_of_pairs, trailing_of}, Laws.Binds.step_up}
use Rattle.cbor4ii_tree.specs.Laws.Wholes.{all_skippable, all_pairs_skippable}
use Rattle.cbor4ii_tree.specs.declared.ahead.TheConstants.{LEAF_BYTES}
use Rattle.cbor4ii_tree.specs.declared.skip.initial.{Additional.TheVariants.Wide, After.After}
use Rattle.cbor4ii_tree.specs.declared.skip.initial.After.TheVariants.{Nothing, Bytes, Items, Twice}
use Rattle.cbor4ii_tree.specs.declared.skip.initial.After.TheVariants.{Indefinite, PairsToBreak}
use Rattle.cbor4ii_tree.specs.declared.skip.initial.Start.{Start}
use Rattle.cbor4ii_tree.proofs.{answers.Nesting.skipping_by_parts, heads.Means.number_of_bytes}
use Rattle.cbor4ii_tree.proofs.heads.Means.{Means, means, HeadByte, WidthSays, IsBytes-take}
use Rattle.cbor4ii_tree.proofs.{heads.Means.IsBytes-drop, parts.Prefixes.paired, parts.Pushed.push}
use Rattle.cbor4ii_tree.proofs.parts.{Pushed.{count-push, each-push, bytes-push}, Stop.counted}
use Rattle.cbor4ii_tree.proofs.skip_calls.{Bytes.says_width, Parts.{only_one, first_of}}
use Rattle.std.specs.Int.{bytes_high_first}
use Rattle.cbor4ii_tree.specs.declared.skip.initial.Start.TheVariants as start

-- What a head says of the item that it begins, where the item is skipped.

-- ---- where it fails

pub rejects_by : (inner : Budget) (i : Initial) (b : ℕ) (bs : List ℕ) (e : InputError) (rest : List
    ℕ) → initial b ≡ i → SkippingRejectsBy (λ part. SkippingRejects part inner) inner i b bs e rest
    → RejectsSkippingUnder inner (b ∷ bs) e rest
rejects_by inner i b bs e rest is h budget step =
    (skipping_by_parts (b ∷ bs) budget e rest).1 (subst (λ o. RejectsAtStep ignored_any o (b ∷ bs)
    (λ inner. SkippingRejectsBy (λ part. SkippingRejects part inner) inner (initial b) b bs) e rest)
    (sym step) (subst
    (λ j. SkippingRejectsBy (λ part. SkippingRejects part inner) inner j b bs e rest) (sym is) h))

-- no item begins with the first byte, which is taken or stays
pub begins_none : (inner : Budget) (b : ℕ) (z : InputError) (bs ys : List ℕ) (i : Initial)
    → initial b ≡ i → rejection_of (start_of i) b ≡ Some z → (TakesFirst (start_of i) → ys ≡ bs)
    → ((TakesFirst (start_of i) → ⊥) → ys ≡ b ∷ bs) → RejectsSkippingUnder inner (b ∷ bs) z ys
begins_none inner b z bs ys (bad_int s) is e t n =
    rejects_by inner (bad_int s) b bs _ _ is (cc, n (λ x. x))
begins_none inner b z bs ys (bad_string k) is e t n =
    rejects_by inner (bad_string k) b bs _ _ is (cc, t tt)
begins_none inner b z bs ys bad_array is e t n =
    rejects_by inner bad_array b bs _ _ is (cc, t tt)
begins_none inner b z bs ys bad_map is e t n = rejects_by inner bad_map b bs _ _ is (cc, t tt)
begins_none inner b z bs ys bad_tag is e t n = rejects_by inner bad_tag b bs _ _ is (cc, t tt)
begins_none inner b z bs ys other_simple is e t n =
    rejects_by inner other_simple b bs _ _ is (cc, n (λ x. x))
begins_none inner b z bs ys _ is e t n = cc

-- no byte is left
pub no_first : (inner : Budget) (xs : List ℕ) (e : InputError) (rest : List ℕ)
    → NoByte ignored_any 1 xs e rest → RejectsSkippingUnder inner xs e rest
no_first inner xs e rest h budget step =
    subst (λ ys. SkippingRejects ys budget e rest) (sym h.0) ((skipping_by_parts [] budget e rest).1
    (subst (λ o. RejectsAtStep ignored_any o [] (λ inner. SkippingRejectsFrom
    (λ part. SkippingRejects part inner) inner []) e rest) (sym step) h.1))

-- ---- heads

low_byte : (major i b : ℕ) → b ≡ 32 * major + i → i < 32 → b % 32 ≡ i
low_byte major i b e h = omega (arith, e, h)

width_below : (w : Width) (i : ℕ) → WidthSays w i → i < 32
width_below in_first i h = omega arith
width_below _ i h = omega arith

says_at : (major : ℕ) (w : Width) (b : ℕ) → HeadByte major w b
    → WidthSays w (b % 32) × (b ≡ 32 * major + b % 32)
says_at major w b h =
    let low : b % 32 ≡ h.0 = low_byte major h.0 b h.1 (width_below w h.0 h.2) in
    (subst (WidthSays w) (sym low) h.2, h.1 ∙ ap (λ j. 32 * major + j) (sym low))

info_by : (w : Width) (i : ℕ) → WidthSays w i → info_of i ≡ wide w
info_by in_first i h = rw (lt-ltb i 24 h) refl
info_by _ i h = rw h refl

-- a row that has a width reports it of the additional information
head_info : (major : ℕ) (w : Width) (b : ℕ) → HeadByte major w b → info_of (b % 32) ≡ wide w
head_info major w b h = info_by w (b % 32) (says_at major w b h).0

head_is : (major : ℕ) (w : Width) (b n : ℕ) (bs ys : List ℕ) → HeadByte major w b
    → ArgumentAt w b bs n ys → b ∷ bs ≡ head major n w ++ ys
head_is major w b n bs ys h a =
    ap₂ ◌∷◌ ((says_at major w b h).1 ∙ ap (λ j. 32 * major + j) (sym a.says)) a.is

-- the bytes that follow are an argument
bytes_argument : (w : Width) (b : ℕ) (bs ys : List ℕ) → WidthSays w (b % 32)
    → DropsBytes (byte_count w) bs ys → (n : ℕ) × ArgumentAt w b bs n ys
bytes_argument w b bs ys h d = by_width w h d
  where
    made : (w : Width) (d : DropsBytes (byte_count w) bs ys)
        → (number_of d.content < 256 ^ byte_count w → HeadFits w (number_of d.content))
        → additional w (number_of d.content) ≡ b % 32 → (n : ℕ) × ArgumentAt w b bs n ys
    made w d fits says =
        let p = number_of_bytes (byte_count w) d.content d.size d.bytes in (
          number_of d.content,
          record { fits = fits p.1; says = says; is = d.is ∙ ap (λ c. c ++ ys) (sym p.0) },
        )

    by_width : (w : Width) → WidthSays w (b % 32) → DropsBytes (byte_count w) bs ys
        → (n : ℕ) × ArgumentAt w b bs n ys
    by_width in_first h d =
        let none = d.is ∙ ap (λ c. c ++ ys) (nil_from_length d.content d.size) in
        (b % 32, record { fits = omega (arith, h); says = refl; is = none })
    by_width one h d = made one d (λ p. omega (arith, p)) (sym h)
    by_width two h d = made two d (λ p. p) (sym h)
    by_width four h d = made four d (λ p. p) (sym h)
    by_width eight h d = made eight d (λ p. p) (sym h)

row : (b : ℕ) (i : Initial) → b < 256 → initial b ≡ i → Means b i
row b i small is = subst (Means b) is (means b small)

-- ---- arguments in the first byte

argument_low : (w : Width) (b : ℕ) (bs : List ℕ) → info_of (b % 32) ≡ wide w → b % 32 < 24
    → ArgumentAt w b bs (b % 32) bs
argument_low in_first b bs is low = record { fits = omega (arith, low); says = refl; is = refl }
argument_low one b bs is low = absurd (omega (arith, says_width (b % 32) one is, low))
argument_low two b bs is low = absurd (omega (arith, says_width (b % 32) two is, low))
argument_low four b bs is low = absurd (omega (arith, says_width (b % 32) four is, low))
argument_low eight b bs is low = absurd (omega (arith, says_width (b % 32) eight is, low))

pub first_argument : (i : Info) (b : ℕ) (bs : List ℕ) → info_of (b % 32) ≡ i
    → Wide 0 ≡ additional_of i → ArgumentBy i b bs (b % 32) bs
first_argument (wide in_first) b bs is says =
    argument_low in_first b bs is (says_width (b % 32) in_first is)
first_argument _ b bs is says = cc

-- ---- items that hold no other

pub whole : (inner : Budget) (xs ys : List ℕ) → SkipsLeaf xs ys → HeadLeads inner xs Nothing ys
whole inner xs ys (t, l, is) = record {
  skips = λ rest e budget step. (
    t,
    record {
      loose = l.0;
      fits = subst (λ c. CostFits c budget)
          (sym l.1) (step_up budget inner 0 step (fits_zero inner));
      begins = is ∙ ap (λ r. bytes t ++ r) (sym e);
    },
  );
  rejects = λ e rest h. absurd h;
}

module _ (b : ℕ) (small : b < 256) where
  -- so many bytes after the first are all of the item
  pub bytes_leaf : (i : Initial) → initial b ≡ i → (k : ℕ) (bs ys : List ℕ)
      → start_of i ≡ start.Bytes k → DropsBytes k bs ys → SkipsLeaf (b ∷ bs) ys
  bytes_leaf (starts_int s w) is k bs ys e d =
      let size : k ≡ byte_count w = cc in
      let m = row b (starts_int s w) small is in
      let a = bytes_argument w b bs ys (says_at (sign_major s) w b m).0
      (subst (λ j. DropsBytes j bs ys) size d) in
      (int s a.0 w, (a.1.fits, refl), head_is (sign_major s) w b a.0 bs ys m a.1)
  bytes_leaf (starts_simple s) is k bs ys e d =
      let size : k ≡ 0 = cc in
      let m : b ≡ simple_byte s = row b (starts_simple s) small is in
      let none = d.is ∙ ap (λ c. c ++ ys) (nil_from_length d.content (d.size ∙ size)) in
      (simple s, (tt, refl), ap₂ ◌∷◌ m none)
  bytes_leaf (starts_bits p) is k bs ys e d =
      let size : k ≡ precision_bytes p = cc in
      let m : b ≡ precision_byte p = row b (starts_bits p) small is in
      let n = number_of_bytes (precision_bytes p) d.content (d.size ∙ size) d.bytes in (
        bits p (number_of d.content),
        (n.1, refl),
        ap₂ ◌∷◌ m (d.is ∙ ap (λ c. c ++ ys) (sym n.0)),
      )
  bytes_leaf _ is k bs ys e d = cc

  -- or they are cut
  pub bytes_cut : (inner : Budget) (i : Initial) → initial b ≡ i → (k : ℕ) (bs : List ℕ)
      (e : InputError) (rest : List ℕ) → start_of i ≡ start.Bytes k
      → Missing ignored_any k bs e rest → RejectsSkippingUnder inner (b ∷ bs) e rest
  bytes_cut inner (starts_int s w) is k bs e rest f h =
      let size : k ≡ byte_count w = cc in
      rejects_by inner (starts_int s w) b bs e rest is
      (subst (λ j. Missing ignored_any j bs e rest) size h)
  bytes_cut inner (starts_simple s) is k bs e rest f h =
      let size : k ≡ 0 = cc in absurd (omega (arith, h.0, size))
  bytes_cut inner (starts_bits p) is k bs e rest f h =
      let size : k ≡ precision_bytes p = cc in
      rejects_by inner (starts_bits p) b bs e rest is
      (subst (λ j. Missing ignored_any j bs e rest) size h)
  bytes_cut inner _ is k bs e rest f h = cc

  string_leaf : (k : Kind) (w : Width) (bs ys zs : List ℕ) (n : ℕ) → HeadFits w n
      → b ∷ bs ≡ head (kind_major k) n w ++ ys → DropsBytes n ys zs → SkipsLeaf (b ∷ bs) zs
  string_leaf k w bs ys zs n fits is d = (
    string k w d.content,
    (subst (HeadFits w) (sym d.size) fits, refl),
    counted (kind_major k) n (length d.content) w b bs ys d.content zs is d.size d.is,
  )

  pub content_leaf : (i : Initial) → initial b ≡ i → (bs ys zs : List ℕ) (n : ℕ)
      → start_of i ≡ start.Content → ArgumentBy (info_of (b % 32)) b bs n ys → DropsBytes n ys zs
      → SkipsLeaf (b ∷ bs) zs
  content_leaf (starts_string k w) is bs ys zs n e h d =
      let m = row b (starts_string k w) small is in
      let a = subst (λ j. ArgumentBy j b bs n ys) (head_info (kind_major k) w b m) h in
      string_leaf k w bs ys zs n a.fits (head_is (kind_major k) w b n bs ys m a) d
  content_leaf _ is bs ys zs n e h d = cc

  -- a short string says its length there
  pub short_argument : (i : Initial) → initial b ≡ i → (bs : List ℕ) → start_of i ≡ start.Content
      → b % 32 < 24 → ArgumentBy (info_of (b % 32)) b bs (b % 32) bs
  short_argument (starts_string k w) is bs e low =
      let info = head_info (kind_major k) w b (row b (starts_string k w) small is) in
      subst (λ j. ArgumentBy j b bs (b % 32) bs) (sym info) (argument_low w b bs info low)
  short_argument _ is bs e low = cc

  -- an array or a map without parts
  pub empty_leaf : (s : Start) (bs : List ℕ) → (s ≡ start.Items) ⊎ (s ≡ start.Pairs)
      → start_of (initial b) ≡ s → b % 32 ≡ 0 → SkipsLeaf (b ∷ bs) bs
  empty_leaf s bs empty e none = by_row (initial b) refl (subst Empties (sym e) empty)
    where
      Empties : Start → Type 0
      Empties s = (s ≡ start.Items) ⊎ (s ≡ start.Pairs)

      made : (major : ℕ) (w : Width) (t : Tree) → HeadByte major w b → (HeadFits w 0 → Loose t)
          → skip_cost t ≡ 1 → bytes t ≡ head major 0 w ++ [] → SkipsLeaf (b ∷ bs) bs
      made major w t m loose cost is =
          let a = argument_low w b bs (head_info major w b m) (omega (arith, none)) in (
            t,
            (loose (subst (HeadFits w) none a.fits), cost),
            head_is major w b (b % 32) bs bs m a ∙ ap (λ j. head major j w ++ bs) none
                ∙ ap (λ r. r ++ bs) (sym (is ∙ append-nil (head major 0 w))),
          )

      by_row : (i : Initial) → initial b ≡ i → Empties (start_of i) → SkipsLeaf (b ∷ bs) bs
      by_row (starts_array w) is h =
          made 4 w (array w no_trees) (row b (starts_array w) small is) (λ f. (f, tt)) refl refl
      by_row (starts_map w) is h =
          made 5 w (map_of w no_pairs) (row b (starts_map w) small is) (λ f. (f, tt)) refl refl
      by_row _ is (inl h) = cc
      by_row _ is (inr h) = cc

ended : (b : ℕ) {o : ℕ} (part ys rest : List ℕ) → b ≡ o → ys ≡ part ++ (break ∷ rest)
    → b ∷ ys ≡ (o ∷ (part ++ break ∷ [])) ++ rest
ended b part ys rest e f = ap₂ ◌∷◌ e (f ∙ sym (append_assoc part (break ∷ []) rest))

-- no argument belongs to such a head
abbrev pub Opens : Start → Type 0
Opens start.Indefinite = Unit {0}
Opens start.PairsToBreak = Unit {0}
Opens _ = ⊥

module _ (inner : Budget) (b : ℕ) (small : b < 256) where
  pub leads_bytes : (k : ℕ) (bs ys : List ℕ) → start_of (initial b) ≡ start.Bytes k
      → DropsBytes k bs ys → HeadLeads inner (b ∷ bs) Nothing ys
  leads_bytes k bs ys e d = whole inner (b ∷ bs) ys (bytes_leaf b small _ refl k bs ys e d)

  -- ---- items that hold others

  led : (xs rest : List ℕ) (t : Tree) (c : ℕ) → Loose t → skip_cost t ≡ 1 + c → CostFits c inner
      → xs ≡ bytes t ++ rest → SkipsUnder inner xs rest
  led xs rest t c loose cost fits is budget step = (
    t,
    record {
      loose = loose;
      fits = subst (λ j. CostFits j budget) (sym cost) (step_up budget inner c step fits);
      begins = is;
    },
  )

  -- twice so many items, whether a number counts these or not
  pairs_skipped : (n : ℕ) (ys rest : List ℕ) → SkipsAfter (items_of_pairs n) inner ys rest
      → SkipsItems (2 * n) inner ys rest
  pairs_skipped n ys rest =
      if_cases (λ a. SkipsAfter a inner ys rest → SkipsItems (2 * n) inner ys rest)
      (ltb n (2 ^ 63)) (Items (2 * n)) (Twice n) (λ _ h. h) (λ _ h. h)

  pairs_stop : (n : ℕ) (ys : List ℕ) (e : InputError) (rest : List ℕ)
      → RejectsSkippingAfter (items_of_pairs n) inner ys e rest
      → RejectsSkippingItems (2 * n) inner ys e rest
  pairs_stop n ys e rest =
      if_cases
      (λ a. RejectsSkippingAfter a inner ys e rest → RejectsSkippingItems (2 * n) inner ys e rest)
      (ltb n (2 ^ 63)) (Items (2 * n)) (Twice n) (λ _ h. h) (λ _ h. h)

  -- what is read of an argument leads on, and where it is cut the item is rejected
  abbrev Goes : List ℕ → (ℕ → After) → Type 0
  Goes name lead =
      ((bs : List ℕ) (e : InputError) (rest : List ℕ) → CutBy name (info_of (b % 32)) bs e rest
      → RejectsSkippingUnder inner (b ∷ bs) e rest) × ((bs ys : List ℕ) (n : ℕ)
      → ArgumentBy (info_of (b % 32)) b bs n ys → HeadLeads inner (b ∷ bs) (lead n) ys)

  -- by a head with an argument
  headed : (i : Initial) (name : List ℕ) (major : ℕ) (w : Width) (lead : ℕ → After) (S : ℕ
      → Rejection) → initial b ≡ i → HeadByte major w b → ((bs : List ℕ) (e : InputError)
      (rest : List ℕ) → AtHead name major w b S bs e rest → SkippingRejectsBy (λ part.
      SkippingRejects part inner) inner i b bs e rest) → ((n : ℕ) (ys : List ℕ) (e : InputError)
      (rest : List ℕ) → RejectsSkippingAfter (lead n) inner ys e rest → S n ys e rest)
      → ((bs ys : List ℕ) (n : ℕ) → HeadFits w n → b ∷ bs ≡ head major n w ++ ys → (rest : List ℕ)
      → SkipsAfter (lead n) inner ys rest → SkipsUnder inner (b ∷ bs) rest) → Goes name lead
  headed i name major w lead S is m by f g =
      let info = head_info major w b m in (
        λ bs e rest h. rejects_by inner i b bs e rest is
            (by bs e rest (inl (subst (λ j. CutBy name j bs e rest) info h))),
        λ bs ys n h.
            let a = subst (λ j. ArgumentBy j b bs n ys) info h in
            let here = head_is major w b n bs ys m a in record {
              skips = g bs ys n a.fits here;
              rejects = λ e rest s. rejects_by inner i b bs e rest is (by bs e rest (inr (record {
                argument = n;
                after = ys;
                fits = a.fits;
                is = here;
                rejected = f n ys e rest s;
              })));
            },
      )

  -- by a head alone
  opens : (i : Initial) → initial b ≡ i → Opens (start_of i) → (ys : List ℕ)
      → HeadLeads inner (b ∷ ys) (trailing_of (start_of i) 0) ys
  opens (starts_chunks k) is o ys = record {
    skips = λ rest h. let all = all_skippable h.0 inner h.1 in
        led (b ∷ ys) rest (chunked k h.0) (greatest_skip_cost h.0) all.0 refl all.1
        (ended b (bytes_all h.0) ys rest (row b (starts_chunks k) small is) h.2);
    rejects = λ e rest h. rejects_by inner (starts_chunks k) b ys e rest is h;
  }
  opens starts_indefinite_array is o ys = record {
    skips = λ rest h. let all = all_skippable h.0 inner h.1 in
        led (b ∷ ys) rest (array_indefinite h.0) (greatest_skip_cost h.0) all.0 refl all.1
        (ended b (bytes_all h.0) ys rest (row b starts_indefinite_array small is) h.2);
    rejects = λ e rest h. rejects_by inner starts_indefinite_array b ys e rest is h;
  }
  opens starts_indefinite_map is o ys = record {
    skips = λ rest h. let all = all_pairs_skippable h.0 inner h.1 in
        led (b ∷ ys) rest (map_indefinite h.0) (greatest_pair_skip_cost h.0) all.0 refl all.1
        (ended b (bytes_pairs h.0) ys rest (row b starts_indefinite_map small is) h.2);
    rejects = λ e rest h. rejects_by inner starts_indefinite_map b ys e rest is h;
  }
  opens _ is o ys = absurd o

  alone : (major : ℕ) (lead : After) → b ≡ indefinite_head major
      → ((ys : List ℕ) → HeadLeads inner (b ∷ ys) lead ys) → Goes ignored_any (λ n. lead)
  alone major lead is leads =
      let low : b % 32 ≡ 31 = low_byte major 31 b is (omega arith) in
      let info : info_of (b % 32) ≡ indefinite_ended = rw low refl in (
        λ bs e rest h. absurd (subst (λ i. CutBy ignored_any i bs e rest) info h),
        λ bs ys n h. let same : ys ≡ bs = subst (λ i. ArgumentBy i b bs n ys) info h in
            subst (λ zs. HeadLeads inner (b ∷ zs) lead ys) same (leads ys),
      )

  -- ---- by what begins

  by_row : (i : Initial) → initial b ≡ i → rejection_of (start_of i) b ≡ None → ((k : ℕ)
      → start_of i ≡ start.Bytes k → ⊥) → Goes (head_name (start_of i)) (trailing_of (start_of i))
  by_row (starts_int s w) is r none = absurd (none (byte_count w) refl)
  by_row (starts_simple s) is r none = absurd (none 0 refl)
  by_row (starts_bits p) is r none = absurd (none (precision_bytes p) refl)
  by_row (starts_string k w) is r none =
      headed (starts_string k w) ignored_any (kind_major k) w Bytes (Missing ignored_any) is
      (row b (starts_string k w) small is) (λ bs e rest h. h) (λ n ys e rest h. h)
      (λ bs ys n fits here rest d. (whole inner (b ∷ bs) rest
      (string_leaf b small k w bs ys rest n fits here d)).skips rest refl)
  by_row (starts_array w) is r none =
      headed (starts_array w) ignored_any 4 w Items (λ n. RejectsSkippingItems n inner) is
      (row b (starts_array w) small is) (λ bs e rest h. h) (λ n ys e rest h. h)
      (λ bs ys n fits here rest h. let all = all_skippable h.0 inner h.2 in
      led (b ∷ bs) rest (array w h.0) (greatest_skip_cost h.0)
      (subst (HeadFits w) (sym h.1) fits, all.0) refl all.1
      (counted 4 n (count h.0) w b bs ys (bytes_all h.0) rest here h.1 h.3))
  by_row (starts_map w) is r none =
      headed (starts_map w) ignored_any 5 w items_of_pairs (λ n. RejectsSkippingItems (2 * n) inner)
      is
      (row b (starts_map w) small is) (λ bs e rest h. h) (λ n ys e rest h. pairs_stop n ys e rest
      h)
      (λ bs ys n fits here rest h. let k = pairs_skipped n ys rest h in
      let p = paired (Skippable inner) n k.0 k.1 k.2 in
      let all = all_pairs_skippable p.0 inner p.2 in
      led (b ∷ bs) rest (map_of w p.0) (greatest_pair_skip_cost p.0)
      (subst (HeadFits w) (sym p.1) fits, all.0) refl all.1 (counted 5 n (pair_count p.0) w b bs ys
      (bytes_pairs p.0) rest here p.1 (k.3 ∙ ap (λ r. r ++ rest) (sym p.3))))
  by_row (starts_tag w) is r none =
      headed (starts_tag w) tag_name 6 w (λ n. Items 1) (λ n. RejectsSkippingOne inner) is (row b
      (starts_tag w) small is) (λ bs e rest h. h) (λ n ys e rest h. first_of inner ys e rest h)
      (λ bs ys n fits here rest h. let k = only_one inner ys rest h in
      led (b ∷ bs) rest (tagged n w k.0) (skip_cost k.0) (fits, k.1.loose) refl k.1.fits
      (counted 6 n n w b bs ys (bytes k.0) rest here refl k.1.begins))
  by_row (starts_chunks k) is r none =
      alone (kind_major k) Indefinite (row b (starts_chunks k) small is)
      (opens (starts_chunks k) is tt)
  by_row starts_indefinite_array is r none =
      alone 4 Indefinite (row b starts_indefinite_array small is)
      (opens starts_indefinite_array is tt)
  by_row starts_indefinite_map is r none =
      alone 5 PairsToBreak (row b starts_indefinite_map small is)
      (opens starts_indefinite_map is tt)
  by_row _ is r none = cc

  pub goes : (s : Start) → start_of (initial b) ≡ s → rejection_of s b ≡ None
      → ((k : ℕ) → s ≡ start.Bytes k → ⊥) → Goes (head_name s) (trailing_of s)
  goes s is = subst (λ s. rejection_of s b ≡ None → ((k : ℕ) → s ≡ start.Bytes k → ⊥)
      → Goes (head_name s) (trailing_of s)) is (by_row (initial b) refl)

  pub opens_by : (s : Start) → start_of (initial b) ≡ s → Opens s → (ys : List ℕ)
      → HeadLeads inner (b ∷ ys) (trailing_of s 0) ys
  opens_by s is = subst (λ s. Opens s → (ys : List ℕ) → HeadLeads inner (b ∷ ys) (trailing_of s 0)
      ys)
      is (opens (initial b) refl)

-- Items that hold no other, one after another.

-- ---- heads that stand whole in what is shown

-- so many bytes after the first
after_first : (size k : ℕ) (trailing : After) (b : ℕ) (bs : List ℕ) → size ≡ suc k → b < 256
    → k ≤ length bs → IsBytes (take k bs) → ((inner : Budget) (ys : List ℕ) (e : InputError)
    (rest : List ℕ) → RejectsSkippingAfter trailing inner ys e rest → b ≢ break) → ((inner : Budget)
    (after : List ℕ) → HeadLeads inner (b ∷ (bs ++ after)) trailing (drop k bs ++ after))
    → BeginsHead size trailing (b ∷ bs)
after_first size k trailing b bs e small h fresh other f =
    subst (λ j. BeginsHead j trailing (b ∷ bs)) (sym e) (record {
      some = omega arith;
      within = omega (arith, h);
      bytes = (small, fresh);
      leads = f;
      item = λ inner after e rest s. (
        (λ z. cc),
        λ ws z. let same : b ≡ break = cc in
            other inner (drop k bs ++ after) e rest s same,
      );
    })

-- a byte that begins an item is no break
other_byte : (b : ℕ) (s : Start) → start_of (initial b) ≡ s → rejection_of s b ≡ None → b ≢ break
unfolding initial
other_byte b s is none e =
    let unsupported : start.Unsupported ≡ s = ap (λ j. start_of (initial j)) (sym e) ∙ is in
    let some = subst (λ z. rejection_of z b ≡ None) (sym unsupported) none in cc

module _ (b n k : ℕ) (bs : List ℕ) (small : b < 256) (fresh : IsBytes bs)
    (a : ArgumentAfter (b % 32) bs n k) where
  within : k ≤ length bs
  within =
      omega (arith, ap length a.is, length-append {A = ℕ}, length-bytes_high_first)

  -- whatever follows
  read : (after : List ℕ) → ArgumentBy (info_of (b % 32)) b (bs ++ after) n (drop k bs ++ after)
  read after =
      let info : info_of (b % 32) ≡ wide a.width =
      sym (ap info_of a.says) ∙ info-additional n a.width a.fits in
      subst (λ j. ArgumentBy j b (bs ++ after) n (drop k bs ++ after)) (sym info) (record {
        fits = a.fits;
        says = a.says;
        is =
            ap (λ r. r ++ after) a.is ∙ (append_assoc (bytes_high_first k n) (drop k bs) after
            ∙ ap (λ j. bytes_high_first j n ++ (drop k bs ++ after)) a.size);
      })

  pub sees_head : (s : Start) → start_of (initial b) ≡ s → rejection_of s b ≡ None
      → ((j : ℕ) → s ≡ start.Bytes j → ⊥) → BeginsHead (1 + k) (trailing_of s n) (b ∷ bs)
  sees_head s is some none =
      after_first (1 + k) k (trailing_of s n) b bs (omega arith) small within
      (IsBytes-take k bs fresh) (λ _ _ _ _ _. other_byte b s is some) (λ inner after.
      (goes inner b small s is some none).1 (bs ++ after) (drop k bs ++ after) n (read after))

  pub sees_content : start_of (initial b) ≡ start.Content → n ≤ length bs - k
      → BeginsHead (1 + k + n) Nothing (b ∷ bs)
  sees_content s le =
      let room : n ≤ length (drop k bs) = omega (arith, length-drop k bs, le) in
      after_first (1 + k + n) (k + n) Nothing b bs (omega arith) small (omega (arith, le, within))
      (IsBytes-take (k + n) bs fresh) (λ _ _ _ _ h. absurd h) (λ inner after. whole inner
      (b ∷ (bs ++ after)) (drop (k + n) bs ++ after) (content_leaf b small _ refl (bs ++ after)
      (drop k bs ++ after) (drop (k + n) bs ++ after) n s (read after) (record {
        content = take n (drop k bs);
        size = length-take-le n (drop k bs) room;
        bytes = IsBytes-take n (drop k bs) (IsBytes-drop k bs fresh);
        is =
            ap (λ r. r ++ after) (sym (take-append-drop n (drop k bs)))
            ∙ (append_assoc (take n (drop k bs)) (drop n (drop k bs)) after
            ∙ ap (λ r. take n (drop k bs) ++ (r ++ after)) (drop_more n k bs));
      })))

-- a head without an argument
pub sees_alone : (b : ℕ) (bs : List ℕ) → b < 256 → (s : Start) → start_of (initial b) ≡ s
    → rejection_of s b ≡ None → Opens s → BeginsHead 1 (trailing_of s 0) (b ∷ bs)
sees_alone b bs small s is some o =
    after_first 1 0 (trailing_of s 0) b bs refl small (omega arith) tt (λ _ _ _ _ _. other_byte b s
    is some) (λ inner after. opens_by inner b small s is o (bs ++ after))

-- ---- a first byte that says how long the item is

no_bytes : (bs : List ℕ) (k : ℕ) → length bs ≡ k → k ≡ 0 → bs ≡ []
no_bytes [] k e z = refl
no_bytes (b ∷ bs) k e z = absurd (omega (arith, e, z))

low_is : (t : Bool) (low k : ℕ) → ltb low 24 ≡ t → cond t (low + 1) 0 ≡ suc k
    → (k ≡ low) × (low < 24)
low_is true low k e h = (omega (arith, h), ltb-true low 24 e)
low_is false low k e h = absurd (omega (arith, h))

zero_is : (t : Bool) (low k : ℕ) → eqb low 0 ≡ t → cond t 1 0 ≡ suc k → (k ≡ 0) × (low ≡ 0)
zero_is true low k e h = (omega (arith, h), eqb-true low 0 e)
zero_is false low k e h = absurd (omega (arith, h))

-- the first byte, and as many after it as it says
leaf_here : (b k : ℕ) (bs : List ℕ) → b < 256 → leaf_bytes b ≡ suc k → length bs ≡ k → IsBytes bs
    → SkipsLeaf (b ∷ bs) []
unfolding leaf_bytes
leaf_here b k bs small is size fresh = by_start (start_of (initial b)) refl is
  where
    all : (j : ℕ) → k ≡ j → DropsBytes j bs []
    all j e = record { content = bs; size = size ∙ e; bytes = fresh; is = sym (append-nil bs) }

    nothing : k ≡ 0 → SkipsLeaf (b ∷ bs) bs → SkipsLeaf (b ∷ bs) []
    nothing e l = subst (SkipsLeaf (b ∷ bs)) (no_bytes bs k size e) l

    by_start : (s : Start) → start_of (initial b) ≡ s → leaf_by s (b % 32) ≡ suc k
        → SkipsLeaf (b ∷ bs) []
    by_start (start.Bytes j) e h = bytes_leaf b small _ refl j bs [] e (all j (omega (arith, h)))
    by_start start.Content e h =
        let l = low_is (ltb (b % 32) 24) (b % 32) k refl h in
        content_leaf b small _ refl bs bs [] (b % 32) e (short_argument b small _ refl bs e l.1)
        (all (b % 32) l.0)
    by_start start.Items e h =
        let z = zero_is (eqb (b % 32) 0) (b % 32) k refl h in
        nothing z.0 (empty_leaf b small start.Items bs (inl refl) e z.1)
    by_start start.Pairs e h =
        let z = zero_is (eqb (b % 32) 0) (b % 32) k refl h in
        nothing z.0 (empty_leaf b small start.Pairs bs (inr refl) e z.1)
    by_start _ e h = absurd (omega (arith, h))

pub shown_bytes : (shown : List ℕ) → ((i : ℕ) → get_or shown i 0 < 256) → IsBytes shown
shown_bytes shown f = subst IsBytes (take-length shown) (first_bytes (length shown) shown f)

pub leaf_at : (at size : ℕ) (shown : List ℕ) → at < length shown
    → size ≡ leaf_bytes (get_or shown at 0) → size ≤ length shown - at
    → ((i : ℕ) → get_or shown i 0 < 256) → size ≢ 0 → IsLeafAt at size shown
leaf_at at zero shown lt is le small some = absurd (some refl)
leaf_at at (suc k) shown lt is le small some =
    let bs = drop (suc at) shown in
    let split : drop at shown ≡ get_or shown at 0 ∷ bs = drop-cons shown at 0 lt in
    let room : k ≤ length bs = omega (arith, length-drop (suc at) shown, le, lt) in
    let leaf =
    leaf_here (get_or shown at 0) k (take k bs) (small at) (sym is) (length-take-le k bs room)
    (IsBytes-take k bs (IsBytes-drop (suc at) shown (shown_bytes shown small))) in
    record {
      within = omega (arith, le, lt);
      leaf = (leaf.0, leaf.1, ap (take (suc k)) split ∙ (leaf.2 ∙ append-nil (bytes leaf.0)));
    }

-- ---- runs

pub run_none : (shown : List ℕ) → BeginsRun 0 0 shown
run_none shown =
    record { within = omega arith; few = omega arith; run = (no_trees, refl, tt, refl) }

pub run_more : (n at size : ℕ) (shown : List ℕ) → size ≢ 0 → BeginsRun n at shown
    → IsLeafAt at size shown → BeginsRun (n + 1) (at + size) shown
run_more n at size shown some h l =
    let ts = h.run.0 in
    let t = l.leaf.0 in
    let joined : bytes_all (push ts t) ≡ bytes_all ts ++ bytes t =
    sym (append-nil (bytes_all (push ts t)))
    ∙ (bytes-push ts t [] ∙ ap (λ r. bytes_all ts ++ r) (append-nil (bytes t))) in
    record {
      within = l.within;
      few = omega (arith, h.few, some);
      run = (
        push ts t,
        count-push ts t ∙ ap (λ j. j + 1) h.run.1,
        each-push IsItemLeaf ts t h.run.2 l.leaf.1,
        take-add at size shown ∙ (ap₂ ◌++◌ h.run.3 l.leaf.2 ∙ sym joined),
      );
    }

-- the same run, by what its count is
pub run_counts : (n m size : ℕ) (shown : List ℕ) → n ≡ m → BeginsRun n size shown
    → BeginsRun m size shown
run_counts n m size shown is h = subst (λ j. BeginsRun j size shown) is h

pub run_first : (size : ℕ) (shown : List ℕ) → size ≢ 0 → IsLeafAt 0 size shown
    → BeginsRun 1 size shown
run_first size shown some l =
    let end : 0 + size ≡ size = omega arith in
    subst (λ j. BeginsRun 1 j shown) end (run_more 0 0 size shown some (run_none shown) l)

-- two, where so many bytes are left that any two would stand whole
pub run_two : (n at size next : ℕ) (shown : List ℕ) → ((i : ℕ) → get_or shown i 0 < 256)
    → 48 < length shown - at → size ≡ leaf_bytes (get_or shown at 0) → size ≤ 24 → size ≢ 0
    → next ≡ leaf_bytes (get_or shown (at + size) 0) → next ≤ 24 → next ≢ 0 → BeginsRun n at shown
    → BeginsRun (n + 2) (at + (size + next)) shown
run_two n at size next shown small room is most some then most_then some_then h =
    let l : IsLeafAt at size shown =
    leaf_at at size shown (omega (arith, room)) is (omega (arith, room, most)) small some in
    let m : IsLeafAt (at + size) next shown =
    leaf_at (at + size) next shown (omega (arith, room, most)) then
    (omega (arith, room, most, most_then)) small some_then in
    let first = run_more n at size shown some h l in
    let both = run_more (n + 1) (at + size) next shown some_then first m in
    let count : n + 1 + 1 ≡ n + 2 = omega arith in
    let end : at + size + next ≡ at + (size + next) = omega arith in
    subst (λ j. BeginsRun j (at + (size + next)) shown) count
    (subst (λ j. BeginsRun (n + 1 + 1) j shown) end both)

-- so many of one byte each
pub run_short : (k n at : ℕ) (shown : List ℕ) → ((i : ℕ) → get_or shown i 0 < 256)
    → at + k ≤ length shown
    → ((i : ℕ) → i < k → leaf_bytes (get_or shown (at + i) 0) ≡ 1) → BeginsRun n at shown
    → BeginsRun (n + k) (at + k) shown
run_short zero n at shown small within short h =
    let count : n ≡ n + 0 = omega arith in
    let end : at ≡ at + 0 = omega arith in
    subst (λ j. BeginsRun j (at + 0) shown) count (subst (λ j. BeginsRun n j shown) end h)
run_short (suc k) n at shown small within short h =
    let before =
    run_short k n at shown small (omega (arith, within)) (λ i lt. short i (omega (arith, lt))) h in
    let leaf : IsLeafAt (at + k) 1 shown =
    leaf_at (at + k) 1 shown (omega (arith, within)) (sym (short k (omega arith)))
    (omega (arith, within)) small (omega arith) in
    let after = run_more (n + k) (at + k) 1 shown (omega arith) before leaf in
    let count : n + k + 1 ≡ n + suc k = omega arith in
    let end : at + k + 1 ≡ at + suc k = omega arith in
    subst (λ j. BeginsRun j (at + suc k) shown) count
    (subst (λ j. BeginsRun (n + k + 1) j shown) end after)

leaves_fit : (budget : Budget) (ts : Trees) → CostFits 1 budget → Each IsItemLeaf ts
    → Each (Skippable budget) ts
leaves_fit budget no_trees fits h = tt
leaves_fit budget (tree t ts) fits h =
    ((h.0.0, subst (λ c. CostFits c budget) (sym h.0.1) fits), leaves_fit budget ts fits h.1)

pub run_items : (n : ℕ) (budget : Budget) (xs ys : List ℕ) → CostFits 1 budget → SkipsRun n xs ys
    → SkipsItems n budget xs ys
run_items n budget xs ys fits (ts, count, each, is) =
    (ts, count, leaves_fit budget ts fits each, is)

-- ---- the table

agree_below : (ℕ → ℕ) → (ℕ → ℕ) → ℕ → Bool
agree_below f g zero = true
agree_below f g (suc n) = nat_eq (f n) (g n) && agree_below f g n

both_of : (x y : Bool) → (x && y) ≡ true → (x ≡ true) × (y ≡ true)
both_of true y h = (refl, h)
both_of false y h = cc

agree_at : (f g : ℕ → ℕ) (n : ℕ) → agree_below f g n ≡ true → (b : ℕ) → b < n → f b ≡ g b
unfolding agree_below
agree_at f g zero h b lt = absurd (omega arith)
agree_at f g (suc n) h b lt =
    let both = both_of (nat_eq (f n) (g n)) (agree_below f g n) h in
    elim (cases_eq b n) [
      | inl same ↦ rw same (eqb-true (f n) (g n) both.0)
      | inr other ↦ agree_at f g n both.1 b (omega arith)
    ]

-- the table is held against the definition at each of the 256 bytes, by computing
pub table_holds : (b : ℕ) → b < 256 → get_or LEAF_BYTES b 0 ≡ leaf_bytes b
unfolding agree_below leaf_bytes initial
table_holds b lt = agree_at (λ k. get_or LEAF_BYTES k 0) leaf_bytes 256 refl b lt

-- by computing, as the table
over_24 : (b : ℕ) → b < 256 → leaf_bytes b - 24 ≡ 0
unfolding agree_below leaf_bytes initial
over_24 b lt = agree_at (λ k. leaf_bytes k - 24) (λ _. 0) 256 refl b lt

pub most_leaf_bytes : (b : ℕ) → b < 256 → leaf_bytes b ≤ 24
most_leaf_bytes b lt = omega (arith, over_24 b lt)

-- ---- integers of one byte

-- by computing, as the table
short_below : (b : ℕ) → b < 64 → cond (ltb (b % 32) 24) (leaf_bytes b) 1 ≡ 1
unfolding agree_below leaf_bytes initial
short_below b lt =
    agree_at (λ k. cond (ltb (k % 32) 24) (leaf_bytes k) 1) (λ _. 1) 64 refl b lt

pub short_leaf : (b : ℕ) → (ltb b 64 && ltb (b % 32) 24) ≡ true → leaf_bytes b ≡ 1
short_leaf b h =
    let both = both_of (ltb b 64) (ltb (b % 32) 24) h in
    subst (λ t. cond t (leaf_bytes b) 1 ≡ 1) both.1 (short_below b (ltb-true b 64 both.0))

-- those of a part
pub short_inside : (k m at : ℕ) (shown : List ℕ) → m ≡ k → at + k ≤ length shown
    → AllShort (take m (drop at shown)) → (i : ℕ) → i < k → leaf_bytes (get_or shown (at + i) 0) ≡ 1
short_inside k m at shown same within short i lt =
    let part = drop at shown in
    let size : length (take k part) ≡ k =
    length-take-le k part (omega (arith, within, length-drop at shown)) in
    let is : get_or (take k part) i 0 ≡ get_or shown (at + i) 0 =
    get_or-take k part i 0 lt ∙ get_or-drop at shown i 0 in
    ap leaf_bytes (sym is)
    ∙ subst (λ j. AllShort (take j part)) same short i (omega (arith, lt, size))
