-- Shortest heads, and strings after them, are read exactly as they are encoded.
use Rattle.std.proofs.Common.{◌≡◌, ◌≢◌, ℕ, ◌+◌, ◌-◌, ◌*◌, ◌%◌, ◌<◌, ◌≤◌, inl, inr, List, [], ◌∷◌}
use Rattle.std.proofs.Common.{◌++◌, length, drop, take, Option, Some, Result, Ok, Err, Bool, true}
use Rattle.std.proofs.Common.{false, refl, sym, ap, ap₂, ◌∙◌, subst, arith, cond, ltb, leb, eqb}
use Rattle.std.proofs.Common.{le-ltb, leb-true, eqb-true, eq-eqb, ne_eqb, le-leb, OnOk, rules}
use Rattle.std.specs.Int.{bytes_high_first}
use Rattle.std.proofs.lemmas.List.{length-drop, length-take-le, length-take}
use Rattle.std.specs.declared.vec.Vec.{Vec}
use Rattle.cbor4ii_rw.specs.View.{View}
use Rattle.cbor4ii_rw.specs.Reader.{Advances}
use Rattle.cbor4ii_rw.specs.declared.error.DecodeError.{DecodeError}
use Rattle.cbor4ii_items.specs.Head.{Width, byte_count, HeadFits, additional, head, indefinite_head}
use Rattle.cbor4ii_items.specs.Head.{shortest_width, IsBytes}
use Rattle.cbor4ii_items.specs.InputError.{InputError, input_error_of, is_read, is_depth_overflow}
use Rattle.cbor4ii_items.specs.InputError.{eof, len_of, not_canonical}
use Rattle.cbor4ii_items.specs.Initial.{info_of}
use Rattle.cbor4ii_items.specs.Reading.{Reading, give, reject, ◌>=>◌, Runs, peek_at}
use Rattle.cbor4ii_items.specs.Decoding.{Decodes}
use Rattle.cbor4ii_items.specs.Laws.Outcome.{same_value, same_input_error}
use Rattle.cbor4ii_items.specs.Heads.{ReadsHead}
use Rattle.cbor4ii_items.specs.Laws.Heads.{read_head, head_again, following_head, rest_after_head}
use Rattle.cbor4ii_items.specs.Laws.Heads.{additional-lt, info-additional, shortest_fits}
use Rattle.cbor4ii_items.specs.Laws.Heads.{argument_below, same_wide}
use Rattle.cbor4ii_items.specs.ReadHead.{head_at}
use Rattle.cbor4ii_items.specs.Contents.{items_answer}
use Rattle.cbor4ii_items.specs.ReadStrings.{content_on}
use Rattle.cbor4ii_items.specs.ReadShortest.{is_indefinite_head, shortest_by, shortest_at}
use Rattle.cbor4ii_items.specs.ReadShortest.{shortest_string_at}
use Rattle.cbor4ii_items.specs.Shortest.{canonical_name, LacksLength, ReadsShortest}
use Rattle.cbor4ii_items.specs.Shortest.{RejectsShortest, shortest_rejected, shortest_indefinite}
use Rattle.cbor4ii_items.specs.Shortest.{too_long, ReadsShortestString, RejectsShortestString}
use Rattle.cbor4ii_items.specs.Shortest.{length_rejected, content_cut, shortest_string_format}
use Rattle.cbor4ii_items.specs.Laws.Calls.{ok}
use Rattle.cbor4ii_items.specs.Laws.ProgramEnds.{Passed, ok_parts, err_parts, head_leaves}
use Rattle.cbor4ii_items.specs.Laws.ProgramEnds.{content_inverse}
use Rattle.cbor4ii_items.specs.Laws.Prefixes.{drop_more}
use Rattle.cbor4ii_items.specs.Laws.Answering.{SeenAreBytes, seen_of, Found, fits_zero, sound_by}
use Rattle.cbor4ii_items.specs.Laws.Answering.{complete_by, rejects_by}
use Rattle.cbor4ii_items.specs.Laws.Arguments.{ReadBy}
use Rattle.cbor4ii_items.specs.Laws.Running.{as_of, peek_byte, runs_as, runs_then, runs_err}
use Rattle.cbor4ii_items.specs.Laws.Running.{runs_give, runs_reject, runs_byte}
use Rattle.cbor4ii_items.proofs.Leaves.{IsLeaf}
use Rattle.cbor4ii_items.proofs.Rejecting.{head_rejects}
use Rattle.cbor4ii_items.proofs.StringsRead.{content_rejected}

-- ---- the width that a first byte says

same_width : (n : ℕ) (w u : Width) → HeadFits w n → HeadFits u n → additional w n ≡ additional u n
    → w ≡ u
same_width n w u h k e =
    same_wide w u (sym (info-additional n w h) ∙ ap info_of e ∙ info-additional n u k)

-- the first byte of a head says its width
says : (major n : ℕ) (w : Width) → HeadFits w n
    → (32 * major + additional w n) % 32 ≡ additional w n
says major n w h = omega (arith, additional-lt n w h)

-- a head whose first byte says the least width has it
least_width : (major v n : ℕ) (xs : List ℕ) → (h : ReadsHead major 8 xs v n)
    → ((b : ℕ) (bs : List ℕ) → xs ≡ b ∷ bs → b % 32 ≡ additional (shortest_width v) v)
    → h.wide ≡ shortest_width v
least_width major v n xs h first =
    let low = first (32 * major + additional h.wide v)
    (bytes_high_first (byte_count h.wide) v ++ h.rest) h.is in
    same_width v h.wide (shortest_width v) h.fits (shortest_fits v (argument_below h.wide v h.fits))
    (sym (says major v h.wide h.fits) ∙ low)

-- ---- the first byte of an indefinite length

indefinite_by : (s t : Bool) (major b : ℕ) → leb 2 major ≡ s → leb major 5 ≡ t
    → cond s (cond t (eqb b (indefinite_head major)) false) false ≡ true → LacksLength major b
indefinite_by true true major b p q e =
    (leb-true 2 major p, leb-true major 5 q, eqb-true b (indefinite_head major) e)
indefinite_by _ _ major b p q e = cc

indefinite : (major b : ℕ) → is_indefinite_head major b ≡ true → LacksLength major b
indefinite major b e = indefinite_by (leb 2 major) (leb major 5) major b refl refl e

is_indefinite : (major b : ℕ) → LacksLength major b → is_indefinite_head major b ≡ true
is_indefinite major b h = search (rules, le-leb, eq-eqb)

not_indefinite : (major b : ℕ) → is_indefinite_head major b ≡ false → ¬ (LacksLength major b)
not_indefinite major b e h = let f = is_indefinite major b h in cc

not_begun_by : (t : Bool) (major b : ℕ) → is_indefinite_head major b ≡ t → ¬ (LacksLength major b)
    → t ≡ false
not_begun_by true major b e none = absurd (none (indefinite major b e))
not_begun_by false major b e none = refl

-- no head begins so
head_begins_none : (major v : ℕ) (w : Width) → HeadFits w v
    → ¬ (LacksLength major (32 * major + additional w v))
head_begins_none major v w h o = omega (arith, o.2, additional-lt v w h)

-- ---- heads that are read

abbrev Longer : InputError
Longer = not_canonical canonical_name

given : (t : Bool) (n v : ℕ) (us ys : List ℕ) → cond t (give n) (reject Longer) us ≡ Ok (v, ys)
    → (n ≡ v) × (us ≡ ys) × (t ≡ true)
given true n v us ys e = let p = same_value (give n us) refl e in (p.0, p.1, refl)
given false n v us ys e = cc

read_from : (t : Bool) (name : List ℕ) (major b v : ℕ) (bs ys : List ℕ)
    → cond t (λ xs. Err (Longer, bs)) (head_at name major 8 >=> shortest_by b) (b ∷ bs) ≡ Ok (v, ys)
    → (head_at name major 8 (b ∷ bs) ≡ Ok (v, ys)) × (b % 32 ≡ additional (shortest_width v) v)
read_from true name major b v bs ys e = cc
read_from false name major b v bs ys e =
    let g = ok_parts (head_at name major 8 (b ∷ bs)) (shortest_by b) v ys e in
    let f =
    given (eqb (b % 32) (additional (shortest_width g.value) g.value)) g.value v g.rest ys g.ended
    in (
      g.begun ∙ ap₂ (λ (j : ℕ) (zs : List ℕ). Ok (j, zs)) f.0 f.1,
      subst (λ j. b % 32 ≡ additional
          (shortest_width j) j) f.0 (eqb-true (b % 32) (additional (shortest_width g.value) g.value)
          f.2),
    )

-- a shortest head is a head, and its first byte says the least width
shortest_ok : (name : List ℕ) (major v : ℕ) (xs ys : List ℕ)
    → shortest_at name major xs ≡ Ok (v, ys)
    → (head_at name major 8 xs ≡ Ok (v, ys))
    × ((b : ℕ) (bs : List ℕ) → xs ≡ b ∷ bs → b % 32 ≡ additional (shortest_width v) v)
shortest_ok name major v [] ys e = cc
shortest_ok name major v (b ∷ bs) ys e =
    let p = read_from (is_indefinite_head major b) name major b v bs ys e in (
      p.0,
      λ c cs is.
          (let same : b ≡ c = cc in subst (λ j. j % 32 ≡ additional (shortest_width v) v) same p.1),
    )

pub shortest_means : (name : List ℕ) (major : ℕ) (xs : List ℕ) (v n : ℕ)
    → shortest_at name major xs ≡ Ok (v, drop n xs) → n ≤ length xs → IsBytes (take n xs)
    → ReadsShortest major xs v n 0
shortest_means name major xs v n e room bytes =
    let p = shortest_ok name major v xs (drop n xs) e in
    let h = read_head name major 8 xs v n p.0 room bytes in
    (h, least_width major v n xs h p.1, refl)

-- ---- and read back

back_from : (t : Bool) (name : List ℕ) (major b v : ℕ) (bs ys : List ℕ) → t ≡ false
    → head_at name major 8 (b ∷ bs) ≡ Ok (v, ys) → eqb (b % 32) (additional (shortest_width v) v)
    ≡ true
    → cond t (λ xs. Err (Longer, bs)) (head_at name major 8 >=> shortest_by b) (b ∷ bs) ≡ Ok (v, ys)
back_from true name major b v bs ys e h k = cc
back_from false name major b v bs ys e h k = rw (h, k) refl

back_at : (name : List ℕ) (major v : ℕ) (w : Width) (rest ys : List ℕ) → HeadFits w v
    → w ≡ shortest_width v → head_at name major 8 (head major v w ++ rest) ≡ Ok (v, ys)
    → shortest_at name major (head major v w ++ rest) ≡ Ok (v, ys)
back_at name major v w rest ys h s e =
    search (rules, says, back_from, not_begun_by, head_begins_none, eq-eqb)

pub shortest_again : (name : List ℕ) (major : ℕ) (xs : List ℕ) (v n c : ℕ)
    → ReadsShortest major xs v n c → ReadBy (shortest_at name major) xs v n c
shortest_again name major xs v n c r =
    let h = r.0 in
    let p = following_head h.wide major v n h.rest h.count in
    let left : h.rest ≡ drop n xs = sym (rest_after_head major 8 xs v n h) in
    record {
      answer =
          ap (shortest_at name major) h.is ∙ back_at name major v h.wide h.rest (drop n xs) h.fits
          r.1 (head_again name h.wide major v 8 h.rest h.fits h.allowed
          ∙ ap (λ (zs : List ℕ). Ok (v, zs)) left);
      within = omega (arith, p.1, ap length h.is);
      positive = omega (arith, h.count);
      cost = r.2;
    }

-- ---- heads that are rejected

rejected_by : (t : Bool) (n : ℕ) (us : List ℕ) (z : InputError) (ys : List ℕ)
    → cond t (give n) (reject Longer) us ≡ Err (z, ys) → (z ≡ Longer) × (us ≡ ys) × (t ≡ false)
rejected_by true n us z ys e = cc
rejected_by false n us z ys e =
    let p = same_input_error (reject {V = ℕ} Longer us) refl e in (sym p.0, p.1, refl)

rejects_from : (t : Bool) (name : List ℕ) (major b : ℕ) (bs : List ℕ) (budget : Option ℕ)
    (z : InputError) (ys : List ℕ) → is_indefinite_head major b ≡ t → SeenAreBytes (b ∷ bs) ys
    → cond {A = Reading ℕ} t (λ xs. Err (Longer, bs)) (head_at name major 8 >=> shortest_by b)
    (b ∷ bs) ≡ Err (z, ys) → RejectsShortest name major (b ∷ bs) budget z ys
rejects_from true name major b bs budget z ys opening seen e =
    let o : Result (ℕ × List ℕ) (InputError × List ℕ) = Err (Longer, bs) in
    let p = same_input_error o refl e in
    shortest_indefinite b (indefinite major b opening) (ap (λ us. b ∷ us) p.1) (sym p.0)
rejects_from false name major b bs budget z ys opening seen e =
    elim (err_parts (head_at name major 8 (b ∷ bs)) (shortest_by b) z ys e) [
      | inl f ↦ shortest_rejected (λ c cs is. (let same : c ≡ b = cc in
          subst (λ j. ¬ (LacksLength major j)) (sym same) (not_indefinite major b opening)))
          (head_rejects name major 8 (b ∷ bs) z ys f)
      | inr g ↦
          let r = rejected_by (eqb (b % 32) (additional (shortest_width g.value) g.value)) g.value
          g.rest z
          ys g.ended in
          let passed : Passed (b ∷ bs) ys = (head_leaves name major 8).ok (b ∷ bs) g.value ys
          (g.begun ∙ ap (λ (zs : List ℕ). Ok (g.value, zs)) r.1) in
          let n = passed.count in
          let room = passed.within in
          let read : head_at name major 8 (b ∷ bs) ≡ Ok (g.value, drop n (b ∷ bs)) =
          g.begun ∙ ap (λ (zs : List ℕ). Ok (g.value, zs)) (r.1 ∙ passed.left) in
          let h = read_head name major 8 (b ∷ bs) g.value n read room
          (seen n (omega (arith, room, ap length passed.left, length-drop n (b ∷ bs)))) in
          too_long g.value n h (λ least.
          not_least major b g.value h.wide bs h.rest h.fits h.is least r.2) r.0 passed.left
    ]
  where
    not_least : (major b v : ℕ) (w : Width) (bs rest : List ℕ) → HeadFits w v
        → b ∷ bs ≡ head major v w ++ rest → w ≡ shortest_width v
        → eqb (b % 32) (additional (shortest_width v) v) ≡ false → ⊥
    not_least major b v w bs rest h is least e =
        let first : b ≡ 32 * major + additional w v = cc in
        let low : b % 32 ≡ additional (shortest_width v) v =
        ap (λ j. j % 32) first ∙ says major v w h ∙ ap (λ u. additional u v) least in
        let t = eq-eqb (b % 32) (additional (shortest_width v) v) low in
        cc

pub shortest_rejects : (name : List ℕ) (major : ℕ) (xs : List ℕ) (budget : Option ℕ)
    (z : InputError)
    (ys : List ℕ) → shortest_at name major xs ≡ Err (z, ys) → SeenAreBytes xs ys
    → RejectsShortest name major xs budget z ys
shortest_rejects name major [] budget z ys e seen =
    search (rules, same_input_error, shortest_rejected)
shortest_rejects name major (b ∷ bs) budget z ys e seen =
    rejects_from (is_indefinite_head major b) name major b bs budget z ys refl seen e

pub shortest_leaf : (name : List ℕ) (major : ℕ)
    → IsLeaf (shortest_at name major) (ReadsShortest major) (RejectsShortest name major)
shortest_leaf name major = search (rules, shortest_means, shortest_again, shortest_rejects, seen_of)

-- ---- strings

string_found : (name : List ℕ) (major : ℕ) (budget : Option ℕ) (xs v ys : List ℕ)
    → shortest_string_at name major xs ≡ Ok (v, ys) → SeenAreBytes xs ys
    → Found (ReadsShortestString major) budget xs v ys
string_found name major budget xs v ys e seen =
    let g = ok_parts (shortest_at name major xs) (λ n. content_on name n []) v ys e in
    let o = shortest_ok name major g.value xs g.rest g.begun in
    let c = content_inverse name g.value [] g.rest v ys g.ended in
    let p : Passed xs g.rest = (head_leaves name major 8).ok xs g.value g.rest o.0 in
    let long : length v ≡ g.value = ap length c.1 ∙ length-take-le g.value g.rest c.0 in
    let first : (b : ℕ) (bs : List ℕ) → xs ≡ b ∷ bs
    → b % 32 ≡ additional (shortest_width (length v)) (length v) =
    subst (λ j. (b : ℕ) (bs : List ℕ) → xs ≡ b ∷ bs → b % 32 ≡ additional (shortest_width j) j)
    (sym long) o.1 in
    let read : head_at name major 8 xs ≡ Ok (length v, drop p.count xs) =
    o.0 ∙ ap₂ (λ (j : ℕ) (zs : List ℕ). Ok (j, zs)) (sym long) p.left in
    let h = read_head name major 8 xs (length v) p.count read p.within
    (seen p.count (omega (
      arith,
      p.within,
      ap length c.2,
      length-drop g.value g.rest,
      ap length p.left,
      length-drop p.count xs,
    ))) in
    record {
      count = p.count + length v;
      cost = 0;
      read = (
        record {
          before = p.count;
          head = h;
          stands = ap₂ take long (sym p.left) ∙ sym c.1;
          size = refl;
        },
        least_width major (length v) p.count xs h first,
        refl,
      );
      fits = fits_zero budget;
      left =
          c.2 ∙ (ap (drop g.value) p.left
          ∙ (drop_more g.value p.count xs ∙ ap (λ j. drop (p.count + j) xs) (sym long)));
    }

content_back : (name : List ℕ) (n : ℕ) (us : List ℕ) → n ≤ length us
    → content_on name n [] us ≡ Ok (take n us, drop n us)
content_back name n us h = let t : ltb (length us) n ≡ false = le-ltb (length us) n h in rw t refl

string_again : (name : List ℕ) (major : ℕ) (xs v : List ℕ) (n c : ℕ)
    → ReadsShortestString major xs v n c → shortest_string_at name major xs ≡ Ok (v, drop n xs)
string_again name major xs v n c r =
    let s = r.0 in
    let k = length v in
    let us = drop s.before xs in
    let h = shortest_again name major xs k s.before 0 (s.head, r.1, refl) in
    let room : k ≤ length us = omega (arith, ap length s.stands, length-take k us) in
    let all : take k us ≡ v = s.stands in
    let left : drop k us ≡ drop n xs = drop_more k s.before xs ∙ ap (λ j. drop j xs) (sym s.size) in
    let answer : content_on name k [] us ≡ Ok (v, drop n xs) =
    content_back name k us room ∙ ap₂ (λ (w zs : List ℕ). Ok (w, zs)) all left in
    rw h.answer answer

string_rejects : (name : List ℕ) (major : ℕ) (budget : Option ℕ) (xs : List ℕ) (z : InputError)
    (ys : List ℕ) → shortest_string_at name major xs ≡ Err (z, ys) → SeenAreBytes xs ys
    → RejectsShortestString name major xs budget z ys
string_rejects name major budget xs z ys e seen =
    elim (err_parts (shortest_at name major xs) (λ n. content_on name n []) z ys e) [
      | inl f ↦ length_rejected (shortest_rejects name major xs budget z ys f seen)
      | inr g ↦
          let o = shortest_ok name major g.value xs g.rest g.begun in
          let c = content_rejected name g.value [] g.rest z ys g.ended in
          let p : Passed xs g.rest = (head_leaves name major 8).ok xs g.value g.rest o.0 in
          let i = p.count in
          let h = shortest_means name major xs g.value i
          (g.begun ∙ ap (λ (zs : List ℕ). Ok (g.value, zs)) p.left) p.within
          (seen i (omega (arith, p.within, ap length c.2))) in
          let short : length g.rest ≡ length xs - i = ap length p.left ∙ length-drop i xs in
          let gap : g.value - length g.rest ≡ i + g.value - length xs =
          omega (arith, p.within, short) in
          content_cut (record {
            count = g.value;
            before = i;
            head = h.0;
            short = omega (arith, c.0, p.within, short);
            answer = c.1 ∙ ap (λ j. eof name (len_of j)) gap;
            left = c.2;
          }) h.1
    ]

module _ {E Z : Type 0} (name : List ℕ) (major : ℕ) {a b : View} where
  pub string_decodes : (r : Result (Vec ℕ Z) (DecodeError E))
      → Runs (shortest_string_at name major) a b (items_answer r) → OnOk r (b.bound + 1 ≤ a.bound)
      → Decodes (shortest_string_format name major) a b (items_answer r)
  string_decodes (Ok v) p progress = search (rules, ok, sound_by, string_found)
  string_decodes (Err e) p progress =
      search (rules, rejects_by, string_rejects, complete_by, string_again)

-- ---- the calls

-- what a program does where this byte comes first
pub runs_when : {V E : Type 0} {f g : Reading V} (name : List ℕ) (b : ℕ) {a m c : View}
    {r : Result V (DecodeError E)} → Runs {E = E} (peek_at name 1) a m (Ok b)
    → ((bs : List ℕ) → f (b ∷ bs) ≡ g (b ∷ bs)) → Runs g a c r → Runs f a c r
runs_when {f = f} {g = g} name b {c = c} {r = r} first same p = search (rules, peek_byte, as_of)

module _ {E : Type 0} (name : List ℕ) (major b : ℕ) {a m : View}
    (first : Runs {E = E} (peek_at name 1) a m (Ok b)) where
  opening_is : (t : Bool) (bs : List ℕ) → t ≡ true → cond {A = Reading ℕ} t (λ xs. Err (Longer, bs))
      (head_at name major 8 >=> shortest_by b) (b ∷ bs) ≡ Err (Longer, bs)
  opening_is true bs e = refl
  opening_is false bs e = cc

  -- the first byte of an indefinite length
  pub runs_opening : {c : View} {e : DecodeError E} → b < 256 → Advances 1 m c
      → is_indefinite_head major b ≡ true → input_error_of e ≡ Some Longer → is_read e ≡ false
      → is_depth_overflow e ≡ false
      → Runs {V = ℕ} (shortest_at name major) a c (Err e)
  runs_opening {c = c} byte advances opening says read depth =
      runs_when name b first (λ bs. opening_is (is_indefinite_head major b) bs opening)
      (runs_then (λ _. reject Longer) (runs_byte first byte advances)
      (runs_reject Longer c says read depth))

  head_is : (t : Bool) (bs : List ℕ) → t ≡ false
      → cond {A = Reading ℕ} t (λ xs. Err (Longer, bs)) (head_at name major 8 >=> shortest_by b)
      (b ∷ bs) ≡ (head_at name major 8 >=> shortest_by b) (b ∷ bs)
  head_is true bs e = cc
  head_is false bs e = refl

  module _ (closed : is_indefinite_head major b ≡ false) where
    runs_closed : {c : View} {r : Result ℕ (DecodeError E)}
        → Runs (head_at name major 8 >=> shortest_by b) m c r → Runs (shortest_at name major) a c r
    runs_closed p =
        runs_when name b first (λ bs. head_is (is_indefinite_head major b) bs closed)
        (runs_then (λ _. head_at name major 8 >=> shortest_by b) first p)

    pub runs_head_err : {c : View} {e : DecodeError E} → Runs {V = ℕ}
        (head_at name major 8) m c (Err e) → Runs {V = ℕ} (shortest_at name major) a c (Err e)
    runs_head_err p = runs_closed (runs_err (shortest_by b) p)

    module _ {n : ℕ} {c : View} (p : Runs {E = E} (head_at name major 8) m c (Ok n)) where
      pub runs_shortest : b % 32 ≡ additional (shortest_width n) n
          → Runs {E = E} (shortest_at name major) a c (Ok n)
      runs_shortest e = search (rules, eq-eqb, runs_closed, runs_then, runs_as, runs_give)

      pub runs_too_long : {e : DecodeError E} → b % 32 ≢ additional (shortest_width n) n
          → input_error_of e ≡ Some Longer → is_read e ≡ false → is_depth_overflow e ≡ false
          → Runs {V = ℕ} (shortest_at name major) a c (Err e)
      runs_too_long other says read depth =
          search (rules, ne_eqb, runs_closed, runs_then, runs_as, runs_reject, says)
