-- What the program of strings answers is a string as it is encoded, or its error.
use Rattle.std.proofs.Common.{◌≡◌, ◌≢◌, ℕ, zero, suc, ◌+◌, ◌-◌, ◌<◌, ◌≤◌, inl, inr, List, [], ◌∷◌}
use Rattle.std.proofs.Common.{◌++◌, length, drop, take, Option, None, Some, Result, Ok, Err, Bool}
use Rattle.std.proofs.Common.{true, false, refl, sym, ap, ap₂, ◌∙◌, subst, arith, eqb, ltb}
use Rattle.std.proofs.Common.{ltb-true, append_assoc, cond, rules}
use Rattle.std.proofs.lemmas.List.{length-drop, append-nil, length-take-le}
use Rattle.std.proofs.Math.Seq.{take-add}
use Rattle.cbor4ii_items.specs.Head.{break, indefinite_head, IsBytes}
use Rattle.cbor4ii_items.specs.InputError.{InputError, eof, len_of}
use Rattle.cbor4ii_items.specs.Reading.{Reading, give, go_on, ◌>=>◌}
use Rattle.cbor4ii_items.specs.Budget.{CostFits}
use Rattle.cbor4ii_items.specs.Laws.Outcome.{same_value, same_input_error}
use Rattle.cbor4ii_items.specs.Heads.{ReadsHead, RejectsHead}
use Rattle.cbor4ii_items.specs.Laws.Heads.{read_head}
use Rattle.cbor4ii_items.specs.ReadHead.{head_by, length_at}
use Rattle.cbor4ii_items.specs.ReadStrings.{content_on, break_at, chunk_by, chunk_inside_at}
use Rattle.cbor4ii_items.specs.ReadStrings.{chunk_at, chunks_on, string_by, string_at}
use Rattle.cbor4ii_items.specs.Laws.ProgramEnds.{ok_parts, err_parts, length_passed, length_some}
use Rattle.cbor4ii_items.specs.Laws.ProgramEnds.{length_none, content_inverse, break_yes, break_no}
use Rattle.cbor4ii_items.specs.Laws.ProgramEnds.{break_rejected, chunk_passed, not_first}
use Rattle.cbor4ii_items.specs.Laws.Chunks.{chunks_by}
use Rattle.cbor4ii_items.specs.Laws.Prefixes.{drop_more}
use Rattle.cbor4ii_items.specs.Strings.{ReadsDefiniteString, ReadsChunks, joined_content}
use Rattle.cbor4ii_items.specs.Strings.{chunk_cost, ReadsString, CutContent, RejectsChunk}
use Rattle.cbor4ii_items.specs.Strings.{no_chunk_byte, no_step, chunk_indefinite, chunk_rejected}
use Rattle.cbor4ii_items.specs.Strings.{chunk_cut, RejectsIndefinite, RejectsString}
use Rattle.cbor4ii_items.specs.Strings.{string_head_rejected, string_cut, string_indefinite}
use Rattle.cbor4ii_items.specs.Laws.Strings.{BeginsWith, HasStep}
use Rattle.cbor4ii_items.specs.Laws.Answering.{SeenAreBytes, Found, fits_zero}
use Rattle.cbor4ii_items.specs.Laws.Contents.{IsBytes-append}
use Rattle.cbor4ii_items.proofs.Rejecting.{head_rejects}

-- ---- the bytes that were passed

seen_more : (xs ys zs : List ℕ) → length ys ≤ length zs → SeenAreBytes xs ys → SeenAreBytes xs zs
seen_more xs ys zs h s = λ m k. s m (omega (arith, h, k))

seen_after : (i : ℕ) (xs ys : List ℕ) → i ≤ length xs → SeenAreBytes xs ys
    → SeenAreBytes (drop i xs) ys
seen_after i xs ys h s = λ m k. IsBytes-append (take i xs) (take m (drop i xs))
    (subst IsBytes (take-add i m xs) (s (i + m) (omega (arith, h, k, length-drop i xs))))

-- ---- heads

record KnownLength (major k : ℕ) (xs us : List ℕ) : Type 0 where
  before : ℕ
  head : ReadsHead major 8 xs k before
  left : us ≡ drop before xs
  within : before ≤ length xs

record DefiniteFound (major : ℕ) (before xs v ys : List ℕ) : Type 0 where
  part : List ℕ
  size : ℕ
  read : ReadsDefiniteString major xs part size
  value : v ≡ before ++ part
  left : ys ≡ drop size xs

record ChunksFound (major : ℕ) (budget : Option ℕ) (before xs v ys : List ℕ) : Type 0 where
  chunks : List (List ℕ)
  between : ℕ
  read : ReadsChunks major chunks xs between
  ends : BeginsWith (drop between xs) break
  value : v ≡ before ++ joined_content chunks
  left : ys ≡ drop (1 + between) xs
  fits : CostFits (chunk_cost chunks) budget

known_length : (name : List ℕ) (major k : ℕ) (xs us ys : List ℕ)
    → length_at name major xs ≡ Ok (Some k, us) → length ys ≤ length us → SeenAreBytes xs ys
    → KnownLength major k xs us
known_length name major k xs us ys e short seen =
    search (rules, length_passed, length_some, read_head, length-drop)

-- ---- strings of definite length

module _ (name : List ℕ) (major : ℕ) where
  known_read : (before : List ℕ) (k : ℕ) (xs us v ys : List ℕ)
      → length_at name major xs ≡ Ok (Some k, us) → content_on name k before us ≡ Ok (v, ys)
      → SeenAreBytes xs ys → DefiniteFound major before xs v ys
  known_read before k xs us v ys e f seen =
      let c = content_inverse name k before us v ys f in
      let h = known_length name major k xs us ys e
      (omega (arith, ap length c.2, length-drop k us)) seen in
      let part = take k us in
      let long : length part ≡ k = length-take-le k us c.0 in
      record {
        part = part;
        size = h.before + k;
        read = record {
          before = h.before;
          head = subst (λ j. ReadsHead major 8 xs j h.before) (sym long) h.head;
          stands = ap₂ take long (sym h.left);
          size = ap (λ j. h.before + j) (sym long);
        };
        value = c.1;
        left = c.2 ∙ (ap (drop k) h.left ∙ drop_more k h.before xs);
      }

  inside_by : (before : List ℕ) (l : Option ℕ) (xs us v ys : List ℕ)
      → length_at name major xs ≡ Ok (l, us) → chunk_by name before l us ≡ Ok (v, ys)
      → SeenAreBytes xs ys → DefiniteFound major before xs v ys
  inside_by before None xs us v ys e f seen = cc
  inside_by before (Some k) xs us v ys e f seen = known_read before k xs us v ys e f seen

  inside_read : (before xs v ys : List ℕ) → chunk_inside_at name major before xs ≡ Ok (v, ys)
      → SeenAreBytes xs ys → DefiniteFound major before xs v ys
  inside_read before xs v ys e seen =
      let g = ok_parts (length_at name major xs) (chunk_by name before) v ys e in
      inside_by before g.value xs g.rest v ys g.begun g.ended seen

  chunk_read : (budget : Option ℕ) (before xs v ys : List ℕ)
      → chunk_at name major budget before xs ≡ Ok (v, ys) → SeenAreBytes xs ys
      → DefiniteFound major before xs v ys × HasStep budget
  chunk_read None before xs v ys e seen = (inside_read before xs v ys e seen, tt)
  chunk_read (Some zero) before xs v ys e seen = cc
  chunk_read (Some (suc left)) before xs v ys e seen =
      (inside_read before xs v ys e seen, omega arith)

-- ---- chunks

module _ (name : List ℕ) (major : ℕ) (budget : Option ℕ) (v ys : List ℕ) where
  ended_found : (before xs us : List ℕ) → break_at xs ≡ Ok (true, us)
      → give before us ≡ Ok (v, ys) → ChunksFound major budget before xs v ys
  ended_found before xs us e f = search (rules, break_yes, same_value, append-nil, fits_zero)

  chunk_found : (before more xs zs : List ℕ) → chunk_at name major budget before xs ≡ Ok (more, zs)
      → (SeenAreBytes zs ys → ChunksFound major budget more zs v ys) → SeenAreBytes xs ys
      → ChunksFound major budget before xs v ys
  chunk_found before more xs zs e next seen =
      let p = (chunk_passed name major budget before xs more zs e).0 in
      let r = next (subst (λ (us : List ℕ). SeenAreBytes us ys) (sym p.left)
      (seen_after p.count xs ys p.within seen)) in
      let c = chunk_read name major budget before xs more zs e (seen_more xs ys zs
      (omega (arith, ap length r.left, length-drop (1 + r.between) zs)) seen) in
      let f = c.0 in
      record {
        chunks = f.part ∷ r.chunks;
        between = f.size + r.between;
        read = (
          f.size,
          r.between,
          f.read,
          subst (λ us. ReadsChunks major r.chunks us r.between) f.left r.read,
          refl,
        );
        ends =
            ap (take 1) (sym (drop_more r.between f.size xs) ∙ ap (drop r.between) (sym f.left))
            ∙ r.ends;
        value =
            r.value ∙ (ap (λ us. us ++ joined_content r.chunks) f.value
            ∙ append_assoc before f.part (joined_content r.chunks));
        left =
            r.left ∙ (ap (drop (1 + r.between)) f.left
            ∙ (drop_more (1 + r.between) f.size xs ∙ ap (λ j. drop j xs) (let
            e : f.size + (1 + r.between) ≡ 1 + (f.size + r.between) = omega arith in e)));
        fits = c.1;
      }

  by_ended : (before xs us : List ℕ) (next : List ℕ → Reading (List ℕ))
      → ((more zs : List ℕ) → length zs < length xs → next more zs ≡ Ok (v, ys)
      → SeenAreBytes zs ys → ChunksFound major budget more zs v ys)
      → (ended : Bool) → break_at xs ≡ Ok (ended, us)
      → chunks_by name major budget before next ended us ≡ Ok (v, ys) → SeenAreBytes xs ys
      → ChunksFound major budget before xs v ys
  by_ended before xs us next h true e f seen = ended_found before xs us e f
  by_ended before xs us next h false e f seen =
      let same : us ≡ xs = (break_no xs us e).2 in
      let g = ok_parts (chunk_at name major budget before us) next v ys f in
      let here : chunk_at name major budget before xs ≡ Ok (g.value, g.rest) =
      ap (chunk_at name major budget before) (sym same) ∙ g.begun in
      chunk_found before g.value xs g.rest here (h g.value g.rest
      (chunk_passed name major budget before xs g.value g.rest here).1 g.ended) seen

  chunks_read : (f : ℕ) (before xs : List ℕ) → length xs < f
      → chunks_on f name major budget before xs ≡ Ok (v, ys) → SeenAreBytes xs ys
      → ChunksFound major budget before xs v ys
  chunks_read zero before xs h e seen = absurd (omega (arith, h))
  chunks_read (suc f) before xs h e seen =
      let g = ok_parts (break_at xs)
      (chunks_by name major budget before (chunks_on f name major budget)) v ys e in
      by_ended before xs g.rest (chunks_on f name major budget) (λ more zs short k there.
      chunks_read f more zs (omega (arith, h, short)) k there) g.value g.begun g.ended seen

-- ---- strings

module _ (name : List ℕ) (major : ℕ) (budget : Option ℕ) where
  string_by_read : (l : Option ℕ) (xs us v ys : List ℕ) → length_at name major xs ≡ Ok (l, us)
      → string_by name major budget l us ≡ Ok (v, ys) → SeenAreBytes xs ys
      → Found (ReadsString major) budget xs v ys
  string_by_read (Some k) xs us v ys e f seen =
      let r = known_read name major [] k xs us v ys e f seen in
      record {
        count = r.size;
        cost = 0;
        read = inl (subst (λ w. ReadsDefiniteString major xs w r.size) (sym r.value) r.read, refl);
        fits = fits_zero budget;
        left = r.left;
      }
  string_by_read None xs us v ys e f seen =
      let o = length_none name major xs us e in
      let p = (length_passed name major None xs us e).0 in
      let r = chunks_read name major budget v ys (suc (length us)) [] us (omega arith) f (subst
      (λ (zs : List ℕ). SeenAreBytes zs ys) (sym p.left)
      (seen_after p.count xs ys p.within seen)) in
      record {
        count = 2 + r.between;
        cost = chunk_cost r.chunks;
        read = inr (record {
          begins = o.0;
          chunks = r.chunks;
          between = r.between;
          read = subst (λ zs. ReadsChunks major r.chunks zs r.between) o.1 r.read;
          ends =
              ap (take 1) (sym (drop_more r.between 1 xs) ∙ ap (drop r.between) (sym o.1))
              ∙ r.ends;
          value = r.value;
          size = refl;
          cost = refl;
        });
        fits = r.fits;
        left =
            r.left ∙ (ap (drop (1 + r.between)) o.1 ∙ (drop_more (1 + r.between) 1 xs ∙ ap (λ j.
            drop j xs) (let e : 1 + (1 + r.between) ≡ 2 + r.between = omega arith in e)));
      }

  pub string_read : (xs v ys : List ℕ) → string_at name major budget xs ≡ Ok (v, ys)
      → SeenAreBytes xs ys → Found (ReadsString major) budget xs v ys
  string_read xs v ys e seen =
      let g = ok_parts (length_at name major xs) (string_by name major budget) v ys e in
      string_by_read g.value xs g.rest v ys g.begun g.ended seen

-- ---- errors

length_by_rejected : (t : Bool) (name : List ℕ) (major b : ℕ) (bs : List ℕ) (z : InputError)
    (ys : List ℕ) → eqb b (indefinite_head major) ≡ t
    → cond t (give None) (head_by name major 8 b >=> λ n. give (Some n)) bs ≡ Err (z, ys)
    → (BeginsWith (b ∷ bs) (indefinite_head major) → ⊥) × (head_by name major 8 b bs ≡ Err (z, ys))
length_by_rejected true name major b bs z ys h e = cc
length_by_rejected false name major b bs z ys h e = search (rules, not_first, err_parts, inl, inr)

pub no_length : (name : List ℕ) (major : ℕ) (xs : List ℕ) (z : InputError) (ys : List ℕ)
    → length_at name major xs ≡ Err (z, ys)
    → (BeginsWith xs (indefinite_head major) → ⊥) × RejectsHead name major 8 xs z ys
no_length name major [] z ys e =
    let p = same_input_error (length_at name major []) refl e in ((λ h. cc), (sym p.0, sym p.1))
no_length name major (b ∷ bs) z ys e =
    let p = length_by_rejected (eqb b (indefinite_head major)) name major b bs z ys refl e in
    (p.0, head_rejects name major 8 (b ∷ bs) z ys p.1)

content_by : (t : Bool) (name : List ℕ) (count : ℕ) (before xs : List ℕ) (z : InputError)
    (ys : List ℕ) → ltb (length xs) count ≡ t
    → cond {A = Result (List ℕ × List ℕ) (InputError × List ℕ)} t
    (Err (eof name (len_of (count - length xs)), []))
    (Ok (before ++ take count xs, drop count xs)) ≡ Err (z, ys)
    → (length xs < count) × (z ≡ eof name (len_of (count - length xs))) × (ys ≡ [])
content_by true name count before xs z ys h e = search (rules, same_input_error, ltb-true)
content_by false name count before xs z ys h e = cc

pub content_rejected : (name : List ℕ) (count : ℕ) (before xs : List ℕ) (z : InputError)
    (ys : List ℕ) → content_on name count before xs ≡ Err (z, ys)
    → (length xs < count) × (z ≡ eof name (len_of (count - length xs))) × (ys ≡ [])
content_rejected name count before xs z ys e =
    content_by (ltb (length xs) count) name count before xs z ys refl e

pub begun : (b : ℕ) (xs ys : List ℕ) → BeginsWith xs b → ys ≡ drop 1 xs → xs ≡ b ∷ ys
begun b [] ys h e = cc
begun b (x ∷ xs) ys h e = let f : x ≡ b = cc in ap₂ ◌∷◌ f (sym e)

module _ (name : List ℕ) (major : ℕ) (z : InputError) (ys : List ℕ) where
  known_cut : (before : List ℕ) (k : ℕ) (xs us : List ℕ)
      → length_at name major xs ≡ Ok (Some k, us) → content_on name k before us ≡ Err (z, ys)
      → SeenAreBytes xs ys → CutContent name major xs z ys
  known_cut before k xs us e f seen =
      let c = content_rejected name k before us z ys f in
      let h = known_length name major k xs us ys e (omega (arith, ap length c.2)) seen in
      let gap : k - length us ≡ h.before + k - length xs =
      omega (arith, h.within, ap length h.left, length-drop h.before xs) in
      record {
        count = k;
        before = h.before;
        head = h.head;
        short = omega (arith, c.0, h.within, ap length h.left, length-drop h.before xs);
        answer = c.1 ∙ ap (λ j. eof name (len_of j)) gap;
        left = c.2;
      }

  inside_rejects_by : (before : List ℕ) (budget l : Option ℕ) (xs us : List ℕ)
      → budget ≢ Some 0 → length_at name major xs ≡ Ok (l, us)
      → chunk_by name before l us ≡ Err (z, ys) → SeenAreBytes xs ys
      → RejectsChunk name major xs budget z ys
  inside_rejects_by before budget None xs us step e f seen =
      search (rules, length_none, same_input_error, chunk_indefinite)
  inside_rejects_by before budget (Some k) xs us step e f seen =
      chunk_cut step (known_cut before k xs us e f seen)

  inside_rejects : (before : List ℕ) (budget : Option ℕ) (xs : List ℕ) → budget ≢ Some 0
      → xs ≢ [] → (BeginsWith xs break → ⊥) → chunk_inside_at name major before xs ≡ Err (z, ys)
      → SeenAreBytes xs ys → RejectsChunk name major xs budget z ys
  inside_rejects before budget xs step some other e seen =
      elim (err_parts (length_at name major xs) (chunk_by name before) z ys e) [
        | inl r ↦
            (let h = no_length name major xs z ys r in chunk_rejected step other h.0 some h.1)
        | inr r ↦
            inside_rejects_by before budget r.value xs r.rest step r.begun r.ended seen
      ]

  chunk_rejects : (before : List ℕ) (budget : Option ℕ) (xs : List ℕ) → xs ≢ []
      → (BeginsWith xs break → ⊥) → chunk_at name major budget before xs ≡ Err (z, ys)
      → SeenAreBytes xs ys → RejectsChunk name major xs budget z ys
  chunk_rejects before None xs some other e seen =
      inside_rejects before None xs (λ h. cc) some other e seen
  chunk_rejects before (Some zero) xs some other e seen =
      search (rules, same_input_error, no_step)
  chunk_rejects before (Some (suc left)) xs some other e seen =
      inside_rejects before (Some (suc left)) xs
      (λ h. let f : suc left ≡ 0 = cc in omega (arith, f)) some other e seen

  -- ---- what an error leaves is no longer than what was there

  head_length : (xs : List ℕ) → RejectsHead name major 8 xs z ys → length ys ≤ length xs
  head_length [] h = omega (arith, ap length h.1)
  head_length (b ∷ bs) (inl h) = omega (arith, ap length h.left)
  head_length (b ∷ bs) (inr h) = omega (arith, ap length h.left)

  stop_length : (budget : Option ℕ) (xs : List ℕ) → RejectsChunk name major xs budget z ys
      → length ys ≤ length xs
  stop_length budget xs (no_chunk_byte none answer left) = omega (arith, ap length left)
  stop_length budget xs (no_step some other step answer left) = omega (arith, ap length left)
  stop_length budget xs (chunk_indefinite step is answer) = omega (arith, ap length is)
  stop_length budget xs (chunk_rejected step other known some h) = head_length xs h
  stop_length budget xs (chunk_cut step h) = omega (arith, ap length h.left)

  -- ---- errors among chunks

  none_yet : (budget : Option ℕ) (xs : List ℕ) → RejectsChunk name major xs budget z ys
      → RejectsIndefinite name major xs budget z ys
  none_yet budget xs stop =
      record { chunks = []; between = 0; read = refl; fits = fits_zero budget; stop = stop }

  chunk_stopped : (before : List ℕ) (budget : Option ℕ) (more xs zs : List ℕ)
      → chunk_at name major budget before xs ≡ Ok (more, zs)
      → (SeenAreBytes zs ys → RejectsIndefinite name major zs budget z ys) → SeenAreBytes xs ys
      → RejectsIndefinite name major xs budget z ys
  chunk_stopped before budget more xs zs e next seen =
      let p = (chunk_passed name major budget before xs more zs e).0 in
      let r = next (subst (λ (us : List ℕ). SeenAreBytes us ys) (sym p.left)
      (seen_after p.count xs ys p.within seen)) in
      let short = stop_length budget (drop r.between zs) r.stop in
      let c = chunk_read name major budget before xs more zs e
      (seen_more xs ys zs (omega (arith, short, length-drop r.between zs)) seen) in
      let f = c.0 in
      record {
        chunks = f.part ∷ r.chunks;
        between = f.size + r.between;
        read = (
          f.size,
          r.between,
          f.read,
          subst (λ us. ReadsChunks major r.chunks us r.between) f.left r.read,
          refl,
        );
        fits = c.1;
        stop =
            subst (λ us. RejectsChunk name major us budget z ys)
            (ap (drop r.between) f.left ∙ drop_more r.between f.size xs) r.stop;
      }

  rejects_by : (before : List ℕ) (budget : Option ℕ) (xs us : List ℕ)
      (next : List ℕ → Reading (List ℕ))
      → ((more zs : List ℕ) → length zs < length xs → next more zs ≡ Err (z, ys)
      → SeenAreBytes zs ys → RejectsIndefinite name major zs budget z ys)
      → (ended : Bool) → break_at xs ≡ Ok (ended, us)
      → chunks_by name major budget before next ended us ≡ Err (z, ys) → SeenAreBytes xs ys
      → RejectsIndefinite name major xs budget z ys
  rejects_by before budget xs us next h true e f seen = cc
  rejects_by before budget xs us next h false e f seen =
      let b = break_no xs us e in
      let same : us ≡ xs = b.2 in
      let here : go_on (chunk_at name major budget before xs) next ≡ Err (z, ys) =
      ap (λ ws. go_on (chunk_at name major budget before ws) next) (sym same) ∙ f in
      elim (err_parts (chunk_at name major budget before xs) next z ys here) [
        | inl r ↦ none_yet budget xs (chunk_rejects before budget xs b.0 b.1 r seen)
        | inr r ↦
            chunk_stopped before budget r.value xs r.rest r.begun (h r.value r.rest
            (chunk_passed name major budget before xs r.value r.rest r.begun).1 r.ended) seen
      ]

  chunks_stop : (f : ℕ) (before : List ℕ) (budget : Option ℕ) (xs : List ℕ) → length xs < f
      → chunks_on f name major budget before xs ≡ Err (z, ys) → SeenAreBytes xs ys
      → RejectsIndefinite name major xs budget z ys
  chunks_stop zero before budget xs h e seen = absurd (omega (arith, h))
  chunks_stop (suc f) before budget xs h e seen = elim (err_parts (break_at xs)
      (chunks_by name major budget before (chunks_on f name major budget)) z ys e) [
        | inl r ↦
            (let b = break_rejected xs ys z r in none_yet budget xs (no_chunk_byte b.0 b.1 b.2))
        | inr r ↦ rejects_by before budget xs r.rest (chunks_on f name major budget)
            (λ more zs short k there. chunks_stop f more budget zs (omega (arith, h, short)) k
            there) r.value r.begun r.ended seen
      ]

  string_by_rejects : (budget l : Option ℕ) (xs us : List ℕ)
      → length_at name major xs ≡ Ok (l, us) → string_by name major budget l us ≡ Err (z, ys)
      → SeenAreBytes xs ys → RejectsString name major xs budget z ys
  string_by_rejects budget (Some k) xs us e f seen = string_cut (known_cut [] k xs us e f seen)
  string_by_rejects budget None xs us e f seen =
      let o = length_none name major xs us e in
      let p = (length_passed name major None xs us e).0 in
      let r = chunks_stop (suc (length us)) [] budget us (omega arith) f (subst
      (λ (zs : List ℕ). SeenAreBytes zs ys) (sym p.left)
      (seen_after p.count xs ys p.within seen)) in
      string_indefinite o.0 (subst (λ zs. RejectsIndefinite name major zs budget z ys) o.1 r)

pub string_rejects : (name : List ℕ) (major : ℕ) (budget : Option ℕ) (xs : List ℕ) (z : InputError)
    (ys : List ℕ) → string_at name major budget xs ≡ Err (z, ys) → SeenAreBytes xs ys
    → RejectsString name major xs budget z ys
string_rejects name major budget xs z ys e seen =
    elim (err_parts (length_at name major xs) (string_by name major budget) z ys e) [
      | inl r ↦ (let h = no_length name major xs z ys r in string_head_rejected h.0 h.1)
      | inr r ↦ string_by_rejects name major z ys budget r.value xs r.rest r.begun r.ended seen
    ]
