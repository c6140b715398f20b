-- Names of fields, found among some names and taken.
use Rattle.std.proofs.Common.{◌≡◌, inl, ℕ, suc, ◌+◌, ◌<◌, ◌≤◌, ◌/◌, ◌%◌, List, []}
use Rattle.std.proofs.Common.{◌∷◌, length, take, drop, get_or, slice_index_or, Result, Ok, Err}
use Rattle.std.proofs.Common.{refl, sym, ap, ap₂, ◌∙◌, subst, arith, ◌++◌, rules}
use Rattle.std.proofs.Math.Seq.{take-append_seam}
use Rattle.std.proofs.lemmas.List.{length-take-le, take-append-drop, append_assoc}
use Rattle.std.specs.Prelude.{IsUtf8, IfSome, Option, None, Some, true, codes}
use Rattle.std.specs.declared.alloc.Global.{Global}
use Rattle.std.specs.declared.string.String.{String}
use denote.Ref.{Bor}
use Rattle.cbor4ii_rw.specs.View.{View, IfKnown}
use Rattle.cbor4ii_rw.specs.Reader.{Shows, Advances, IsPrefix}
use Rattle.cbor4ii_rw.specs.declared.error.DecodeError.{DecodeError}
use Rattle.cbor4ii_items.specs.Decoding.{Decodes, Format, NoneRead}
use Rattle.cbor4ii_items.specs.Budget.{CostFits}
use Rattle.cbor4ii_items.specs.Head.{Width, in_first, one, head, byte_count}
use Rattle.cbor4ii_items.specs.Head.{HeadFits}
use Rattle.cbor4ii_items.specs.Heads.{ReadsHead}
use Rattle.cbor4ii_items.specs.Lent.{Stays}
use Rattle.cbor4ii_items.specs.InputError.{InputError, input_error_of}
use Rattle.cbor4ii_items.specs.Strings.{ReadsDefiniteString, ReadsText, ReadsTextAs, RejectsText}
use Rattle.cbor4ii_items.specs.Strings.{text_content}
use Rattle.cbor4ii_items.specs.Laws.StringsApart.{text_apart}
use Rattle.cbor4ii_items.specs.Laws.Answering.{fits_zero}
use Rattle.cbor4ii_items.specs.Laws.Calls.{ok, err_after, of_exact, decodes_exactly}
use Rattle.cbor4ii_items.specs.Laws.Contents.{lends_prefix, first_bytes}
use Rattle.cbor4ii_items.specs.Laws.Steps.{kept_then, moves_err}
use Rattle.cbor4ii.specs.FieldKey.{FieldKey, key_format, text_key}
use Rattle.cbor4ii_items.specs.Laws.Heads.{rest_after_head}
use Rattle.cbor4ii.specs.Names.{StandsAt, StandsAfter, IfWholeAfter, IsWholeName, IfWhole}
use Rattle.cbor4ii.specs.Names.{KeyAt, TakesKey}
use Rattle.cbor4ii.specs.declared.serde.de.names.Seen.{Seen}
use Rattle.cbor4ii.specs.declared.serde.de.names.Seen.TheVariants.{Whole}
use Rattle.cbor4ii.specs.Typed.{typed_format}
use Rattle.cbor4ii.proofs.Forms.{sound_by}

-- ---- a name that stands whole in what is shown

pub stands_after : (names : List (Bor (List ℕ))) (shown : List ℕ) (before size k at : ℕ)
    → before + size ≤ length shown → StandsAt (take k (drop before shown)) names at → k ≡ size
    → IsUtf8 (take k (drop before shown)) → StandsAfter names shown before size at (before + size)
stands_after names shown before size k at within which same utf8 = search rules

first_of : (b size : ℕ) → b / 32 ≡ 3 → size ≡ b % 32 → b ≡ 0x60 + size
first_of b size high low = omega (arith, high, low)

short_by : (names : List (Bor (List ℕ))) (shown : List ℕ) (at size n : ℕ) → 1 ≤ length shown
    → slice_index_or shown 0 0 / 32 ≡ 3 → size ≡ slice_index_or shown 0 0 % 32 → size ≤ 23
    → ((i : ℕ) → get_or shown i 0 < 256) → StandsAfter names shown 1 size at n
    → IsWholeName names shown at n
short_by names [] at size n some high low few bytes s = absurd (omega (arith, some))
short_by names (b ∷ bs) at size n some high low few bytes s =
    let long : length (take size bs) ≡ size =
    length-take-le size bs (omega (arith, s.whole, s.within)) in
    let e : n ≡ suc size = omega (arith, s.whole) in
    record {
      name = take size bs;
      width = in_first;
      short = omega arith;
      fits = omega (arith, long, few);
      utf8 = s.utf8;
      size = omega (arith, e, long);
      within = s.within;
      stands =
          ap (λ j. take j (b ∷ bs)) e
          ∙ ap (λ z. z ∷ take size bs) (first_of b size high low ∙ ap (λ k. 0x60 + k) (sym long));
      bytes = first_bytes n (b ∷ bs) bytes;
      which = s.which;
    }

-- after a head of one byte
pub short_name : (names : List (Bor (List ℕ))) (shown : List ℕ) (size : ℕ) (r : Seen)
    → 1 ≤ length shown → slice_index_or shown 0 0 / 32 ≡ 3
    → size ≡ slice_index_or shown 0 0 % 32 → size ≤ 23 → ((i : ℕ) → get_or shown i 0 < 256)
    → IfWholeAfter names shown 1 size r → IfWhole names shown r
short_name names shown size (Whole at n) some high low few bytes s =
    short_by names shown at size n some high low few bytes s
short_name names shown size _ some high low few bytes s = tt

lowest : (v : ℕ) → v < 256 → v ≡ v % 256
lowest v small = omega (arith, small)

long_by : (names : List (Bor (List ℕ))) (shown : List ℕ) (at n : ℕ) → 2 ≤ length shown
    → slice_index_or shown 0 0 ≡ 0x78 → ((i : ℕ) → get_or shown i 0 < 256)
    → StandsAfter names shown 2 (slice_index_or shown 1 0) at n → IsWholeName names shown at n
long_by names (b ∷ size ∷ bs) at n some first bytes s =
    let long : length (take size bs) ≡ size =
    length-take-le size bs (omega (arith, s.whole, s.within)) in
    let e : n ≡ suc (suc size) = omega (arith, s.whole) in
    let small : size < 256 = bytes 1 in
    record {
      name = take size bs;
      width = one;
      short = omega arith;
      fits = omega (arith, long, small);
      utf8 = s.utf8;
      size = omega (arith, e, long);
      within = s.within;
      stands =
          ap (λ j. take j (b ∷ size ∷ bs)) e
          ∙ ap₂ (λ x y. x ∷ y ∷ take size bs) first
          (lowest size small ∙ ap (λ k. k % 256) (sym long));
      bytes = first_bytes n (b ∷ size ∷ bs) bytes;
      which = s.which;
    }
long_by names _ at n some first bytes s = absurd (omega (arith, some))

-- after a head of two bytes
pub long_name : (names : List (Bor (List ℕ))) (shown : List ℕ) (r : Seen) → 2 ≤ length shown
    → slice_index_or shown 0 0 ≡ 0x78 → ((i : ℕ) → get_or shown i 0 < 256)
    → IfWholeAfter names shown 2 (slice_index_or shown 1 0) r → IfWhole names shown r
long_name names shown (Whole at n) some first bytes s =
    long_by names shown at n some first bytes s
long_name names shown _ some first bytes s = tt

-- the bytes begin with it
definite_name : (xs name : List ℕ) (w : Width) (n : ℕ) → byte_count w ≤ 1
    → HeadFits w (length name) → n ≡ 1 + byte_count w + length name
    → take n xs ≡ head 3 (length name) w ++ name → ReadsDefiniteString 3 xs name n
definite_name xs name w n short fits size stands =
    let is : xs ≡ head 3 (length name) w ++ (name ++ drop n xs) =
    sym (take-append-drop n xs) ∙ ap (λ zs. zs ++ drop n xs) stands
    ∙ append_assoc (head 3 (length name) w) name (drop n xs) in
    let h : ReadsHead 3 8 xs (length name) (suc (byte_count w)) = record {
      wide = w;
      allowed = omega (arith, short);
      fits = fits;
      rest = name ++ drop n xs;
      is = is;
      count = refl;
    } in
    record {
      before = suc (byte_count w);
      head = h;
      stands =
          ap (take (length name)) (rest_after_head 3 8 xs (length name) (suc (byte_count w)) h)
          ∙ take-append_seam name (drop n xs);
      size = omega (arith, size);
    }

pub takes_shown : {names : List (Bor (List ℕ))} {shown : List ℕ} {at n want : ℕ} {a m b : View}
    → Shows shown a m → IfKnown a.known (IsPrefix want shown) → IsWholeName names shown at n
    → Advances n m b → KeyAt text_key names at a b
takes_shown {n = n} {a = a} s prefix w adv =
    let l = lends_prefix s prefix w.within w.bytes refl adv in
    record {
      label = w.name;
      kept = l.kept;
      progress = omega (arith, w.size, adv.bound, s.bound);
      read = record {
        at = λ xs known. (let p = l.at xs known in record {
          count = n;
          cost = 0;
          read = (
            inl (
              definite_name xs w.name w.width n w.short w.fits w.size (sym p.2 ∙ w.stands),
              refl,
            ),
            w.utf8,
          );
          fits = fits_zero a.budget;
          left = p.1;
        });
      };
      which = w.which;
    }

-- ---- a name that was read as a text

-- a text that the program owns
abbrev text_format : Format (String Global)
text_format = typed_format (ReadsTextAs text_content) (λ s t. text_content s ≡ text_content t)
    (RejectsText (codes "str")) true true

pub takes_text : {E : Type 0} {names : List (Bor (List ℕ))} {at : ℕ} {a b : View}
    {name : String Global} (known_name : List ℕ) → known_name ≡ text_content name
    → Decodes {E = E} text_format a b (Ok name) → StandsAt known_name names at
    → KeyAt text_key names at a b
takes_text {names = names} {at = at} {name = name} known_name is d which = record {
  label = text_content name;
  kept = d.moves.by;
  progress = d.progress refl;
  read = sound_by d.sound (λ xs n c r. r);
  which = subst (λ zs. StandsAt zs names at) is which;
}

none_read : (xs : List ℕ) (budget : Option ℕ) (left : Option (List ℕ)) (o : Option InputError)
    → IfSome o (λ err. (rest : List ℕ) × (left ≡ Some rest)
    × RejectsText (codes "str") xs budget err rest)
    → IfSome o (λ err. NoneRead ReadsText xs budget)
none_read xs budget left None h = tt
none_read xs budget left (Some err) h =
    λ name n c p fits. text_apart (codes "str") xs budget err h.0 h.2 name n c p fits

-- what is rejected as a text is no name
pub no_name : {E : Type 0} {a b : View} {e : DecodeError E} → Decodes text_format a b (Err e)
    → Decodes (key_format text_key) a b (Err e)
no_name {a = a} {b = b} {e = e} d = record {
  moves = moves_err d.moves;
  progress = λ some. tt;
  memory = d.memory;
  sound = tt;
  complete = λ exact. record {
    at = λ xs known. none_read xs a.budget b.known (input_error_of e)
        ((d.rejects exact).at xs known);
  };
  rejects = d.rejects;
  begins = d.begins;
}

pub key_taken : {E : Type 0} {key : FieldKey} {labels : List (Bor (List ℕ))} {at : ℕ} {a b : View}
    → (h : KeyAt key labels at a b) → Decodes {E = E} (key_format key) a b (Ok h.label)
key_taken {key = key} h = ok (key_format key) h.kept (λ some. h.progress) h.read

-- ---- after a look that took nothing

pub stays_takes : {names : List (Bor (List ℕ))} {at : ℕ} {a m b : View} → Stays a m
    → KeyAt text_key names at m b → KeyAt text_key names at a b
stays_takes s h = record {
  label = h.label;
  kept = kept_then s.kept h.kept;
  progress = omega (arith, s.kept.bound, h.progress);
  read = record {
    at = λ xs known. (let p = h.read.at xs (s.known xs known) in record {
      count = p.count;
      cost = p.cost;
      read = p.read;
      fits = subst (CostFits p.cost) s.kept.budget p.fits;
      left = p.left;
    });
  };
  which = h.which;
}

pub then_takes : {E : Type 0} (names : List (Bor (List ℕ))) {a m : View} (b : View)
    (r : Result ℕ (DecodeError E)) → Stays a m → TakesKey text_key names m b r → TakesKey text_key
    names a b r
then_takes names b (Ok at) s h = stays_takes s h
then_takes names b (Err e) s h =
    decodes_exactly (err_after (key_format text_key) (key_format text_key) s.kept (λ xs known. (
      xs,
      s.known xs known,
      record { none = λ is none. none; rejects = λ z ys stop. stop; begins = λ z ys stop. stop },
    )) (λ owned. owned) (λ takes. takes) (of_exact h))
