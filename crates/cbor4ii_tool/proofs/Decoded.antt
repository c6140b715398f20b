-- An integer, as the codec reads and rejects it.
use Rattle.std.proofs.Common.{◌≡◌, ℕ, zero, suc, ◌+◌, ◌*◌, ◌/◌, ◌<◌, ◌≤◌, inl, inr, List, [], ◌∷◌}
use Rattle.std.proofs.Common.{◌↔◌, length, get_or, take, drop, Option, Some, false, IsTrue, Ok, Err}
use Rattle.std.proofs.Common.{refl, sym, ap, ◌∙◌, subst, arith, eqb, eqb-true, eq-eqb}
use Rattle.cbor4ii_rw.specs.View.{View, IfKnown}
use Rattle.cbor4ii_rw.specs.Reader.{IsPrefix, Shows, Failed}
use Rattle.cbor4ii_rw.specs.declared.error.DecodeError.{DecodeError}
use Rattle.cbor4ii_rw.specs.declared.error.DecodeError.TheVariants.{Read, OutOfMemory}
use Rattle.cbor4ii_items.specs.Head.{in_first, additional, IsBytes}
use Rattle.cbor4ii_items.specs.Heads.{ReadsHead, RejectsHead, NotAHead, CutHead}
use Rattle.cbor4ii_items.specs.Laws.Heads.{additional-lt, rest_after_head, cut_head, byte_count-le}
use Rattle.cbor4ii_items.specs.InputError.{InputError, mismatch, eof, is_out_of_memory}
use Rattle.cbor4ii_items.specs.Moves.{Took, Moves}
use Rattle.cbor4ii_items.specs.Decoding.{Rejects}
use Rattle.cbor4ii_items.specs.Numbers.{RejectsArgument}
use Rattle.cbor4ii_tool.specs.Fault.{kind_of}
use Rattle.cbor4ii_tool.specs.Integer.{IntegerHead, IsIntegerHead, BeginsNoInteger, IsCutInteger}
use Rattle.cbor4ii_tool.specs.Reading.{major_of_integer, integer_argument, BeginsNegative}
use Rattle.cbor4ii_tool.specs.Reading.{TakesInteger, ReadsInteger, RejectsInteger}
use Rattle.cbor4ii_tool.specs.declared.integer.Integer.{Integer}
use Rattle.cbor4ii_tool.specs.declared.integer.Integer.TheVariants.{Unsigned, Negative}

-- ---- a look at the first byte

pub at_end : (shown xs : List ℕ) → IsPrefix 1 shown xs → length shown < 1
    → IsTrue false ↔ BeginsNegative xs
at_end shown xs prefix h =
    let none : xs ≡ [] = prefix.ends (omega arith) (omega (arith, h)) in
    (λ t. absurd (never t), λ n. absurd (subst BeginsNegative none n))
  where
    never : IsTrue false → ⊥
    never t = cc

pub at_first : (shown xs : List ℕ) (major : ℕ) → IsPrefix 1 shown xs → 1 ≤ length shown
    → major ≡ get_or shown 0 0 / 32 → IsTrue (eqb major 1) ↔ BeginsNegative xs
at_first [] xs major prefix h e = absurd (omega arith)
at_first (s ∷ ss) [] major prefix h e = absurd (let begins = prefix.begins in cc)
at_first (s ∷ ss) (x ∷ xs) major prefix h e =
    let same : x ≡ s = let begins = prefix.begins in cc in
    let high : x / 32 ≡ major = ap (λ (b : ℕ). b / 32) same ∙ sym e in
    (λ t. high ∙ eqb-true major 1 t, λ n. eq-eqb major 1 (sym high ∙ n))

-- ---- a head that is read

major_small : (integer : Integer) → major_of_integer integer ≤ 1
major_small (Unsigned n) = omega arith
major_small (Negative n) = omega arith

taken : (integer : Integer) (xs : List ℕ) (n : ℕ) (new : Option (List ℕ))
    → ReadsHead (major_of_integer integer) 8 xs (integer_argument integer) n
    → new ≡ Some (drop n xs)
    → TakesInteger integer xs new
taken integer xs n new h left = record {
  width = h.wide;
  valid = record { major = major_small integer; fits = h.fits };
  rest = h.rest;
  joined = h.is;
  left = left ∙ ap Some (rest_after_head (major_of_integer integer) 8 xs (integer_argument integer)
      n h);
}

-- an integer of the program's, read after a look at the first byte
pub accepted : {V E : Type 0} (integer : Integer) (v : V) (shown : List ℕ) (a b c : View)
    → Shows shown a b → Moves {E = E} b c (Ok v) → c.bound + 1 ≤ b.bound
    → IfKnown b.known (λ xs. (n : ℕ)
    × ReadsHead (major_of_integer integer) 8 xs (integer_argument integer) n
    × (c.known ≡ Some (drop n xs))) → ReadsInteger integer a c
accepted integer v shown a b c shows moves progress reads = record {
  takes = λ xs known. let h = reads xs (shows.known xs known) in taken integer xs h.0 c.known
      h.1 h.2;
  bound = omega (arith, progress, shows.bound);
  failures = moves.by.failures ∙ shows.failures;
}

-- ---- a head that is rejected

-- an integer that begins with the first byte has this major type
abbrev pub IsOnly : ℕ → List ℕ → Type 0
IsOnly major [] = Unit {0}
IsOnly major (b ∷ bs) = (item : IntegerHead) → IsIntegerHead item
    → b ≡ 32 * item.major + additional item.width item.argument → item.major ≡ major

pub only_negative : (xs : List ℕ) → BeginsNegative xs → IsOnly 1 xs
only_negative [] h = absurd h
only_negative (b ∷ bs) h = λ item I is. let small =
    additional-lt item.argument item.width I.fits in omega (arith, h, small, is)

pub only_unsigned : (xs : List ℕ) → ¬ BeginsNegative xs → IsOnly 0 xs
only_unsigned [] none = tt
only_unsigned (b ∷ bs) none = λ item I is.
    let small = additional-lt item.argument item.width I.fits in
    let low = I.major in
    omega (arith, none, small, low, is)

-- what an error says of the bytes
abbrev Says : InputError → List ℕ → Type 0
Says (mismatch name found) xs = BeginsNoInteger xs
Says (eof name expect) xs = IsCutInteger xs
Says _ xs = ⊥

-- nothing at all begins the integer 0
cut_nothing : IsCutInteger []
cut_nothing = record {
  item = record { major = 0; argument = 0; width = in_first };
  integer = record { major = omega arith; fits = omega arith };
  missing = 0 ∷ [];
  some = λ e. cc;
  joined = refl;
}

other : (name : List ℕ) (major b : ℕ) (bs : List ℕ) (err : InputError) (rest : List ℕ)
    → IsOnly major (b ∷ bs) → NotAHead name major 8 b bs err rest → BeginsNoInteger (b ∷ bs)
other name major b bs err rest only h = record {
  first = b;
  more = bs;
  is = refl;
  other = λ item I is. h.none item.width (record {
    argument = item.argument;
    fits = I.fits;
    allowed = byte_count-le item.width;
    is = is ∙ ap (λ m. 32 * m + additional item.width item.argument) (only item I is);
  });
}

cut : (name : List ℕ) (major b : ℕ) (bs : List ℕ) (err : InputError) (rest : List ℕ) → major ≤ 1
    → IsBytes bs → CutHead name major 8 b bs err rest → IsCutInteger (b ∷ bs)
cut name major b bs err rest low bytes h =
    let all = cut_head major 8 b bs h.wide h.begins h.short bytes in
    record {
      item = record { major = major; argument = all.argument; width = h.wide };
      integer = record { major = low; fits = all.fits };
      missing = all.missing;
      some = all.some;
      joined = all.joined;
    }

says : (name : List ℕ) (major : ℕ) (xs : List ℕ) (err : InputError) (rest : List ℕ) → major ≤ 1
    → IsOnly major xs → (rest ≡ [] → IsBytes xs) → RejectsHead name major 8 xs err rest
    → Says err xs
says name major [] err rest low only bytes h = subst (λ r. Says r []) (sym h.0) cut_nothing
says name major (b ∷ bs) err rest low only bytes (inl h) =
    subst (λ r. Says r (b ∷ bs)) (sym h.answer) (other name major b bs err rest only h)
says name major (b ∷ bs) err rest low only bytes (inr h) =
    subst (λ r. Says r (b ∷ bs)) (sym h.answer)
    (cut name major b bs err rest low (bytes h.left).1 h)

whole_prefix : (n : ℕ) (xs : List ℕ) → drop n xs ≡ [] → take n xs ≡ xs
whole_prefix zero xs none = sym none
whole_prefix (suc n) [] none = refl
whole_prefix (suc n) (x ∷ xs) none = ap (λ ys. x ∷ ys) (whole_prefix n xs none)

-- where nothing is left, all was taken, byte by byte
all_bytes : (xs rest : List ℕ) (new : Option (List ℕ)) (n : ℕ) → Took xs new n → new ≡ Some rest
    → rest ≡ [] → IsBytes xs
all_bytes xs rest new n took left none =
    let e : drop n xs ≡ rest = let l = took.left in cc in
    subst IsBytes (whole_prefix n xs (e ∙ none)) took.bytes

-- the error of a number without memory, after a look at the first byte
pub rejected : {V E : Type 0} (name : List ℕ) (major : ℕ) (error : DecodeError E) (shown : List ℕ)
    (a b c : View) → major ≤ 1 → IfKnown a.known (IsOnly major) → Shows shown a b
    → Moves {V = V} b c (Err error)
    → (IsTrue (is_out_of_memory error) → IsTrue false)
    → Rejects (RejectsArgument name major 8) b c error → RejectsInteger (kind_of error) a c
rejected name major (Read e) shown a b c low only shows moves memory rejects =
    subst (λ n. Failed n c.failures) shows.failures moves.by.failures
rejected name major OutOfMemory shown a b c low only shows moves memory rejects = let none =
    memory refl in cc
rejected name major _ shown a b c low only shows moves memory rejects = λ xs known.
    let stop = rejects.at xs (shows.known xs known) in
    let took = moves.by.rest xs (shows.known xs known) in
    says name major xs _ stop.0 low (only xs known) (all_bytes xs stop.0 c.known took.0 took.1
    stop.1)
    stop.2
