-- What a string rejects is not read: the program answers it with an error.
use Rattle.std.proofs.Common.{◌≡◌, ℕ, ◌<◌, inl, List, [], ◌∷◌, length, drop, Option, Bool}
use Rattle.std.proofs.Common.{refl, sym, ap, ◌∙◌, subst, arith, ◌≢◌, zero, suc, None}
use Rattle.std.proofs.Common.{Some, Ok, Err, false, lt-ltb, ne_eqb, rules}
use Rattle.std.specs.Prelude.{IsUtf8}
use Rattle.cbor4ii_items.specs.Head.{break}
use Rattle.cbor4ii_items.specs.Lent.{ReadsBorrowed, RejectsBorrowed, lent_head_rejected, too_few}
use Rattle.cbor4ii_items.specs.Lent.{lent_no_utf8}
use Rattle.cbor4ii_items.specs.NeverBoth.{NeverBoth}
use Rattle.cbor4ii_items.specs.InputError.{InputError}
use Rattle.cbor4ii_items.specs.Strings.{ReadsString, ReadsText, CutContent, RejectsChunk}
use Rattle.cbor4ii_items.specs.Strings.{no_chunk_byte, no_step, chunk_indefinite, chunk_rejected}
use Rattle.cbor4ii_items.specs.Strings.{chunk_cut, RejectsString, string_head_rejected, string_cut}
use Rattle.cbor4ii_items.specs.Strings.{string_indefinite, RejectsText, no_string, no_utf8}
use Rattle.cbor4ii_items.specs.Strings.{joined_content}
use Rattle.cbor4ii_items.specs.Laws.Heads.{head_one, head_read}
use Rattle.cbor4ii_items.specs.Laws.LeavesApart.{head_apart}
use Rattle.cbor4ii_items.specs.Laws.Strings.{BeginsWith, head_not_break, definite_within}
use Rattle.cbor4ii_items.specs.Laws.Strings.{string_one, three_small, length_known}
use Rattle.cbor4ii_items.specs.Laws.Strings.{length_indefinite, chunks_again, string_again}
use Rattle.cbor4ii_items.specs.Laws.Outcome.{never_twice}
use Rattle.std.proofs.lemmas.List.{length-drop}
use Rattle.cbor4ii_items.specs.Reading.{go_on}
use Rattle.cbor4ii_items.specs.ReadStrings.{content_on, break_at, chunk_by, chunk_inside_at}
use Rattle.cbor4ii_items.specs.ReadStrings.{chunk_at, chunks_at, string_by, string_at}
use Rattle.cbor4ii_items.specs.Laws.Chunks.{chunks_more}
use Rattle.cbor4ii_items.specs.Laws.HeadErrors.{err_as, length_errs}

-- ---- a content that is cut

-- what is missing is what the program says
content_errs : (name content : List ℕ) (major : ℕ) (xs : List ℕ) (e : InputError) (x : List ℕ)
    → major < 8 → (c : CutContent name major xs e x)
    → content_on name c.count content (drop c.before xs) ≡ Err (e, x)
content_errs name content major xs e x m c =
    search (rules, head_read, length-drop, lt-ltb, err_as)

-- ---- chunks

module _ (name : List ℕ) (major : ℕ) (small : major < 7) (budget : Option ℕ) (content : List ℕ)
  where
    -- another byte than a break stays
    stays : (xs : List ℕ) → xs ≢ [] → (BeginsWith xs break → ⊥) → break_at xs ≡ Ok (false, xs)
    stays [] some other = absurd (some refl)
    stays (b ∷ bs) some other = search (rules, ne_eqb)

    -- where no break comes, the error is that of the chunk
    first_errs : (xs : List ℕ) (e : InputError) (x : List ℕ) → xs ≢ []
        → (BeginsWith xs break → ⊥) → chunk_at name major budget content xs ≡ Err (e, x)
        → chunks_at name major budget content xs ≡ Err (e, x)
    first_errs xs e x some other h = search (rules, chunks_more, stays)

    -- where a step is left, a chunk is read as it is under it
    under : (steps : Option ℕ) (xs : List ℕ) → steps ≢ Some 0
        → chunk_at name major steps content xs ≡ chunk_inside_at name major content xs
    under None xs some = refl
    under (Some zero) xs some = absurd (some refl)
    under (Some (suc left)) xs some = refl

    stop_errs : (xs : List ℕ) (e : InputError) (x : List ℕ) → RejectsChunk name major xs budget e x
        → chunks_at name major budget content xs ≡ Err (e, x)
    stop_errs xs e x (no_chunk_byte is f g) = search (rules, err_as)
    stop_errs xs e x (no_step some other none f g) = search (rules, err_as, first_errs)
    stop_errs xs e x (chunk_indefinite o is f) =
        search (rules, err_as, first_errs, under, length_indefinite)
    stop_errs xs e x (chunk_rejected o other definite some s) =
        search (rules, first_errs, under, length_errs)
    stop_errs xs e x (chunk_cut o c) =
        first_errs xs e x (λ none. (let is = c.head.is in cc))
        (head_not_break major xs c.count c.before (omega (arith, small)) c.head)
        (under budget xs o ∙ (ap (λ z. go_on z (chunk_by name content))
        (length_known name major xs c.count c.before (omega (arith, small)) c.head)
        ∙ content_errs name content major xs e x (omega (arith, small)) c))

-- ---- strings

pub string_errs : (name : List ℕ) (major : ℕ) → major < 7 → (xs : List ℕ) (budget : Option ℕ)
    (e : InputError) (x : List ℕ) → RejectsString name major xs budget e x
    → string_at name major budget xs ≡ Err (e, x)
string_errs name major m xs budget e x (string_head_rejected other s) =
    ap (λ z. go_on z (string_by name major budget)) (length_errs name major xs e x other s)
string_errs name major m xs budget e x (string_cut c) =
    ap (λ z. go_on z (string_by name major budget))
    (length_known name major xs c.count c.before (omega (arith, m)) c.head)
    ∙ content_errs name [] major xs e x (omega (arith, m)) c
string_errs name major m xs budget e x (string_indefinite begins s) =
    ap (λ z. go_on z (string_by name major budget)) (length_indefinite name major xs begins)
    ∙ (chunks_again s.chunks name [] major budget (drop 1 xs) s.between (omega (arith, m)) s.fits
    s.read ∙ stop_errs name major m budget (joined_content s.chunks)
    (drop s.between (drop 1 xs)) e x s.stop)

pub string_apart : (name : List ℕ) (major : ℕ) → major < 7
    → NeverBoth (ReadsString major) (RejectsString name major)
string_apart name major m xs budget err rest s v n c p fits =
    never_twice (string_at name major budget xs)
    (string_again name major budget xs v n c (omega (arith, m)) p fits)
    (string_errs name major m xs budget err rest s)

pub text_apart : (name : List ℕ) → NeverBoth ReadsText (RejectsText name)
text_apart name xs budget err rest (no_string s) v n c p fits =
    string_apart name 3 (omega arith) xs budget err rest s v n c p.0 fits
text_apart name xs budget err rest (no_utf8 content k d q f other e l) v n c p fits =
    let same = string_one 3 xs content v k n d c three_small q p.0 in
    other (subst IsUtf8 (sym same.2) p.1)

pub lent_apart : {V : Type 0} (name : List ℕ) (major : ℕ) (is_text : Bool) (content : V → List ℕ)
    → major < 8 → NeverBoth (ReadsBorrowed major is_text content)
    (RejectsBorrowed name major is_text)
lent_apart name major is_text content m xs budget err rest (lent_head_rejected s) v n c p fits =
    head_apart name major 8 xs err rest (length (content v)) p.0.before s p.0.head
lent_apart name major is_text content m xs budget err rest (too_few count before h short e f) v
    n c p fits =
    let same = head_one major 8 xs count (length (content v)) before p.0.before m h p.0.head in
    absurd (omega (
      arith,
      short,
      same.0,
      same.1,
      p.0.size,
      (definite_within major xs (content v) n m p.0).0,
    ))
lent_apart name major is_text content m xs budget err rest
    (lent_no_utf8 items k t q other e f) v n c p fits = search (rules, string_one, inl)
