-- Strings are read exactly as they are encoded.
use Rattle.std.proofs.Common.{rules}
use Rattle.std.proofs.Common.{◌≡◌, ◌≢◌, ℕ, zero, suc, ◌+◌, ◌<◌, ◌≤◌, inl, inr, List, [], ◌∷◌}
use Rattle.std.proofs.Common.{◌++◌, length, drop, take, Option, None, Some, Ok, true, false, refl}
use Rattle.std.proofs.Common.{sym, ap, ap₂, ◌∙◌, subst, arith, eq-eqb, ne_eqb, append_assoc}
use Rattle.std.proofs.lemmas.List.{length-drop, append-nil, length-take}
use Rattle.cbor4ii_items.specs.Head.{break, indefinite_head}
use Rattle.cbor4ii_items.specs.Reading.{go_on}
use Rattle.cbor4ii_items.specs.Decoding.{IsLawful}
use Rattle.cbor4ii_items.specs.Budget.{CostFits}
use Rattle.cbor4ii_items.specs.Laws.Outcome.{same_value}
use Rattle.cbor4ii_items.specs.Heads.{ReadsHead}
use Rattle.cbor4ii_items.specs.Laws.Heads.{head_read, additional-lt}
use Rattle.cbor4ii_items.specs.ReadHead.{head_at, length_at}
use Rattle.cbor4ii_items.specs.ReadStrings.{content_on, break_at, chunk_by, chunk_inside_at}
use Rattle.cbor4ii_items.specs.ReadStrings.{chunk_at, chunks_at, string_by, string_at}
use Rattle.cbor4ii_items.specs.Laws.Chunks.{chunks_by, chunks_more}
use Rattle.cbor4ii_items.specs.Laws.DefiniteContent.{content_whole}
use Rattle.cbor4ii_items.specs.Laws.Lawful.{head_kept}
use Rattle.cbor4ii_items.specs.Laws.Prefixes.{drop_more, two_prefixes, after_prefix, the_prefix}
use Rattle.cbor4ii_items.specs.Strings.{ReadsDefiniteString, ReadsChunks, joined_content}
use Rattle.cbor4ii_items.specs.Strings.{chunk_cost, ReadsIndefiniteString, ReadsString, ReadsAs}
use Rattle.cbor4ii_items.specs.Strings.{ReadsTextAs, as_format, text_format}

-- ---- the first byte

-- the bytes begin with b
abbrev pub BeginsWith : List ℕ → ℕ → Type 0
BeginsWith xs b = take 1 xs ≡ b ∷ []

pub head_first : (major : ℕ) (xs : List ℕ) (v n : ℕ) → major < 8 → ReadsHead major 8 xs v n
    → (b : ℕ) × (bs : List ℕ) × (xs ≡ b ∷ bs) × (b ≢ indefinite_head major) × (b ≢ break)
head_first major xs v n m h = search (rules, additional-lt)

-- a head is neither an indefinite length nor a break
pub head_not_indefinite : (major : ℕ) (xs : List ℕ) (v n : ℕ) → major < 8 → ReadsHead major 8 xs v n
    → BeginsWith xs (indefinite_head major) → ⊥
head_not_indefinite major xs v n m h e = search (rules, head_first)

pub head_not_break : (major : ℕ) (xs : List ℕ) (v n : ℕ) → major < 8 → ReadsHead major 8 xs v n
    → BeginsWith xs break → ⊥
head_not_break major xs v n m h e = search (rules, head_first)

-- ---- lengths

length_by_head : (name : List ℕ) (major v b : ℕ) (bs ys : List ℕ) → b ≢ indefinite_head major
    → head_at name major 8 (b ∷ bs) ≡ Ok (v, ys) → length_at name major (b ∷ bs) ≡ Ok (Some v, ys)
length_by_head name major v b bs ys other e = search (rules, ne_eqb)

pub length_known : (name : List ℕ) (major : ℕ) (xs : List ℕ) (v n : ℕ) → major < 8
    → ReadsHead major 8 xs v n → length_at name major xs ≡ Ok (Some v, drop n xs)
length_known name major xs v n m h = search (rules, head_first, head_read, length_by_head)

pub length_indefinite : (name : List ℕ) (major : ℕ) (xs : List ℕ) → BeginsWith xs
    (indefinite_head major)
    → length_at name major xs ≡ Ok (None, drop 1 xs)
length_indefinite name major [] h = cc
length_indefinite name major (b ∷ bs) h = search (rules, eq-eqb)

pub break_again : (xs : List ℕ) → BeginsWith xs break → break_at xs ≡ Ok (true, drop 1 xs)
break_again [] h = cc
break_again (b ∷ bs) h = search (rules, eq-eqb)

no_break : (b : ℕ) (bs xs : List ℕ) → xs ≡ b ∷ bs → b ≢ break → break_at xs ≡ Ok (false, xs)
no_break b bs xs is other = search (rules, ne_eqb)

-- ---- strings of definite length

fits_content : (v ys : List ℕ) → take (length v) ys ≡ v → length v ≤ length ys
fits_content v ys e = omega (arith, ap length e, length-take (length v) ys)

pub definite_within : (major : ℕ) (xs v : List ℕ) (n : ℕ) → major < 8
    → ReadsDefiniteString major xs v n → (n ≤ length xs) × (1 ≤ n)
definite_within major xs v n m h = search (rules, head_read, fits_content, length-drop)

-- the content after its head
definite_content : (name before : List ℕ) (major : ℕ) (xs v : List ℕ) (n : ℕ)
    → (h : ReadsDefiniteString major xs v n)
    → content_on name (length v) before (drop h.before xs) ≡ Ok (before ++ v, drop n xs)
definite_content name before major xs v n h =
    search (rules, content_whole, fits_content, drop_more)

inside_again : (name before : List ℕ) (major : ℕ) (xs v : List ℕ) (n : ℕ) → major < 8
    → ReadsDefiniteString major xs v n
    → chunk_inside_at name major before xs ≡ Ok (before ++ v, drop n xs)
inside_again name before major xs v n m h =
    ap (λ z. go_on z (chunk_by name before))
    (length_known name major xs (length v) h.before m h.head)
    ∙ definite_content name before major xs v n h

pub definite_again : (name : List ℕ) (major : ℕ) (budget : Option ℕ) (xs v : List ℕ) (n : ℕ)
    → major < 8 → ReadsDefiniteString major xs v n
    → string_at name major budget xs ≡ Ok (v, drop n xs)
definite_again name major budget xs v n m h =
    ap (λ z. go_on z (string_by name major budget))
    (length_known name major xs (length v) h.before m h.head)
    ∙ definite_content name [] major xs v n h

-- with other bytes after it
pub definite_alone : (major : ℕ) (xs ys v : List ℕ) (n : ℕ) → major < 8
    → ReadsDefiniteString major xs v n → ReadsDefiniteString major (take n xs ++ ys) v n
definite_alone major xs ys v n m h =
    let i = h.before in
    let k = length v in
    let p = head_kept major 8 xs ys k i k n m h.head h.size in
    record {
      before = i;
      head = p.0;
      stands =
          ap (take k) p.1
          ∙ (the_prefix k (drop i xs) ys (fits_content v (drop i xs) h.stands) ∙ h.stands);
      size = h.size;
    }

-- ---- chunks

-- one step is left, or steps are not counted
abbrev pub HasStep : Option ℕ → Type 0
HasStep budget = CostFits 1 budget

chunk_again : (name before : List ℕ) (major : ℕ) (budget : Option ℕ) (xs v : List ℕ) (n : ℕ)
    → major < 8 → HasStep budget → ReadsDefiniteString major xs v n
    → chunk_at name major budget before xs ≡ Ok (before ++ v, drop n xs)
chunk_again name before major None xs v n m s h = inside_again name before major xs v n m h
chunk_again name before major (Some zero) xs v n m s h = absurd (omega (arith, s))
chunk_again name before major (Some (suc left)) xs v n m s h =
    inside_again name before major xs v n m h

chunks_once : (name before : List ℕ) (major : ℕ) (budget : Option ℕ) (xs v : List ℕ) (n : ℕ)
    → major < 8 → HasStep budget → ReadsDefiniteString major xs v n
    → chunks_at name major budget before xs ≡ chunks_at name major budget (before ++ v) (drop n xs)
chunks_once name before major budget xs v n m s h =
    let f = head_first major xs (length v) h.before m h.head in
    ap (λ p. p xs) (chunks_more name major budget before)
    ∙ (ap (λ z. go_on z (chunks_by name major budget before (chunks_at name major budget)))
    (no_break f.0 f.1 xs f.2 f.4)
    ∙ ap (λ z. go_on z (chunks_at name major budget))
    (chunk_again name before major budget xs v n m s h))

fewer : (vs : List (List ℕ)) (budget : Option ℕ) → HasStep budget → CostFits (chunk_cost vs) budget
fewer [] None h = tt
fewer [] (Some left) h = omega arith
fewer (v ∷ vs) budget h = h

pub chunks_again : (chunks : List (List ℕ)) (name before : List ℕ) (major : ℕ) (budget : Option ℕ)
    (xs : List ℕ) (n : ℕ) → major < 8 → CostFits (chunk_cost chunks) budget
    → ReadsChunks major chunks xs n
    → chunks_at name major budget before xs ≡ chunks_at name major budget
    (before ++ joined_content chunks)
    (drop n xs)
chunks_again [] name before major budget xs n m s h =
    ap₂ (chunks_at name major budget) (sym (append-nil before)) (sym (ap (λ j. drop j xs) h))
chunks_again (v ∷ vs) name before major budget xs n m s h =
    search (rules, fewer, chunks_once, append_assoc, drop_more, (chunks_again vs name (before ++ v) major budget (drop h.0 xs) h.1 m (fewer vs budget s) h.3))

chunks_alone : (chunks : List (List ℕ)) (major : ℕ) (xs ys : List ℕ) (n : ℕ) → major < 8
    → ReadsChunks major chunks xs n → ReadsChunks major chunks (take n xs ++ ys) n
chunks_alone [] major xs ys n m h = h
chunks_alone (v ∷ vs) major xs ys n m h =
    let i = h.0 in
    let j = h.1 in
    let e : take n xs ++ ys ≡ take i xs ++ (take j (drop i xs) ++ ys) =
    two_prefixes i j n xs ys h.4 in
    let trailing : drop i (take n xs ++ ys) ≡ take j (drop i xs) ++ ys = ap (drop i) e
    ∙ after_prefix i xs (take j (drop i xs) ++ ys) (definite_within major xs v i m h.2).0 in (
      i,
      j,
      subst (λ zs. ReadsDefiniteString major zs v i) (sym e)
          (definite_alone major xs (take j (drop i xs) ++ ys) v i m h.2),
      subst (λ zs. ReadsChunks major vs zs j) (sym trailing)
          (chunks_alone vs major (drop i xs) ys j m h.3),
      h.4,
    )

-- ---- strings of indefinite length

some_byte : (b : ℕ) (ys : List ℕ) → BeginsWith ys b → 1 ≤ length ys
some_byte b [] h = cc
some_byte b (y ∷ ys) h = omega arith

pub indefinite_within : (major : ℕ) (xs v : List ℕ) (n c : ℕ) → ReadsIndefiniteString major xs v n c
    → n ≤ length xs
indefinite_within major xs v n c h = search (rules, some_byte, length-drop)

pub indefinite_again : (name : List ℕ) (major : ℕ) (budget : Option ℕ) (xs v : List ℕ) (n c : ℕ)
    → major < 8 → ReadsIndefiniteString major xs v n c → CostFits c budget
    → string_at name major budget xs ≡ Ok (v, drop n xs)
indefinite_again name major budget xs v n c m h fits =
    let k = h.between in
    let steps : CostFits (chunk_cost h.chunks) budget =
    subst (λ (j : ℕ). CostFits j budget) h.cost fits in
    let there : drop k (drop 1 xs) ≡ drop (1 + k) xs = drop_more k 1 xs in
    let ended : break_at (drop k (drop 1 xs)) ≡ Ok (true, drop 1 (drop k (drop 1 xs))) =
    break_again (drop k (drop 1 xs)) (ap (take 1) there ∙ h.ends) in
    let last : drop 1 (drop k (drop 1 xs)) ≡ drop n xs = ap (drop 1) there ∙ (drop_more 1 (1 + k) xs
    ∙ ap (λ j. drop j xs) (let e : (1 + k) + 1 ≡ n = omega (arith, h.size) in e)) in
    ap (λ z. go_on z (string_by name major budget)) (length_indefinite name major xs h.begins)
    ∙ (chunks_again h.chunks name [] major budget (drop 1 xs) k m steps h.read
    ∙ (ap (λ p. p (drop k (drop 1 xs))) (chunks_more name major budget (joined_content h.chunks))
    ∙ (ap (λ z. go_on z
    (chunks_by name major budget (joined_content h.chunks) (chunks_at name major budget))) ended
    ∙ ap₂ (λ (us ws : List ℕ). Ok (us, ws)) (sym h.value) last)))

indefinite_alone : (major : ℕ) (xs ys v : List ℕ) (n c : ℕ) → major < 8 → ReadsIndefiniteString
    major xs v n c
    → ReadsIndefiniteString major (take n xs ++ ys) v n c
indefinite_alone major xs ys v n c m h =
    let k = h.between in
    let tail = take 1 (drop (1 + k) xs) ++ ys in
    let long = indefinite_within major xs v n c h in
    let e : take n xs ++ ys ≡ take (1 + k) xs ++ tail =
    two_prefixes (1 + k) 1 n xs ys (omega (arith, h.size)) in
    let f : take (1 + k) xs ++ tail ≡ take 1 xs ++ (take k (drop 1 xs) ++ tail) =
    two_prefixes 1 k (1 + k) xs tail refl in
    let first : take 1 (take n xs ++ ys) ≡ take 1 xs = ap (take 1) (e ∙ f)
    ∙ the_prefix 1 xs (take k (drop 1 xs) ++ tail) (omega (arith, long, h.size)) in
    let trailing : drop 1 (take n xs ++ ys) ≡ take k (drop 1 xs) ++ tail = ap (drop 1) (e ∙ f)
    ∙ after_prefix 1 xs (take k (drop 1 xs) ++ tail) (omega (arith, long, h.size)) in
    let end : drop (1 + k) (take n xs ++ ys) ≡ tail =
    ap (drop (1 + k)) e ∙ after_prefix (1 + k) xs tail (omega (arith, long, h.size)) in
    record {
      begins = first ∙ h.begins;
      chunks = h.chunks;
      between = k;
      read =
          subst (λ zs. ReadsChunks major h.chunks zs k) (sym trailing)
          (chunks_alone h.chunks major (drop 1 xs) tail k m h.read);
      ends =
          ap (take 1) end
          ∙ (the_prefix 1 (drop (1 + k) xs) ys (some_byte break (drop (1 + k) xs) h.ends)
          ∙ h.ends);
      value = h.value;
      size = h.size;
      cost = h.cost;
    }

-- a break comes at once, or a chunk does
cost_one : (vs ws : List (List ℕ)) (major : ℕ) (xs : List ℕ) (j k : ℕ) → major < 8
    → ReadsChunks major vs xs j → BeginsWith (drop j xs) break → ReadsChunks major ws xs k
    → BeginsWith (drop k xs) break → chunk_cost vs ≡ chunk_cost ws
cost_one [] [] major xs j k m p a q b = refl
cost_one [] (w ∷ ws) major xs j k m p a q b = search (rules, head_not_break)
cost_one (v ∷ vs) [] major xs j k m p a q b = search (rules, head_not_break)
cost_one (v ∷ vs) (w ∷ ws) major xs j k m p a q b = refl

-- ---- strings

pub string_again : (name : List ℕ) (major : ℕ) (budget : Option ℕ) (xs v : List ℕ) (n c : ℕ)
    → major < 8 → ReadsString major xs v n c → CostFits c budget
    → string_at name major budget xs ≡ Ok (v, drop n xs)
string_again name major budget xs v n c m (inl h) fits =
    definite_again name major budget xs v n m h.0
string_again name major budget xs v n c m (inr h) fits =
    indefinite_again name major budget xs v n c m h fits

pub string_within : (major : ℕ) (xs v : List ℕ) (n c : ℕ) → major < 8 → ReadsString major xs v n c
    → n ≤ length xs
string_within major xs v n c m (inl h) = (definite_within major xs v n m h.0).0
string_within major xs v n c m (inr h) = indefinite_within major xs v n c h

pub string_positive : (major : ℕ) (xs v : List ℕ) (n c : ℕ) → major < 8 → ReadsString major xs v n c
    → 1 ≤ n
string_positive major xs v n c m (inl h) = (definite_within major xs v n m h.0).1
string_positive major xs v n c m (inr h) = omega (arith, h.size)

pub string_alone : (major : ℕ) (xs ys v : List ℕ) (n c : ℕ) → major < 8 → ReadsString major xs v n c
    → ReadsString major (take n xs ++ ys) v n c
string_alone major xs ys v n c m (inl h) = inl (definite_alone major xs ys v n m h.0, h.1)
string_alone major xs ys v n c m (inr h) = inr (indefinite_alone major xs ys v n c m h)

same_cost : (major : ℕ) (xs v w : List ℕ) (n k c d : ℕ) → major < 8 → ReadsString major xs v n c
    → ReadsString major xs w k d → c ≡ d
same_cost major xs v w n k c d m (inl p) (inl q) = p.1 ∙ sym q.1
same_cost major xs v w n k c d m (inl p) (inr q) =
    absurd (head_not_indefinite major xs (length v) p.0.before m p.0.head q.begins)
same_cost major xs v w n k c d m (inr p) (inl q) =
    absurd (head_not_indefinite major xs (length w) q.0.before m q.0.head p.begins)
same_cost major xs v w n k c d m (inr p) (inr q) =
    p.cost ∙ (cost_one p.chunks q.chunks major (drop 1 xs) p.between q.between m p.read
    (ap (take 1) (drop_more p.between 1 xs) ∙ p.ends) q.read
    (ap (take 1) (drop_more q.between 1 xs) ∙ q.ends) ∙ sym q.cost)

pub string_one : (major : ℕ) (xs v w : List ℕ) (n k c d : ℕ) → major < 8
    → ReadsString major xs v n c → ReadsString major xs w k d → (n ≡ k) × (c ≡ d) × (v ≡ w)
string_one major xs v w n k c d m p q =
    let same = same_value (string_at [] major None xs) (string_again [] major None xs v n c m p tt)
    (string_again [] major None xs w k d m q tt) in (
      omega (
        arith,
        ap length same.1,
        length-drop n xs,
        length-drop k xs,
        string_within major xs v n
            c m p,
        string_within major xs w k d m q,
      ),
      same_cost major xs v w n k c d m p q,
      same.0,
    )

-- ---- values that have a content

pub two_small : 2 < 8
two_small = omega arith

pub three_small : 3 < 8
three_small = omega arith

module _ {V : Type 0} (major : ℕ) (small : major < 8) (content : V → List ℕ) where
  pub as_one : (xs : List ℕ) (v w : V) (n k c d : ℕ) → ReadsAs major content xs v n c
      → ReadsAs major content xs w k d → (n ≡ k) × (c ≡ d) × (content v ≡ content w)
  as_one xs v w n k c d p q = string_one major xs (content v) (content w) n k c d small p q

  pub as_within : (xs : List ℕ) (v : V) (n c : ℕ) → ReadsAs major content xs v n c → n ≤ length xs
  as_within xs v n c p = string_within major xs (content v) n c small p

  pub as_positive : (xs : List ℕ) (v : V) (n c : ℕ) → ReadsAs major content xs v n c → 1 ≤ n
  as_positive xs v n c p = string_positive major xs (content v) n c small p

  pub as_alone : (xs ys : List ℕ) (v : V) (n c : ℕ) → ReadsAs major content xs v n c
      → ReadsAs major content (take n xs ++ ys) v n c
  as_alone xs ys v n c p = string_alone major xs ys (content v) n c small p

module _ {V : Type 0} (content : V → List ℕ) where
  pub text_one : (xs : List ℕ) (v w : V) (n k c d : ℕ) → ReadsTextAs content xs v n c
      → ReadsTextAs content xs w k d → (n ≡ k) × (c ≡ d) × (content v ≡ content w)
  text_one xs v w n k c d p q = string_one 3 xs (content v) (content w) n k c d three_small p.0 q.0

  pub text_within : (xs : List ℕ) (v : V) (n c : ℕ) → ReadsTextAs content xs v n c → n ≤ length xs
  text_within xs v n c p = string_within 3 xs (content v) n c three_small p.0

  pub text_positive : (xs : List ℕ) (v : V) (n c : ℕ) → ReadsTextAs content xs v n c → 1 ≤ n
  text_positive xs v n c p = string_positive 3 xs (content v) n c three_small p.0

  pub text_alone : (xs ys : List ℕ) (v : V) (n c : ℕ) → ReadsTextAs content xs v n c
      → ReadsTextAs content (take n xs ++ ys) v n c
  text_alone xs ys v n c p = (string_alone 3 xs ys (content v) n c three_small p.0, p.1)

pub as_lawful : {V : Type 0} (name : List ℕ) (major : ℕ) → major < 8 → (content : V → List ℕ)
    → IsLawful (as_format name major content)
as_lawful name major small content = record {
  one = as_one major small content;
  within = as_within major small content;
  positive = λ some. as_positive major small content;
  alone = λ closed. as_alone major small content;
}

pub text_lawful : {V : Type 0} (name : List ℕ) (content : V → List ℕ)
    → IsLawful (text_format name content)
text_lawful name content = search (rules, text_one, text_within, text_positive, text_alone)
