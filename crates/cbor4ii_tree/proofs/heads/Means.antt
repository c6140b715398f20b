-- What an initial byte says, read backwards.
use Rattle.std.proofs.Common.{◌≡◌, ℕ, zero, suc, ◌+◌, ◌*◌, ◌/◌, ◌%◌, ◌<◌, List, ◌∷◌, ◌++◌, sym, ap}
use Rattle.std.proofs.Common.{ap₂, ◌∙◌, arith, ltb, ltb-true, eqb-true, ◌^◌, [], length, take, drop}
use Rattle.std.proofs.Common.{refl, false, ltb-false, take-append-drop, rules}
use Rattle.std.proofs.lemmas.List.{length-take-le}
use Rattle.cbor4ii_items.specs.Head.{Width, in_first, one, two, four, eight, HeadFits, additional}
use Rattle.cbor4ii_items.specs.{Head.{byte_count, head, indefinite_head, IsBytes}, Initial.Sign}
use Rattle.cbor4ii_items.specs.Initial.{unsigned, negative, sign_major, Kind, byte_string}
use Rattle.cbor4ii_items.specs.Initial.{text_string, kind_major, simple_byte, precision_byte, Info}
use Rattle.cbor4ii_items.specs.Initial.{wide, indefinite_ended, reserved, info_of, Initial}
use Rattle.cbor4ii_items.specs.Initial.{starts_int, starts_string, starts_chunks, starts_array}
use Rattle.cbor4ii_items.specs.Initial.{starts_indefinite_array, starts_map, starts_indefinite_map}
use Rattle.cbor4ii_items.specs.Initial.{starts_tag, starts_simple, starts_bits, initial}
use Rattle.cbor4ii_items.specs.Initial.{int_by_info, string_by_info, array_by_info, map_by_info}
use Rattle.cbor4ii_items.specs.Initial.{tag_by_info, simple_by_info, by_major}
use Rattle.cbor4ii_items.specs.{Laws.Heads.{if_cases, onto-lt, bytes_onto}, Magnitude.number_of}
use Rattle.cbor4ii_tree.specs.Calls.Parse.{parse_argument, prefix_at, number_of_width}
use Rattle.cbor4ii_tree.specs.Calls.Rejections.{Lacks, Missing}
use Rattle.cbor4ii_tree.proofs.parts.Meets.{Meets, ok_meets, map_meets, err_meets}
use Rattle.std.specs.Int.{bytes_high_first}

-- ---- what a read answer says of the bytes

pub IsBytes-take : (k : ℕ) (bs : List ℕ) → IsBytes bs → IsBytes (take k bs)
IsBytes-take (suc k) (b ∷ bs) h = (h.0, IsBytes-take k bs h.1)
IsBytes-take _ _ h = tt

pub IsBytes-drop : (k : ℕ) (bs : List ℕ) → IsBytes bs → IsBytes (drop k bs)
IsBytes-drop zero bs h = h
IsBytes-drop (suc k) [] h = tt
IsBytes-drop (suc k) (b ∷ bs) h = IsBytes-drop k bs h.1

-- so many bytes, and what follows them
pub record Content (k : ℕ) (bs : List ℕ) (p : List ℕ × List ℕ) : Type 0 where
  pub is : bs ≡ p.0 ++ p.1
  pub long : length p.0 ≡ k
  pub bytes : IsBytes p.0
  pub more : IsBytes p.1

content_of : (k : ℕ) (bs : List ℕ) → IsBytes bs → ltb (length bs) k ≡ false
    → Content k bs (take k bs, drop k bs)
content_of k bs h e =
    search (rules, take-append-drop, length-take-le, ltb-false, IsBytes-take, IsBytes-drop)

pub prefix_meets : (name : List ℕ) (k : ℕ) (bs : List ℕ) → IsBytes bs
    → Meets (Content k bs) (Missing name k bs) (prefix_at name k bs)
prefix_meets name k bs h =
    if_cases (Meets (Content k bs) (Missing name k bs)) (ltb (length bs) k) _ _
    (λ e. err_meets _ (ltb-true (length bs) k e, (refl, refl)))
    (λ e. ok_meets _ (content_of k bs h e))

pub number_of_bytes : (k : ℕ) (xs : List ℕ) → length xs ≡ k → IsBytes xs
    → (bytes_high_first k (number_of xs) ≡ xs) × (number_of xs < 256 ^ k)
number_of_bytes k xs e h = search (rules, bytes_onto, onto-lt)

pub record Whole (k n : ℕ) (bs after : List ℕ) : Type 0 where
  pub is : bs ≡ bytes_high_first k n ++ after
  pub below : n < 256 ^ k
  pub more : IsBytes after

pub number_meets : (asks : ℕ → ℕ → ℕ) (name : List ℕ) (k : ℕ) (bs : List ℕ) → IsBytes bs
    → Meets (λ p. Whole k p.0 bs p.1) (Lacks asks name k bs) (number_of_width asks name k bs)
number_meets asks name k bs h =
    if_cases (Meets (λ p. Whole k p.0 bs p.1) (Lacks asks name k bs)) (ltb (length bs) k) _ _
    (λ e. err_meets _ (ltb-true (length bs) k e, (refl, refl)))
    (λ e. let c = content_of k bs h e in
    let n = number_of_bytes k (take k bs) c.long c.bytes in
    ok_meets _ (record {
      is = c.is ∙ ap (λ r. r ++ drop k bs) (sym n.0);
      below = n.1;
      more = c.more;
    }))

abbrev pub WidthSays : Width → ℕ → Type 0
WidthSays in_first i = i < 24
WidthSays one i = i ≡ 24
WidthSays two i = i ≡ 25
WidthSays four i = i ≡ 26
WidthSays eight i = i ≡ 27

abbrev pub InfoSays : ℕ → Info → Type 0
InfoSays i (wide w) = WidthSays w i
InfoSays i indefinite_ended = i ≡ 31
InfoSays i reserved = Unit {0}

abbrev pub HeadByte : ℕ → Width → ℕ → Type 0
HeadByte major w b = (i : ℕ) × (b ≡ 32 * major + i) × WidthSays w i

abbrev pub Means : ℕ → Initial → Type 0
Means b (starts_int s w) = HeadByte (sign_major s) w b
Means b (starts_string k w) = HeadByte (kind_major k) w b
Means b (starts_chunks k) = b ≡ indefinite_head (kind_major k)
Means b (starts_array w) = HeadByte 4 w b
Means b starts_indefinite_array = b ≡ indefinite_head 4
Means b (starts_map w) = HeadByte 5 w b
Means b starts_indefinite_map = b ≡ indefinite_head 5
Means b (starts_tag w) = HeadByte 6 w b
Means b (starts_simple s) = b ≡ simple_byte s
Means b (starts_bits p) = b ≡ precision_byte p
Means b _ = Unit {0}

pub info_says : (i : ℕ) → InfoSays i (info_of i)
info_says i = search (rules, if_cases, ltb-true, eqb-true)

simple_says : (i b : ℕ) → b ≡ 224 + i → Means b (simple_by_info i)
simple_says i b e = search (rules, if_cases, eqb-true)

int_says : (s : Sign) (i b : ℕ) (info : Info) → b ≡ 32 * sign_major s + i → InfoSays i info
    → Means b (int_by_info s info)
int_says s i b (wide w) e h = (i, e, h)
int_says s i b _ e h = tt

string_says : (k : Kind) (i b : ℕ) (info : Info) → b ≡ 32 * kind_major k + i → InfoSays i info
    → Means b (string_by_info k info)
string_says k i b (wide w) e h = (i, e, h)
string_says k i b indefinite_ended e h = e ∙ ap (λ j. 32 * kind_major k + j) h
string_says k i b reserved e h = tt

array_says : (i b : ℕ) (info : Info) → b ≡ 32 * 4 + i → InfoSays i info
    → Means b (array_by_info info)
array_says i b (wide w) e h = (i, e, h)
array_says i b indefinite_ended e h = omega arith
array_says i b reserved e h = tt

map_says : (i b : ℕ) (info : Info) → b ≡ 32 * 5 + i → InfoSays i info → Means b (map_by_info info)
map_says i b (wide w) e h = (i, e, h)
map_says i b indefinite_ended e h = omega arith
map_says i b reserved e h = tt

tag_says : (i b : ℕ) (info : Info) → b ≡ 32 * 6 + i → InfoSays i info → Means b (tag_by_info info)
tag_says i b (wide w) e h = (i, e, h)
tag_says i b _ e h = tt

major_says : (m i b : ℕ) → m < 8 → b ≡ 32 * m + i → Means b (by_major m i)
major_says zero i b h e = int_says unsigned i b (info_of i) e (info_says i)
major_says (suc zero) i b h e = int_says negative i b (info_of i) e (info_says i)
major_says (suc (suc zero)) i b h e = string_says byte_string i b (info_of i) e (info_says i)
major_says (suc (suc (suc zero))) i b h e = string_says text_string i b (info_of i) e (info_says i)
major_says (suc (suc (suc (suc zero)))) i b h e = array_says i b (info_of i) e (info_says i)
major_says (suc (suc (suc (suc (suc zero))))) i b h e = map_says i b (info_of i) e (info_says i)
major_says (suc (suc (suc (suc (suc (suc zero)))))) i b h e =
    tag_says i b (info_of i) e (info_says i)
major_says (suc (suc (suc (suc (suc (suc (suc m))))))) i b h e = simple_says i b (omega arith)

pub means : (b : ℕ) → b < 256 → Means b (initial b)
unfolding initial
means b h = major_says (b / 32) (b % 32) b (omega arith) (omega arith)

-- a head that was read
pub record Headed (major n : ℕ) (w : Width) (b : ℕ) (bs after : List ℕ) : Type 0 where
  pub is : b ∷ bs ≡ head major n w ++ after
  pub fits : HeadFits w n
  pub more : IsBytes after

headed : (major n : ℕ) (w : Width) (b : ℕ) (bs after : List ℕ) → b ≡ 32 * major + additional w n
    → HeadFits w n → Whole (byte_count w) n bs after → Headed major n w b bs after
headed major n w b bs after e fits h = record { is = ap₂ ◌∷◌ e h.is; fits = fits; more = h.more }

-- its argument, or what is missing of it
pub argument_meets : (asks : ℕ → ℕ → ℕ) (name : List ℕ) (major : ℕ) (w : Width) (b : ℕ)
    (bs : List ℕ) → IsBytes bs → HeadByte major w b
    → Meets (λ p. Headed major p.0 w b bs p.1) (Lacks asks name (byte_count w) bs)
    (parse_argument asks name w b bs)
unfolding parse_argument
argument_meets asks name major in_first b bs h m = search (rules, ok_meets)
argument_meets asks name major one b bs h m = search (rules, map_meets, number_meets, headed, one)
argument_meets asks name major two b bs h m = search (rules, map_meets, number_meets, headed, two)
argument_meets asks name major four b bs h m =
    search (rules, map_meets, number_meets, headed, four)
argument_meets asks name major eight b bs h m =
    search (rules, map_meets, number_meets, headed, eight)
