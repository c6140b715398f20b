-- Bytes that are skipped, prefix by prefix, and the arguments of heads.
use Rattle.std.proofs.Common.{◌≡◌, ℕ, ◌+◌, ◌-◌, ◌*◌, ◌^◌, ◌<◌, ◌≤◌, List, [], ◌∷◌, ◌++◌}
use Rattle.std.proofs.Common.{true, false, refl, sym, ap, ◌∙◌, subst, arith, append_assoc}
use Rattle.std.proofs.Common.{length-append, ltb, ltb-true, ltb-false, lt-ltb, Bool, rules}
use Rattle.std.proofs.{lemmas.List.Sums.fold-append, Math.Nat.pow-le-pow_right}
use Rattle.cbor4ii_rw.specs.{declared.error.Len.Len, declared.error.Len.TheVariants.{Small, Big}}
use Rattle.cbor4ii_items.specs.{Head.Width, Initial.{info_of, wide}, InputError.{InputError}}
use Rattle.cbor4ii_items.specs.InputError.{len_of}
use Rattle.cbor4ii_tree.proofs.heads.Means.{WidthSays, InfoSays, info_says}
use Rattle.cbor4ii_tree.proofs.parts.Prefixes.{IsBytes-append}
use Rattle.cbor4ii_tree.specs.{Calls.Rejections.{Missing, MissingAll}, Inner.HeadParts.DropsBytes}
use Rattle.cbor4ii_tree.specs.Inner.HeadParts.{DropsSome, TakesByte, NoByte, TakesNumber}

pub len_is : (n : ℕ) (l : Len) → (n < 65536 → l ≡ Small n) → (65536 ≤ n → l ≡ Big) → l ≡ len_of n
len_is n l s b = by_size (ltb n 65536) refl
  where
    by_size : (t : Bool) → ltb n 65536 ≡ t → l ≡ len_of n
    by_size true e = rw e (s (ltb-true n 65536 e))
    by_size false e = rw e (b (ltb-false n 65536 e))

-- ---- bytes one prefix after another

-- so many are missing yet
abbrev pub Dropped : ℕ → ℕ → List ℕ → List ℕ → Type 0
Dropped count missing xs ys = (n : ℕ) × (n + missing ≡ count) × DropsBytes n xs ys

pub dropped_none : (count : ℕ) (xs : List ℕ) → Dropped count count xs xs
dropped_none count xs =
    (0, omega arith, record { content = []; size = refl; bytes = tt; is = refl })

pub dropped_more : (count missing n : ℕ) (xs ys zs : List ℕ) → Dropped count missing xs ys
    → DropsSome missing ys n zs → Dropped count (missing - n) xs zs
dropped_more count missing n xs ys zs d s = (
  d.0 + n,
  omega (arith, d.1, s.1),
  record {
    content = d.2.content ++ s.2.content;
    size = omega (arith, length-append d.2.content s.2.content, d.2.size, s.2.size);
    bytes = IsBytes-append d.2.content s.2.content d.2.bytes s.2.bytes;
    is = d.2.is ∙ ap (λ r. d.2.content ++ r) s.2.is ∙ sym (append_assoc d.2.content s.2.content zs);
  },
)

pub dropped_cut : (name : List ℕ) (count missing : ℕ) (xs ys : List ℕ) (e : InputError) (rest : List
    ℕ) → Dropped count missing xs ys → Missing name missing ys e rest → Missing name count xs e rest
dropped_cut name count missing xs ys e rest d m = search (rules, length-append)

pub dropped_all : (count missing : ℕ) (xs ys : List ℕ) → missing ≡ 0 → Dropped count missing xs ys
    → DropsBytes count xs ys
dropped_all count missing xs ys none d = search rules

-- ---- numbers

pub number_none : (xs : List ℕ) → TakesNumber 0 xs 0 xs
number_none xs = (record { content = []; size = refl; bytes = tt; is = refl }, refl)

pub number_more : (i value b : ℕ) (xs ys zs : List ℕ) → b < 256 → TakesNumber i xs value ys
    → TakesByte ys b zs → TakesNumber (i + 1) xs (value * 256 + b) zs
number_more i value b xs ys zs small t h = (
  record {
    content = t.0.content ++ b ∷ [];
    size = omega (arith, length-append t.0.content (b ∷ []), t.0.size);
    bytes = IsBytes-append t.0.content (b ∷ []) t.0.bytes (small, tt);
    is = t.0.is ∙ ap (λ r. t.0.content ++ r) h ∙ sym (append_assoc t.0.content (b ∷ []) zs);
  },
  ap (λ n. n * 256 + b) t.1 ∙ sym (fold-append (λ high c. high * 256 + c) 0 t.0.content (b ∷ [])),
)

pub number_cut : (name : List ℕ) (k i value : ℕ) (xs ys : List ℕ) (e : InputError)
    (rest : List ℕ) → i < k → k ≤ 8 → TakesNumber i xs value ys → NoByte name k ys e rest
    → MissingAll name k xs e rest
number_cut name k i value xs ys e rest less few t h = search (rules, length-append, lt-ltb)

pub small_number : (value i : ℕ) → value < 256 ^ i → i ≤ 8 → value < 2 ^ 64
small_number value i h le =
    omega (arith, pow-le-pow_right {n = 256} (omega arith) {i = i} {j = 8} le)

-- ---- arguments

pub says_width : (i : ℕ) (w : Width) → info_of i ≡ wide w → WidthSays w i
says_width i w e = subst (InfoSays i) e (info_says i)
