-- Calls of prefixes.
use denote.Ref.{Bor}
use Rattle.std.proofs.Common.{◌≡◌, ◌≢◌, ℕ, ◌-◌, ◌<◌, ◌≤◌, List, [], ◌∷◌, ◌++◌, length, take, drop}
use Rattle.std.proofs.Common.{Some, Ok, Err, Bool, IsTrue, refl, sym, ap, ◌∙◌, subst, arith}
use Rattle.std.proofs.{Common.take-append-drop, lemmas.List.{drop-append-le, length-take-le}}
use Rattle.cbor4ii_rw.specs.{View.View, Reader.Advances, declared.error.Len.Len}
use Rattle.cbor4ii_rw.specs.declared.error.Len.TheVariants.{Small, Big}
use Rattle.cbor4ii_rw.specs.declared.error.DecodeError.TheVariants.{Eof}
use Rattle.cbor4ii_items.specs.{Head.IsBytes, InputError.{eof, len_of}, Laws.Contents.lends_prefix}
use Rattle.cbor4ii_items.specs.Laws.Running.{shows_kept}
use Rattle.cbor4ii_tree.specs.Inner.BytesAhead.{Offers, FirstByteIs, Ready}
use Rattle.cbor4ii_tree.specs.{Inner.HeadParts.{DropsSome, TakesByte, NoByte}, Inner.Ahead.Sees}
use Rattle.cbor4ii_tree.specs.Inner.Ahead.{TakesAhead, TakesHead, Passes, NeverRejects}
use Rattle.cbor4ii_tree.specs.{declared.skip.initial.After.After, declared.ahead.Among.Among}
use Rattle.cbor4ii_tree.specs.{declared.ahead.Ahead.Ahead, declared.ahead.Ahead.TheVariants.Run}
use Rattle.cbor4ii_tree.specs.declared.ahead.Ahead.TheVariants.{Head, Break}
use Rattle.cbor4ii_tree.specs.{Calls.Rejections.Missing, Inner.Does.{Does, DoesApart}}
use Rattle.cbor4ii_tree.proofs.skip_calls.Doing.{Reached, does_ok, does_reject, apart_leaf}
use Rattle.cbor4ii_tree.proofs.skip_calls.Bytes.{len_is}

-- ---- the next byte

begins_so : (b : ℕ) (shown xs : List ℕ) → FirstByteIs b shown → take (length shown) xs ≡ shown
    → (rest : List ℕ) × (xs ≡ b ∷ rest)
begins_so b [] xs f h = absurd (f.0 refl)
begins_so b (s ∷ ss) [] f h = cc
begins_so b (s ∷ ss) (x ∷ xs) f h = let e : x ≡ s = cc in (xs, ap (λ z. z ∷ xs) (e ∙ sym f.1))

one_byte : (b : ℕ) (shown : List ℕ) → FirstByteIs b shown → IsBytes (take 1 shown)
one_byte b [] f = tt
one_byte b (s ∷ ss) f = (subst (λ z. z < 256) f.1 f.2, tt)

module _ {want b : ℕ} {a m : View} (o : Offers want (FirstByteIs b) a m) where
  pub byte_stays : Reached (λ xs ys. (ys ≡ xs) × (rest : List ℕ) × (xs ≡ b ∷ rest)) a m
  byte_stays = record {
    kept = shows_kept o.shows;
    at = λ xs known.
        let f = begins_so b o.shown xs o.is (o.prefix xs known).begins in
        (xs, o.shows.known xs known, (refl, f.0, f.1));
  }

  pub byte_taken : {c : View} → Advances 1 m c → Reached (λ xs ys. TakesByte xs b ys) a c
  byte_taken adv =
      let some : 1 ≤ length o.shown = omega (arith, o.is.0) in
      let l = lends_prefix o.shows o.prefix some (one_byte b o.shown o.is) refl adv in record {
        kept = l.kept;
        at = λ xs known.
            let f = begins_so b o.shown xs o.is (o.prefix xs known).begins in
            (f.0, (l.at xs known).1 ∙ ap (λ (zs : List ℕ). Some (drop 1 zs)) f.1, f.1);
      }

-- ---- bytes

module _ {want : ℕ} {found : ℕ × ℕ} {a m : View} (some : 1 ≤ want)
    (o : Offers want (Ready want found) a m) where
  -- nothing is left
  ended : found.0 ≡ 0 → Reached (λ xs ys. (xs ≡ []) × (ys ≡ [])) a m
  ended none = record {
    kept = shows_kept o.shows;
    at = λ xs known.
        let e = (o.prefix xs known).ends some (omega (arith, some, none, o.is.0)) in
        (xs, o.shows.known xs known, (e, e));
  }

  pub no_byte : {E : Type 0} {name : Bor (List ℕ)} {expect : ℕ} → found.0 ≡ 0
      → Does {V = ℕ} {E = E} TakesByte (NoByte name.now expect) a m (Err (Eof name (Small expect)))
  no_byte {name = name} {expect = expect} none =
      does_reject (λ xs ys. (xs ≡ []) × (ys ≡ [])) TakesByte (NoByte name.now expect)
      (eof name.now (Small expect)) refl refl refl (λ xs ys e. (e.0, (refl, e.1))) (ended none)

  -- of more that are missing
  pub none_ready : {E : Type 0} {name : Bor (List ℕ)} {l : Len} (missing : ℕ) → want ≤ missing
      → found.0 ≡ 0 → (missing < 65536 → l ≡ Small missing) → (65536 ≤ missing → l ≡ Big)
      → Does {V = ℕ} {E = E} (DropsSome missing) (Missing name.now missing) a m
      (Err (Eof name l))
  none_ready {name = name} {l = l} missing few none small big =
      let is : l ≡ len_of missing = len_is missing l small big in
      does_reject (λ xs ys. (xs ≡ []) × (ys ≡ [])) (DropsSome missing) (Missing name.now missing)
      (eof name.now l) refl refl refl (λ xs ys e. let z : length xs ≡ 0 = ap length e.0 in
      let gap : missing - length xs ≡ missing = omega (arith, z) in
      (omega (arith, z, some, few), (ap (eof name.now) (is ∙ ap len_of (sym gap)), e.1)))
      (ended none)

  pub some_ready : {E : Type 0} {name : List ℕ} {b : View} (missing : ℕ) → want ≤ missing
      → found.0 ≢ 0 → Advances found.0 m b
      → Does {V = ℕ} {E = E} (DropsSome missing) (Missing name missing) a b (Ok found.0)
  some_ready {name = name} missing few more adv =
      let within : found.0 ≤ length o.shown = omega (arith, o.is.0) in
      let l = lends_prefix o.shows o.prefix within o.is.1 refl adv in
      does_ok (DropsSome missing) (Missing name missing) (record {
        kept = l.kept;
        at = λ xs known.
            let t = l.at xs known in (
              drop found.0 xs,
              t.1,
              (
                omega (arith, more),
                omega (arith, o.is.0, few),
                record {
                  content = take found.0 xs;
                  size = length-take-le found.0 xs t.0;
                  bytes = subst IsBytes t.2 o.is.1;
                  is = sym (take-append-drop found.0 xs);
                },
              ),
            );
      })

-- ---- what one look decides

abbrev pub Took : Among → (E : Type 0) → Bool → View → View → View → View → Ahead → Type 0
Took among E t p i a b seen =
    DoesApart {E = E} (TakesAhead among) (λ _. NeverRejects) (Passes among) t p i a b (Ok seen)

module _ (among : Among) (E : Type 0) {t : Bool} {p i a m b : View} (stays : IsTrue t → i ≡ p) where
  pub takes_run : (n size : ℕ) {seen : Ahead} → seen ≡ Run n size
      → Offers 1 (Sees among seen) a m → Advances size m b → Took among E t p i a b (Run n size)
  takes_run n size is h adv =
      let o = subst (λ s. Offers 1 (Sees among s) a m) is h in
      let l = lends_prefix o.shows o.prefix o.is.begins.within o.is.bytes refl adv in
      let run = o.is.begins.run in
      apart_leaf (does_ok _ _ (record {
        kept = l.kept;
        at = λ xs known.
            let t = l.at xs known in (
              drop size xs,
              t.1,
              (
                run.0,
                run.1,
                run.2,
                sym (take-append-drop size xs) ∙ ap (λ r. r ++ drop size xs) (sym t.2 ∙ run.3),
              ),
            );
      })) tt (
        o.is.some,
        o.is.allowed,
        omega (arith, o.is.some, o.is.begins.few, adv.bound, o.shows.bound),
      ) stays

  pub takes_head : (size : ℕ) (trailing : After) {seen : Ahead} → seen ≡ Head size trailing → Offers
      1 (Sees among seen) a m → Advances size m b → Took among E t p i a b (Head size trailing)
  takes_head size trailing is h adv =
      let o = subst (λ s. Offers 1 (Sees among s) a m) is h in
      let l = lends_prefix o.shows o.prefix o.is.within o.is.bytes refl adv in
      apart_leaf (does_ok _ _ (record {
        kept = l.kept;
        at = λ xs known.
            let rest = drop (length o.shown) xs in
            let begins : xs ≡ o.shown ++ rest = sym (take-append-drop (length o.shown) xs)
            ∙ ap (λ r. r ++ rest) (o.prefix xs known).begins in
            let left : drop size o.shown ++ rest ≡ drop size xs =
            sym (drop-append-le size o.shown rest o.is.within) ∙ ap (drop size) (sym begins) in (
              drop size xs,
              (l.at xs known).1,
              subst (λ (ys : List ℕ). TakesHead a.budget ys trailing (drop size xs)) (sym begins)
                  (subst (λ (ys : List ℕ). TakesHead a.budget (o.shown ++ rest) trailing ys) left
                  (record { leads = o.is.leads a.budget rest; item = o.is.item a.budget rest })),
            );
      })) tt (omega (arith, o.is.some, adv.bound, o.shows.bound)) stays

  pub takes_break : {seen : Ahead} → seen ≡ Break → Offers 1 (Sees among seen) a m
      → Advances 1 m b → Took among E t p i a b Break
  takes_break is h adv =
      let o = subst (λ s. Offers 1 (Sees among s) a m) is h in
      apart_leaf (does_ok _ _ (byte_taken (record {
        shown = o.shown;
        shows = o.shows;
        prefix = o.prefix;
        is = (λ none. absurd (omega (arith, none, o.is.1.some)), sym o.is.1.is, omega arith);
      }) adv)) tt o.is.0 stays
