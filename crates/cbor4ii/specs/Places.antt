-- Where the value of a field stands while a struct is read.
use Rattle.std.specs.Prelude.{◌≡◌, ℕ, Option, None, Some, refl}
use Rattle.cbor4ii_items.specs.Containers.{SameOption}
use Rattle.cbor4ii.specs.declared.serde.de.place.Single.{Single}
use Rattle.cbor4ii.specs.declared.serde.de.place.Single.TheVariants.{Absent, Present, Repeated}

-- a field's place: what stands there before any value was read, and what becomes of it with each
pub record Place (T P : Type 0) : Type 1 where
  pub none : P
  pub put : T → P → P
  -- how many values came: none, one, or more than one, which is 2
  pub came : P → ℕ
  -- both hold the same, where values mean the same by this
  pub same : (T → T → Type 0) → P → P → Type 0
  pub none_same : (alike : T → T → Type 0) → same alike none none
  pub put_same : (alike : T → T → Type 0) (v w : T) (o p : P) → alike v w → same alike o p
      → same alike (put v o) (put w p)
  pub same_came : (alike : T → T → Type 0) (o p : P) → same alike o p → came o ≡ came p

abbrev pub came_last : {T : Type 0} → Option T → ℕ
came_last None = 0
came_last (Some v) = 1

pub same_came_last : {T : Type 0} (alike : T → T → Type 0) (o p : Option T) → SameOption alike o p
    → came_last o ≡ came_last p
same_came_last alike None (Some w) h = absurd h
same_came_last alike (Some v) None h = absurd h
same_came_last alike _ _ h = refl

abbrev pub put_last : {T : Type 0} → T → Option T → Option T
put_last v o = Some v

-- a place in which the last value counts
abbrev pub last_place : {T : Type 0} → Place T (Option T)
last_place = record {
  none = None;
  put = put_last;
  came = came_last;
  same = SameOption;
  none_same = λ alike. tt;
  put_same = λ alike v w o p h k. h;
  same_came = same_came_last;
}

abbrev pub put_only : {T : Type 0} → T → Single T → Single T
put_only v Absent = Present v
put_only v (Present w) = Repeated
put_only v Repeated = Repeated

abbrev pub came_only : {T : Type 0} → Single T → ℕ
came_only Absent = 0
came_only (Present v) = 1
came_only Repeated = 2

abbrev pub SameSingle : {T : Type 0} → (T → T → Type 0) → Single T → Single T → Type 0
SameSingle alike Absent Absent = Unit {0}
SameSingle alike Absent (Present w) = ⊥
SameSingle alike Absent Repeated = ⊥
SameSingle alike (Present v) Absent = ⊥
SameSingle alike (Present v) (Present w) = alike v w
SameSingle alike (Present v) Repeated = ⊥
SameSingle alike Repeated Absent = ⊥
SameSingle alike Repeated (Present w) = ⊥
SameSingle alike Repeated Repeated = Unit {0}

pub put_only_same : {T : Type 0} (alike : T → T → Type 0) (v w : T) (o p : Single T) → alike v w
    → SameSingle alike o p → SameSingle alike (put_only v o) (put_only w p)
put_only_same alike v w Absent Absent h k = h
put_only_same alike v w (Present t) (Present u) h k = tt
put_only_same alike v w Repeated Repeated h k = tt
put_only_same alike v w _ _ h k = absurd k

pub same_came_only : {T : Type 0} (alike : T → T → Type 0) (o p : Single T)
    → SameSingle alike o p → came_only o ≡ came_only p
same_came_only alike Absent Absent h = refl
same_came_only alike (Present v) (Present w) h = refl
same_came_only alike Repeated Repeated h = refl
same_came_only alike _ _ h = absurd h

-- a place that says whether one value came, or several
abbrev pub only_place : {T : Type 0} → Place T (Single T)
only_place = record {
  none = Absent;
  put = put_only;
  came = came_only;
  same = SameSingle;
  none_same = λ alike. tt;
  put_same = put_only_same;
  same_came = same_came_only;
}
