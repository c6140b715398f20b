-- What `show` and `fill` answer: its types, and what is said of it, for the proofs by hand that
-- call
-- them.
use Prim.Native.Nat.{ℕ}
use mathlib.Core.List.{List, ◌∷◌}
use seplogic.Ra.Ura.{Ura}
use base.Logic.{emp}
use contract.Monad.{fact, fact_i}
use base.Fml.{Lft}
use mir.Syntax.{named}
use types.Logic.{Logic}
use types.Kit.{Item, Goal, Step, raw, ◌⊛◌, ◌$◌, step, use0, join}
use denote.Struct.Field.{Field, shr_slice_field, u8-field}
use denote.Struct.Laws.{u8-laws, u8-copy, shr_slice_laws, shr_slice_copy}
use denote.Param.Shared.{copy_shared}
use denote.Enum.Loose.{loose_lawful}
use denote.Laws.{Lawful}
use denote.Param.{param}
use denote.Param.Laws.{Laws, param_laws, of_field}
use denote.RattleType.{RattleType}
use denote.Ref.{NamedLft}
use mathlib.Core.Path.{refl}
use Rattle.std.specs.contracts.result.Result as RES
use Rattle.std.proofs.result.Result.TheLaws as RESL
use Rattle.std.specs.Prelude.{Option, Result, IfOk, IsTrue, MatchOption, MatchResult, length, ◌≤◌}
use Rattle.std.specs.Borrow.{Bor}
use Rattle.cbor4ii_rw.specs.Reader.{IsPrefix, IsEnough, Shows, ReaderFails}
use Rattle.cbor4ii_rw.specs.Reference.{IsLong, IsSubslice}
use Rattle.cbor4ii_rw.specs.View.{View, IfKnown}
use Rattle.cbor4ii_rw.specs.declared.read.Reference.{Reference}
use Rattle.cbor4ii_rw.specs.contracts.read.Reference as RF
use Rattle.cbor4ii_rw.proofs.read.Reference.TheLaws as RFL

abbrev pub nm : ℕ → Lft → NamedLft
nm i κ = record { mir = named i; lft = κ }

-- the shown bytes
abbrev pub SF : Lft → Field
SF κ = shr_slice_field (nm 0 κ) u8-field.row tt

pub slice_laws : (κ : Lft) → Laws (SF κ).row
slice_laws κ = of_field (SF κ) (shr_slice_laws (nm 0 κ) u8-field.row tt) refl
    (copy_shared (SF κ) (shr_slice_copy (nm 0 κ) u8-field.row tt
    (of_field u8-field u8-laws refl (copy_shared u8-field u8-copy)).shr_laws))

-- what `show` answers
abbrev pub Shown : RattleType → Lft → RattleType
Shown E κ = RES.the_row (SF κ).row (param 1 E)

pub shown_result : (E : RattleType) → Laws E → {M : Type 1} {𝓤 : Ura M} (𝓛 : Logic 𝓤) (κ : Lft)
    → Lawful 𝓛 (Shown E κ)
shown_result E LE 𝓛 κ = loose_lawful (RES.the_type (SF κ).row (param 1 E))
    (RESL.the_loose (SF κ).row (param 1 E) (slice_laws κ) (param_laws 1 E LE)) tt 𝓛

-- the bytes that `fill` lends, long or short
abbrev pub RR : Lft → Lft → RattleType
RR κ κ' = RF.the_row (nm 0 κ) (nm 1 κ')

-- what `fill` answers
abbrev pub Filled : RattleType → Lft → Lft → RattleType
Filled E κ κ' = RES.the_row (RR κ κ') (param 1 E)

pub filled_result : (E : RattleType) → Laws E → {M : Type 1} {𝓤 : Ura M} (𝓛 : Logic 𝓤)
    (κ κ' : Lft) → Lawful 𝓛 (Filled E κ κ')
filled_result E LE 𝓛 κ κ' = loose_lawful (RES.the_type (RR κ κ') (param 1 E))
    (RESL.the_loose (RR κ κ') (param 1 E) (RFL.the_row_laws (nm 0 κ) (nm 1 κ')) (param_laws 1 E LE))
    tt 𝓛

-- ---- what is said of an answer, which shows bytes of the reader that view a is of
abbrev pub now_of : Bor (List ℕ) → List ℕ
now_of shown = shown.now

module _ {A : Type 0} (bytes : A → List ℕ) (a : View) where
  abbrev pub LeftBy : View → Option A → Type 0
  LeftBy b t = MatchOption t (ReaderFails a b) (λ shown. Shows (bytes shown) a b)

  module _ {E : Type 0} (r : Result A E) where
    abbrev pub Prefix : ℕ → Type 0
    Prefix want = IfOk r (λ shown. IfKnown a.known (IsPrefix want (bytes shown)))

    abbrev pub Bounded : Type 0
    Bounded = IfOk r (λ shown. length (bytes shown) ≤ a.bound)

    abbrev pub Whole : ℕ → Type 0
    Whole want = IsTrue a.zero_copy
        → IfOk r (λ shown. IfKnown a.known (IsEnough want (bytes shown)))

    abbrev pub Left : View → Type 0
    Left b = MatchResult r (λ shown. Shows (bytes shown) a b) (λ _. ReaderFails a b)

module _ {E : Type 0} (a : View) (r : Result Reference E) where
  abbrev pub Lasting : Type 0
  Lasting = IsTrue a.zero_copy → IfOk r IsLong

  abbrev pub Placed : Type 0
  Placed = IfOk r (λ shown. IsSubslice shown a)

-- ---- a fact joins what the context begins with
module _ {M : Type 1} {𝓤 : Ura M} {𝓛 : Logic 𝓤} {K : Type 0} {Γ : List (Item 𝓤)}
    {G : Goal 𝓤 𝓛.H} where
  pub told : K → (φ : Type 0) → φ → {i : Item 𝓤} → Step K 𝓛 ((raw (fact 𝓤 φ) ⊛ i) ∷ Γ) G (i ∷ Γ) G
  told t φ p = step (λ s. use0 𝓛 (raw (fact 𝓤 φ)) (fact_i 𝓤 φ (emp 𝓤) p) $ join t $ s)
