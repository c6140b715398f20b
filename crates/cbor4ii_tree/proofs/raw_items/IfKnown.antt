-- A method `decode(alloc, reader)` of an impl of `Decode` whose body is `known(alloc, reader)`, at
-- a type T that names the impl's lifetime: what the callee ensures holds of it.
use denote.{Exit.yes, Param.{bounded, param, arg, layout}, Param.Laws.{Laws, param_laws, arg_laws}}
use denote.{RattleType.RattleType, Ref.MutBor, Signature.type_at, Triple.Entry.{on_entry, alive}}
use denote.{Triple.Impl.{with_fact, pin_of}, Triple.Spec.{triple_of, Back}}
use denote.Triple.Statement.{Contract}
use mathlib.{Core.List.{List, [], ◌∷◌, ◌++◌}, Core.Path.◌≡◌}
use Prim.Native.Nat.{ℕ}
use seplogic.Ra.Ura.{Ura}
use base.{Fml.Lft, Logic.{SProp, ent, ex, via, sep, snd∗, mono_r, emp}}
use contract.{BorrowLft.◌⊑◌, Lifetimes.{Lfts, Shares, AllOutlive}, Monad.{fact, fact_use}}
use contract.Running.{Running, tables, tables_of}
use mir.{Syntax.named, Val.Val, Raw.raw as bare, Syntax.{Ty, Dict, Callee, Home, Kind, Lifetime}}
use mir.Syntax.{a_type, dcons, dnil}
use prog.{Model.Model, Wired.Wired, Wp.{Tables, WpFn}}
use types.Logic.{Logic}
use Rattle.cbor4ii_items.specs.Laws.Forward.{lent, lent_fn, result_fit}
use Rattle.cbor4ii_tree.proofs.lend_raw.take_raw.{Met.met, Symbol.{name as #g, code as g_code}}
use denote.Param.Glue as Glue
use Rattle.std.proofs.result.Result.TheLaws as ResultLaws
use Rattle.std.specs.contracts.alloc.Global as Global
use Rattle.std.specs.contracts.fmt.Debug.TheBound as DebugBound
use Rattle.std.specs.declared.fmt.Debug as Debug
use Rattle.cbor4ii_rw.specs.contracts.error.DecodeError as DecodeError
use Rattle.cbor4ii_tree.specs.contracts.lend_raw.LendRaw.TheBound as LendBound
use Rattle.cbor4ii_rw.specs.contracts.read.Source.TheBound as SourceBound
use Rattle.cbor4ii_tree.specs.declared.lend_raw.LendRaw as Lend
use Rattle.cbor4ii_rw.specs.declared.read.Source as Source
use Rattle.cbor4ii_tree.specs.contracts.lend_raw.take_raw as g
use Rattle.cbor4ii_rw.proofs.error.DecodeError.TheLaws as ErrorLaws

module _ {M : Type 1} (𝓤 : Ura M) (𝓛 : Logic 𝓤) (𝓜 : Model 𝓤 𝓛.H) (𝓡 : Running 𝓤 𝓛.H 𝓜)
    (wired : Wired 𝓡.env g_code) (R E : RattleType) (LR : Laws R) (LE : Laws E)
    (gS : Source.Ghosts R.Denot E.Denot) (dS : Dict) (gD : Debug.Ghosts E.Denot) (dD dd : Dict)
    (P : Lfts 4 → Type 0) (b2 : SourceBound.Met 𝓛 𝓜 𝓡 𝓡.env R E gS dS gD dD)
    (b3 : DebugBound.Met 𝓛 𝓜 𝓡 𝓡.env E gD dD) (b4 : Glue.Met 𝓛 𝓜 𝓡 𝓡.env E dd)
    -- T, at each lifetime;  its MIR type as a call passes it;  its impl of `LendRaw`
    (T : Lft → RattleType) (LT : (κ : Lft) → Laws (T κ)) (within : (κ : Lft) → κ ⊑ (T κ).lives)
    (δ : Ty) (same : (κ : Lft) → bare δ ≡ bare (layout (T κ)))
    (gT : (κ : Lft) → Lend.Ghosts (T κ).Denot R.Denot E.Denot) (dT : Dict) (bT : (κs : Lfts 4)
    → P κs → LendBound.Met 𝓛 𝓜 𝓡 𝓡.env (T κs.1.0) R E (gT κs.1.0) dT gS dS gD dD) where
  abbrev At : Lft → RattleType
  At κ = arg δ yes (T κ)

  abbrev 𝓣 : Tables 𝓤 𝓛.H
  𝓣 = tables_of 𝓤 𝓛.H 𝓜 (tables 𝓤 𝓛.H 𝓜 𝓡 𝓡.env)

  abbrev key : Callee
  key =
      #g (bounded (a_type ∷ a_type ∷ a_type ∷ []) (At [], (R, (E, tt)))
      (dcons dT (dcons dS (dcons dD (dcons dd dnil)))))

  abbrev Res : Lft → RattleType
  Res κ = type_at (g.signature (At κ) R E).result (κ, (κ, (κ, (κ, tt))))

  module _ (κs : Lfts 4) (qs : Shares 4) (bd : AllOutlive 4 (g.signature (At []) R E).outlives κs)
      (x : Global.the_row.Denot) (r : MutBor R.Denot) (us vs : List Val) where
    abbrev κ : Lft
    κ = κs.1.0

    abbrev G : Contract 𝓤
    G =
        triple_of 𝓛 (g.signature (At κ) R E)
        (g.spec (At κ) R E (gT κ) dT gS dS gD dD dd 𝓛 𝓜.mem 𝓡.returns)

    abbrev O : SProp 𝓤
    O = on_entry 𝓛 (g.signature (At κ) R E) κs qs (x, (r, tt)) (us, (vs, tt))

    abbrev FR : SProp 𝓤
    FR = fact 𝓤 (κs.1.1.0 ⊑ R.lives)

    abbrev FE : SProp 𝓤
    FE = fact 𝓤 (κs.1.1.1.0 ⊑ E.lives)

    pub known : (n : ℕ) (os : List (ℕ × ℕ)) (ks : List Kind) (givens params : ℕ) (τ₀ : Ty)
        → bare τ₀ ≡ bare (layout (Res κ)) → (ℓ₂ ℓ₃ : Lifetime) (σ₂ σ₃ σ : Ty) (h₀ h₁ h₂ h₃ : Home)
        → ent 𝓤 (sep 𝓤 O (sep 𝓤 FR (sep 𝓤 FE (sep 𝓤 (fact 𝓤 (P κs)) (emp 𝓤)))))
        (WpFn 𝓤 𝓛.H 𝓣.C 𝓣.Λ (lent_fn key n os ks givens params τ₀ ℓ₂ ℓ₃ σ₂ σ₃ σ h₀ h₁ h₂ h₃)
        (us ++ (vs ++ [])) (G.post ((κs, qs, bd, (x, (r, tt)), (us, (vs, tt))), tt)))
    unfolding tables_of
    known n os ks givens params τ₀ e ℓ₂ ℓ₃ σ₂ σ₃ σ h₀ h₁ h₂ h₃ =
        let S = g.signature (At κ) R E in
        let s = g.spec (At κ) R E (gT κ) dT gS dS gD dD dd 𝓛 𝓜.mem 𝓡.returns in
        let y : G.Ghost = ((κs, qs, bd, (x, (r, tt)), (us, (vs, tt))), tt) in
        let q : SProp 𝓤 = sep 𝓤 FR (sep 𝓤 FE (sep 𝓤 (fact 𝓤 (P κs)) (emp 𝓤))) in
        let A : SProp 𝓤 = alive 𝓛 S κs qs in
        let FT : Type 0 = κ ⊑ (At κ).lives in
        fact_use 𝓤 (P κs)
        (via 𝓤 q (snd∗ 𝓤 O q) (pin_of 𝓤 2 κs.1.1 (R.lives, (E.lives, tt)) (P κs) (emp 𝓤))) (λ p.
        let b = bT κs p in
        let LA : Laws (At κ) = arg_laws δ yes (T κ) (LT κ) (same κ) in
        let m = met 𝓤 𝓛 𝓜 𝓡 wired (At κ) R E LA LR LE (gT κ) dT gS dS gD dD dd (record {
          S-Error-lives = b.S-Error-lives;
          lend_prefix = b.lend_prefix;
          prefix = b.prefix;
          cut = b.cut;
          discard = b.discard;
        }) b2 b3 b4 in
        let L = ResultLaws.the_row_laws (param 0 (At κ)) (DecodeError.the_row (param 2 E))
        (param_laws 0 (At κ) LA) (ErrorLaws.the_row_laws (param 2 E) (param_laws 2 E LE)) in
        lent 𝓛 𝓣 key n os ks givens params τ₀ (λ v. ex 𝓤 (λ (z : (Res κ).Denot). sep 𝓤
        (Back 𝓛 S y.0 v z) ((s κs y.0.3).ensures tt z))) (λ v. result_fit 𝓛 (Res κ) τ₀ L e A (λ z.
        (s κs y.0.3).ensures tt z) v) ℓ₂ ℓ₃ σ₂ σ₃ σ h₀ h₁ h₂ h₃ (named 0) κs.0 (param 1 R) x r us vs
        A q (via 𝓤 (sep 𝓤 O (sep 𝓤 (fact 𝓤 FT) (sep 𝓤 FR (sep 𝓤 FE (emp 𝓤))))) (mono_r 𝓤 O (via 𝓤
        (sep 𝓤 FR (sep 𝓤 FE (emp 𝓤))) (mono_r 𝓤 FR (mono_r 𝓤 FE (snd∗ 𝓤 (fact 𝓤 (P κs)) (emp 𝓤))))
        (with_fact 𝓤 FT (sep 𝓤 FR (sep 𝓤 FE (emp 𝓤))) (within κ)))) (m y)))
