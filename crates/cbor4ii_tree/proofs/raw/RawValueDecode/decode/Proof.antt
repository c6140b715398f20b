-- `decode` names `'static` in its error beside a bound with a lifetime, so it forwards to a
-- function over parameters, and this proof walks the forward by hand.
use denote.{Param.{bounded, layout}, Triple.Spec.triple_of, Triple.Table.entered}
use mathlib.{Core.List.{[], ◌∷◌}, Core.Path.refl}
use contract.{BorrowLft.{⊑_meet, ⊑_refl, ⊑_static}, Running.{tables, tables_of}}
use mir.{MapTy.inst_fn, Raw.raw as bare, Syntax.{a_type, dcons, dnil, erased, Args}}
use prog.Wp.{Tables}
use Rattle.cbor4ii_tree.proofs.{raw.RawValueLendRaw.TheImpl.Met.bound, raw_items.IfKnown.known}
use Rattle.cbor4ii_tree.proofs.raw.RawValue.TheLaws.{the_row_laws}
use Rattle.cbor4ii_tree.proofs.raw.RawValueDecode.decode.Statement.{statement}
use Rattle.cbor4ii_tree.specs.contracts.raw.RawValueDecode.decode.Key.{name as #f}
use Rattle.cbor4ii_tree.specs.contracts.raw.RawValue as RawValue
use Rattle.cbor4ii_tree.specs.contracts.raw.RawValueLendRaw.TheImpl as lends
use Rattle.cbor4ii_tree.specs.contracts.raw.RawValueDecode.decode as f
use Rattle.cbor4ii_tree.proofs.raw.RawValueDecode.decode.Code as code

pub decode_spec : {M : Type 1} → statement M
unfolding tables_of
decode_spec {M} 𝓤 𝓛 𝓜 𝓡 wired R E LR LE gR dR gS dS gD dD dd P b1 b2 b3 b4 =
    let 𝓣 : Tables 𝓤 𝓛.H = tables_of 𝓤 𝓛.H 𝓜 (tables 𝓤 𝓛.H 𝓜 𝓡 𝓡.env) in
    let args : Args = bounded (a_type ∷ a_type ∷ []) (R, (E, tt))
    (dcons dR (dcons dS (dcons dD (dcons dd dnil)))) in
    entered 𝓤 𝓛.H (triple_of 𝓛 (f.signature R E) (f.spec R E gR dR gS dS gD dD dd P 𝓛 𝓜.mem
    𝓡.returns)) 𝓣.C 𝓣.Λ (#f args) (inst_fn args code.function) (code.unfolded 𝓤 𝓛.H 𝓜 𝓡 wired
    (R, (E, tt)) dR dS dD dd) (λ y. known 𝓤 𝓛 𝓜 𝓡 (code.calls-cbor4ii_tree::lend_raw::take_raw 𝓡.env
    wired) R E LR LE gS dS gD dD dd P b2 b3 b4 (λ κ. RawValue.the_row (record {
      mir = erased;
      lft =
          κ;
    })) (λ κ. the_row_laws (record { mir = erased; lft = κ })) (λ κ. search (
      ⊑_meet,
      ⊑_refl,
      ⊑_static,
    )) (bare (layout (RawValue.the_row (record { mir = erased; lft = [] })))) (λ κ. refl)
    (λ κ. lends.ghosts R E gR dR gS dS gD dD dd) (lends.dict R E gR dR gS dS gD dD dd) (λ κs p.
    bound 𝓡.env (code.calls-cbor4ii_tree::raw::RawValueLendRaw::lend_prefix 𝓡.env wired)
    (code.calls-cbor4ii_tree::raw::RawValueLendRaw::prefix 𝓡.env wired)
    (code.calls-cbor4ii_tree::raw::RawValueLendRaw::cut 𝓡.env wired)
    (code.calls-cbor4ii_tree::raw::RawValueLendRaw::discard 𝓡.env wired) κs.1.0 R E LR LE gR dR gS
    dS gD dD dd M 𝓤 𝓛 𝓜 𝓡 (b1 κs p) b2 b3 b4) y.0.0 y.0.1 y.0.2 y.0.3.0 y.0.3.1.0 y.0.4.0 y.0.4.1.0
    _ _ _ _ _ _ refl _ _ _ _ _ _ _ _ _)
