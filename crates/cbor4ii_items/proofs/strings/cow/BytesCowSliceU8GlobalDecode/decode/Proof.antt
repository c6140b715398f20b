-- `decode` names `'static` in its error beside a bound with a lifetime, so it forwards to a
-- function over parameters, and this proof walks the forward by hand.
use mathlib.Core.Path.{refl}
use mathlib.Core.List.{[], ◌∷◌}
use base.Fml.{Lft}
use contract.BorrowLft.{◌⊑◌, ⊑_meet, ⊑_refl, ⊑_static}
use contract.Running.{tables, tables_of}
use denote.Param.{bounded, layout}
use denote.Triple.Spec.{triple_of}
use denote.Triple.Table.{entered}
use mir.MapTy.{inst_fn}
use mir.Raw.{raw as bare}
use mir.Syntax.{a_type, dcons, dnil, Args}
use prog.Wp.{Tables}
use Rattle.cbor4ii_items.specs.contracts.types.Bytes as Bytes
use Rattle.cbor4ii_items.proofs.types.Bytes.TheLaws.{the_row_laws}
use Rattle.cbor4ii_items.proofs.CowRows.{slice_row, slice_laws}
use Rattle.cbor4ii_items.proofs.KnownCow.{known}
use Rattle.cbor4ii_items.specs.contracts.strings.cow.BytesCowSliceU8GlobalLendOrOwn.TheImpl as lends
use Rattle.cbor4ii_items.proofs.strings.cow.BytesCowSliceU8GlobalLendOrOwn.TheImpl.Met.{bound}
use Rattle.cbor4ii_items.specs.contracts.strings.cow.BytesCowSliceU8GlobalDecode.decode as f
use Rattle.cbor4ii_items.specs.contracts.strings.cow.BytesCowSliceU8GlobalDecode.decode.Key.{name as #f}
use Rattle.cbor4ii_items.proofs.strings.cow.BytesCowSliceU8GlobalDecode.decode.Statement.{statement}
use Rattle.cbor4ii_items.proofs.strings.cow.BytesCowSliceU8GlobalDecode.decode.Code as code

lives : (κ : Lft) → κ ⊑ (Bytes.the_row (slice_row κ)).lives
lives κ = search (⊑_meet, ⊑_refl, ⊑_static) depth 8

pub decode_spec : {M : Type 1} → statement M
unfolding tables_of
decode_spec {M} 𝓤 𝓛 𝓜 𝓡 wired R E LR LE gR dR gS dS gD dD dd P b1 b2 b3 b4 =
    let 𝓣 : Tables 𝓤 𝓛.H = tables_of 𝓤 𝓛.H 𝓜 (tables 𝓤 𝓛.H 𝓜 𝓡 𝓡.env) in
    let args : Args = bounded (a_type ∷ a_type ∷ []) (R, (E, tt))
    (dcons dR (dcons dS (dcons dD (dcons dd dnil)))) in
    entered 𝓤 𝓛.H (triple_of 𝓛 (f.signature R E)
    (f.spec R E gR dR gS dS gD dD dd P 𝓛 𝓜.mem 𝓡.returns)) 𝓣.C 𝓣.Λ (#f args)
    (inst_fn args code.function)
    (code.unfolded 𝓤 𝓛.H 𝓜 𝓡 wired (R, (E, tt)) dR dS dD dd) (λ y.
    known 𝓤 𝓛 𝓜 𝓡 (code.calls-cbor4ii_items::strings::lent_or_owned::take_cow 𝓡.env wired) R E LR LE
    gS dS gD dD dd P b2 b3 b4
    (λ κ. Bytes.the_row (slice_row κ)) (λ κ. the_row_laws (slice_row κ) (slice_laws κ)) lives
    (bare (layout (Bytes.the_row (slice_row [])))) (λ κ. refl)
    (λ κ. lends.ghosts R E gR dR gS dS gD dD dd) (lends.dict R E gR dR gS dS gD dD dd)
    (λ κs p. bound 𝓡.env
    (code.calls-cbor4ii_items::strings::cow::BytesCowSliceU8GlobalLendOrOwn::name 𝓡.env
    wired) (code.calls-cbor4ii_items::strings::cow::BytesCowSliceU8GlobalLendOrOwn::major
    𝓡.env wired)
    (code.calls-cbor4ii_items::strings::cow::BytesCowSliceU8GlobalLendOrOwn::lend_from 𝓡.env
    wired) (code.calls-cbor4ii_items::strings::cow::BytesCowSliceU8GlobalLendOrOwn::own
    𝓡.env wired) κs.1.0 R E LR LE gR dR gS dS gD dD dd M 𝓤 𝓛 𝓜 𝓡 (b1 κs p) b2 b3 b4)
    y.0.0 y.0.1 y.0.2 y.0.3.0 y.0.3.1.0 y.0.4.0 y.0.4.1.0 _ _ _ _ _ _ refl _ _ _ _ _ _ _ _ _)
