-- `lend` hands its reader to `fill`, whose error may be of any type, so this proof walks the code
-- by hand.
use mathlib.Core.Path.{◌≡◌, refl, sym, subst}
use mathlib.Core.List.{[], ◌∷◌, ◌++◌}
use Prim.Native.Nat.{◌^◌, ◌<◌}
use seplogic.Ra.Ura.{Ura}
use base.Logic.{SProp, ent, id⊢, sep, wand, apply∗}
use base.FractionLaws.{common}
use base.Fml.{Share}
use types.Tokens.{lft-common}
use mir.Raw.{raw as bare}
use base.Fml.{Lft, ftrue, flft, fres}
use mir.Syntax.{Ty, Fn, Args, Dict, dcons, dnil, a_type, named, erased, method, w64}
use mir.MapTy.{inst_fn}
use mir.Val.{vptr, vint}
use prog.Memory.{Memory}
use prog.Routine.{Routine}
use prog.Wp.{WpFn, Tables}
use sound.WpLaws.{WpFn-mono, fm_of}
use contract.Monad.{Fun, fact}
use contract.BorrowLft.{◌⊑◌, ⊑_meet, ⊑_refl, ⊑_static, meet_⊑_left, meet_⊑_right}
use contract.Lifetimes.{Lfts}
use contract.Running.{tables, tables_of}
use types.Logic.{Logic}
use types.Kit.{‵, raw, ◌⊛◌, some, later, ◌$◌, ◌∵◌, !, qed, done, move, keep, drop, use1, use2}
use types.Kit.{split, split3, join, fsplit, fsplit3, fjoin, fpick, fpack, pick, await, suffices}
use types.Run.{enter, addr, stop, no_more, and_then, returns}
use types.ByLocal.{alloc_all, pass_all, free_all, look_at, get, through, sets, lands_as}
use denote.Builtin.{usize}
use denote.Exit.{no, yes}
use denote.Enum.Loose.{loose_lawful}
use denote.Follow.{such_by, follows_by}
use denote.Laws.{Lawful, shows}
use denote.Param.{param, layout, layouts, bounded, arg}
use denote.Param.Laws.{Laws, param_laws, arg_laws}
use denote.Plain.{uint_vals, uint_Tells}
use denote.RattleType.{RattleType, owns}
use denote.Ref.{MutRef, NamedLft, mut_vals, mut_Tells}
use denote.Signature.{plain, mut_ref_to}
use denote.Steps.{nothing, peeks, heard}
use denote.Triple.Call.{calls_at}
use denote.Triple.Clauses.{Clauses, Ended, Lasts, lasts}
use denote.Triple.Spec.{triple_of}
use denote.Triple.Statement.{Contract, Triple}
use denote.Triple.Table.{entered}
use denote.Triple.Walked.{Stays, stay_dropped, gave_ref, walk_of, ends_at, walked, Goes-dropped}
use denote.Triple.Walked.{Goes-spent_ref, Goes-gave_ref, walk_Meets}
use Rattle.std.specs.Prelude.{Option, Result, IfSome, OnSome, IfNone, IsSome, length, ◌≤◌, ⊤}
use Rattle.std.specs.Prelude.{IsTrue}
use Rattle.std.specs.Io.BufRead.{Rests}
use Rattle.std.specs.contracts.option.Option as OPT
use Rattle.std.proofs.option.Option.TheLaws as OPTL
use Rattle.std.specs.declared.fmt.Debug as Debug
use Rattle.cbor4ii_rw.specs.declared.read.Read as Read
use Rattle.cbor4ii_rw.specs.declared.read.Source as Source
use Rattle.cbor4ii_rw.specs.declared.read.Reference.{Reference}
use Rattle.cbor4ii_rw.specs.contracts.read.Reference as RF
use Rattle.cbor4ii_rw.proofs.read.Reference.TheLaws as RFL
use Rattle.cbor4ii_rw.specs.View.{IfKnown}
use Rattle.cbor4ii_rw.specs.Reader.{IsPrefix, IsEnough, Shows, ReaderFails}
use Rattle.cbor4ii_rw.specs.Reference.{bytes_of, IsLong, IsSubslice}
use Rattle.cbor4ii_rw.specs.Parted.{PartsAnswer}
use Rattle.cbor4ii_rw.proofs.Parted.{is_option, at_option, slot_kept, error_kept, leaves}
use Rattle.cbor4ii_rw.proofs.Results.{nm, RR, Filled, filled_result, told, Prefix, Bounded, Whole}
use Rattle.cbor4ii_rw.proofs.Results.{Left, Lasting, Placed, LeftBy}
use Rattle.cbor4ii_rw.specs.contracts.read.Read.fill as M
use Rattle.cbor4ii_rw.specs.contracts.ask.part as G
use Rattle.cbor4ii_rw.proofs.ask.part.Symbol.{name as #part}
use Rattle.cbor4ii_rw.proofs.ask.part.Met as G-thm
use Rattle.cbor4ii_rw.specs.contracts.ask.lend as F
use Rattle.cbor4ii_rw.specs.contracts.ask.lend.Key.{name as #self}
use Rattle.cbor4ii_rw.proofs.ask.lend.Statement as stated
use Rattle.cbor4ii_rw.proofs.ask.lend.Code as code

-- what is lent, as `part` is called at it
abbrev er : Lft → NamedLft
er κ = record { mir = erased; lft = κ }

abbrev ER : Lft → Lft → RattleType
ER κ κ' = RF.the_row (er κ) (er κ')

abbrev lent_ty : Ty
lent_ty = bare (layout (ER [] []))

abbrev At : Lft → Lft → RattleType
At κ κ' = arg lent_ty yes (ER κ κ')

at_laws : (κ κ' : Lft) → Laws (At κ κ')
at_laws κ κ' = arg_laws lent_ty yes (ER κ κ') (RFL.the_row_laws (er κ) (er κ')) refl

at_lives : (κ κ' : Lft) → (κ ++ κ') ⊑ (At κ κ').lives
at_lives κ κ' = search (⊑_meet, ⊑_refl, ⊑_static, meet_⊑_left, meet_⊑_right) depth 24

shown_lawful : {M : Type 1} {𝓤 : Ura M} (𝓛 : Logic 𝓤) (κ κ' : Lft)
    → Lawful 𝓛 (OPT.the_row (RR κ κ'))
shown_lawful 𝓛 κ κ' = loose_lawful (OPT.the_type (RR κ κ'))
    (OPTL.the_loose (RR κ κ') (RFL.the_row_laws (nm 0 κ) (nm 1 κ'))) tt 𝓛

module _ (R E : RattleType) (gR : Read.Ghosts R.Denot E.Denot) (dR : Dict)
    (gS : Source.Ghosts R.Denot E.Denot) (dS : Dict) (gD : Debug.Ghosts E.Denot) (dD : Dict)
    (dX : Dict) (Pp : Lfts 5 → Type 0) where
  abbrev args : Args
  args = bounded (a_type ∷ a_type ∷ []) (R, (E, tt))
      (dcons dR (dcons dS (dcons dD (dcons dX dnil))))

  abbrev fn' : Fn
  fn' = inst_fn args code.function

  abbrev P : RattleType
  P = param 0 R

  -- the error's slot
  abbrev O : RattleType
  O = OPT.the_row (param 1 E)

  -- the type that `part` is called at
  abbrev Q : RattleType
  Q = arg (layout E) yes (param 1 E)

  abbrev part_args : Args
  part_args = bounded (a_type ∷ a_type ∷ []) (At [] [], (Q, tt)) (dcons dX dnil)

  abbrev ended : Ended
  ended = F.ended R E gR dR gS dS gD dD dX Pp

  abbrev stayed : Stays ended.signature.params ended.kept
  stayed = (
    stay_dropped (mut_ref_to (0 ∷ []) tt (plain (λ _. P))) no,
    (stay_dropped (plain (λ _. usize)) yes, (gave_ref (1 ∷ []) tt (plain (λ _. O)), tt)),
  )

  -- `fill` where `'de` is the k-th choice of lifetimes'
  abbrev method_P : Lft → Lfts 4 → Type 0
  method_P κ κs = (κs.0 ≡ κ) × Unit {0}

  module _ {M' : Type 1} {𝓤 : Ura M'} (𝓛 : Logic 𝓤) (at_mem : Memory → SProp 𝓤)
      (run : Routine → Fun 𝓤) where
    abbrev fill_c : Lft → Contract 𝓤
    fill_c κ = triple_of 𝓛 (M.signature R E) (M.spec R E gR dR gS dS gD dD dX (method_P κ) 𝓛 at_mem
        run)

    abbrev part_c : Lft → Lft → Contract 𝓤
    part_c κ κ' = triple_of 𝓛 (G.signature (At κ κ') Q) (G.spec (At κ κ') Q dX 𝓛 at_mem run)

  module _ (LE : Laws E) {M' : Type 1} {𝓤 : Ura M'} (𝓛 : Logic 𝓤) (at_mem : Memory → SProp 𝓤)
      (run : Routine → Fun 𝓤) (𝓣 : Tables 𝓤 𝓛.H)
      (fills : (κs : Lfts 5) → Pp κs → Triple 𝓤 (𝓣.C (method dR 0 (layouts [] tt)))
      (fill_c 𝓛 at_mem run κs.1.1.0))
      (parts : (κ κ' : Lft) → Triple 𝓤 (𝓣.C (#part part_args)) (part_c 𝓛 at_mem run κ κ')) where
    open 𝓛 use {H, A}

    abbrev held : Clauses 𝓤 ended
    held = F.clauses R E gR dR gS dS gD dD dX Pp 𝓛 at_mem run

    abbrev Bound : Type 0
    Bound = (walk_of 𝓛 ended stayed held).Ghost

    abbrev at : Bound → Bound
    at y = (
      (
        y.0.0,
        y.0.1,
        y.0.2,
        y.0.3,
        (mut_vals y.0.3.0, (vint w64 y.0.3.1.0 ∷ [], (mut_vals y.0.3.1.1.0, tt))),
      ),
      y.1,
    )

    walk : (y : Bound) → y.0.3.1.0 < 2 ^ 64
        → ent 𝓤 ((walk_of 𝓛 ended stayed held).pre (at y))
        (WpFn 𝓤 H 𝓣.C 𝓣.Λ fn'
        (vptr y.0.3.0.ref_ptr.0 y.0.3.0.ref_ptr.1 ∷ vint w64 y.0.3.1.0 ∷ vptr
        y.0.3.1.1.0.ref_ptr.0 y.0.3.1.1.0.ref_ptr.1 ∷ [])
        ((walk_of 𝓛 ended stayed held).post (at y)))
    unfolding such_by follows_by
    walk y fits =
        let κs = y.0.0 in let qs = y.0.1 in let self = y.0.3.0 in let want = y.0.3.1.0 in
        let slot = y.0.3.1.1.0 in let x = self.now in
        let κ0 = κs.0 in let κ1 = κs.1.0 in let κ2 = κs.1.1.0 in let κ3 = κs.1.1.1.0 in
        let κ4 = κs.1.1.1.1.0 in
        let q0 = qs.0 in let q1 = qs.1.0 in let q2 = qs.1.1.0 in let q3 = qs.1.1.1.0 in
        let q4 = qs.1.1.1.1.0 in
        let vs0 = vptr self.ref_ptr.0 self.ref_ptr.1 ∷ [] in let vs2 = vptr slot.ref_ptr.0
        slot.ref_ptr.1 ∷ [] in
        qed 𝓛 (((‵ (flft κ0 q0) ⊛ ‵ (flft κ1 q1) ⊛ ‵ (flft κ2 q2) ⊛ ‵ (flft κ3 q3) ⊛ ‵ (flft κ4 q4)
        ⊛ ‵ ftrue) ⊛ ‵ (owns (MutRef (named 0) κ0 P ∷ usize ∷ MutRef (named 1) κ1 O ∷ [])
        (self, (want, (slot, tt))) (vs0, (vint w64 want ∷ [], (vs2, tt)))))
        ∷ (raw (fact 𝓤 (κ3 ⊑ R.lives)) ⊛ raw (fact 𝓤 (κ4 ⊑ E.lives)) ⊛ raw (fact 𝓤 (Pp κs)) ⊛
        ‵ ftrue) ∷ []) ∵
        enter ! 𝓣.C 𝓣.Λ fn' _ _ $
        alloc_all ! (λ ls. pass_all ! refl
        ((tt, tt), ((tt, record { fits = fits }), ((tt, tt), tt))) $
        sets ! (addr ! (through ! refl (stop !))) refl (tt, tt) $
        split ! $ move ! (2 ∷ []) $ split3 ! $
        heard ! (κ3 ⊑ R.lives) (λ inR. heard ! (κ4 ⊑ E.lives) (λ inE. split ! $
        heard ! (Pp κs) (λ p. drop ! $
        move ! (1 ∷ []) $ fsplit3 ! $ move ! (2 ∷ []) $ fsplit ! $ move ! (1 ∷ []) $ drop ! $
        -- [the slot; the reader; want; the tokens]
        move ! (3 ∷ []) $ split3 ! $ move ! (2 ∷ []) $ split3 ! $
        -- [κ2; κ3; κ4 and true; κ0; κ1; the slot; the reader; want]
        move ! (1 ∷ 2 ∷ []) $ join ! $ move ! (2 ∷ 0 ∷ []) $ join ! $ move ! (1 ∷ 0 ∷ []) $ join ! $
        nothing ! $ move ! (5 ∷ 0 ∷ []) $ join ! $ move ! (4 ∷ 0 ∷ []) $ join ! $
        move ! (1 ∷ 0 ∷ []) $ join ! $
        nothing ! $ told ! (method_P κ2 (κ2, (κ0, (κ3, (κ4, tt))))) (refl, tt) $
        told ! (κ4 ⊑ E.lives) inE $
        told ! (κ3 ⊑ R.lives) inR $
        move ! (1 ∷ 0 ∷ []) $
        let c1 = fill_c 𝓛 at_mem run κ2 in
        let z1 : c1.Ghost = (
          (
            (κ2, (κ0, (κ3, (κ4, tt)))),
            (q2, (q0, (q3, (q4, tt)))),
            (y.0.2.0, tt),
            (self, (want, tt)),
            (vs0, (vint w64 want ∷ [], tt)),
          ),
          tt,
        ) in
        use2 𝓛 (raw (c1.pre z1)) (id⊢ 𝓤 _) $
        calls_at ! (fm_of 𝓤 H 𝓛.laws 𝓣) c1 (fills κs p) z1
        (and_then ! (get ! refl) (and_then ! (get ! refl) (no_more !))) (λ v1.
        use1 𝓛 (later (some (λ (r : Result Reference E.Denot).
        ((‵ (flft κ2 q2) ⊛ ‵ (flft κ0 q0) ⊛ ‵ (flft κ3 q3) ⊛ ‵ (flft κ4 q4) ⊛ ‵ ftrue) ⊛ ‵
        ((Filled E κ2 κ0).own_val r (v1 ∷ []))) ⊛
        some (λ (ws : Lasts (M.ended R E gR dR gS dS gD dD dX (method_P
        κ2)) z1.0.0 z1.0.3). ‵
        (lasts (M.ended R E gR dR gS dS gD dD dX (method_P κ2)) z1.0.0
        z1.0.3 ws)
        ⊛ raw (fact 𝓤 (Prefix bytes_of (gS.view x) r want)) ⊛ raw
        (fact 𝓤 (Bounded bytes_of (gS.view x) r)) ⊛ raw
        (fact 𝓤 (Whole bytes_of (gS.view x) r want)) ⊛
        raw (fact 𝓤 (Lasting (gS.view x) r)) ⊛ raw (fact 𝓤 (Placed (gS.view x) r)) ⊛
        ‵ (Rests P self (λ new. Left bytes_of (gS.view x) r (gS.view new))))))) (id⊢ 𝓤 _) $
        await ! tt $ pick ! (λ r. split ! $ split ! $ move ! (1 ∷ []) $
        peeks ! (Filled E κ2 κ0) _ (shows 𝓛 (Filled E κ2 κ0)) r (v1 ∷ []) (λ is.
        lands_as ! refl refl ((filled_result E LE 𝓛 κ2 κ0).typed r (v1 ∷ []) is).0 $
        move ! (2 ∷ []) $ pick ! (λ ws. split ! $ drop ! $ split3 ! $
        heard ! (Prefix bytes_of (gS.view x) r want)
        (λ prefix. heard ! (Bounded bytes_of (gS.view x) r) (λ bounded. split3 ! $
        heard ! (Whole bytes_of (gS.view x) r want)
        (λ whole. heard ! (Lasting (gS.view x) r) (λ lasting.
        split ! $ heard ! (Placed (gS.view x) r) (λ placed. fpick ! (λ s.
        -- [resγ; the result; the tokens; κ1; the slot]
        sets ! (addr ! (through ! refl (stop !))) refl (tt, tt) $
        let met : Lft = κ2 ++ κ0 in let share : Share = (common q2 q0).0 in let Both : SProp 𝓤 = sep
        𝓤
        (A.lft κ2 q2) (A.lft κ0 q0) in
        move ! (2 ∷ []) $ split3 ! $ move ! (2 ∷ []) $ split ! $ move ! (2 ∷ 3 ∷ []) $
        use2 𝓛 (‵ (flft met share) ⊛ raw (wand 𝓤 (A.lft met share) Both)) (lft-common 𝓛 κ2 κ0 q2 q0)
        $
        split ! $
        move ! (0 ∷ 3 ∷ []) $ join ! $ move ! (5 ∷ 0 ∷ []) $ join ! $
        move ! (0 ∷ 2 ∷ 3 ∷ 4 ∷ 5 ∷ []) $
        nothing ! $ move ! (5 ∷ 0 ∷ []) $ join ! $ move ! (4 ∷ 0 ∷ []) $ join ! $
        move ! (1 ∷ 0 ∷ []) $ join ! $
        nothing ! $ told ! (κ4 ⊑ E.lives) inE $ told ! (met ⊑ (At κ2 κ0).lives) (at_lives κ2 κ0) $
        move ! (1 ∷ 0 ∷ []) $
        let c2 = part_c 𝓛 at_mem run κ2 κ0 in
        let z2 : c2.Ghost = (
          (
            (κ1, (met, (κ4, tt))),
            (q1, (share, (q4, tt))),
            (y.0.2.1.0, tt),
            (r, (slot, tt)),
            (v1 ∷ [], (vs2, tt)),
          ),
          tt,
        ) in
        use2 𝓛 (raw (c2.pre z2)) (id⊢ 𝓤 _) $
        calls_at ! (fm_of 𝓤 H 𝓛.laws 𝓣) c2 (parts κ2 κ0) z2
        (and_then ! (get ! refl) (and_then ! (get ! refl) (no_more !))) (λ v2.
        use1 𝓛 (later (some (λ (t : Option Reference).
        ((‵ (flft κ1 q1) ⊛ ‵ (flft met share) ⊛ ‵ (flft κ4 q4) ⊛ ‵ ftrue) ⊛ ‵
        ((OPT.the_row (RR κ2 κ0)).own_val t (v2 ∷ []))) ⊛
        some (λ (ws2 : Lasts (G.ended (At κ2 κ0) Q dX) z2.0.0 z2.0.3). ‵
        (lasts (G.ended (At κ2 κ0) Q dX) z2.0.0 z2.0.3 ws2) ⊛ raw
        (fact 𝓤 (PartsAnswer r slot.now ws2.1.0 t)))))) (id⊢ 𝓤 _) $
        await ! tt $ pick ! (λ t. split ! $ split ! $ move ! (1 ∷ []) $
        peeks ! (OPT.the_row (RR κ2 κ0)) _ (shows 𝓛 (OPT.the_row (RR κ2 κ0))) t (v2 ∷ [])
        (λ is2.
        lands_as ! refl refl ((shown_lawful 𝓛 κ2 κ0).typed t (v2 ∷ []) is2).0 $
        move ! (2 ∷ []) $ pick ! (λ ws2. split ! $ move ! (1 ∷ []) $
        heard ! (PartsAnswer r slot.now ws2.1.0 t) (λ parted.
        -- [last values; the result; the tokens; κ3; resγ]
        returns ! (look_at ! 0 refl) $ free_all ! refl $
        let same = is_option r slot.now ws2.1.0 t parted in
        let shown_prefix = λ (sh : Reference). IfKnown (gS.view x).known
        (IsPrefix want (bytes_of sh)) in
        let shown_enough = λ (sh : Reference). IfKnown (gS.view x).known
        (IsEnough want (bytes_of sh)) in
        let shown_placed = λ (sh : Reference). IsSubslice sh (gS.view x) in
        let shown_bounded = λ (sh : Reference). length (bytes_of sh) ≤ (gS.view x).bound in
        fsplit3 ! $ move ! (1 ∷ 2 ∷ []) $ fjoin ! $ nothing ! $ fjoin ! $ nothing ! $ fjoin ! $
        move ! (0 ∷ 2 ∷ []) $ join ! $
        move ! (2 ∷ []) $ split3 ! $ move ! (1 ∷ 7 ∷ []) $ use2 𝓛 (‵ (flft κ2 q2) ⊛ ‵ (flft κ0 q0))
        (apply∗ 𝓤 (A.lft met share) Both) $ split ! $ move ! (2 ∷ 3 ∷ []) $
        move ! (6 ∷ 1 ∷ []) $ join ! $ move ! (2 ∷ 0 ∷ []) $ join ! $ move ! (1 ∷ 0 ∷ []) $ join ! $
        move ! (1 ∷ 0 ∷ []) $ join ! $ join ! $
        move ! (2 ∷ []) $
        fpack ! ((u : (P.Denot → P.Denot) × P.Denot) × (P.Denot → ⊤) × LeftBy bytes_of (gS.view x)
        (gS.view u.1) t)
        (λ u. fres self.ghost_name (P.coded.code u.0.1)) (
          s.0,
          (λ _. tt),
          subst (LeftBy bytes_of (gS.view x) (gS.view s.0.1)) (sym same)
              (leaves (ReaderFails (gS.view x) (gS.view s.0.1))
              (λ shown. Shows (bytes_of shown) (gS.view x) (gS.view s.0.1)) r s.2),
        ) $
        told ! (IfNone t (IsSome ws2.1.0)) (error_kept r slot.now ws2.1.0 t parted) $
        told ! (OnSome t (ws2.1.0 ≡ slot.now)) (slot_kept r slot.now ws2.1.0 t parted) $
        told ! (IfSome t shown_placed) (subst (λ u. IfSome u shown_placed) (sym same)
        (at_option shown_placed r placed)) $
        told ! (IsTrue (gS.view x).zero_copy → IfSome t IsLong)
        (λ l. subst (λ u. IfSome u IsLong) (sym same) (at_option IsLong r (lasting l))) $
        told ! (IsTrue (gS.view x).zero_copy → IfSome t shown_enough)
        (λ l. subst (λ u. IfSome u shown_enough) (sym same) (at_option shown_enough r (whole l))) $
        told ! (IfSome t shown_bounded)
        (subst (λ u. IfSome u shown_bounded) (sym same) (at_option shown_bounded r bounded)) $
        told ! (IfSome t shown_prefix) (subst (λ u. IfSome u shown_prefix) (sym same)
        (at_option shown_prefix r prefix)) $
        keep ! (1 ∷ 0 ∷ []) $
        suffices ! _ (ends_at 𝓛 ended stayed held (at y) v2 t (tt, (tt, (ws2.1.0, tt)))
        (tt, (tt, (tt, tt)))) $
        join ! $ done !)))))))))))))))))))

pub lend_spec : {M' : Type 1} → stated.statement M'
unfolding tables_of
lend_spec 𝓤 𝓛 𝓜 𝓡 wired R E L LE gR dR gS dS gD dD dX Pp mR mS mD mX =
    let 𝓣 : Tables 𝓤 𝓛.H = tables_of 𝓤 𝓛.H 𝓜 (tables 𝓤 𝓛.H 𝓜 𝓡 𝓡.env) in
    let parts = λ (κ κ' : Lft). G-thm.met 𝓤 𝓛 𝓜 𝓡 (code.calls-cbor4ii_rw::ask::part 𝓡.env wired)
    (At κ κ') (Q R E gR dR gS dS gD dD dX Pp) (at_laws κ κ')
    (arg_laws (layout E) yes (param 1 E) (param_laws 1 E LE) refl) dX mX in
    let fills = λ (κs : Lfts 5) (p : Pp κs). (mR κs p).fill dX in
    let held' = held R E gR dR gS dS gD dD dX Pp LE 𝓛 𝓜.mem 𝓡.returns 𝓣 fills parts in
    let end' = ended R E gR dR gS dS gD dD dX Pp in let stay' = stayed R E gR dR gS dS gD dD dX Pp
    in let f = fn' R E gR dR gS dS gD dD dX Pp in
    entered 𝓤 𝓛.H (triple_of 𝓛 end'.signature (F.spec R E gR dR gS dS gD dD dX Pp 𝓛 𝓜.mem
    𝓡.returns)) 𝓣.C 𝓣.Λ (#self (args R E gR dR gS dS gD dD dX Pp)) f
    (code.unfolded 𝓤 𝓛.H 𝓜 𝓡 wired (R, (E, tt)) dR dS dD dX)
    (walk_Meets 𝓛 end' stay' (
      Goes-spent_ref 𝓛 5 (0 ∷ []) tt (plain (λ κs. P R E gR dR gS dS gD dD dX Pp)),
      (
        Goes-dropped 𝓛 5 (plain (λ _. usize)) yes (λ κs x f. refl),
        (Goes-gave_ref 𝓛 5 1 tt (plain (λ κs. O R E gR dR gS dS gD dD dX Pp)), tt),
      ),
    ) held'
    (WpFn 𝓤 𝓛.H 𝓣.C 𝓣.Λ f) (WpFn-mono 𝓤 𝓛.H 𝓛.laws 𝓣 f)
    (walked 𝓛 end' stay' held' (WpFn 𝓤 𝓛.H 𝓣.C 𝓣.Λ f)
    (λ κs. (mut_vals, (uint_vals w64, (mut_vals, tt))))
    (λ κs. (
      mut_Tells (named 0) κs.0 (P R E gR dR gS dS gD dD dX Pp),
      (uint_Tells w64, (mut_Tells (named 1) κs.1.0 (O R E gR dR gS dS gD dD dX Pp), tt)),
    ))
    (λ κs qs bounds a g' are. walk R E gR dR gS dS gD dD dX Pp LE 𝓛 𝓜.mem 𝓡.returns 𝓣 fills parts
    ((κs, qs, bounds, a, (mut_vals a.0, (vint w64 a.1.0 ∷ [], (mut_vals a.1.1.0, tt)))), g')
    are.1.0.1)))
