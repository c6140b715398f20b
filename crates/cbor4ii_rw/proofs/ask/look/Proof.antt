-- `look` hands its reader to `show`, whose error may be of any type, so this proof walks the code
-- by hand.
use mathlib.Core.Path.{◌≡◌, refl, sym, subst}
use mathlib.Core.List.{List, [], ◌∷◌}
use Prim.Native.Nat.{ℕ, ◌^◌, ◌<◌}
use seplogic.Ra.Ura.{Ura}
use base.Logic.{SProp, ent, id⊢}
use base.Fml.{Lft, ftrue, flft, fres}
use mir.Syntax.{Ty, Fn, Args, Dict, dcons, dnil, a_type, named, erased, method, w64, ty_struct}
use mir.Syntax.{ty_ptr, ty_int, tcons, tnil}
use mir.MapTy.{inst_fn}
use mir.Val.{vptr, vint}
use prog.Memory.{Memory}
use prog.Routine.{Routine}
use prog.Wp.{WpFn, Tables}
use sound.WpLaws.{WpFn-mono, fm_of}
use contract.Monad.{Fun, fact}
use contract.BorrowLft.{◌⊑◌, ⊑_meet, ⊑_refl, ⊑_static}
use contract.Running.{tables, tables_of}
use types.Logic.{Logic}
use types.Kit.{‵, raw, ◌⊛◌, some, later, ◌$◌, ◌∵◌, !, qed, done, move, keep, drop, use1, use2}
use types.Kit.{split, split3, join, fsplit, fsplit3, fjoin, fpick, fpack, pick, await, suffices}
use types.Run.{enter, addr, stop, no_more, and_then, returns}
use types.ByLocal.{alloc_all, pass_all, free_all, look_at, get, through, sets, lands_as}
use denote.Builtin.{usize}
use denote.Exit.{no, yes}
use denote.Struct.Field.{Field, shr_slice_field, u8-field}
use denote.Struct.Laws.{u8-laws, u8-copy, shr_slice_laws, shr_slice_copy}
use denote.Param.Shared.{copy_shared}
use denote.Enum.Loose.{loose_lawful}
use denote.Follow.{such_by, follows_by}
use denote.Laws.{Lawful, shows}
use denote.Param.{param, layout, layouts, bounded, arg}
use denote.Param.Laws.{Laws, param_laws, arg_laws, of_field}
use denote.Plain.{uint_vals, uint_Tells}
use denote.RattleType.{RattleType, owns}
use denote.Ref.{MutRef, mut_vals, mut_Tells}
use denote.Signature.{plain, mut_ref_to}
use denote.Steps.{nothing, peeks, heard}
use denote.Triple.Call.{calls_at}
use denote.Triple.Clauses.{Clauses, Ended, Lasts, lasts}
use denote.Triple.Spec.{triple_of}
use denote.Triple.Statement.{Contract, Triple}
use denote.Triple.Table.{entered}
use denote.Triple.Walked.{Stays, stay_dropped, gave_ref, walk_of, ends_at, walked, Goes-dropped}
use denote.Triple.Walked.{Goes-spent_ref, Goes-gave_ref, walk_Meets}
use Rattle.std.specs.Prelude.{Option, Result, IfSome, OnSome, IfNone, IsSome, IsTrue}
use Rattle.std.specs.Prelude.{length, ◌≤◌, ⊤}
use Rattle.std.specs.Io.BufRead.{Rests}
use Rattle.std.specs.contracts.option.Option as OPT
use Rattle.std.proofs.option.Option.TheLaws as OPTL
use Rattle.std.specs.declared.fmt.Debug as Debug
use Rattle.cbor4ii_rw.specs.declared.read.Source as Source
use Rattle.std.specs.Borrow.{Bor}
use Rattle.cbor4ii_rw.specs.View.{IfKnown}
use Rattle.cbor4ii_rw.specs.Reader.{IsPrefix, IsEnough, Shows, ReaderFails}
use Rattle.cbor4ii_rw.specs.Parted.{PartsAnswer}
use Rattle.cbor4ii_rw.proofs.Parted.{is_option, at_option, slot_kept, error_kept, leaves}
use Rattle.cbor4ii_rw.proofs.Results.{SF, slice_laws, Shown, shown_result, told, Prefix, Bounded}
use Rattle.cbor4ii_rw.proofs.Results.{Whole, Left, now_of, LeftBy}
use Rattle.cbor4ii_rw.specs.contracts.read.Source.show as M
use Rattle.cbor4ii_rw.specs.contracts.ask.part as G
use Rattle.cbor4ii_rw.proofs.ask.part.Symbol.{name as #part}
use Rattle.cbor4ii_rw.proofs.ask.part.Met as G-thm
use Rattle.cbor4ii_rw.specs.contracts.ask.look as F
use Rattle.cbor4ii_rw.specs.contracts.ask.look.Key.{name as #self}
use Rattle.cbor4ii_rw.proofs.ask.look.Statement as stated
use Rattle.cbor4ii_rw.proofs.ask.look.Code as code

-- the shown bytes, as `part` is called at them
abbrev slice_ty : Ty
slice_ty = ty_struct [] (tcons ty_ptr (tcons (ty_int w64) tnil))

abbrev EF : Lft → Field
EF κ = shr_slice_field (record { mir = erased; lft = κ }) u8-field.row tt

abbrev At : Lft → RattleType
At κ = arg slice_ty yes (EF κ).row

at_laws : (κ : Lft) → Laws (At κ)
at_laws κ = arg_laws slice_ty yes (EF κ).row
    (of_field (EF κ) (shr_slice_laws (record { mir = erased; lft = κ }) u8-field.row tt) refl
    (copy_shared (EF κ) (shr_slice_copy (record { mir = erased; lft = κ }) u8-field.row tt
    (of_field u8-field u8-laws refl (copy_shared u8-field u8-copy)).shr_laws))) refl

at_lives : (κ : Lft) → κ ⊑ (At κ).lives
at_lives κ = search (⊑_meet, ⊑_refl, ⊑_static)

shown_lawful : {M : Type 1} {𝓤 : Ura M} (𝓛 : Logic 𝓤) (κ : Lft) → Lawful 𝓛 (OPT.the_row (SF κ).row)
shown_lawful 𝓛 κ = loose_lawful (OPT.the_type (SF κ).row) (OPTL.the_loose (SF κ).row (slice_laws κ))
    tt 𝓛

module _ (R E : RattleType) (gS : Source.Ghosts R.Denot E.Denot) (dS : Dict)
    (gD : Debug.Ghosts E.Denot) (dD : Dict) (dX : Dict) where
  abbrev args : Args
  args = bounded (a_type ∷ a_type ∷ []) (R, (E, tt)) (dcons dS (dcons dD (dcons dX dnil)))

  abbrev fn' : Fn
  fn' = inst_fn args code.function

  abbrev P : RattleType
  P = param 0 R

  -- the error's slot
  abbrev O : RattleType
  O = OPT.the_row (param 1 E)

  -- the type that `part` is called at
  abbrev Q : RattleType
  Q = arg (layout E) yes (param 1 E)

  abbrev part_args : Args
  part_args = bounded (a_type ∷ a_type ∷ []) (At [], (Q, tt)) (dcons dX dnil)

  abbrev ended : Ended
  ended = F.ended R E gS dS gD dD dX

  abbrev stayed : Stays ended.signature.params ended.kept
  stayed = (
    stay_dropped (mut_ref_to (0 ∷ []) tt (plain (λ _. P))) no,
    (stay_dropped (plain (λ _. usize)) yes, (gave_ref (1 ∷ []) tt (plain (λ _. O)), tt)),
  )

  module _ {M' : Type 1} {𝓤 : Ura M'} (𝓛 : Logic 𝓤) (at_mem : Memory → SProp 𝓤)
      (run : Routine → Fun 𝓤) where
    abbrev show_c : Contract 𝓤
    show_c = triple_of 𝓛 (M.signature R E) (M.spec R E gS dS gD dD dX 𝓛 at_mem run)

    abbrev part_c : Lft → Contract 𝓤
    part_c κ = triple_of 𝓛 (G.signature (At κ) Q) (G.spec (At κ) Q dX 𝓛 at_mem run)

  module _ (LE : Laws E) {M' : Type 1} {𝓤 : Ura M'} (𝓛 : Logic 𝓤) (at_mem : Memory → SProp 𝓤)
      (run : Routine → Fun 𝓤) (𝓣 : Tables 𝓤 𝓛.H)
      (shows_it : Triple 𝓤 (𝓣.C (method dS 0 (layouts [] tt))) (show_c 𝓛 at_mem run))
      (parts : (κ : Lft) → Triple 𝓤 (𝓣.C (#part part_args)) (part_c 𝓛 at_mem run κ)) where
    open 𝓛 use {H, A}

    abbrev held : Clauses 𝓤 ended
    held = F.clauses R E gS dS gD dD dX 𝓛 at_mem run

    abbrev Bound : Type 0
    Bound = (walk_of 𝓛 ended stayed held).Ghost

    abbrev at : Bound → Bound
    at y = (
      (
        y.0.0,
        y.0.1,
        y.0.2,
        y.0.3,
        (mut_vals y.0.3.0, (vint w64 y.0.3.1.0 ∷ [], (mut_vals y.0.3.1.1.0, tt))),
      ),
      y.1,
    )

    walk : (y : Bound) → y.0.3.1.0 < 2 ^ 64
        → ent 𝓤 ((walk_of 𝓛 ended stayed held).pre (at y))
        (WpFn 𝓤 H 𝓣.C 𝓣.Λ fn' (vptr y.0.3.0.ref_ptr.0 y.0.3.0.ref_ptr.1 ∷ vint
        w64 y.0.3.1.0 ∷ vptr y.0.3.1.1.0.ref_ptr.0 y.0.3.1.1.0.ref_ptr.1 ∷ [])
        ((walk_of 𝓛 ended stayed held).post (at y)))
    unfolding such_by follows_by
    walk y fits =
        let κs = y.0.0 in let qs = y.0.1 in let self = y.0.3.0 in let want = y.0.3.1.0 in
        let slot = y.0.3.1.1.0 in let x = self.now in
        let κ0 = κs.0 in let κ1 = κs.1.0 in let κ2 = κs.1.1.0 in let κ3 = κs.1.1.1.0 in
        let q0 = qs.0 in let q1 = qs.1.0 in let q2 = qs.1.1.0 in let q3 = qs.1.1.1.0 in
        let vs0 = vptr self.ref_ptr.0 self.ref_ptr.1 ∷ [] in let vs2 = vptr slot.ref_ptr.0
        slot.ref_ptr.1 ∷ [] in
        qed 𝓛 (((‵ (flft κ0 q0) ⊛ ‵ (flft κ1 q1) ⊛ ‵ (flft κ2 q2) ⊛ ‵ (flft κ3 q3) ⊛ ‵ ftrue)
        ⊛ ‵ (owns (MutRef (named 0) κ0 P ∷ usize ∷ MutRef (named 1) κ1 O ∷ [])
        (self, (want, (slot, tt))) (vs0, (vint w64 want ∷ [], (vs2, tt)))))
        ∷ (raw (fact 𝓤 (κ2 ⊑ R.lives)) ⊛ raw (fact 𝓤 (κ3 ⊑ E.lives)) ⊛ ‵ ftrue) ∷ []) ∵
        enter ! 𝓣.C 𝓣.Λ fn' _ _ $
        alloc_all ! (λ ls. pass_all ! refl
        ((tt, tt), ((tt, record { fits = fits }), ((tt, tt), tt))) $
        sets ! (addr ! (through ! refl (stop !))) refl (tt, tt) $
        split ! $ move ! (2 ∷ []) $ split3 ! $
        heard ! (κ2 ⊑ R.lives) (λ inR. heard ! (κ3 ⊑ E.lives) (λ inE. drop ! $
        move ! (1 ∷ []) $ fsplit3 ! $ move ! (2 ∷ []) $ fsplit ! $ move ! (1 ∷ []) $ drop ! $
        -- [the slot; the reader; want; the tokens]
        move ! (3 ∷ []) $ split3 ! $ move ! (2 ∷ []) $ split ! $
        -- [κ2; κ3 and true; κ0; κ1; the slot; the reader; want]
        join ! $ move ! (1 ∷ 0 ∷ []) $ join ! $
        nothing ! $ move ! (5 ∷ 0 ∷ []) $ join ! $ move ! (4 ∷ 0 ∷ []) $ join ! $
        move ! (1 ∷ 0 ∷ []) $ join ! $
        nothing ! $
        told ! (κ3 ⊑ E.lives) inE $
        told ! (κ2 ⊑ R.lives) inR $
        move ! (1 ∷ 0 ∷ []) $
        let c1 = show_c 𝓛 at_mem run in
        let z1 : c1.Ghost = (
          (
            (κ0, (κ2, (κ3, tt))),
            (q0, (q2, (q3, tt))),
            (y.0.2.0, tt),
            (self, (want, tt)),
            (vs0, (vint w64 want ∷ [], tt)),
          ),
          tt,
        ) in
        use2 𝓛 (raw (c1.pre z1)) (id⊢ 𝓤 _) $
        calls_at ! (fm_of 𝓤 H 𝓛.laws 𝓣) c1 shows_it z1
        (and_then ! (get ! refl) (and_then ! (get ! refl) (no_more !))) (λ v1.
        use1 𝓛 (later (some (λ (r : Result (Bor (List ℕ)) E.Denot).
        ((‵ (flft κ0 q0) ⊛ ‵ (flft κ2 q2) ⊛ ‵ (flft κ3 q3) ⊛ ‵ ftrue) ⊛ ‵
        ((Shown E κ0).own_val r (v1 ∷ []))) ⊛
        some (λ (ws : Lasts (M.ended R E gS dS gD dD dX) z1.0.0 z1.0.3). ‵
        (lasts (M.ended R E gS dS gD dD dX) z1.0.0 z1.0.3 ws)
        ⊛ raw (fact 𝓤 (Prefix now_of (gS.view x) r want)) ⊛ raw
        (fact 𝓤 (Bounded now_of (gS.view x) r)) ⊛ raw
        (fact 𝓤 (Whole now_of (gS.view x) r want)) ⊛
        ‵ (Rests P self (λ new. Left now_of (gS.view x) r (gS.view new))))))) (id⊢ 𝓤 _) $
        await ! tt $ pick ! (λ r. split ! $ split ! $ move ! (1 ∷ []) $
        peeks ! (Shown E κ0) _ (shows 𝓛 (Shown E κ0)) r (v1 ∷ []) (λ is.
        lands_as ! refl refl ((shown_result E LE 𝓛 κ0).typed r (v1 ∷ []) is).0 $
        move ! (2 ∷ []) $ pick ! (λ ws. split ! $ drop ! $ split3 ! $
        heard ! (Prefix now_of (gS.view x) r want)
        (λ prefix. heard ! (Bounded now_of (gS.view x) r) (λ bounded. split ! $
        heard ! (Whole now_of (gS.view x) r want) (λ whole. fpick ! (λ s.
        -- [resγ; the result; the tokens; κ1; the slot]
        sets ! (addr ! (through ! refl (stop !))) refl (tt, tt) $
        move ! (2 ∷ []) $ split3 ! $ move ! (0 ∷ 2 ∷ []) $ join ! $ move ! (4 ∷ 0 ∷ []) $ join ! $
        nothing ! $ move ! (5 ∷ 0 ∷ []) $ join ! $ move ! (4 ∷ 0 ∷ []) $ join ! $
        move ! (1 ∷ 0 ∷ []) $ join ! $
        nothing ! $ told ! (κ3 ⊑ E.lives) inE $ told ! (κ0 ⊑ (At κ0).lives) (at_lives κ0) $
        move ! (1 ∷ 0 ∷ []) $
        let c2 = part_c 𝓛 at_mem run κ0 in
        let z2 : c2.Ghost = (
          (
            (κ1, (κ0, (κ3, tt))),
            (q1, (q0, (q3, tt))),
            (y.0.2.1.0, tt),
            (r, (slot, tt)),
            (v1 ∷ [], (vs2, tt)),
          ),
          tt,
        ) in
        use2 𝓛 (raw (c2.pre z2)) (id⊢ 𝓤 _) $
        calls_at ! (fm_of 𝓤 H 𝓛.laws 𝓣) c2 (parts κ0) z2
        (and_then ! (get ! refl) (and_then ! (get ! refl) (no_more !))) (λ v2.
        use1 𝓛 (later (some (λ (t : Option (Bor (List ℕ))).
        ((‵ (flft κ1 q1) ⊛ ‵ (flft κ0 q0) ⊛ ‵ (flft κ3 q3) ⊛ ‵ ftrue) ⊛ ‵
        ((OPT.the_row (SF κ0).row).own_val t (v2 ∷ []))) ⊛
        some (λ (ws2 : Lasts (G.ended (At κ0) Q dX) z2.0.0 z2.0.3). ‵
        (lasts (G.ended (At κ0) Q dX) z2.0.0 z2.0.3 ws2) ⊛ raw
        (fact 𝓤 (PartsAnswer r slot.now ws2.1.0 t)))))) (id⊢ 𝓤 _) $
        await ! tt $ pick ! (λ t. split ! $ split ! $ move ! (1 ∷ []) $
        peeks ! (OPT.the_row (SF κ0).row) _ (shows 𝓛 (OPT.the_row (SF κ0).row)) t (v2 ∷ [])
        (λ is2.
        lands_as ! refl refl ((shown_lawful 𝓛 κ0).typed t (v2 ∷ []) is2).0 $
        move ! (2 ∷ []) $ pick ! (λ ws2. split ! $ move ! (1 ∷ []) $
        heard ! (PartsAnswer r slot.now ws2.1.0 t) (λ parted.
        -- [last values; the result; the tokens; κ2; resγ]
        returns ! (look_at ! 0 refl) $ free_all ! refl $
        let same = is_option r slot.now ws2.1.0 t parted in
        let shown_prefix = λ (sh : Bor (List ℕ)). IfKnown (gS.view x).known (IsPrefix want sh.now)
        in
        let shown_enough = λ (sh : Bor (List ℕ)). IfKnown (gS.view x).known (IsEnough want sh.now)
        in
        let shown_bounded = λ (sh : Bor (List ℕ)). length sh.now ≤ (gS.view x).bound in
        fsplit3 ! $ move ! (1 ∷ 2 ∷ []) $ fjoin ! $ nothing ! $ fjoin ! $ nothing ! $ fjoin ! $
        move ! (0 ∷ 2 ∷ []) $ join ! $
        move ! (2 ∷ []) $ split3 ! $ move ! (1 ∷ 0 ∷ []) $ move ! (5 ∷ 2 ∷ []) $ join ! $
        move ! (2 ∷ 0 ∷ []) $ join ! $ move ! (1 ∷ 0 ∷ []) $ join ! $ join ! $
        move ! (2 ∷ []) $
        fpack ! ((u : (P.Denot → P.Denot) × P.Denot) × (P.Denot → ⊤) × LeftBy now_of (gS.view x)
        (gS.view u.1) t)
        (λ u. fres self.ghost_name (P.coded.code u.0.1)) (
          s.0,
          (λ _. tt),
          subst (LeftBy now_of (gS.view x) (gS.view s.0.1)) (sym same)
              (leaves (ReaderFails (gS.view x) (gS.view s.0.1))
              (λ shown. Shows shown.now (gS.view x)
              (gS.view s.0.1)) r s.2),
        ) $
        told ! (IfNone t (IsSome ws2.1.0)) (error_kept r slot.now ws2.1.0 t parted) $
        told ! (OnSome t (ws2.1.0 ≡ slot.now)) (slot_kept r slot.now ws2.1.0 t parted) $
        told ! (IsTrue (gS.view x).zero_copy → IfSome t shown_enough)
        (λ l. subst (λ u. IfSome u shown_enough) (sym same) (at_option shown_enough r (whole l))) $
        told ! (IfSome t shown_bounded)
        (subst (λ u. IfSome u shown_bounded) (sym same) (at_option shown_bounded r bounded)) $
        told ! (IfSome t shown_prefix) (subst (λ u. IfSome u shown_prefix) (sym same)
        (at_option shown_prefix r prefix)) $
        keep ! (1 ∷ 0 ∷ []) $
        suffices ! _ (ends_at 𝓛 ended stayed held (at y) v2
        t (tt, (tt, (ws2.1.0, tt))) (tt, (tt, (tt, tt)))) $
        join ! $ done !))))))))))))))))

pub look_spec : {M' : Type 1} → stated.statement M'
unfolding tables_of
look_spec 𝓤 𝓛 𝓜 𝓡 wired R E L LE gS dS gD dD dX mS mD mX =
    let 𝓣 : Tables 𝓤 𝓛.H = tables_of 𝓤 𝓛.H 𝓜 (tables 𝓤 𝓛.H 𝓜 𝓡 𝓡.env) in
    let parts = λ (κ : Lft). G-thm.met 𝓤 𝓛 𝓜 𝓡 (code.calls-cbor4ii_rw::ask::part 𝓡.env wired) (At κ)
    (Q R E gS dS gD dD dX) (at_laws κ) (arg_laws (layout E) yes (param 1 E) (param_laws 1 E LE)
    refl) dX mX in
    let shows_it = mS.show dX in
    let held' = held R E gS dS gD dD dX LE 𝓛 𝓜.mem 𝓡.returns 𝓣 shows_it parts in
    let end' = ended R E gS dS gD dD dX in let stay' = stayed R E gS dS gD dD dX in
    let f = fn' R E gS dS gD dD dX in
    entered 𝓤 𝓛.H (triple_of 𝓛 end'.signature (F.spec R E gS dS gD dD dX 𝓛 𝓜.mem 𝓡.returns)) 𝓣.C 𝓣.Λ
    (#self (args R E gS dS gD dD dX)) f (code.unfolded 𝓤 𝓛.H 𝓜 𝓡 wired (R, (E, tt)) dS dD dX)
    (walk_Meets 𝓛 end' stay' (
      Goes-spent_ref 𝓛 4 (0 ∷ []) tt (plain (λ κs. P R E gS dS gD dD dX)),
      (
        Goes-dropped 𝓛 4 (plain (λ _. usize)) yes (λ κs x f. refl),
        (Goes-gave_ref 𝓛 4 1 tt (plain (λ κs. O R E gS dS gD dD dX)), tt),
      ),
    ) held'
    (WpFn 𝓤 𝓛.H 𝓣.C 𝓣.Λ f) (WpFn-mono 𝓤 𝓛.H 𝓛.laws 𝓣 f)
    (walked 𝓛 end' stay' held' (WpFn 𝓤 𝓛.H 𝓣.C 𝓣.Λ f)
    (λ κs. (mut_vals, (uint_vals w64, (mut_vals, tt))))
    (λ κs. (
      mut_Tells (named 0) κs.0 (P R E gS dS gD dD dX),
      (uint_Tells w64, (mut_Tells (named 1) κs.1.0 (O R E gS dS gD dD dX), tt)),
    ))
    (λ κs qs bounds a g' are. walk R E gS dS gD dD dX LE 𝓛 𝓜.mem 𝓡.returns 𝓣 shows_it parts
    ((κs, qs, bounds, a, (mut_vals a.0, (vint w64 a.1.0 ∷ [], (mut_vals a.1.1.0, tt)))), g')
    are.1.0.1)))
