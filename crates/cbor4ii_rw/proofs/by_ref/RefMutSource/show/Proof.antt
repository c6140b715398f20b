-- `show` hands the reader behind the reference to its own `show`, whose error may be of any type,
-- so this proof walks the code by hand.
use mathlib.Core.Path.{refl}
use mathlib.Core.List.{List, [], ◌∷◌}
use Prim.Native.Nat.{ℕ, ◌^◌, ◌<◌}
use seplogic.Ra.Ura.{Ura}
use base.Logic.{SProp, ent, id⊢}
use base.Fml.{Lft, GName, Incl-trans, ftrue, flft, fat, fres}
use base.Fraction.{full_share}
use borrow.Table.OneValue.{retype}
use mir.Syntax.{Fn, Args, Dict, dcons, dnil, a_type, named, method, w64, erased, mut, ty_ref}
use mir.Syntax.{ty_param, ty_ptr}
use mir.MapTy.{inst_fn}
use mir.Val.{vptr, vint}
use prog.Memory.{Memory}
use prog.Routine.{Routine}
use prog.Wp.{WpFn, Tables}
use sound.WpLaws.{WpFn-mono, fm_of}
use contract.Monad.{Fun, fact}
use contract.BorrowLft.{◌⊑◌}
use contract.Running.{tables, tables_of}
use types.Logic.{Logic}
use types.Kit.{‵, raw, ◌⊛◌, some, later, ◌$◌, ◌∵◌, !, qed, done, move, keep, drop, use1, use2}
use types.Kit.{split, split3, join, fsplit3, fjoin, fpick, fpack, pick, await, group, suffices}
use types.Run.{enter, addr, stop, hop, look, no_more, and_then, returns}
use types.ByLocal.{alloc_all, pass_all, free_all, look_at, get, through, sets, lands_as}
use denote.Builtin.{RefMutOf, usize}
use denote.Exit.{no, yes}
use denote.Follow.{such_by, follows_by, follows, followed}
use denote.Through.{lends_inner, renamed}
use denote.Laws.{shows}
use denote.Param.{param, layouts, bounded}
use denote.Param.Laws.{Laws}
use denote.Plain.{uint_vals, uint_Tells}
use denote.RattleType.{RattleType, owns}
use denote.Ref.{MutBor, MutRef, at_last, mut_vals, mut_Tells}
use denote.Signature.{plain}
use denote.Steps.{nothing, peeks, heard, opens, closes, tied, ties}
use denote.Triple.Call.{calls_at}
use denote.Triple.Clauses.{Clauses, Ended, Lasts, lasts}
use denote.Triple.Spec.{triple_of}
use denote.Triple.Statement.{Contract, Triple}
use denote.Triple.Table.{entered}
use denote.Triple.Walked.{Stays, stay_dropped, walk_of, ends_at, walked, Goes-dropped}
use denote.Triple.Walked.{Goes-spent_ref, walk_Meets}
use Rattle.std.specs.Prelude.{Result, ⊤}
use Rattle.std.specs.Io.BufRead.{Rests}
use Rattle.std.specs.declared.fmt.Debug as Debug
use Rattle.cbor4ii_rw.specs.declared.read.Source as Source
use Rattle.std.specs.Borrow.{Bor}
use Rattle.cbor4ii_rw.proofs.Results.{Shown, shown_result, told, Prefix, Bounded, Whole, Left}
use Rattle.cbor4ii_rw.proofs.Results.{now_of}
use Rattle.cbor4ii_rw.specs.contracts.read.Source.show as M
use Rattle.cbor4ii_rw.specs.contracts.by_ref.RefMutSource.show as F
use Rattle.cbor4ii_rw.specs.contracts.by_ref.RefMutSource.show.Key.{name as #self}
use Rattle.cbor4ii_rw.proofs.by_ref.RefMutSource.show.Statement as stated
use Rattle.cbor4ii_rw.proofs.by_ref.RefMutSource.show.Code as code

module _ (R E : RattleType) (gS : Source.Ghosts R.Denot E.Denot) (dS : Dict)
    (gD : Debug.Ghosts E.Denot) (dD : Dict) (dX : Dict) where
  abbrev args : Args
  args = bounded (a_type ∷ a_type ∷ []) (R, (E, tt)) (dcons dS (dcons dD (dcons dX dnil)))

  abbrev fn' : Fn
  fn' = inst_fn args code.function

  abbrev P : RattleType
  P = param 0 R

  abbrev In : Lft → RattleType
  In κ = MutRef (named 1) κ P

  abbrev ended : Ended
  ended = F.ended R E gS dS gD dD dX

  abbrev stayed : Stays ended.signature.params ended.kept
  stayed = (
    stay_dropped (RefMutOf (0 ∷ []) tt (RefMutOf (1 ∷ []) tt (plain (λ _. P)) (λ _. tt))
        (λ _. tt)) no,
    (stay_dropped (plain (λ _. usize)) yes, tt),
  )

  abbrev show_c : {M' : Type 1} {𝓤 : Ura M'} (𝓛 : Logic 𝓤) (at_mem : Memory → SProp 𝓤)
      (run : Routine → Fun 𝓤) → Contract 𝓤
  show_c 𝓛 at_mem run = triple_of 𝓛 (M.signature R E) (M.spec R E gS dS gD dD dX 𝓛 at_mem run)

  module _ (LE : Laws E) {M' : Type 1} {𝓤 : Ura M'} (𝓛 : Logic 𝓤) (at_mem : Memory → SProp 𝓤)
      (run : Routine → Fun 𝓤) (𝓣 : Tables 𝓤 𝓛.H)
      (shows_it : Triple 𝓤 (𝓣.C (method dS 0 (layouts [] tt))) (show_c 𝓛 at_mem run)) where
    open 𝓛 use {H, A}

    abbrev held : Clauses 𝓤 ended
    held = F.clauses R E gS dS gD dD dX 𝓛 at_mem run

    abbrev Bound : Type 0
    Bound = (walk_of 𝓛 ended stayed held).Ghost

    abbrev at : Bound → Bound
    at y = ((y.0.0, y.0.1, y.0.2, y.0.3, (mut_vals y.0.3.0, (vint w64 y.0.3.1.0 ∷ [], tt))), y.1)

    walk : (y : Bound) → y.0.3.1.0 < 2 ^ 64
        → ent 𝓤 ((walk_of 𝓛 ended stayed held).pre (at y))
        (WpFn 𝓤 H 𝓣.C 𝓣.Λ fn' (vptr y.0.3.0.ref_ptr.0 y.0.3.0.ref_ptr.1 ∷ vint
        w64 y.0.3.1.0 ∷ []) ((walk_of 𝓛 ended stayed held).post (at y)))
    unfolding such_by follows_by
    walk y fits =
        let κs = y.0.0 in let qs = y.0.1 in let self = y.0.3.0 in let want = y.0.3.1.0 in
        let h = self.now in let x = h.now in
        let b = self.ref_ptr.0 in let o = self.ref_ptr.1 in let γ = self.ghost_name in
        let κ0 = κs.0 in let κ1 = κs.1.0 in let κ2 = κs.1.1.0 in let κ3 = κs.1.1.1.0 in
        let q0 = qs.0 in let q1 = qs.1.0 in let q2 = qs.1.1.0 in let q3 = qs.1.1.1.0 in
        qed 𝓛 (((‵ (flft κ0 q0) ⊛ ‵ (flft κ1 q1) ⊛ ‵ (flft κ2 q2) ⊛ ‵ (flft κ3 q3) ⊛ ‵ ftrue)
        ⊛ ‵ (owns (MutRef (named 0) κ0 (In κ1) ∷ usize ∷ []) (self, (want, tt))
        (vptr b o ∷ [], (vint w64 want ∷ [], tt))))
        ∷ (raw (fact 𝓤 (κ2 ⊑ R.lives)) ⊛ raw (fact 𝓤 (κ3 ⊑ E.lives)) ⊛ ‵ ftrue) ∷ []) ∵
        enter ! 𝓣.C 𝓣.Λ fn' _ _ $
        alloc_all ! (λ ls. pass_all ! refl ((tt, tt), ((tt, record { fits = fits }), tt)) $
        split ! $ move ! (2 ∷ []) $ split3 ! $
        heard ! (κ2 ⊑ R.lives) (λ inR. heard ! (κ3 ⊑ E.lives) (λ inE. drop ! $
        move ! (1 ∷ []) $ fsplit3 ! $ move ! (2 ∷ []) $ drop ! $ fsplit3 ! $ drop ! $
        -- [obs; the borrow; want; the tokens]
        move ! (3 ∷ []) $ split ! $ move ! (2 ∷ 3 ∷ 0 ∷ []) $
        opens ! tt (In κ1) b o (λ us. tied ! full_share (In κ1).mir us b o $
        let ptr = vptr h.ref_ptr.0 h.ref_ptr.1 in let τ = ty_ref erased mut (ty_param 0) in
        use1 𝓛 (‵ (fat full_share τ b o ptr)) (retype 𝓛 full_share ty_ptr τ refl b o ptr) $
        sets ! (addr ! (through ! refl (hop ! (look ! 0 refl) (stop !)))) refl (tt, tt) $
        use1 𝓛 (‵ (fat full_share ty_ptr b o ptr)) (retype 𝓛 full_share τ ty_ptr refl b o ptr) $
        ties ! full_share (In κ1).mir (mut_vals h) b o $ closes ! tt (In κ1) h (mut_vals h) b o $
        -- [obs; the borrow; κ0; the other tokens; want]
        group ! 3 $ use1 𝓛 (later
        (some (λ (γ' : GName). ‵ ((MutRef (named 1) κ0 P).own_val (renamed h γ') (mut_vals h)) ⊛
        ‵ (flft κ0 q0) ⊛ ‵ (follows (In κ1) P γ γ' (at_last h)))))
        (lends_inner 𝓛 P (named 1) (named 1) κ0 κ1 self y.0.2.0 q0) $ await ! tt $
        pick ! (λ γ'. split3 ! $
        -- [the loan; κ0; how self follows; the other tokens; want]
        move ! (3 ∷ []) $ split ! $ move ! (3 ∷ 1 ∷ []) $ join ! $
        nothing ! $ move ! (5 ∷ 0 ∷ []) $ join ! $ move ! (3 ∷ 0 ∷ []) $ join ! $
        move ! (1 ∷ 0 ∷ []) $ join ! $
        nothing ! $
        told ! (κ3 ⊑ E.lives) inE $
        told ! (κ2 ⊑ R.lives) inR $
        move ! (1 ∷ 0 ∷ []) $
        let c1 = show_c 𝓛 at_mem run in
        let loan : MutBor P.Denot = renamed h γ' in
        let z1 : c1.Ghost = (
          (
            (κ0, (κ2, (κ3, tt))),
            (q0, (q2, (q3, tt))),
            (Incl-trans y.0.2.0 y.0.2.1.0, tt),
            (loan, (want, tt)),
            (mut_vals h, (vint w64 want ∷ [], tt)),
          ),
          tt,
        ) in
        use2 𝓛 (raw (c1.pre z1)) (id⊢ 𝓤 _) $
        calls_at ! (fm_of 𝓤 H 𝓛.laws 𝓣) c1 shows_it z1
        (and_then ! (get ! refl) (and_then ! (get ! refl) (no_more !))) (λ v.
        use1 𝓛 (later (some (λ (r : Result (Bor (List ℕ)) E.Denot).
        ((‵ (flft κ0 q0) ⊛ ‵ (flft κ2 q2) ⊛ ‵ (flft κ3 q3) ⊛ ‵ ftrue) ⊛ ‵
        ((Shown E κ0).own_val r (v ∷ []))) ⊛
        some (λ (ws : Lasts (M.ended R E gS dS gD dD dX) z1.0.0 z1.0.3). ‵
        (lasts (M.ended R E gS dS gD dD dX) z1.0.0 z1.0.3 ws)
        ⊛ raw (fact 𝓤 (Prefix now_of (gS.view x) r want)) ⊛ raw
        (fact 𝓤 (Bounded now_of (gS.view x) r)) ⊛ raw
        (fact 𝓤 (Whole now_of (gS.view x) r want)) ⊛
        ‵ (Rests P loan (λ new. Left now_of (gS.view x) r (gS.view new))))))) (id⊢ 𝓤 _) $
        await ! tt $ pick ! (λ r. split ! $ split ! $ move ! (1 ∷ []) $
        peeks ! (Shown E κ0) _ (shows 𝓛 (Shown E κ0)) r (v ∷ []) (λ is.
        lands_as ! refl refl ((shown_result E LE 𝓛 κ0).typed r (v ∷ []) is).0 $
        move ! (2 ∷ []) $ pick ! (λ ws. split ! $ drop ! $ split3 ! $
        heard ! (Prefix now_of (gS.view x) r want)
        (λ prefix. heard ! (Bounded now_of (gS.view x) r) (λ bounded. split ! $
        heard ! (Whole now_of (gS.view x) r want) (λ whole. fpick ! (λ s.
        -- [what is said of the loan; the result; the tokens; κ1; how self follows]
        let new : (In κ1).Denot = at_last h s.0.1 in
        move ! (4 ∷ 0 ∷ []) $ use2 𝓛 (‵ (fres γ ((In κ1).coded.code new)))
        (followed 𝓛 (In κ1) P (at_last h) γ γ' s.0.1) $
        returns ! (look_at ! 0 refl) $ free_all ! refl $
        nothing ! $ nothing ! $ fjoin ! $ nothing ! $ fjoin ! $ move ! (0 ∷ 2 ∷ []) $ join ! $
        move ! (2 ∷ []) $ split ! $ move ! (4 ∷ 1 ∷ []) $ join ! $ move ! (1 ∷ 0 ∷ []) $ join ! $
        join ! $ move ! (1 ∷ []) $
        fpack ! ((u : ((In κ1).Denot → (In κ1).Denot) × (In κ1).Denot) × ((In κ1).Denot → ⊤)
        × Left now_of (gS.view x) r (gS.view u.1.now)) (λ u. fres γ ((In κ1).coded.code u.0.1))
        (((λ _. new), new), (λ _. tt), s.2) $
        told ! (Whole now_of (gS.view x) r want) whole $
        told ! (Bounded now_of (gS.view x) r) bounded $
        told ! (Prefix now_of (gS.view x) r want) prefix $
        keep ! (1 ∷ 0 ∷ []) $
        suffices ! _ (ends_at 𝓛 ended stayed held (at y) v r
        (tt, (tt, tt)) (tt, (tt, tt))) $
        join ! $ done !)))))))))))))

pub show_spec : {M' : Type 1} → stated.statement M'
unfolding tables_of
show_spec 𝓤 𝓛 𝓜 𝓡 wired R E L LE gS dS gD dD dX mS mD mX =
    let 𝓣 : Tables 𝓤 𝓛.H = tables_of 𝓤 𝓛.H 𝓜 (tables 𝓤 𝓛.H 𝓜 𝓡 𝓡.env) in
    let shows_it = mS.show dX in
    let held' = held R E gS dS gD dD dX LE 𝓛 𝓜.mem 𝓡.returns 𝓣 shows_it in
    let end' = ended R E gS dS gD dD dX in let stay' = stayed R E gS dS gD dD dX in
    let f = fn' R E gS dS gD dD dX in
    entered 𝓤 𝓛.H (triple_of 𝓛 end'.signature (F.spec R E gS dS gD dD dX 𝓛 𝓜.mem 𝓡.returns)) 𝓣.C 𝓣.Λ
    (#self (args R E gS dS gD dD dX)) f (code.unfolded 𝓤 𝓛.H 𝓜 𝓡 wired (R, (E, tt)) dS dD dX)
    (walk_Meets 𝓛 end' stay' (
      Goes-spent_ref 𝓛 4 (0 ∷ []) tt (RefMutOf (1 ∷ []) tt (plain (λ κs. P R E gS dS gD dD dX))
          (λ _. tt)),
      (Goes-dropped 𝓛 4 (plain (λ _. usize)) yes (λ κs x f. refl), tt),
    ) held'
    (WpFn 𝓤 𝓛.H 𝓣.C 𝓣.Λ f) (WpFn-mono 𝓤 𝓛.H 𝓛.laws 𝓣 f)
    (walked 𝓛 end' stay' held' (WpFn 𝓤 𝓛.H 𝓣.C 𝓣.Λ f) (λ κs. (mut_vals, (uint_vals w64, tt)))
    (λ κs. (mut_Tells (named 0) κs.0 (In R E gS dS gD dD dX κs.1.0), (uint_Tells w64, tt)))
    (λ κs qs bounds a g' are. walk R E gS dS gD dD dX LE 𝓛 𝓜.mem 𝓡.returns 𝓣 shows_it
    ((κs, qs, bounds, a, (mut_vals a.0, (vint w64 a.1.0 ∷ [], tt))), g') are.1.0.1)))
