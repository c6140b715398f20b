-- `show` answers an error of any type beside what it lends, so this proof walks the code by hand.
use mathlib.Core.Path.{◌≡◌, refl}
use mathlib.Core.List.{List, [], ◌∷◌}
use Prim.Native.Nat.{ℕ, ◌^◌, ◌<◌}
use seplogic.Ra.Ura.{Ura}
use base.FractionLaws.{common}
use base.Fraction.{full_share, left, right}
use base.Logic.{SProp, ent, sep, emp, wand, apply∗, id⊢}
use base.Fml.{Lft, GName, Share, ftrue, flft, fdead, fres}
use mir.Syntax.{Fn, Args, Dict, dcons, dnil, a_type, named, w64}
use mir.MapTy.{inst_fn}
use mir.Val.{vptr, vint}
use prog.Memory.{Memory}
use prog.Routine.{Routine}
use prog.Wp.{WpFn, Tables}
use sound.WpLaws.{WpFn-mono, fm_of}
use contract.Monad.{Fun, fact, fact_i}
use contract.BorrowLft.{◌⊑◌, meet_⊑_left, meet_⊑_right}
use contract.Running.{tables, tables_of}
use types.Logic.{Logic}
use types.Kit.{‵, raw, ◌⊛◌, some, later, ◌$◌, ◌∵◌, !, qed, done, move, keep, drop, use0, use1, use2}
use types.Kit.{use3, split, split3, join, fsplit, fsplit3, fjoin, fpick, fpack, pick, await}
use types.Kit.{suffices}
use types.Run.{enter, addr, of_opd, stop, no_more, and_then, returns}
use types.ByLocal.{alloc_all, pass_all, free_all, look_at, get, through, sets, lands_as}
use types.Tokens.{lft_new, lft_end, lft-common}
use denote.Builtin.{usize}
use denote.Exit.{no, yes}
use denote.Struct.Field.{Field, shr_slice_field, u8-field}
use denote.Struct.Laws.{u8-laws, u8-copy, shr_slice_laws, shr_slice_copy}
use denote.Param.Shared.{copy_shared}
use denote.Enum.Loose.{loose_lawful}
use denote.Follow.{such_by, follows_by}
use denote.Laws.{Lawful, shows}
use denote.Lend.{LentAgain, lends_again, comes_back}
use denote.Param.{param, layout, bounded, arg}
use denote.Param.Laws.{Laws, param_laws, arg_laws, of_field}
use denote.Plain.{uint_vals, uint_Tells}
use denote.RattleType.{RattleType, owns}
use denote.Ref.{MutBor, MutRef, mut_vals, mut_Tells}
use denote.Signature.{plain, mut_ref_to}
use denote.Steps.{nothing, peeks, heard}
use denote.Triple.Call.{calls_at}
use denote.Triple.Clauses.{Clauses, Ended, Lasts, lasts}
use denote.Triple.Spec.{triple_of}
use denote.Triple.Statement.{Contract, Triple}
use denote.Triple.Table.{entered}
use denote.Triple.Walked.{Stays, stay_dropped, walk_of, ends_at, walked, Goes-dropped}
use denote.Triple.Walked.{Goes-spent_ref, walk_Meets}
use Rattle.std.specs.Prelude.{Option, Result, ⊤}
use Rattle.std.specs.Io.BufRead.{Rests}
use Rattle.std.specs.Borrow.{Bor}
use Rattle.std.specs.contracts.option.Option as OPT
use Rattle.std.proofs.option.Option.TheLaws as OPTL
use Rattle.std.specs.contracts.result.Result as RES
use Rattle.std.proofs.result.Result.TheLaws as RESL
use Rattle.std.specs.declared.fmt.Debug as Debug
use Rattle.cbor4ii_rw.specs.Line.{line_view, line_ready_bytes}
use Rattle.cbor4ii_rw.specs.declared.line_reader.Line as Line
use Rattle.cbor4ii_rw.specs.contracts.line_reader.Line.TheBound as LINE
use Rattle.std.specs.contracts.fmt.Debug.TheBound as DEBUG
use Rattle.cbor4ii_rw.specs.contracts.line_reader.LineReader as READER
use Rattle.cbor4ii_rw.specs.contracts.line_reader.LineReader.wait as WAIT
use Rattle.cbor4ii_rw.specs.contracts.line_reader.LineReader.shown as SHOWN
use Rattle.cbor4ii_rw.specs.contracts.line_reader.shown_or as OR
use Rattle.cbor4ii_rw.proofs.line_reader.LineReader.wait.Symbol.{name as #wait}
use Rattle.cbor4ii_rw.proofs.line_reader.LineReader.wait.Met as WAIT-thm
use Rattle.cbor4ii_rw.proofs.line_reader.LineReader.shown.Symbol.{name as #shown}
use Rattle.cbor4ii_rw.proofs.line_reader.LineReader.shown.Met as SHOWN-thm
use Rattle.cbor4ii_rw.proofs.line_reader.shown_or.Symbol.{name as #or}
use Rattle.cbor4ii_rw.proofs.line_reader.shown_or.Met as OR-thm
use Rattle.cbor4ii_rw.proofs.LineShown.{Prefix, Bounded, Whole, Left, Waits, HandsOn}
use Rattle.cbor4ii_rw.proofs.LineShown.{answered}
use Rattle.cbor4ii_rw.specs.contracts.line_reader.LineReaderSource.show as F
use Rattle.cbor4ii_rw.specs.contracts.line_reader.LineReaderSource.show.Key.{name as #self}
use Rattle.cbor4ii_rw.proofs.line_reader.LineReaderSource.show.Statement as stated
use Rattle.cbor4ii_rw.proofs.line_reader.LineReaderSource.show.Code as code

module _ (R E : RattleType) (gL : Line.Ghosts R.Denot E.Denot) (dL : Dict)
    (gD : Debug.Ghosts E.Denot) (dD : Dict) (dR : Dict) (dE : Dict) where
  abbrev args : Args
  args = bounded (a_type ∷ a_type ∷ []) (R, (E, tt))
      (dcons dL (dcons dD (dcons dR (dcons dE dnil))))

  abbrev fn' : Fn
  fn' = inst_fn args code.function

  -- the reader
  abbrev S : RattleType
  S = READER.the_row (param 0 R)

  -- the line's failure, if it failed
  abbrev O : RattleType
  O = OPT.the_row (param 1 E)

  -- the types that the callees are called at
  abbrev QR : RattleType
  QR = arg (layout R) yes (param 0 R)

  abbrev QE : RattleType
  QE = arg (layout E) yes (param 1 E)

  abbrev reader_args : Args
  reader_args = bounded (a_type ∷ a_type ∷ []) (QR, (QE, tt))
      (dcons dL (dcons dD (dcons dR (dcons dE dnil))))

  abbrev or_args : Args
  or_args = bounded (a_type ∷ []) (QE, tt) dnil

  abbrev ended : Ended
  ended = F.ended R E gL dL gD dD dR dE

  abbrev stayed : Stays ended.signature.params ended.kept
  stayed = (
    stay_dropped (mut_ref_to (0 ∷ []) tt (plain (λ _. S))) no,
    (stay_dropped (plain (λ _. usize)) yes, tt),
  )

  abbrev wait_ended : Ended
  wait_ended = WAIT.ended QR QE gL dL gD dD dR dE

  abbrev shown_ended : Ended
  shown_ended = SHOWN.ended QR QE gL dL gD dD dR dE

  abbrev or_ended : Ended
  or_ended = OR.ended QE

  module _ {M' : Type 1} {𝓤 : Ura M'} (𝓛 : Logic 𝓤) (at_mem : Memory → SProp 𝓤)
      (run : Routine → Fun 𝓤) where
    abbrev wait_c : Contract 𝓤
    wait_c = triple_of 𝓛 (WAIT.signature QR QE) (WAIT.spec QR QE gL dL gD dD dR dE 𝓛 at_mem run)

    abbrev shown_c : Contract 𝓤
    shown_c = triple_of 𝓛 (SHOWN.signature QR QE)
        (SHOWN.spec QR QE gL dL gD dD dR dE 𝓛 at_mem run)

    abbrev or_c : Contract 𝓤
    or_c = triple_of 𝓛 (OR.signature QE) (OR.spec QE 𝓛 at_mem run)

-- the shown bytes
abbrev SF : Lft → Field
SF κ = shr_slice_field (record { mir = named 0; lft = κ }) u8-field.row tt

slice_laws : (κ : Lft) → Laws (SF κ).row
slice_laws κ = of_field (SF κ) (shr_slice_laws (record { mir = named 0; lft = κ }) u8-field.row tt)
    refl
    (copy_shared (SF κ) (shr_slice_copy (record { mir = named 0; lft = κ }) u8-field.row tt
    (of_field u8-field u8-laws refl (copy_shared u8-field u8-copy)).shr_laws))

failure_lawful : (E : RattleType) → Laws E → {M : Type 1} {𝓤 : Ura M} (𝓛 : Logic 𝓤)
    → Lawful 𝓛 (OPT.the_row (param 1 E))
failure_lawful E LE 𝓛 = loose_lawful (OPT.the_type (param 1 E))
    (OPTL.the_loose (param 1 E) (param_laws 1 E LE)) tt 𝓛

-- what `show` answers
abbrev Answered : RattleType → Lft → RattleType
Answered E κ = RES.the_row (SF κ).row (param 1 E)

answer_lawful : (E : RattleType) → Laws E → {M : Type 1} {𝓤 : Ura M} (𝓛 : Logic 𝓤) (κ : Lft)
    → Lawful 𝓛 (Answered E κ)
answer_lawful E LE 𝓛 κ = loose_lawful (RES.the_type (SF κ).row (param 1 E))
    (RESL.the_loose (SF κ).row (param 1 E) (slice_laws κ) (param_laws 1 E LE)) tt 𝓛

module _ (R E : RattleType) (gL : Line.Ghosts R.Denot E.Denot) (dL : Dict)
    (gD : Debug.Ghosts E.Denot) (dD : Dict) (dR : Dict) (dE : Dict) (LE : Laws E)
    {M' : Type 1} {𝓤 : Ura M'} (𝓛 : Logic 𝓤) (at_mem : Memory → SProp 𝓤) (run : Routine → Fun 𝓤)
    (𝓣 : Tables 𝓤 𝓛.H)
    (waits : Triple 𝓤 (𝓣.C (#wait (reader_args R E gL dL gD dD dR dE)))
    (wait_c R E gL dL gD dD dR dE 𝓛 at_mem run))
    (shows_it : Triple 𝓤 (𝓣.C (#shown (reader_args R E gL dL gD dD dR dE)))
    (shown_c R E gL dL gD dD dR dE 𝓛 at_mem run))
    (chooses : Triple 𝓤 (𝓣.C (#or (or_args R E gL dL gD dD dR dE)))
    (or_c R E gL dL gD dD dR dE 𝓛 at_mem run)) where
  open 𝓛 use {H, A}

  abbrev held : Clauses 𝓤 (ended R E gL dL gD dD dR dE)
  held = F.clauses R E gL dL gD dD dR dE 𝓛 at_mem run

  abbrev S' : RattleType
  S' = S R E gL dL gD dD dR dE

  abbrev O' : RattleType
  O' = O R E gL dL gD dD dR dE

  abbrev Bound : Type 0
  Bound = (walk_of 𝓛 (ended R E gL dL gD dD dR dE) (stayed R E gL dL gD dD dR dE) held).Ghost

  abbrev at : Bound → Bound
  at y = ((y.0.0, y.0.1, y.0.2, y.0.3, (mut_vals y.0.3.0, (vint w64 y.0.3.1.0 ∷ [], tt))), y.1)

  walk : (y : Bound) → y.0.3.1.0 < 2 ^ 64
      → ent 𝓤 ((walk_of 𝓛 (ended R E gL dL gD dD dR dE) (stayed R E gL dL gD dD dR dE) held).pre
      (at y))
      (WpFn 𝓤 H 𝓣.C 𝓣.Λ (fn' R E gL dL gD dD dR dE) (vptr y.0.3.0.ref_ptr.0 y.0.3.0.ref_ptr.1 ∷ vint
      w64 y.0.3.1.0 ∷ []) ((walk_of 𝓛 (ended R E gL dL gD dD dR dE) (stayed R E gL dL gD dD dR dE)
      held).post (at y)))
  unfolding such_by follows_by
  walk y fits =
      let κs = y.0.0 in let qs = y.0.1 in let self = y.0.3.0 in let want = y.0.3.1.0 in
      let x = self.now in
      let b = self.ref_ptr.0 in let o = self.ref_ptr.1 in let γ = self.ghost_name in
      let κ0 = κs.0 in let κ1 = κs.1.0 in let κ2 = κs.1.1.0 in
      let q0 = qs.0 in let q1 = qs.1.0 in let q2 = qs.1.1.0 in
      let vs = vptr b o ∷ [] in
      qed 𝓛 (((‵ (flft κ0 q0) ⊛ ‵ (flft κ1 q1) ⊛ ‵ (flft κ2 q2) ⊛ ‵ ftrue)
      ⊛ ‵ (owns (MutRef (named 0) κ0 S' ∷ usize ∷ []) (self, (want, tt))
      (vs, (vint w64 want ∷ [], tt))))
      ∷ (raw (fact 𝓤 (κ1 ⊑ R.lives)) ⊛ raw (fact 𝓤 (κ2 ⊑ E.lives)) ⊛ ‵ ftrue) ∷ []) ∵
      enter ! 𝓣.C 𝓣.Λ (fn' R E gL dL gD dD dR dE) _ _ $
      alloc_all ! (λ ls. pass_all ! refl ((tt, tt), ((tt, record { fits = fits }), tt)) $
      sets ! (addr ! (through ! refl (stop !))) refl (tt, tt) $
      split ! $ move ! (2 ∷ []) $ split3 ! $
      heard ! (κ1 ⊑ R.lives) (λ inR. heard ! (κ2 ⊑ E.lives) (λ inE. drop ! $
      move ! (1 ∷ []) $ fsplit3 ! $ move ! (2 ∷ []) $ drop ! $
      -- [the reader; want; the tokens]
      move ! (2 ∷ []) $ split3 ! $
      -- [κ0; κ1; κ2 and true; the reader; want]
      move ! (1 ∷ []) $
      use1 𝓛 (‵ (flft κ1 (left q1)) ⊛ ‵ (flft κ1 (right q1))) (𝓛.lfts.lft_split κ1 q1) $ split ! $
      lft_new ! tt (λ α. move ! (0 ∷ 1 ∷ []) $
      let κα : Lft = α ∷ κ1 in let sα : Share = (common full_share (left q1)).0 in
      let Back : SProp 𝓤 = wand 𝓤 (A.lft κα sα)
      (sep 𝓤 (A.lft (α ∷ []) full_share) (A.lft κ1 (left q1))) in
      use2 𝓛 (‵ (flft κα sα) ⊛ raw Back) (lft-common 𝓛 (α ∷ []) κ1 full_share (left q1)) $ split ! $
      -- [κα; its end; half of κ1; κ0; κ2 and true; the reader; want]
      move ! (5 ∷ 3 ∷ []) $
      use2 𝓛 (later (some (λ (δ : GName).
      ‵ ((MutRef (named 0) κα S').own_val (record self { ghost_name = δ }) vs)
      ⊛ ‵ (LentAgain S' κ0 κα q0 γ b o δ x))))
      (lends_again 𝓛 S' (named 0) κ0 κα q0 γ b o (named 0) x) $ await ! tt $ pick ! (λ δ. split ! $
      -- [the loan; what the lender keeps; κα; its end; half of κ1; κ2 and true; want]
      move ! (4 ∷ 5 ∷ []) $ join ! $ move ! (3 ∷ 0 ∷ []) $ join ! $
      nothing ! $ move ! (5 ∷ 0 ∷ []) $ join ! $ move ! (2 ∷ 0 ∷ []) $ join ! $
      move ! (1 ∷ 0 ∷ []) $ join ! $
      nothing ! $
      use0 𝓛 (raw (fact 𝓤 (κ2 ⊑ E.lives))) (fact_i 𝓤 (κ2 ⊑ E.lives) (emp 𝓤) inE) $ join ! $
      use0 𝓛 (raw (fact 𝓤 (κ1 ⊑ R.lives))) (fact_i 𝓤 (κ1 ⊑ R.lives) (emp 𝓤) inR) $ join ! $
      move ! (1 ∷ 0 ∷ []) $
      let c1 = wait_c R E gL dL gD dD dR dE 𝓛 at_mem run in
      let loan : MutBor S'.Denot = record self { ghost_name = δ } in
      let z1 : c1.Ghost = (
        (
          (κα, (κ1, (κ2, tt))),
          (sα, (right q1, (q2, tt))),
          (meet_⊑_right (α ∷ []) κ1, tt),
          (loan, (want, tt)),
          (vs, (vint w64 want ∷ [], tt)),
        ),
        tt,
      ) in
      use2 𝓛 (raw (c1.pre z1)) (id⊢ 𝓤 _) $
      calls_at ! (fm_of 𝓤 H 𝓛.laws 𝓣) c1 waits z1
      (and_then ! (get ! refl) (and_then ! (get ! refl) (no_more !))) (λ v1.
      use1 𝓛 (later (some (λ (f : Option E.Denot).
      ((‵ (flft κα sα) ⊛ ‵ (flft κ1 (right q1)) ⊛ ‵ (flft κ2 q2) ⊛ ‵ ftrue)
      ⊛ ‵ (O'.own_val f (v1 ∷ []))) ⊛
      some (λ (ws : Lasts (wait_ended R E gL dL gD dD dR dE) z1.0.0 z1.0.3).
      ‵ (lasts (wait_ended R E gL dL gD dD dR dE) z1.0.0 z1.0.3 ws)
      ⊛ raw (fact 𝓤 (Waits want x ws.0 f)))))) (id⊢ 𝓤 _) $
      await ! tt $ pick ! (λ f. split ! $ split ! $ move ! (1 ∷ []) $
      peeks ! O' _ (shows 𝓛 O') f (v1 ∷ []) (λ is1.
      let typed1 = ((failure_lawful E LE 𝓛).typed f (v1 ∷ []) is1).0 in
      lands_as ! refl refl typed1 $
      move ! (2 ∷ []) $ pick ! (λ ws. split ! $ move ! (1 ∷ []) $
      heard ! (Waits want x ws.0 f) (λ waited. fsplit ! $ fsplit ! $
      -- [the loan's last value; its borrow; nothing; the failure; the tokens; what the lender
      -- keeps; the end of κα]
      let w : S'.Denot = ws.0 in let again : MutBor S'.Denot = record self { now = w } in
      move ! (1 ∷ 2 ∷ []) $ drop ! $ drop ! $
      move ! (2 ∷ []) $ split3 ! $ move ! (0 ∷ 6 ∷ []) $
      use2 𝓛 (‵ (flft (α ∷ []) full_share) ⊛ ‵ (flft κ1 (left q1)))
      (apply∗ 𝓤 (A.lft κα sα) (sep 𝓤 (A.lft (α ∷ []) full_share) (A.lft κ1 (left q1)))) $
      split ! $ lft_end ! tt $
      use1 𝓛 (‵ (fdead κα)) (𝓛.lfts.dead-incl κα (α ∷ []) (meet_⊑_left (α ∷ []) κ1)) $
      -- [κα is over; halves of κ1; κ2 and true; the last value; the failure; what the lender keeps]
      move ! (0 ∷ 6 ∷ 4 ∷ []) $
      use3 𝓛 (later (‵ ((MutRef (named 0) κ0 S').own_val again vs) ⊛ ‵ (flft κ0 q0)))
      (comes_back 𝓛 S' (named 0) κ0 κα q0 γ b o δ x w) $ await ! tt $ split ! $
      -- [the reader; κ0; halves of κ1; κ2 and true; the failure]
      move ! (2 ∷ 3 ∷ []) $ use2 𝓛 (‵ (flft κ1 q1)) (𝓛.lfts.lft_join κ1 q1) $
      sets ! (addr ! (through ! refl (stop !))) refl (tt, tt) $
      move ! (0 ∷ 3 ∷ []) $ join ! $ move ! (2 ∷ 0 ∷ []) $ join ! $
      nothing ! $ move ! (2 ∷ 0 ∷ []) $ join ! $ move ! (1 ∷ 0 ∷ []) $ join ! $
      nothing ! $
      use0 𝓛 (raw (fact 𝓤 (κ2 ⊑ E.lives))) (fact_i 𝓤 (κ2 ⊑ E.lives) (emp 𝓤) inE) $ join ! $
      use0 𝓛 (raw (fact 𝓤 (κ1 ⊑ R.lives))) (fact_i 𝓤 (κ1 ⊑ R.lives) (emp 𝓤) inR) $ join ! $
      move ! (1 ∷ 0 ∷ []) $
      let c2 = shown_c R E gL dL gD dD dR dE 𝓛 at_mem run in
      let z2 : c2.Ghost = (
        (
          (κ0, (κ1, (κ2, tt))),
          (q0, (q1, (q2, tt))),
          (y.0.2.0, tt),
          (again, tt),
          (vs, tt),
        ),
        tt,
      ) in
      use2 𝓛 (raw (c2.pre z2)) (id⊢ 𝓤 _) $
      calls_at ! (fm_of 𝓤 H 𝓛.laws 𝓣) c2 shows_it z2 (and_then ! (get ! refl) (no_more !)) (λ v2.
      use1 𝓛 (later (some (λ (bytes : Bor (List ℕ)).
      ((‵ (flft κ0 q0) ⊛ ‵ (flft κ1 q1) ⊛ ‵ (flft κ2 q2) ⊛ ‵ ftrue)
      ⊛ ‵ ((SF κ0).row.own_val bytes (v2 ∷ []))) ⊛
      some (λ (ws2 : Lasts (shown_ended R E gL dL gD dD dR dE) z2.0.0 z2.0.3).
      ‵ (lasts (shown_ended R E gL dL gD dD dR dE) z2.0.0 z2.0.3 ws2)
      ⊛ raw (fact 𝓤 (bytes.now ≡ line_ready_bytes w.ready))
      ⊛ ‵ (Rests S' again (λ new. line_view new ≡ line_view w)))))) (id⊢ 𝓤 _) $
      await ! tt $ pick ! (λ bytes. split ! $ split ! $ move ! (1 ∷ []) $
      peeks ! (SF κ0).row _ (shows 𝓛 (SF κ0).row) bytes (v2 ∷ []) (λ is2.
      lands_as ! refl refl (((slice_laws κ0).lawful 𝓛).typed bytes (v2 ∷ []) is2).0 $
      move ! (2 ∷ []) $ pick ! (λ ws2. split3 ! $ drop ! $
      heard ! (bytes.now ≡ line_ready_bytes w.ready) (λ ready. fpick ! (λ s.
      -- [the reader's last value; the bytes; the tokens; the failure]
      sets ! (of_opd ! (get ! refl)) refl typed1 $
      move ! (2 ∷ []) $ split3 ! $ move ! (0 ∷ 2 ∷ []) $ join ! $
      nothing ! $ move ! (5 ∷ 0 ∷ []) $ join ! $ move ! (4 ∷ 0 ∷ []) $ join ! $
      move ! (1 ∷ 0 ∷ []) $ join ! $
      nothing ! $
      use0 𝓛 (raw (fact 𝓤 (κ2 ⊑ E.lives))) (fact_i 𝓤 (κ2 ⊑ E.lives) (emp 𝓤) inE) $ join ! $
      move ! (1 ∷ 0 ∷ []) $
      let c3 = or_c R E gL dL gD dD dR dE 𝓛 at_mem run in
      let z3 : c3.Ghost = (
        (
          (κ0, (κ2, tt)),
          (q0, (q2, tt)),
          tt,
          (bytes, (f, tt)),
          (v2 ∷ [], (v1 ∷ [], tt)),
        ),
        tt,
      ) in
      use2 𝓛 (raw (c3.pre z3)) (id⊢ 𝓤 _) $
      calls_at ! (fm_of 𝓤 H 𝓛.laws 𝓣) c3 chooses z3
      (and_then ! (get ! refl) (and_then ! (get ! refl) (no_more !))) (λ v3.
      use1 𝓛 (later (some (λ (r : Result (Bor (List ℕ)) E.Denot).
      ((‵ (flft κ0 q0) ⊛ ‵ (flft κ2 q2) ⊛ ‵ ftrue) ⊛ ‵ ((Answered E κ0).own_val r (v3 ∷ []))) ⊛
      some (λ (ws3 : Lasts (or_ended R E gL dL gD dD dR dE) z3.0.0 z3.0.3).
      ‵ (lasts (or_ended R E gL dL gD dD dR dE) z3.0.0 z3.0.3 ws3)
      ⊛ raw (fact 𝓤 (HandsOn f bytes r)))))) (id⊢ 𝓤 _) $
      await ! tt $ pick ! (λ r. split ! $ split ! $ move ! (1 ∷ []) $
      peeks ! (Answered E κ0) _ (shows 𝓛 (Answered E κ0)) r (v3 ∷ []) (λ is3.
      lands_as ! refl refl ((answer_lawful E LE 𝓛 κ0).typed r (v3 ∷ []) is3).0 $
      move ! (2 ∷ []) $ pick ! (λ ws3. split ! $ drop ! $
      heard ! (HandsOn f bytes r) (λ told.
      -- [the result; the tokens; κ1; the reader's last value]
      let kept = answered want x w s.0.1 f bytes r waited ready s.2 told in
      returns ! (look_at ! 0 refl) $ free_all ! refl $
      nothing ! $ nothing ! $ fjoin ! $ nothing ! $ fjoin ! $ join ! $
      move ! (1 ∷ []) $ split ! $ move ! (3 ∷ 1 ∷ []) $ join ! $ move ! (1 ∷ 0 ∷ []) $ join ! $
      join ! $ move ! (1 ∷ []) $
      fpack ! ((u : (S'.Denot → S'.Denot) × S'.Denot) × (S'.Denot → ⊤) × Left want x u.1 r)
      (λ u. fres γ (S'.coded.code u.0.1)) (s.0, (λ _. tt), kept.left) $
      use0 𝓛 (raw (fact 𝓤 (Whole want x r))) (fact_i 𝓤 (Whole want x r) (emp 𝓤) kept.whole) $
      join ! $
      use0 𝓛 (raw (fact 𝓤 (Bounded want x r))) (fact_i 𝓤 (Bounded want x r) (emp 𝓤)
      kept.bounded) $ join ! $
      use0 𝓛 (raw (fact 𝓤 (Prefix want x r))) (fact_i 𝓤 (Prefix want x r) (emp 𝓤) kept.prefix) $
      join ! $
      keep ! (1 ∷ 0 ∷ []) $
      suffices ! _ (ends_at 𝓛 (ended R E gL dL gD dD dR dE) (stayed R E gL dL gD dD dR dE) held
      (at y) v3 r (tt, (tt, tt)) (tt, (tt, tt))) $
      join ! $ done !)))))))))))))))))))))

pub show_spec : {M' : Type 1} → stated.statement M'
unfolding tables_of
show_spec 𝓤 𝓛 𝓜 𝓡 wired R E LR LE gL dL gD dD dR dE mL mD mR mE =
    let 𝓣 : Tables 𝓤 𝓛.H = tables_of 𝓤 𝓛.H 𝓜 (tables 𝓤 𝓛.H 𝓜 𝓡 𝓡.env) in
    let QR' = QR R E gL dL gD dD dR dE in let QE' = QE R E gL dL gD dD dR dE in
    let LQR = arg_laws (layout R) yes (param 0 R) (param_laws 0 R LR) refl in
    let LQE = arg_laws (layout E) yes (param 1 E) (param_laws 1 E LE) refl in
    let mLine : LINE.Met 𝓛 𝓜 𝓡 𝓡.env QR' QE' gL dL gD dD = record {
      Self-Error-lives = mL.Self-Error-lives;
      receive = mL.receive;
      send = mL.send;
    } in
    let mDebug : DEBUG.Met 𝓛 𝓜 𝓡 𝓡.env QE' gD dD = record { fmt = mD.fmt } in
    let waits = WAIT-thm.met 𝓤 𝓛 𝓜 𝓡 (code.calls-cbor4ii_rw::line_reader::LineReader::wait 𝓡.env
    wired) QR' QE' LQR LQE gL dL gD dD dR dE mLine mDebug mR mE in
    let shows_it = SHOWN-thm.met 𝓤 𝓛 𝓜 𝓡 (code.calls-cbor4ii_rw::line_reader::LineReader::shown 𝓡.env
    wired) QR' QE' LQR LQE gL dL gD dD dR dE mLine mDebug mR mE in
    let chooses = OR-thm.met 𝓤 𝓛 𝓜 𝓡 (code.calls-cbor4ii_rw::line_reader::shown_or 𝓡.env wired)
    QE' LQE in
    let held' = held R E gL dL gD dD dR dE LE 𝓛 𝓜.mem 𝓡.returns 𝓣 waits shows_it chooses in
    let end' = ended R E gL dL gD dD dR dE in let stay' = stayed R E gL dL gD dD dR dE in
    let f = fn' R E gL dL gD dD dR dE in
    entered 𝓤 𝓛.H
    (triple_of 𝓛 end'.signature (F.spec R E gL dL gD dD dR dE 𝓛 𝓜.mem 𝓡.returns)) 𝓣.C 𝓣.Λ
    (#self (args R E gL dL gD dD dR dE)) f (code.unfolded 𝓤 𝓛.H 𝓜 𝓡 wired (R, (E, tt)) dL dD dR dE)
    (walk_Meets 𝓛 end' stay' (
      Goes-spent_ref 𝓛 3 (0 ∷ []) tt (plain (λ κs. S R E gL dL gD dD dR dE)),
      (Goes-dropped 𝓛 3 (plain (λ _. usize)) yes (λ κs x f. refl), tt),
    ) held'
    (WpFn 𝓤 𝓛.H 𝓣.C 𝓣.Λ f) (WpFn-mono 𝓤 𝓛.H 𝓛.laws 𝓣 f)
    (walked 𝓛 end' stay' held' (WpFn 𝓤 𝓛.H 𝓣.C 𝓣.Λ f) (λ κs. (mut_vals, (uint_vals w64, tt)))
    (λ κs. (mut_Tells (named 0) κs.0 (S R E gL dL gD dD dR dE), (uint_Tells w64, tt)))
    (λ κs qs bounds a g' are. walk R E gL dL gD dD dR dE LE 𝓛 𝓜.mem 𝓡.returns 𝓣 waits shows_it
    chooses ((κs, qs, bounds, a, (mut_vals a.0, (vint w64 a.1.0 ∷ [], tt))), g') are.1.0.1)))
