-- `show_all` lends one field for good and the other for the call, so this proof walks the code by
-- hand.
use mathlib.Core.Path.{◌≡◌, refl, sym}
use mathlib.Core.List.{List, [], ◌∷◌}
use Prim.Native.Nat.{ℕ, ◌+◌}
use seplogic.Ra.Ura.{Ura}
use base.Fraction.{full_share, left, right}
use base.Logic.{SProp, ent, sep, emp, id⊢}
use base.Fml.{Lft, ftrue, fsep, flft, fauth, fres}
use mir.Syntax.{Fn, Args, Dict, dcons, dnil, a_type, named}
use mir.MapTy.{inst_fn}
use mir.Val.{Val, vptr}
use prog.Memory.{Memory, up, align, size}
use prog.Routine.{Routine}
use prog.Wp.{WpFn, Tables}
use sound.WpLaws.{WpFn-mono, fm_of}
use contract.Monad.{Fun, fact}
use contract.Running.{tables, tables_of}
use types.Logic.{Logic, sem}
use types.Kit.{‵, raw, ◌⊛◌, some, later, ◌$◌, ◌∵◌, !, qed, by, done, move, keep, drop, use1, use2}
use types.Kit.{split, split3, join, fsplit, fsplit3, fjoin, fjoin3, fpick, fpack, feq_i, pick}
use types.Kit.{await, rewrite, suffices, group}
use types.Run.{enter, addr, stop, fld, no_more, and_then, returns}
use types.ByLocal.{alloc_all, pass_all, free_all, look_at, get, through, sets, lands_as}
use types.Mut.{open_ref}
use types.Late.{ages, bor_new_deep}
use types.Tokens.{lft_new, lft_end, name_new, bor_new, lent_back, res_agree}
use denote.Exit.{no}
use denote.RattleType.{RattleType, owns}
use denote.Memory.{mem, part_at}
use denote.Param.{param, layout, bounded, arg}
use denote.Param.Laws.{Laws, param_laws, arg_laws}
use denote.Ref.{MutBor, MutRef, mut_vals, mut_Tells}
use denote.Signature.{plain, mut_ref_to}
use denote.Steps.{nothing, peeks, heard}
use denote.Struct.Field.{row_field}
use denote.Enum.Loose.{loose_lawful}
use denote.Laws.{Lawful, shows}
use Rattle.std.specs.contracts.result.Result as RES
use Rattle.std.proofs.result.Result.TheLaws as RESL
use Rattle.std.specs.contracts.io.Error as ERR
use Rattle.std.proofs.io.Error.TheLaws as ERRL
use Rattle.std.specs.declared.io.Error.{Error}
use Rattle.std.specs.Prelude.{Result, IfSome, IfOk, length, ⊤}
use Rattle.std.specs.Io.{StartsWith}
use Rattle.std.specs.Io.BufRead.{Rests, FillKeeps}
use Rattle.std.specs.Borrow.{Bor}
use Rattle.cbor4ii_rw.specs.Stream.{TallyMoves}
use denote.Struct.Loose.{lawfuls}
use denote.Struct.Parts.{PartsBack}
use denote.Triple.Call.{calls_at}
use denote.Triple.Clauses.{Clauses, Ended, lasts}
use denote.Triple.Spec.{triple_of}
use denote.Triple.Statement.{Contract, Triple}
use denote.Triple.Table.{entered}
use denote.Triple.Walked.{Stays, stay_dropped, walk_of, ends_at, walked, Goes-spent_ref, walk_Meets}
use denote.Follow.{such_by, follows_by}
use borrow.Tree.Place.{View, cutⱽ, shutⱽ, mems}
use borrow.Struct.Lend.{own_same}
use borrow.Follows.Late.{closes_said}
use Rattle.std.specs.declared.io.traits.BufRead as BufRead
use Rattle.std.specs.declared.io.traits.Read as Read
use Rattle.cbor4ii_rw.specs.contracts.io_reader.IoReader as IO
use Rattle.cbor4ii_rw.specs.contracts.io_reader.Tally as TA
use Rattle.cbor4ii_rw.proofs.io_reader.IoReader.TheLaws as IOL
use Rattle.cbor4ii_rw.proofs.Results.{SF, slice_laws}
use Rattle.cbor4ii_rw.proofs.io_reader.Tally.TheLaws as TAL
use Rattle.cbor4ii_rw.specs.contracts.io_reader.show_all as F
use Rattle.cbor4ii_rw.specs.contracts.io_reader.show_all.Key.{name as #self}
use Rattle.cbor4ii_rw.specs.contracts.io_reader.show_inner as G
use Rattle.cbor4ii_rw.proofs.io_reader.show_inner.Symbol.{name as #inner}
use Rattle.cbor4ii_rw.proofs.io_reader.show_inner.Met as G-thm
use Rattle.cbor4ii_rw.proofs.io_reader.show_all.Statement as stated
use Rattle.cbor4ii_rw.proofs.io_reader.show_all.Code as code

-- the result's type
abbrev RR : Lft → RattleType
RR κ = RES.the_row (SF κ).row ERR.the_row

lawful : {M : Type 1} {𝓤 : Ura M} (𝓛 : Logic 𝓤) (κ : Lft) → Lawful 𝓛 (RR κ)
lawful 𝓛 κ = loose_lawful (RES.the_type (SF κ).row ERR.the_row)
    (RESL.the_loose (SF κ).row ERR.the_row (slice_laws κ) ERRL.the_row_laws) tt 𝓛

module _ (R : RattleType) (gB : BufRead.Ghosts R.Denot) (dB : Dict) (gR : Read.Ghosts R.Denot)
    (dR : Dict) where
  abbrev args : Args
  args = bounded (a_type ∷ []) (R, tt) (dcons dB (dcons dR dnil))

  abbrev fn' : Fn
  fn' = inst_fn args code.function

  abbrev P : RattleType
  P = param 0 R

  -- the type that the callee is called at
  abbrev Q : RattleType
  Q = arg (layout R) denote.Exit.yes P

  abbrev inner_args : Args
  inner_args = bounded (a_type ∷ []) (Q, tt) (dcons dB (dcons dR dnil))

  abbrev S : RattleType
  S = IO.the_row P

  abbrev off1 : ℕ
  off1 = up (align (layout R)) 0

  abbrev off2 : ℕ
  off2 = up (align TAL.mir) (off1 + size (layout R))

  abbrev ended : Ended
  ended = F.ended R gB dB gR dR

  abbrev stayed : Stays ended.signature.params ended.kept
  stayed = (stay_dropped (mut_ref_to (0 ∷ []) tt (plain (λ _. S))) no, tt)

  abbrev views : List View
  views = record {
    m = record { row = (row_field P).row; ty = layout R };
    Own = P;
    into = (row_field P).into;
    same = λ x b o. refl;
  }
      ∷ record {
        m = record { row = TA.the_field.row; ty = TAL.mir };
        Own = TA.the_row;
        into = TA.the_field.into;
        same = λ x b o. sym (own_same TA.the_type x b o);
      } ∷ []

  module _ (L : Laws R) {M : Type 1} {𝓤 : Ura M} (𝓛 : Logic 𝓤) (at_mem : Memory → SProp 𝓤)
      (run : Routine → Fun 𝓤) (𝓣 : Tables 𝓤 𝓛.H)
      (callee : Triple 𝓤 (𝓣.C (#inner inner_args))
      (triple_of 𝓛 (G.signature Q) (G.spec Q gB dB gR dR 𝓛 at_mem run)))
    where
      open 𝓛 use {H, A}

      abbrev held : Clauses 𝓤 ended
      held = F.clauses R gB dB gR dR 𝓛 at_mem run

      abbrev T : RattleType
      T = TA.the_row

      abbrev G' : Contract 𝓤
      G' = triple_of 𝓛 (G.signature Q) (G.spec Q gB dB gR dR 𝓛 at_mem
          run)

      abbrev o₁ : ℕ → ℕ
      o₁ o = o + off1

      abbrev o₂ : ℕ → ℕ
      o₂ o = o + off2

      -- all of the struct but its two fields
      abbrev Back : ℕ → ℕ → SProp 𝓤
      Back b o = PartsBack 𝓛 full_share (IO.the_type P).name (mems views) b o

      cut : (d : S.Denot) (b o : ℕ) → ent 𝓤 (sem 𝓛 (part_at S full_share d b o))
          (sep 𝓤 (sep 𝓤 (sem 𝓛 (part_at P full_share d.inner b (o₁ o)))
          (sep 𝓤 (sem 𝓛 (part_at T full_share d.tally b (o₂ o))) (emp 𝓤))) (Back b o))
      cut d b o = cutⱽ (IO.the_type P).name views (IO.the_type P).D
          (IO.the_type P).to (IO.the_type P).to_one 𝓛
          (lawfuls 𝓛 (IO.the_type P).parts (IOL.the_loose P (param_laws 0 R L))) (0, []) d
          ((IO.struct P).as_values d) refl b o

      shut : (z : P.Denot) (w : T.Denot) (b o : ℕ)
          → ent 𝓤 (sep 𝓤 (sem 𝓛 (part_at P full_share z b (o₁ o)))
          (sep 𝓤 (sem 𝓛 (part_at T full_share w b (o₂ o))) (Back b o)))
          (sem 𝓛 (part_at S full_share (record { inner = z; tally = w }) b o))
      shut z w b o = qed 𝓛 (‵ (part_at P full_share z b (o₁ o)) ∷
          ‵ (part_at T full_share w b (o₂ o)) ∷ raw (Back b o) ∷ []) ∵
          nothing ! $ move ! (2 ∷ 0 ∷ []) $ join ! $ move ! (1 ∷ 0 ∷ []) $ join ! $
          move ! (0 ∷ 1 ∷ []) $ join ! $
          by ! (shutⱽ (IO.the_type P).name views (IO.the_type P).D (IO.the_type P).to
          (IO.the_type P).to_one 𝓛 (λ x. (IO.struct P).make x tt) (λ x. refl) (0, []) (z, (w, tt))
          b o)

      abbrev Prefix : R.Denot → Result (Bor (List ℕ)) Error → Type 0
      Prefix x r = IfSome (gR.remaining x) (λ xs. IfOk r (λ s. StartsWith xs s.now))

      abbrev End : R.Denot → Result (Bor (List ℕ)) Error → Type 0
      End x r = IfSome (gR.remaining x) (λ xs. IfOk r (λ s. length s.now ≡ 0 → xs ≡ []))

      abbrev Leaves : S.Denot → S.Denot → Result (Bor (List ℕ)) Error → Type 0
      Leaves old new r = FillKeeps (gR.remaining old.inner) (gR.remaining new.inner)
          (gB.consumable_len new.inner) r × TallyMoves old.tally new.tally r

      abbrev Bound : Type 0
      Bound = (walk_of 𝓛 ended stayed held).Ghost

      abbrev at : Bound → Bound
      at y = ((y.0.0, y.0.1, y.0.2, y.0.3, (mut_vals y.0.3.0, tt)), y.1)

      walk : (y : Bound) → ent 𝓤 ((walk_of 𝓛 ended stayed held).pre (at y))
          (WpFn 𝓤 H 𝓣.C 𝓣.Λ fn' (mut_vals y.0.3.0)
          ((walk_of 𝓛 ended stayed held).post (at y)))
      unfolding such_by follows_by
      walk y =
          let κs = y.0.0 in let qs = y.0.1 in let self = y.0.3.0 in let κ = κs.0 in let q = qs.0 in
          let d = self.now in
          let b = self.ref_ptr.0 in let o = self.ref_ptr.1 in let γ = self.ghost_name in
          qed 𝓛 (((‵ (flft κ q) ⊛ ‵ (flft κs.1.0 qs.1.0) ⊛ ‵ ftrue) ⊛ ‵
          (owns (MutRef (named 0) κ S ∷ []) (self, tt) (vptr b o ∷ [], tt))) ∷ raw
          ((held κs (self, tt)).requires tt) ∷ []) ∵
          enter ! 𝓣.C 𝓣.Λ fn' (vptr b o ∷ []) _ $
          alloc_all ! (λ ls. pass_all ! refl ((tt, tt), tt) $
          sets ! (addr ! (through ! refl (fld ! refl (stop !)))) refl (tt, tt) $
          sets ! (addr ! (through ! refl (fld ! refl (stop !)))) refl (tt, tt) $
          split ! $ split ! $ move ! (2 ∷ []) $ fsplit ! $ fsplit3 ! $ drop ! $ move ! (3 ∷ []) $
          use1 𝓛 (‵ (flft κ (left q)) ⊛ ‵ (flft κ (right q))) (𝓛.lfts.lft_split κ q) $ split ! $
          move ! (2 ∷ 3 ∷ 0 ∷ []) $
          open_ref ! tt (mem S) {b = b} {o = o} $
          use1 𝓛 ((‵ (part_at P full_share d.inner b (o₁ o)) ⊛ ‵
          (part_at T full_share d.tally b (o₂ o)) ⊛ ‵ ftrue) ⊛ raw (Back b o)) (cut d b o) $
          split ! $ split3 ! $
          -- [inner; tally; true; the rest; the open borrow; obs; auth; half a token; true; the
          -- other
          -- token; the requires]
          move ! (4 ∷ []) $ ages ! (λ n. name_new ! tt (P.coded.code d.inner)
          (λ δ. move ! (3 ∷ 1 ∷ []) $
          fjoin ! $ fpack ! P.Denot (λ y'. fsep ((mem P).own_at y' b (o₁ o))
          (fauth δ (P.coded.code y'))) d.inner $ bor_new_deep ! tt n κ $
          lft_new ! tt (λ α. name_new ! tt (T.coded.code d.tally) (λ ε. move ! (7 ∷ 1 ∷ []) $
          fjoin ! $ fpack ! T.Denot (λ y'. fsep ((mem T).own_at y' b (o₂ o))
          (fauth ε (T.coded.code y'))) d.tally $ bor_new ! tt (α ∷ []) $
          -- [borα; lentα; obsε; α; borδ; lentδ; obsδ; aged; true; rest; obsγ; authγ; κr; true;
          -- others;
          -- requires]
          move ! (6 ∷ 4 ∷ []) $ feq_i ! (List Val) (vptr b (o₁ o) ∷ []) (vptr b (o₁ o) ∷ []) refl $
          fjoin3 ! $
          move ! (3 ∷ 1 ∷ []) $ feq_i ! (List Val) (vptr b (o₂ o) ∷ []) (vptr b (o₂ o) ∷ []) refl $
          fjoin3 ! $
          nothing ! $ move ! (1 ∷ 0 ∷ []) $ join ! $ move ! (1 ∷ 0 ∷ []) $ join ! $
          move ! (2 ∷ 11 ∷ []) $ join ! $ move ! (9 ∷ 0 ∷ []) $ join ! $ join ! $
          move ! (0 ∷ 9 ∷ []) $
          let ri : MutBor P.Denot = record { ref_ptr = (b, o₁ o); ghost_name = δ; now = d.inner } in
          let rt : MutBor T.Denot = record { ref_ptr = (b, o₂ o); ghost_name = ε; now = d.tally } in
          let z : G'.Ghost = (
            (
              (κ, (α ∷ [], (κs.1.0, tt))),
              (right q, (full_share, (qs.1.0, tt))),
              y.0.2,
              (ri, (rt, tt)),
              (mut_vals ri, (mut_vals rt, tt)),
            ),
            tt,
          ) in
          use2 𝓛 (raw (G'.pre z)) (id⊢ 𝓤 _) $
          calls_at ! (fm_of 𝓤 H 𝓛.laws 𝓣) G' callee z
          (and_then ! (get ! refl) (and_then ! (get ! refl) (no_more !))) (λ v.
          use1 𝓛 (later (some (λ (r : (RR κ).Denot).
          ((‵ (flft κ (right q)) ⊛ ‵ (flft (α ∷ []) full_share) ⊛ ‵ (flft κs.1.0 qs.1.0) ⊛ ‵ ftrue)
          ⊛ ‵ ((RR κ).own_val r (v ∷ []))) ⊛
          some (λ (ws : Unit {0} × (T.Denot × Unit {0})). ‵
          (lasts (G.ended Q gB dB gR dR) z.0.0 z.0.3 ws) ⊛ raw
          (fact 𝓤 (Prefix d.inner r)) ⊛ raw (fact 𝓤 (End d.inner r))
          ⊛ ‵ (Rests P ri (λ new. FillKeeps (gR.remaining d.inner) (gR.remaining new)
          (gB.consumable_len new) r)) ⊛ raw (fact 𝓤 (TallyMoves d.tally ws.1.0 r)))))) (id⊢ 𝓤 _) $
          await ! tt $ pick ! (λ r. split ! $ split ! $ move ! (1 ∷ []) $
          peeks ! (RR κ) _ (shows 𝓛 (RR κ)) r (v ∷ []) (λ is.
          lands_as ! refl refl ((lawful 𝓛 κ).typed r (v ∷ []) is).0 $
          -- [result; tokens; last values and clauses; lentα; lentδ; aged; true; rest; obsγ; authγ;
          -- true]
          move ! (2 ∷ []) $ pick ! (λ ws. split ! $
          fsplit3 ! $ move ! (1 ∷ []) $ fsplit ! $ move ! (6 ∷ []) $ split3 ! $ move ! (1 ∷ []) $
          lft_end ! tt $ move ! (0 ∷ 9 ∷ []) $ lent_back ! tt $
          fpick ! (λ w. fsplit ! $ move ! (4 ∷ 1 ∷ []) $
          res_agree ! T.coded (λ e. rewrite ! 2
          (λ (u : T.Denot). ‵ (part_at T full_share u b (o₂ o))) (sym e) refl $
          move ! (8 ∷ []) $ split3 ! $ move ! (2 ∷ []) $ split ! $
          fpick ! (λ s. move ! (1 ∷ []) $ heard ! (TallyMoves d.tally ws.1.0 r) (λ counted.
          -- [resδ; front; end; resε; authε; tally; κr; others; borα; true; true; result; lentδ;
          -- aged;
          -- true; rest; obsγ; authγ; true]
          let new : S.Denot = record { inner = s.0.1; tally = ws.1.0 } in
          move ! (5 ∷ 15 ∷ []) $ join ! $ move ! (13 ∷ 15 ∷ 16 ∷ 12 ∷ 1 ∷ 0 ∷ []) $ group ! 6 $
          use1 𝓛 (later (‵ (flft κ (left q)) ⊛ ‵ (fres γ (S.coded.code new))))
          (closes_said S P P (λ _. Unit {0}) (λ x _. record { inner = x; tally = ws.1.0 }) 𝓛 n κ
          (left q) b o (o₁ o) γ δ (S.coded.code d)
          (sep 𝓤 (sem 𝓛 (part_at T full_share ws.1.0 b (o₂ o))) (Back b o))
          (λ x _. shut x ws.1.0 b o)
          s.0.1 tt) $ await ! tt $ split ! $
          move ! (0 ∷ 6 ∷ []) $ use2 𝓛 (‵ (flft κ q)) (𝓛.lfts.lft_join κ q) $
          returns ! (look_at ! 0 refl) $ free_all ! refl $ keep ! (1 ∷ 0 ∷ 6 ∷ 10 ∷ 2 ∷ 3 ∷ []) $
          fpack ! ((t : (S.Denot → S.Denot) × S.Denot) × (S.Denot → ⊤) × Leaves d t.1 r)
          (λ t. fres γ (S.coded.code t.0.1)) (((λ _. new), new), (λ _. tt), (s.2, counted)) $
          suffices ! _ (ends_at 𝓛 ended stayed held (at y) v r (tt, tt)
          (tt, tt)) $
          move ! (3 ∷ []) $ nothing ! $ nothing ! $ fjoin ! $ join ! $ move ! (2 ∷ 3 ∷ []) $
          join ! $
          join ! $
          move ! (3 ∷ 1 ∷ []) $ join ! $ move ! (2 ∷ 0 ∷ []) $ join ! $ move ! (1 ∷ []) $ join ! $
          done !)))))))))))))

pub show_all_spec : {M : Type 1} → stated.statement M
unfolding tables_of
show_all_spec 𝓤 𝓛 𝓜 𝓡 wired R L gB dB gR dR mB mR =
    let 𝓣 : Tables 𝓤 𝓛.H = tables_of 𝓤 𝓛.H 𝓜 (tables 𝓤 𝓛.H 𝓜 𝓡 𝓡.env) in
    let callee = G-thm.met 𝓤 𝓛 𝓜 𝓡 (code.calls-cbor4ii_rw::io_reader::show_inner 𝓡.env wired)
    (Q R gB dB gR dR) (arg_laws (layout R) denote.Exit.yes (param 0 R) (param_laws 0 R L) refl)
    gB dB gR dR
    (record { fill_buf = mB.fill_buf; consume = mB.consume })
    (record { read = mR.read; read_exact = mR.read_exact }) in
    let held' = held R gB dB gR dR L 𝓛 𝓜.mem 𝓡.returns 𝓣 callee in
    entered 𝓤 𝓛.H (triple_of 𝓛 (ended R gB dB gR dR).signature
    (F.spec R gB dB gR dR 𝓛 𝓜.mem 𝓡.returns)) 𝓣.C 𝓣.Λ (#self (args R gB dB gR dR))
    (fn' R gB dB gR dR) (code.unfolded 𝓤 𝓛.H 𝓜 𝓡 wired (R, tt) dB dR)
    (walk_Meets 𝓛 (ended R gB dB gR dR) (stayed R gB dB gR dR)
    (Goes-spent_ref 𝓛 2 (0 ∷ []) tt (plain (λ κs. S R gB dB gR dR)), tt) held'
    (WpFn 𝓤 𝓛.H 𝓣.C 𝓣.Λ (fn' R gB dB gR dR)) (WpFn-mono 𝓤 𝓛.H 𝓛.laws 𝓣 (fn' R gB dB gR dR))
    (walked 𝓛 (ended R gB dB gR dR) (stayed R gB dB gR dR) held'
    (WpFn 𝓤 𝓛.H 𝓣.C 𝓣.Λ (fn' R gB dB gR dR)) (λ κs. (mut_vals, tt))
    (λ κs. (mut_Tells (named 0) κs.0 (S R gB dB gR dR), tt))
    (λ κs qs bounds a g' are. walk R gB dB gR dR L 𝓛 𝓜.mem 𝓡.returns 𝓣 callee
    ((κs, qs, bounds, a, (mut_vals a.0, tt)), g'))))
