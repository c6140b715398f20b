-- Strings that are borrowed from the input, read as those that may be.
use Rattle.std.proofs.Common.{rules}
use Rattle.std.proofs.Common.{◌≡◌, ℕ, ◌<◌, ◌⊎◌, inl, inr, List, [], ◌∷◌, length, take, drop, Bool}
use Rattle.std.proofs.Common.{true, false, Result, Ok, Err, refl, sym, ap, subst, IfOk, IfErr}
use Rattle.std.specs.Prelude.{OnOk, IsOkAnd, IsTrue, codes}
use denote.Ref.{Bor}
use Rattle.std.specs.declared.alloc.Global.{Global}
use Rattle.std.specs.declared.borrow.CowStr.{CowStr}
use Rattle.std.specs.declared.borrow.CowStr.TheVariants as text
use Rattle.std.specs.declared.borrow.CowSlice.{CowSlice}
use Rattle.std.specs.declared.borrow.CowSlice.TheVariants as slice
use Rattle.std.specs.Cow.{IsBorrowedStr, IsOwnedStr, IsBorrowedSlice, IsOwnedSlice}
use Rattle.cbor4ii_items.specs.declared.types.Bytes.{Bytes}
use Rattle.cbor4ii_rw.specs.View.{View, IfKnown}
use Rattle.cbor4ii_rw.specs.declared.error.DecodeError.{DecodeError as CoreError}
use Rattle.cbor4ii_rw.specs.declared.error.DecodeError.TheVariants.{RequireBorrowed}
use Rattle.cbor4ii_items.specs.Head.{indefinite_head}
use Rattle.cbor4ii_items.specs.InputError.{input_error_of, require_borrowed}
use Rattle.cbor4ii_items.specs.Moves.{Moves}
use Rattle.cbor4ii_items.specs.Cow.{BorrowsWhereDefinite, cow_text, cow_bytes, IsBorrowedBytes}
use Rattle.cbor4ii_items.specs.Cow.{IsOwnedBytes, slice_stands, cow_bytes_stand}
use Rattle.cbor4ii_items.specs.Strings.{ReadsAs, ReadsTextAs, as_format}
use Rattle.cbor4ii_items.specs.Strings.{text_format}
use Rattle.cbor4ii_items.specs.Decoding.{Reads, RejectsAt, IsExact, Sound, Complete, Rejects}
use Rattle.cbor4ii_items.specs.Decoding.{Decodes}
use Rattle.cbor4ii_items.specs.Lent.{ReadsBorrowed, IsOfInput, lent_str, lent_bytes}
use Rattle.cbor4ii_items.specs.Laws.Strings.{head_not_indefinite, two_small, three_small}
use Rattle.cbor4ii_items.specs.Laws.Answering.{complete_as}
use Rattle.cbor4ii_items.specs.Laws.Steps.{moves_ok, moves_err}
use Rattle.cbor4ii_items.specs.Laws.Answering.{whatever_error}
use Rattle.cbor4ii.specs.declared.serde.de.error.DecodeError.{DecodeError}
use Rattle.cbor4ii.specs.Borrowed.{Borrows, LacksLoan, RejectsUnlent, unlent_text, unlent_bytes}
use Rattle.cbor4ii.specs.Typed.{Deserializes, as_core, answer_of, not_exact}
use Rattle.cbor4ii.proofs.IfKnown.{known, may_take}
use Rattle.cbor4ii.proofs.Stopped.{stopped_as}

pub unlent : {V W E : Type 0} {a b : View} {v : V} (found : Bor (List ℕ)) → Moves {E = E} a b (Ok v)
    → Moves {V = W} {E = E} a b (Err (RequireBorrowed found))
unlent found m = record { by = m.by; depth = λ e. refl }

pub lends_of : (a : View) → IsExact false a → IsTrue a.zero_copy
lends_of a (inl is) = let never : false ≡ true = is in cc
lends_of a (inr h) = h.0

lent_at : {V W : Type 0} (content : V → List ℕ) (lent : W → List ℕ)
    (IsBorrowed IsOwned : V → Type 0) (reads : Reads V) (major : ℕ) (is_text : Bool)
    → ((xs : List ℕ) (v : V) (w : W) (n c : ℕ) → content v ≡ lent w → reads xs v n c
    → ReadsBorrowed major is_text lent xs w n c ⊎ (take 1 xs ≡ indefinite_head major ∷ []))
    → ((v : V) → IsBorrowed v → IsOwned v → ⊥) → {a b : View} {v : V} {w : W} → IsBorrowed v
    → content v ≡ lent w → Sound reads a b v → BorrowsWhereDefinite major IsBorrowed IsOwned a v
    → Sound (ReadsBorrowed major is_text lent) a b w
lent_at content lent IsBorrowed IsOwned reads major is_text definite apart {v = v}
    {w = w} borrowed same s k = record {
      at = λ xs known.
          let p = s.at xs known in
          elim (definite xs v w p.count p.cost same p.read) [
            | inl r ↦
                record { count = p.count; cost = p.cost; read = r; fits = p.fits; left = p.left }
            | inr is_indefinite ↦ absurd (apart v borrowed (k.indefinite xs known is_indefinite))
          ];
    }

pub unlent_rejects : {V E : Type 0} (name : List ℕ) (reads : Reads V) (rejects : RejectsAt)
    (e : CoreError E) {a b : View} {v : V} → LacksLoan name e → Sound reads a b v
    → Rejects (RejectsUnlent name reads rejects) a b e
unlent_rejects name reads rejects e {a = a} {b = b} {v = v} lacks s =
    let at : Rejects (RejectsUnlent name reads rejects) a b (RequireBorrowed lacks.0) = record {
      at = λ xs known. (let p = s.at xs known in (
        drop p.count xs,
        p.left,
        inr (v, p.count, p.cost, p.read, p.fits, ap require_borrowed lacks.2, refl),
      ));
    } in
    subst (Rejects (RejectsUnlent name reads rejects) a b) (sym lacks.1) at

module _ {V W E : Type 0} (content : V → List ℕ) (lent : W → List ℕ)
    (IsBorrowed IsOwned : V → Type 0) (name : List ℕ) where
  pub lent_moves : (r : Result V (CoreError E)) (q : Result W (DecodeError E)) (a b : View)
      → Borrows content lent IsBorrowed IsOwned name r q → Moves a b r → Moves a b (answer_of q)
  lent_moves (Ok v) (Ok w) a b h m = moves_ok m
  lent_moves (Err f) (Ok w) a b h m = absurd h.handed
  lent_moves (Ok v) (Err e) a b h m =
      let k = h.rejected in subst (λ z. Moves {V = W} a b (Err z)) (sym k.1.1) (unlent k.1.0 m)
  lent_moves (Err f) (Err e) a b h m =
      subst (λ z. Moves {V = W} a b (Err z)) (sym h.rejected) (moves_err m)

  pub lent_progress : (r : Result V (CoreError E)) (q : Result W (DecodeError E)) (P : Type 0)
      → Borrows content lent IsBorrowed IsOwned name r q → OnOk r P → OnOk q P
  lent_progress (Ok v) (Ok w) P h p = p
  lent_progress (Err f) (Ok w) P h p = absurd h.handed
  lent_progress r (Err e) P h p = tt

  pub lent_rejects : (reads : Reads V) (rejects : RejectsAt) (r : Result V (CoreError E))
      (q : Result W (DecodeError E)) (a b : View) → Borrows content lent IsBorrowed IsOwned name r q
      → IfOk r (Sound reads a b) → IfErr r (Rejects rejects a b)
      → IfErr q (λ e. Rejects (RejectsUnlent name reads rejects) a b (as_core e))
  lent_rejects reads rejects r (Ok w) a b h s k = tt
  lent_rejects reads rejects (Ok v) (Err e) a b h s k =
      unlent_rejects name reads rejects (as_core e) h.rejected.1 s
  lent_rejects reads rejects (Err f) (Err e) a b h s k =
      subst (Rejects (RejectsUnlent name reads rejects) a b) (sym h.rejected)
      (stopped_as rejects (RejectsUnlent name reads rejects) (λ xs budget z ys t. inl t) k)

  module _ (reads : Reads V) (major : ℕ) (is_text : Bool)
      (definite : (xs : List ℕ) (v : V) (w : W) (n c : ℕ) → content v ≡ lent w → reads xs v n c
      → ReadsBorrowed major is_text lent xs w n c ⊎ (take 1 xs ≡ indefinite_head major ∷ [])) where
    pub lent_sound : (apart : (v : V) → IsBorrowed v → IsOwned v → ⊥) (r : Result V (CoreError E))
        (q : Result W (DecodeError E)) (a b : View)
        → Borrows content lent IsBorrowed IsOwned name r q → IfOk r (Sound reads a b)
        → IfOk r (BorrowsWhereDefinite major IsBorrowed IsOwned a)
        → IfOk q (Sound (ReadsBorrowed major is_text lent) a b)
    lent_sound apart (Ok v) (Ok w) a b h s k =
        let t = h.handed in
        lent_at content lent IsBorrowed IsOwned reads major is_text definite apart t.0 t.1 s k
    lent_sound apart (Err f) (Ok w) a b h s k = absurd h.handed
    lent_sound apart r (Err e) a b h s k = tt

    owned_at : major < 8
        → (apart : (v : V) → IsBorrowed v → IsOwned v → ⊥) {a : View} {v : V} (e : CoreError E)
        → IsOwned v → IsTrue a.zero_copy → BorrowsWhereDefinite major IsBorrowed IsOwned a v
        → Complete (ReadsBorrowed major is_text lent) a e
    owned_at small apart {v = v} e owned lends k = record {
      at = λ xs known. whatever_error (input_error_of e)
          (λ w n c r fits. apart v (k.definite lends xs known (λ is_indefinite.
          head_not_indefinite major xs (length (lent w)) r.0.before small r.0.head is_indefinite))
          owned);
    }

    pub lent_complete : major < 8 → (apart : (v : V) → IsBorrowed v → IsOwned v → ⊥) (back : W → V)
        (of_tree : (xs : List ℕ) (w : W) (n c : ℕ) → ReadsBorrowed major is_text lent xs w n c
        → reads xs (back w) n c)
        → (r : Result V (CoreError E)) (q : Result W (DecodeError E)) (a : View)
        → Borrows content lent IsBorrowed IsOwned name r q → IfErr r (Complete reads a)
        → IfOk r (BorrowsWhereDefinite major IsBorrowed IsOwned a) → IsExact false a
        → IfErr q (λ e. Complete (ReadsBorrowed major is_text lent) a (as_core e))
    lent_complete small apart back of_tree r (Ok w) a h s k exact = tt
    lent_complete small apart back of_tree (Ok v) (Err e) a h s k exact =
        owned_at small apart (as_core e) h.rejected.0 (lends_of a exact) k
    lent_complete small apart back of_tree (Err f) (Err e) a h s k exact =
        subst (Complete (ReadsBorrowed major is_text lent) a) (sym h.rejected)
        (complete_as reads (ReadsBorrowed major is_text lent)
        (λ xs budget none w n c r fits. none (back w) n c (of_tree xs w n c r) fits) s)

-- ---- texts

pub text_apart : (v : CowStr Global) → IsBorrowedStr v → IsOwnedStr v → ⊥
text_apart (text.Borrowed t) b o = o
text_apart (text.Owned t) b o = b

pub text_definite : (xs : List ℕ) (v : CowStr Global) (w : Bor (List ℕ)) (n c : ℕ)
    → cow_text v ≡ lent_str w → ReadsTextAs cow_text xs v n c
    → ReadsBorrowed 3 true lent_str xs w n c ⊎ (take 1 xs ≡ indefinite_head 3 ∷ [])
text_definite xs v w n c same r = search (rules, inl, inr)

abbrev pub text_lent : Bor (List ℕ) → CowStr Global
text_lent w = text.Borrowed w

pub text_encoded : (xs : List ℕ) (w : Bor (List ℕ)) (n c : ℕ) → ReadsBorrowed 3 true lent_str
    xs w n c
    → ReadsTextAs cow_text xs (text_lent w) n c
text_encoded xs w n c r = (inl (r.0, r.1), r.2 refl)

-- ---- byte strings

slice_apart : (v : CowSlice ℕ Global) → IsBorrowedSlice v → IsOwnedSlice v → ⊥
slice_apart (slice.Borrowed t) b o = o
slice_apart (slice.Owned t) b o = b

pub bytes_apart : (v : Bytes (CowSlice ℕ Global)) → IsBorrowedBytes v → IsOwnedBytes v → ⊥
bytes_apart v b o = slice_apart v.0 b o

pub bytes_definite : (xs : List ℕ) (v : Bytes (CowSlice ℕ Global)) (w : Bytes (Bor (List ℕ)))
    (n c : ℕ) → cow_bytes v ≡ lent_bytes w → ReadsAs 2 cow_bytes xs v n c
    → ReadsBorrowed 2 false lent_bytes xs w n c ⊎ (take 1 xs ≡ indefinite_head 2 ∷ [])
bytes_definite xs v w n c same r = search (rules, inl, not_exact, inr)

abbrev pub bytes_lent : Bytes (Bor (List ℕ)) → Bytes (CowSlice ℕ Global)
bytes_lent w = record { 0 = slice.Borrowed w.0 }

pub bytes_encoded : (xs : List ℕ) (w : Bytes (Bor (List ℕ))) (n c : ℕ)
    → ReadsBorrowed 2 false lent_bytes xs w n c → ReadsAs 2 cow_bytes xs (bytes_lent w) n c
bytes_encoded xs w n c r = inl (r.0, r.1)

-- ---- what is answered

module _ {E : Type 0} {a b : View} where
  pub text_answer : (r : Result (CowStr Global) (CoreError E))
      (q : Result (Bor (List ℕ)) (DecodeError E))
      → Borrows cow_text lent_str IsBorrowedStr IsOwnedStr (codes "str") r q
      → Decodes (text_format (codes "str") cow_text) a b r
      → IfOk r (BorrowsWhereDefinite 3 IsBorrowedStr IsOwnedStr a)
      → Deserializes unlent_text a b (answer_of q)
  text_answer r q h d k =
      known unlent_text q (lent_moves _ _ _ _ _ r q a b h d.moves)
      (lent_progress _ _ _ _ _ r q _ h (d.progress refl)) (may_take q)
      (lent_sound _ _ _ _ _ _ _ _ text_definite text_apart r q a b h d.sound k)
      (λ is sure. lent_complete _ _ _ _ _ _ _ _ text_definite three_small text_apart text_lent
      text_encoded r q a h (d.complete (inl refl)) k sure)
      (λ is sure. lent_rejects _ _ _ _ _ _ _ r q a b h d.sound d.begins)
      (λ is. lent_rejects _ _ _ _ _ _ _ r q a b h d.sound d.begins)

  pub bytes_answer : (r : Result (Bytes (CowSlice ℕ Global)) (CoreError E))
      (q : Result (Bytes (Bor (List ℕ))) (DecodeError E))
      → Borrows cow_bytes lent_bytes IsBorrowedBytes IsOwnedBytes (codes "bytes") r q
      → Decodes (as_format (codes "bytes") 2 cow_bytes) a b r
      → IfOk r (BorrowsWhereDefinite 2 IsBorrowedBytes IsOwnedBytes a)
      → Deserializes unlent_bytes a b (answer_of q)
  bytes_answer r q h d k =
      known unlent_bytes q (lent_moves _ _ _ _ _ r q a b h d.moves)
      (lent_progress _ _ _ _ _ r q _ h (d.progress refl)) (may_take q)
      (lent_sound _ _ _ _ _ _ _ _ bytes_definite bytes_apart r q a b h d.sound k)
      (λ is sure. lent_complete _ _ _ _ _ _ _ _ bytes_definite two_small bytes_apart bytes_lent
      bytes_encoded r q a h (d.complete (inl refl)) k sure)
      (λ is sure. lent_rejects _ _ _ _ _ _ _ r q a b h d.sound d.begins)
      (λ is. lent_rejects _ _ _ _ _ _ _ r q a b h d.sound d.begins)

-- bytes that are handed on stand where they stood
pub lent_place : {E : Type 0} (found : Result (Bytes (CowSlice ℕ Global)) (CoreError E))
    (answer : Result (Bytes (Bor (List ℕ))) (DecodeError E)) (a b : View)
    → IfOk answer (λ w. IsOkAnd found (λ v. v.0 ≡ slice.Borrowed w.0))
    → IfOk found (λ v. IfKnown a.known (λ xs. cow_bytes_stand v b))
    → IfOk answer (λ w. IsOfInput w.0 a b)
lent_place found (Err e) a b part place = tt
lent_place (Ok v) (Ok w) a b part place =
    λ xs known. subst (λ c. slice_stands c b) part (place xs known)
lent_place (Err e) (Ok w) a b part place = absurd part
