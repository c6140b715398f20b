-- What a call that decodes one type answers for another one.
use Rattle.std.proofs.Common.{◌≡◌, ℕ, ◌+◌, ◌≤◌, inl, inr, List, drop, Option, Some, None, Result}
use Rattle.std.proofs.Common.{Ok, Err, IsTrue, false, refl, sym, ap, ◌∙◌, subst, arith, Bool, true}
use Rattle.std.proofs.Common.{IfSome, IfErr, rules}
use Rattle.cbor4ii_rw.specs.View.{View, IfKnown}
use Rattle.cbor4ii_rw.specs.declared.error.DecodeError.{DecodeError}
use Rattle.cbor4ii_rw.specs.declared.error.DecodeError.TheVariants.{OutOfMemory}
use Rattle.cbor4ii_items.specs.Decoding.{IsExact, NoneRead, Sound, Format, Decodes, DecodesIf}
use Rattle.cbor4ii_items.specs.Decoding.{format_by, taking_memory}
use Rattle.cbor4ii_items.specs.Budget.{CostFits}
use Rattle.cbor4ii_items.specs.Moves.{Kept, Moves}
use Rattle.cbor4ii_items.specs.Reading.{Reading, Runs}
use Rattle.cbor4ii_items.specs.InputError.{InputError, input_error_of, is_out_of_memory}
use Rattle.cbor4ii_items.specs.Laws.Answering.{Found, exact_kept, if_some, complete_as}
use Rattle.cbor4ii_items.specs.Laws.Steps.{moves_then, moves_err, kept_then}

-- another relation says why, where the first one does
pub rejects_as : (o : Option InputError) (left : Option (List ℕ))
    (f g : InputError → List ℕ → Type 0)
    → ((z : InputError) (ys : List ℕ) → f z ys → g z ys)
    → IfSome o (λ z. (ys : List ℕ) × (left ≡ Some ys) × f z ys)
    → IfSome o (λ z. (ys : List ℕ) × (left ≡ Some ys) × g z ys)
rejects_as None left f g means h = tt
rejects_as (Some z) left f g means h = (h.0, h.1, means z h.0 h.2)

-- ---- memory

-- a call that takes none
pub no_memory : {V E : Type 0} (r : Result V (DecodeError E))
    → IfErr r (λ e. is_out_of_memory e ≡ false)
    → IfErr r (λ e. IsTrue (is_out_of_memory e) → IsTrue false)
no_memory (Ok v) q = tt
no_memory (Err e) q = λ h. sym q ∙ h

-- a call that may take some
pub any_memory : {V E : Type 0} (r : Result V (DecodeError E))
    → IfErr r (λ e. IsTrue (is_out_of_memory e) → IsTrue true)
any_memory (Ok v) = tt
any_memory (Err e) = λ out. refl

-- ---- a value, and an error

-- how bytes are rejected, over any reader: of an exact type, no reading that fits begins them
pub record IsRejected {V : Type 0} (exact : Bool) (s : Format V) (xs : List ℕ) (budget : Option ℕ)
    (z : InputError) (ys : List ℕ) : Type 0 where
  pub none : IsTrue exact → NoneRead s.reads xs budget
  pub rejects : s.rejects xs budget z ys
  pub begins : s.begins xs budget z ys

none_of : {P : Type 0} (o : Option InputError) (left : Option (List ℕ)) {f : InputError → List ℕ →
    Type 0}
    → ((z : InputError) (ys : List ℕ) → f z ys → P)
    → IfSome o (λ z. (ys : List ℕ) × (left ≡ Some ys) × f z ys) → IfSome o (λ z. P)
none_of None left means h = tt
none_of (Some z) left means h = means z h.0 h.2

-- an exact type promises more
pub of_exact : {V E : Type 0} {exact : Bool} {s : Format V} {a b : View}
    {r : Result V (DecodeError E)} → Decodes s a b r → DecodesIf exact s a b r
of_exact d = search rules

pub decodes_exactly : {V E : Type 0} {s : Format V} {a b : View} {r : Result V (DecodeError E)}
    → DecodesIf true s a b r → Decodes s a b r
decodes_exactly d = search rules

-- and what is exact under one condition is so under a narrower one
pub exact_less : {V E : Type 0} {x y : Bool} {s : Format V} {a b : View}
    {r : Result V (DecodeError E)} → (IsTrue y → IsTrue x) → DecodesIf x s a b r
    → DecodesIf y s a b r
exact_less less d = search rules

-- of what is accepted, every type says the same
pub exactly_ok : {V E : Type 0} {exact : Bool} {s : Format V} {a b : View} {v : V}
    → DecodesIf {E = E} exact s a b (Ok v) → Decodes {E = E} s a b (Ok v)
exactly_ok d = search rules

module _ {V E : Type 0} (s : Format V) {a b : View} where
  pub ok : {v : V} → Kept a b → (IsTrue s.never_empty → b.bound + 1 ≤ a.bound) → Sound s.reads a b v
      → Decodes {E = E} s a b (Ok v)
  ok kept progress sound = search rules

  -- an error of which all is known over any reader
  pub err_if : {exact : Bool} {e : DecodeError E} → Moves {V = V} a b (Err e)
      → (IsTrue (is_out_of_memory e) → IsTrue s.takes_memory)
      → IfKnown a.known (λ xs. IfSome (input_error_of e)
      (λ z. (ys : List ℕ) × (b.known ≡ Some ys) × IsRejected exact s xs a.budget z ys))
      → DecodesIf exact s a b (Err e)
  err_if {exact = exact} {e = e} moves memory says = record {
    moves = moves;
    progress = λ some. tt;
    memory = memory;
    sound = tt;
    complete = λ is sure. record {
      at = λ xs known. none_of (input_error_of e) b.known {f = IsRejected exact s xs a.budget}
          (λ z ys r. r.none is) (says xs known);
    };
    rejects = λ is sure. record {
      at = λ xs known. rejects_as (input_error_of e) b.known (IsRejected exact s xs a.budget)
          (s.rejects xs a.budget) (λ z ys r. r.rejects) (says xs known);
    };
    begins = record {
      at = λ xs known. rejects_as (input_error_of e) b.known (IsRejected exact s xs a.budget)
          (s.begins xs a.budget) (λ z ys r. r.begins) (says xs known);
    };
  }

  pub err : {e : DecodeError E} → Moves {V = V} a b (Err e)
      → (IsTrue (is_out_of_memory e) → IsTrue s.takes_memory)
      → IfKnown a.known (λ xs. IfSome (input_error_of e)
      (λ z. (ys : List ℕ) × (b.known ≡ Some ys) × IsRejected true s xs a.budget z ys))
      → Decodes s a b (Err e)
  err moves memory says = decodes_exactly (err_if moves memory says)

  pub out_of_memory : IsTrue s.takes_memory → Kept a b → Decodes {E = E} s a b (Err OutOfMemory)
  out_of_memory takes kept =
      err (record { by = kept; depth = λ none. refl }) (λ out. takes) (λ xs known. tt)

  -- an error of a program
  pub err_of : {U : Type 0} {exact : Bool} {program : Reading U} {e : DecodeError E}
      → Runs {V = U} program a b (Err e) → is_out_of_memory e ≡ false
      → ((xs : List ℕ) (z : InputError) (ys : List ℕ) → program xs ≡ Err (z, ys)
      → IsRejected exact s xs a.budget z ys) → DecodesIf exact s a b (Err e)
  err_of {exact = exact} {program = program} {e = e} p memory says =
      err_if (moves_err p.moves) (λ out. absurd (let f = sym memory ∙ out in cc))
      (λ xs known. rejects_as (input_error_of e) b.known (λ z ys. program xs ≡ Err (z, ys))
      (IsRejected exact s xs a.budget) (says xs) (p.answers xs known))

-- ---- a part after what was read

-- an error of the part at ys is one of the whole at xs
pub record RejectsAsPart {U V : Type 0} (exact : Bool) (part : Format U) (whole : Format V)
    (xs ys : List ℕ) (budget : Option ℕ) : Type 0 where
  pub none : IsTrue exact → NoneRead part.reads ys budget → NoneRead whole.reads xs budget
  pub rejects : (z : InputError) (zs : List ℕ) → part.rejects ys budget z zs → whole.rejects xs
      budget z zs
  pub begins : (z : InputError) (zs : List ℕ) → part.begins ys budget z zs
      → whole.begins xs budget z zs

exact_as : (o p : Bool) (v : View) → (IsTrue o → IsTrue p) → IsExact o v → IsExact p v
exact_as o p v f (inl e) = inl (f e)
exact_as o p v f (inr e) = inr e

module _ {U V E : Type 0} (part : Format U) (whole : Format V) {a m b : View} where
  pub err_after : {exact : Bool} {e : DecodeError E} → Kept a m
      → IfKnown a.known (λ xs. (ys : List ℕ) × (m.known ≡ Some ys)
      × RejectsAsPart exact part whole xs ys a.budget)
      → (IsTrue whole.owned → IsTrue part.owned)
      → (IsTrue part.takes_memory → IsTrue whole.takes_memory)
      → DecodesIf exact part m b (Err e) → DecodesIf exact whole a b (Err e)
  err_after {e = e} kept at owned memory d = record {
    moves = moves_then kept (moves_err d.moves);
    progress = λ some. tt;
    memory = λ out. memory (d.memory out);
    sound = tt;
    complete = λ is sure. record {
      at = λ xs known.
          let h = at xs known in
          if_some (input_error_of e) (h.2.none is)
          (subst (λ k. IfSome (input_error_of e) (λ z. NoneRead part.reads h.0 k)) kept.budget
          ((d.complete is (exact_kept part.owned a m xs known kept
          (exact_as whole.owned part.owned a owned sure))).at h.0 h.1));
    };
    rejects = λ is sure. record {
      at = λ xs known.
          let h = at xs known in
          rejects_as (input_error_of e) b.known (part.rejects h.0 m.budget)
          (whole.rejects xs a.budget)
          (λ z zs s. h.2.rejects z zs (subst (λ k. part.rejects h.0 k z zs) kept.budget s))
          ((d.rejects is (exact_kept part.owned a m xs known kept
          (exact_as whole.owned part.owned a owned sure))).at h.0 h.1);
    };
    begins = record {
      at = λ xs known.
          let h = at xs known in
          rejects_as (input_error_of e) b.known (part.begins h.0 m.budget)
          (whole.begins xs a.budget)
          (λ z zs s. h.2.begins z zs (subst (λ k. part.begins h.0 k z zs) kept.budget s))
          (d.begins.at h.0 h.1);
    };
  }

  -- what was read of the part is a reading of the whole
  pub ok_after : {u : U} {v : V} → Kept a m
      → IfKnown a.known (λ xs. (ys : List ℕ) × (m.known ≡ Some ys) ×
      ((n c : ℕ) → part.reads ys u n c
      → CostFits c a.budget → Found whole.reads a.budget xs v (drop n ys)))
      → (IsTrue whole.never_empty → b.bound + 1 ≤ a.bound)
      → Decodes {E = E} part m b (Ok u) → Decodes {E = E} whole a b (Ok v)
  ok_after kept at progress d = ok whole (kept_then kept d.moves.by) progress (record {
    at = λ xs known.
        let h = at xs known in
        let t = d.sound.at h.0 h.1 in
        let r = h.2 t.count t.cost t.read (subst (CostFits t.cost) kept.budget t.fits) in
        record {
          count = r.count;
          cost = r.cost;
          read = r.read;
          fits = r.fits;
          left = t.left ∙ ap Some r.left;
        };
  })

-- what stands before the part was taken, and the whole is then read and rejected as the part is
pub record Leads {V : Type 0} (exact : Bool) (part whole : Format V) (a m : View) : Type 0 where
  pub kept : Kept a m
  pub progress : IsTrue whole.never_empty → m.bound + 1 ≤ a.bound
  pub owned : IsTrue whole.owned → IsTrue part.owned
  pub memory : IsTrue part.takes_memory → IsTrue whole.takes_memory
  pub at : IfKnown a.known (λ xs. (ys : List ℕ) × (m.known ≡ Some ys)
      × ((v : V) (n c : ℕ) → part.reads ys v n c → CostFits c a.budget
      → Found whole.reads a.budget xs v (drop n ys))
      × RejectsAsPart exact part whole xs ys a.budget)

pub part_then : {V E : Type 0} {exact : Bool} (part whole : Format V) {a m b : View}
    (r : Result V (DecodeError E)) → Leads exact part whole a m → DecodesIf exact part m b r
    → DecodesIf exact whole a b r
part_then part whole {b = b} (Ok v) l d =
    of_exact (ok_after part whole l.kept (λ xs known. let h = l.at xs known in (h.0, h.1, h.2 v))
    (λ some. omega (arith, l.progress some, d.moves.by.bound)) (exactly_ok d))
part_then part whole {b = b} (Err e) l d =
    err_after part whole l.kept
    (λ xs known. let h = l.at xs known in (h.0, h.1, h.3)) l.owned l.memory d

-- ---- one type as another

module _ {U V E : Type 0} (part : V → U) (s : Format U) {a b : View} where
  pub by_ok : {v : V} {u : U} → part v ≡ u → Decodes {E = E} s a b (Ok u)
      → Decodes {E = E} (format_by part s) a b (Ok v)
  by_ok {v = v} same d = ok (format_by part s) d.moves.by d.progress (record {
    at = λ xs known. let t = d.sound.at xs known in record {
      count = t.count;
      cost = t.cost;
      read = subst (λ u. s.reads xs u t.count t.cost) (sym same) t.read;
      fits = t.fits;
      left = t.left;
    };
  })

  pub by_err_if : {exact : Bool} {e : DecodeError E} → DecodesIf exact s a b (Err e)
      → DecodesIf exact (format_by part s) a b (Err e)
  by_err_if d = record {
    moves = moves_err d.moves;
    progress = λ some. tt;
    memory = d.memory;
    sound = tt;
    complete = λ is sure. complete_as s.reads (format_by part s).reads
        (λ xs budget none v. none (part v)) (d.complete is sure);
    rejects = d.rejects;
    begins = d.begins;
  }

  pub by_err : {e : DecodeError E} → Decodes s a b (Err e)
      → Decodes (format_by part s) a b (Err e)
  by_err d = decodes_exactly (by_err_if (of_exact d))

pub in_memory : {V E : Type 0} (s : Format V) {a b : View} (r : Result V (DecodeError E))
    → Decodes s a b r → Decodes (taking_memory s) a b r
in_memory s (Ok v) d = ok (taking_memory s) d.moves.by d.progress d.sound
in_memory s (Err e) d = search rules
