-- Whole events one after another, and where their reading stops.
use Rattle.std.proofs.Common.{◌≡◌, ℕ, ◌+◌, ◌≤◌, inl, List, [], ◌∷◌, ◌++◌, length}
use Rattle.std.proofs.Common.{Option, None, Some, true, false, Ok, Err, Result, IfSome, refl}
use Rattle.std.proofs.Common.{drop, sym, ap, ◌∙◌, arith, subst, rules}
use Rattle.std.proofs.lemmas.List.{length-drop}
use Rattle.std.specs.Prelude.{IfNone, IsTrue}
use Rattle.std.specs.Borrow.{Bor}
use Rattle.std.specs.List.{FoldsTo}
use Rattle.std.specs.declared.string.ParseError.{Infallible}
use Rattle.cbor4ii_rw.specs.Errors.{is_eof}
use Rattle.cbor4ii_rw.specs.Input.{limit}
use Rattle.cbor4ii_rw.specs.Reader.{counts}
use Rattle.cbor4ii_rw.specs.View.{View, IfKnown}
use Rattle.cbor4ii_rw.specs.declared.error.DecodeError.{DecodeError as CoreError}
use Rattle.cbor4ii_rw.specs.declared.error.DecodeError.TheVariants.{Read, Mismatch, Unsupported}
use Rattle.cbor4ii_rw.specs.declared.error.DecodeError.TheVariants.{Eof, RequireLength}
use Rattle.cbor4ii_rw.specs.declared.error.DecodeError.TheVariants.{RequireBorrowed, RequireUtf8}
use Rattle.cbor4ii_rw.specs.declared.error.DecodeError.TheVariants.{LengthOverflow, CastOverflow}
use Rattle.cbor4ii_rw.specs.declared.error.DecodeError.TheVariants.{ArithmeticOverflow}
use Rattle.cbor4ii_rw.specs.declared.error.DecodeError.TheVariants.{DepthOverflow, OutOfMemory}
use Rattle.cbor4ii_rw.specs.declared.error.DecodeError.TheVariants.{NotCanonical}
use Rattle.cbor4ii_rw.specs.declared.error.DecodeError.TheVariants.{Custom as CoreCustom}
use Rattle.cbor4ii_rw.specs.declared.error.Len.{Len}
use Rattle.cbor4ii_items.specs.Budget.{CostFits}
use Rattle.cbor4ii_items.specs.Decoding.{Reads, Format, Decodes, NoneRead}
use Rattle.cbor4ii_items.specs.InputError.{InputError, input_error_of, is_out_of_memory}
use Rattle.cbor4ii_items.specs.ItemOrEnd.{item_or_end, RejectsItemOrEnd}
use Rattle.cbor4ii.specs.declared.serde.de.error.DecodeError.{DecodeError}
use Rattle.cbor4ii.specs.declared.serde.de.error.DecodeError.TheVariants.{Core, Custom}
use Rattle.cbor4ii.specs.First.{typed_error_of}
use Rattle.cbor4ii.specs.Typed.{Promise, Deserializes, answer_of}
use Rattle.cbor4ii_examples.specs.declared.event.Event.{Event}
use Rattle.cbor4ii_examples.specs.Log.{says_cut, IsSequenceOf, EndsEarly, Stops, IsFault}
use Rattle.cbor4ii_examples.specs.Log.{Replays, ReplayStops}

-- ---- a value or the end, of an exact type

-- of an exact type all is promised
pub decodes_as : {V E : Type 0} (p : Promise V) {a b : View} {r : Result V (CoreError E)}
    → IsTrue p.exact → Deserializes p a b r → Decodes p.format a b r
decodes_as p is d = search rules

-- what is said of an answer is said of each that equals it
pub answers : {V E : Type 0} {s : Format V} {a b : View} {r : Result V (DecodeError E)}
    (q : Result V (DecodeError E)) → Decodes s a b (answer_of r) → r ≡ q
    → Decodes s a b (answer_of q)
answers {s = s} {a = a} {b = b} q d is = subst (λ x. Decodes s a b (answer_of x)) is d

-- ---- rows

abbrev value_or : {A : Type 0} → A → Option A → A
value_or d (Some x) = x
value_or d None = d

pub same_known : {A : Type 0} (x y : A) → Some x ≡ Some y → x ≡ y
same_known x y p = ap (value_or x) p

-- one more value at a row's end
grown : {V : Type 0} (reads : Reads V) (bytes : List ℕ) (vs : List V) (rest : List ℕ) (v : V)
    (n c : ℕ) → IsSequenceOf reads bytes vs rest → reads rest v n c → c ≤ limit
    → IsSequenceOf reads bytes (vs ++ v ∷ []) (drop n rest)
grown reads bytes [] rest v n c row read fits =
    (n, c, subst (λ ys. reads ys v n c) (sym row) read, fits, ap (drop n) row)
grown reads bytes (w ∷ vs) rest v n c row read fits =
    (row.0, row.1, row.2, row.3, grown reads (drop row.0 bytes) vs rest v n c row.4 read fits)

-- a row of no value
pub begun : {V : Type 0} (reads : Reads V) (bytes rest : List ℕ) (vs : List V) → vs ≡ []
    → Some rest ≡ Some bytes → IsSequenceOf reads bytes vs rest
begun reads bytes rest vs e known =
    subst (λ ws. IsSequenceOf reads bytes ws rest) (sym e) (same_known bytes rest (sym known))

-- the value that a call read, at the row's end
pub record Grown {V : Type 0} (reads : Reads V) (bytes : List ℕ) (vs : List V)
    (known : Option (List ℕ)) (rest : List ℕ) : Type 0 where
  pub left : List ℕ
  pub known_is : known ≡ Some left
  pub row : IsSequenceOf reads bytes vs left
  pub within : length left ≤ length rest

module _ {V E : Type 0} (s : Format V) {a b : View} (bytes rest : List ℕ) (known : a.known ≡ Some
    rest) (budget : a.budget ≡ Some limit) (vs : List V) (row : IsSequenceOf s.reads bytes vs rest)
  where
    pub grow : (v : V) (items : List V) → items ≡ vs ++ v ∷ []
        → Decodes {E = E} (item_or_end s) a b (Ok (Some v)) → Grown s.reads bytes items b.known rest
    grow v items is d =
        let t = d.sound.at rest known in
        let fits : t.cost ≤ limit = subst (CostFits t.cost) budget t.fits in
        record {
          left = drop t.count rest;
          known_is = t.left;
          row = subst (λ z. IsSequenceOf s.reads bytes z (drop t.count rest)) (sym is)
              (grown s.reads bytes vs rest v t.count t.cost row t.read.1 fits);
          within = omega (arith, length-drop t.count rest);
        }

    -- the same, where the bytes that are left have a name
    pub grow_to : (left : List ℕ) → b.known ≡ Some left → (v : V) (items : List V)
        → items ≡ vs ++ v ∷ [] → Decodes {E = E} (item_or_end s) a b (Ok (Some v))
        → IsSequenceOf s.reads bytes items left × (length left ≤ length rest)
    grow_to left is v items more d =
        let g = grow v items more d in
        let same : g.left ≡ left = same_known g.left left (sym g.known_is ∙ is) in (
          subst (IsSequenceOf s.reads bytes items) same g.row,
          subst (λ ys. length ys ≤ length rest) same g.within,
        )

-- where none is next, nothing is left
pub none_left : {V E : Type 0} (s : Format V) {a b : View} (rest : List ℕ) → a.known ≡ Some rest
    → Decodes {E = E} (item_or_end s) a b (Ok None) → rest ≡ []
none_left s rest known d = (d.sound.at rest known).read.0

-- ---- a row that is cut, and one that stops

-- an error that says so is an `Eof`
eof_of : {E : Type 0} (e : CoreError E) → is_eof e ≡ true
    → (name : Bor (List ℕ)) × (expect : Len) × (e ≡ Eof name expect)
eof_of (Read e) is = cc
eof_of (Mismatch name found) is = cc
eof_of (Unsupported name found) is = cc
eof_of (Eof name expect) is = (name, expect, refl)
eof_of (RequireLength name found) is = cc
eof_of (RequireBorrowed name) is = cc
eof_of (RequireUtf8 name) is = cc
eof_of (LengthOverflow name found) is = cc
eof_of (CastOverflow name) is = cc
eof_of (ArithmeticOverflow name ty) is = cc
eof_of (DepthOverflow name) is = cc
eof_of (CoreCustom name num) is = cc
eof_of OutOfMemory is = cc
eof_of (NotCanonical name) is = cc

-- an error of an input that never fails speaks of the bytes, or says that there is no memory
memory_of : (e : CoreError Infallible)
    → IfNone (input_error_of e) (IsTrue (is_out_of_memory e))
memory_of (Read e) = elim e [ ]
memory_of (Mismatch name found) = tt
memory_of (Unsupported name found) = tt
memory_of (Eof name expect) = tt
memory_of (RequireLength name found) = tt
memory_of (RequireBorrowed name) = tt
memory_of (RequireUtf8 name) = tt
memory_of (LengthOverflow name found) = tt
memory_of (CastOverflow name) = tt
memory_of (ArithmeticOverflow name ty) = tt
memory_of (DepthOverflow name) = tt
memory_of (CoreCustom name num) = tt
memory_of OutOfMemory = refl
memory_of (NotCanonical name) = tt

-- what is said of a value or the end, said of the value
module _ {V : Type 0} (s : Format V) (left : Option (List ℕ)) (rest : List ℕ)
    (budget : Option ℕ) (is : budget ≡ Some limit) where
  none_at : (o : Option InputError)
      → IfSome o (λ z. (ys : List ℕ) × (left ≡ Some ys)
      × RejectsItemOrEnd s.rejects rest budget z ys)
      → IfSome o (λ _. NoneRead (item_or_end s).reads rest budget)
      → IfSome o (λ _. NoneRead s.reads rest (Some limit))
  none_at None r n = tt
  none_at (Some z) r n = λ v k c read fits.
      n (Some v) k c (r.2.0, read) (subst (CostFits c) (sym is) fits)

  rejects_at : (o : Option InputError)
      → IfSome o (λ z. (ys : List ℕ) × (left ≡ Some ys)
      × RejectsItemOrEnd s.rejects rest budget z ys)
      → IfSome o (λ z. (ys : List ℕ) × s.rejects rest (Some limit) z ys)
  rejects_at None r = tt
  rejects_at (Some z) r = (r.0, subst (λ k. s.rejects rest k z r.0) is r.2.1)

-- an error that says so, and that the type gives for the rest
early : {V E : Type 0} (s : Format V) (rest : List ℕ) (error : DecodeError E)
    → IfSome (typed_error_of error) (λ _. NoneRead s.reads rest (Some limit))
    → IfSome (typed_error_of error) (λ z. (ys : List ℕ) × s.rejects rest (Some limit) z ys)
    → says_cut error ≡ true → EndsEarly s rest
early s rest (Custom text) none rejects is = cc
early s rest (Core e) none rejects is = search rules

module _ {E : Type 0} (s : Format Event) {a b : View} (bytes rest : List ℕ)
    (known : a.known ≡ Some rest) (budget : a.budget ≡ Some limit) (events : List Event)
    (row : IsSequenceOf s.reads bytes events rest) (at : ℕ) (counts_it : at + length rest ≡ length
    bytes)
    (owned : IsTrue s.owned) where
  pub stopped : (error : DecodeError E)
      → Decodes (item_or_end s) a b (answer_of (Err error))
      → (stop : Stops s bytes (record { at = at; error = error })) × (stop.before ≡ events)
  stopped error d =
      let r = (d.rejects (inl owned)).at rest known in (
        record {
          before = events;
          rest = rest;
          row = row;
          at = counts_it;
          none = none_at s b.known rest a.budget budget (typed_error_of error) r
              ((d.complete (inl owned)).at rest known);
          rejects = rejects_at s b.known rest a.budget budget (typed_error_of error) r;
        },
        refl,
      )

-- an event that is cut
pub cut_short : {V E : Type 0} (s : Format V) {a b : View} (rest : List ℕ) → a.known ≡ Some rest
    → a.budget ≡ Some limit → IsTrue s.owned → (error : DecodeError E)
    → Decodes (item_or_end s) a b (answer_of (Err error)) → says_cut error ≡ true
    → EndsEarly s rest
cut_short s {a = a} {b = b} rest known budget owned error d is =
    let r = (d.rejects (inl owned)).at rest known in
    early s rest error
    (none_at s b.known rest a.budget budget (typed_error_of error) r
    ((d.complete (inl owned)).at rest known))
    (rejects_at s b.known rest a.budget budget (typed_error_of error) r) is

-- an event that is none
pub faulty : (s : Format Event) (bytes : List ℕ) (error : DecodeError Infallible) (at : ℕ)
    → Stops s bytes (record { at = at; error = error }) → says_cut error ≡ false
    → IsFault s bytes (record { at = at; error = error })
faulty s bytes (Core e) at p other = record { stops = p; no_cut = other; memory = memory_of e }
faulty s bytes (Custom text) at p other = record { stops = p; no_cut = other; memory = tt }

-- an event for which there is no memory
pub no_room : (s : Format Event) (bytes rest : List ℕ) (events : List Event) (at : ℕ)
    → IsSequenceOf s.reads bytes events rest → at + length rest ≡ length bytes
    → IsFault {E = Infallible} s bytes (record { at = at; error = Core OutOfMemory })
no_room s bytes rest events at row is = search rules

-- ---- a stream

-- one more call, after the others
folds_more : {F A : Type 0} (step : F → A → F → Type 0) (first : F) (xs : List A) (last : F)
    (x : A) (next : F) → FoldsTo step first xs last → step last x next
    → FoldsTo step first (xs ++ x ∷ []) next
folds_more step first [] last x next e h =
    (next, subst (λ f. step f x next) (sym e) h, refl)
folds_more step first (y ∷ ys) last x next e h =
    (e.0, e.1, folds_more step e.0 ys last x next e.2 h)

-- events were read from the beginning of the bytes, as many were taken as they have, and each was
-- handed on
pub record Reached {F : Type 0} (step : F → Event → F → Type 0) (s : Format Event)
    (first last : F) (view : View) (bytes : List ℕ) : Type 0 where
  pub events : List Event
  pub rest : List ℕ
  pub known : view.known ≡ Some rest
  pub row : IsSequenceOf s.reads bytes events rest
  pub taken : ℕ
  pub counted : view.taken ≡ Some taken
  pub at : taken + length rest ≡ length bytes
  pub handed : FoldsTo step first events last

module _ {F : Type 0} (step : F → Event → F → Type 0) (s : Format Event) where
  pub at_first : (first : F) (view : View) (known : Option (List ℕ)) → view.known ≡ known
      → view.taken ≡ Some 0 → IfKnown known (Reached step s first first view)
  at_first first view known is none = λ bytes has. record {
    events = [];
    rest = bytes;
    known = is ∙ has;
    row = refl;
    taken = 0;
    counted = none;
    at = omega arith;
    handed = refl;
  }

  module _ {E : Type 0} {a b : View} (budget : a.budget ≡ Some limit) (stream : Option (List ℕ))
      (first last : F) (reached : IfKnown stream (Reached step s first last a)) where
    after_event : (v : Event) (next : F) (bytes : List ℕ)
        → Decodes {E = E} (item_or_end s) a b (Ok (Some v)) → step last v next
        → Reached step s first last a bytes → Reached step s first next b bytes
    after_event v next bytes d h p =
        let g = grow s bytes p.rest p.known budget p.events p.row v (p.events ++ v ∷ []) refl d in
        let n = d.moves.by.rest p.rest p.known in
        let same : drop n.0 p.rest ≡ g.left = same_known _ _ (sym n.1.left ∙ g.known_is) in
        let size : n.0 + length g.left ≡ length p.rest =
        omega (arith, n.1.within, length-drop n.0 p.rest, ap length same) in
        record {
          events = p.events ++ v ∷ [];
          rest = g.left;
          known = g.known_is;
          row = g.row;
          taken = p.taken + n.0;
          counted = d.moves.by.counted p.rest p.known g.left g.known_is n.0 size
              ∙ ap (counts n.0) p.counted;
          at = omega (arith, size, p.at);
          handed = folds_more step first p.events last v next p.handed h;
        }

    pub next_reached : (v : Event) (next : F)
        → Decodes {E = E} (item_or_end s) a b (Ok (Some v)) → step last v next
        → IfKnown stream (Reached step s first next b)
    next_reached v next d h = λ bytes has. after_event v next bytes d h (reached bytes has)

    pub at_last : Decodes {E = E} (item_or_end s) a b (Ok None)
        → IfKnown stream (Replays step s first)
    at_last d = λ bytes has.
        let p = reached bytes has in
        record {
          events = p.events;
          row = subst (IsSequenceOf s.reads bytes p.events) (none_left s p.rest p.known d) p.row;
          last = last;
          handed = p.handed;
        }

    pub at_fault : IsTrue s.owned → (at : ℕ) (error : DecodeError E) → a.taken ≡ Some at
        → Decodes (item_or_end s) a b (answer_of (Err error))
        → IfKnown stream (λ bytes. ReplayStops step s first bytes
        (record { at = at; error = error }))
    at_fault owned at error is d = λ bytes has.
        let p = reached bytes has in
        let same : p.taken ≡ at = same_known _ _ (sym p.counted ∙ is) in
        let stop = stopped s bytes p.rest p.known budget p.events p.row at
        (omega (arith, same, p.at)) owned error d in
        record {
          stops = stop.0;
          last = last;
          handed = subst (λ vs. FoldsTo step first vs last)
              (sym stop.1) p.handed;
        }
