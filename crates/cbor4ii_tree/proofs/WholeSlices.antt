-- What is answered of a slice that is read as one item.
use Rattle.std.proofs.Common.{rules, ◌≡◌, ◌≤◌, ℕ, List, [], drop, Some, Result, Ok, Err, inl, refl}
use Rattle.std.proofs.Common.{sym, ◌∙◌, subst, take-append-drop, IsTrue}
use Rattle.std.proofs.{Common.{append-nil, Bool}, Math.Seq.drop-length, lemmas.List.length-drop}
use Rattle.std.specs.{Prelude.{IfOk, IfErr}, Result.IsErrAnd, declared.string.ParseError.Infallible}
use Rattle.cbor4ii_rw.specs.{Input.limit, View.View, declared.error.DecodeError.DecodeError}
use Rattle.cbor4ii_rw.specs.declared.error.WholeError.{WholeError}
use Rattle.cbor4ii_rw.specs.declared.error.WholeError.TheVariants.{Decode, Trailing}
use Rattle.cbor4ii_items.specs.{Decoding.Format, Moves.{Kept, Moves}, Whole.DecodesWhole}
use Rattle.cbor4ii_items.specs.InputError.{InputError, is_out_of_memory}
use Rattle.cbor4ii_tree.specs.Calls.Asking.{Asks, InValue, WantsOnly, WantsOnlyWhole}
use Rattle.cbor4ii_tree.specs.Basis.Canonical.{canonical_encoding}
use Rattle.cbor4ii_tree.specs.Calls.Canonically.{canonical_format}
use Rattle.cbor4ii_tree.specs.Calls.CanonicalRejects.{CanonicalRejects}
use Rattle.cbor4ii_tree.specs.{Calls.CanonicalShape.DecodesCanonically, Basis.Encodings.DecodesTo}
use Rattle.cbor4ii_tree.specs.{Basis.Item.Item, Basis.Headline.AnswersWhole}
use Rattle.cbor4ii_tree.specs.{Calls.Promises.value_format, Basis.View.view}
use Rattle.cbor4ii_tree.specs.Calls.ReadingRejects.{ReadingRejects}
use Rattle.cbor4ii_tree.specs.declared.decode_canonical.Canonical.{Canonical}
use Rattle.cbor4ii_tree.specs.declared.value.Value.{Value}
use Rattle.cbor4ii_tree.proofs.canonical.Once.{as_read, canonical_or}
use Rattle.cbor4ii_tree.proofs.encodings.CanonicalShape.{reads_canonically_iff}
use Rattle.cbor4ii_tree.proofs.{reading.Answer.{not_both, one_reading}, values.Sequences.not_wanted}
use Rattle.cbor4ii_rw.specs.declared.error.DecodeError.TheVariants as error

module _ {V : Type 0} (format : Format V) (bytes : List ℕ) (Accepts : V → List ℕ → Type 0)
    (accepts : (v : V) (n c : ℕ) → format.reads bytes v n c → c ≤ limit
    → Accepts v (drop n bytes)) where
  -- a call that reads an input as one item, in the words of what is accepted
  answers : {E : Type 0} → IsTrue format.owned
      → (answer : Result V (WholeError (DecodeError E))) → DecodesWhole format bytes answer
      → AnswersWhole Accepts (format.rejects bytes (Some limit)) answer
  answers owned (Ok v) d = search (rules, drop-length)
  answers owned (Err (Trailing left)) d = search (rules, length-drop)
  answers owned (Err (Decode e)) d = d.rejects.rejects (inl owned)

module _ {V : Type 0} (Accepts : V → List ℕ → Type 0) (Rejects : InputError → List ℕ → Type 0)
    (none : (e : InputError) (rest : List ℕ) → Rejects e rest → ⊥)
    (one : (v : V) (rest : List ℕ) → Accepts v rest → [] ≡ rest) where
  -- what is accepted as a whole is rejected by a want of memory alone
  memory_alone : (e : WholeError (DecodeError Infallible))
      → AnswersWhole {V = V} {E = Infallible} Accepts Rejects (Err e)
      → e ≡ Decode error.OutOfMemory
  memory_alone (Trailing left) a = search rules
  memory_alone (Decode error.OutOfMemory) a = refl
  memory_alone (Decode (error.Read e)) a = elim e [ ]
  memory_alone _ a = absurd (none _ a.0 a.1)

-- ---- where memory is asked for

-- a want of memory is no failure of the reader
kept_by : {V E : Type 0} (e : DecodeError E) (a b : View) → IsTrue (is_out_of_memory e)
    → Moves {V = V} a b (Err e) → Kept a b
kept_by error.OutOfMemory a b out moves = moves.by
kept_by _ a b out moves = not_wanted out

module _ {V : Type 0} (canonical : Bool) (bytes : List ℕ) (a b : View)
    (known : a.known ≡ Some bytes) where
  pub wants_whole : {E : Type 0} (e : DecodeError E) → Moves {V = V} a b (Err e)
      → WantsOnly {V = V} (Asks (InValue canonical)) a b (Err e)
      → (r : Result V (WholeError (DecodeError E))) → IsErrAnd r (λ w. w ≡ Decode e)
      → WantsOnlyWhole canonical bytes r
  wants_whole e moves wants (Ok v) is = absurd is
  wants_whole e moves wants (Err w) is =
      subst (λ z. WantsOnlyWhole {V = V} canonical bytes (Err z)) (sym is) (λ out.
      let t = (kept_by e a b out moves).rest bytes known in
      (drop t.0 bytes, (wants out).at bytes known (drop t.0 bytes) t.1.left))

module _ (bytes : List ℕ) where
  value_accepts : (v : Value) (n c : ℕ) → value_format.reads bytes v n c → c ≤ limit
      → DecodesTo bytes (Some limit) (view v) (drop n bytes)
  value_accepts v n c r fits = search (rules, take-append-drop)

  pub value_answers : {E : Type 0} (answer : Result Value (WholeError (DecodeError E)))
      → DecodesWhole value_format bytes answer
      → AnswersWhole (λ v. DecodesTo bytes (Some limit) (view v))
      (ReadingRejects bytes (Some limit)) answer
  value_answers =
      answers value_format bytes (λ v. DecodesTo bytes (Some limit) (view v)) value_accepts refl

  pub value_alone : (answer : Result Value (WholeError (DecodeError Infallible)))
      → AnswersWhole (λ v. DecodesTo bytes (Some limit) (view v))
      (ReadingRejects bytes (Some limit)) answer
      → (v : Item) → DecodesTo bytes (Some limit) v []
      → IfErr answer (λ e. e ≡ Decode error.OutOfMemory)
  value_alone (Ok w) a v d = tt
  value_alone (Err e) a v d =
      memory_alone (λ w. DecodesTo bytes (Some limit) (view w)) (ReadingRejects bytes (Some limit))
      (λ f rest. not_both bytes (Some limit) v [] f rest d)
      (λ w rest is.
      ((one_reading bytes (Some limit)).one_accepted v (view w) [] rest d is).1)
      e a

  canonical_accepts : (v : Canonical) (n c : ℕ) → canonical_format.reads bytes v n c → c ≤ limit
      → DecodesCanonically bytes (Some limit) (view v.0) (drop n bytes)
  canonical_accepts v n c r fits = search (rules, take-append-drop)

  pub canonical_answers : {E : Type 0} (answer : Result Canonical (WholeError (DecodeError E)))
      → DecodesWhole canonical_format bytes answer
      → AnswersWhole (λ v. DecodesCanonically bytes (Some limit) (view v.0))
      (CanonicalRejects bytes (Some limit)) answer
  canonical_answers =
      answers canonical_format bytes (λ v. DecodesCanonically bytes (Some limit) (view v.0))
      canonical_accepts refl

  pub canonical_alone : (answer : Result Canonical (WholeError (DecodeError Infallible)))
      → AnswersWhole (λ v. DecodesCanonically bytes (Some limit) (view v.0))
      (CanonicalRejects bytes (Some limit)) answer
      → (v : Item) → DecodesCanonically bytes (Some limit) v []
      → IfErr answer (λ e. e ≡ Decode error.OutOfMemory)
  canonical_alone (Ok w) a v d = tt
  canonical_alone (Err e) a v d =
      memory_alone (λ w. DecodesCanonically bytes (Some limit) (view w.0))
      (CanonicalRejects bytes (Some limit))
      (λ f rest h. canonical_or (Some limit) bytes f rest v [] h d)
      (λ w rest is. ((one_reading bytes (Some limit)).one_accepted v (view w.0) [] rest
      (as_read (Some limit) bytes v [] d)
      (as_read (Some limit) bytes (view w.0) rest is)).1)
      e a

  pub canonical_same : (answer : Result Canonical (WholeError (DecodeError Infallible)))
      → AnswersWhole (λ v. DecodesCanonically bytes (Some limit) (view v.0))
      (CanonicalRejects bytes (Some limit)) answer
      → IfOk answer (λ v. bytes ≡ canonical_encoding (view v.0))
  canonical_same (Ok v) a =
      ((reads_canonically_iff bytes (Some limit) (view v.0) []).0 a).2
      ∙ append-nil (canonical_encoding (view v.0))
  canonical_same (Err e) a = tt
