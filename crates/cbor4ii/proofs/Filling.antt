-- What becomes of a struct's values, pair by pair.
use Rattle.std.proofs.Common.{true, ◌-◌, ◌≤◌, length, take, drop, get_or, ◌≡◌, ◌≢◌, inl, inr, ℕ}
use Rattle.std.proofs.Common.{◌+◌, ◌<◌, List, [], ◌∷◌, ◌++◌, Result, Ok, Err, Bool, refl, sym, ap}
use Rattle.std.proofs.Common.{◌∙◌, subst, rules}
use denote.Ref.{Bor}
use Rattle.std.specs.Prelude.{◌&&◌, OnOk, IfErr, IsTrue}
use Rattle.cbor4ii_items.specs.InputError.{is_out_of_memory}
use Rattle.cbor4ii_rw.specs.View.{View}
use Rattle.cbor4ii_rw.specs.declared.error.DecodeError.{DecodeError}
use Rattle.cbor4ii_rw.specs.Reader.{StepsIn, KeepsAllButBudget, step_back}
use Rattle.cbor4ii_items.specs.Decoding.{Format, Decodes, DecodesIf}
use Rattle.cbor4ii_items.specs.Moves.{Moves}
use Rattle.cbor4ii_items.specs.Laws.Steps.{moves_ok, moves_err}
use Rattle.cbor4ii_items.specs.Reading.{Runs}
use Rattle.cbor4ii_items.specs.ReadStrings.{break_at}
use Rattle.cbor4ii_items.specs.Sequences.{count_of, indefinite_of, in_list}
use Rattle.cbor4ii_items.specs.Laws.Calls.{ok as decoded_ok, part_then, Leads, of_exact}
use Rattle.cbor4ii_items.specs.Laws.Calls.{exact_less, exactly_ok}
use Rattle.cbor4ii_items.specs.Laws.Containers.{both}
use Rattle.cbor4ii_items.specs.Laws.SequenceParts.{Begun, count_more, count_done, Stands, Opened}
use Rattle.cbor4ii_items.specs.Laws.SequenceParts.{indefinite_more, indefinite_done}
use Rattle.cbor4ii.specs.FieldKey.{FieldKey, key_format, labels_by}
use Rattle.cbor4ii.specs.Fields.{no_field, no_field_rejects, after_changes, one_change}
use Rattle.cbor4ii.specs.Fields.{SameChange}
use Rattle.cbor4ii.specs.Fields.{all_changes, Altered, Alters, Puts}
use Rattle.cbor4ii.specs.ItemRead.{skipped_format}
use Rattle.cbor4ii.specs.Places.{Place}
use Rattle.cbor4ii.specs.Stepped.{stepped_format}
use Rattle.cbor4ii.specs.Structs.{Fields, placed_field, fields_by, unnamed_field, after_name}
use Rattle.cbor4ii.specs.Structs.{field_pair}
use Rattle.cbor4ii.specs.Structs.{field_pairs, struct_of}
use Rattle.cbor4ii.specs.Typed.{Promise, Deserializes}
use Rattle.cbor4ii.specs.TypedParts.{part_of}
use Rattle.cbor4ii.proofs.Named.{key_err, entry_then}
use Rattle.cbor4ii.proofs.Labels.{keys_split, keys_none}
use Rattle.cbor4ii.proofs.Promised.{promised, tell}
use Rattle.cbor4ii.proofs.Steps.{under_if}
use Rattle.cbor4ii.proofs.Forms.{sound_by, err_here}

-- ---- after a name

-- no field has it
module _ {V : Type 0} (f : Fields V) (name : List ℕ) (values : V) {a b : View} where
  pub skips : {E : Type 0} (exact : Bool) (r : Result (Unit {0}) (DecodeError E))
      → f.named ≡ no_field → f.rejects ≡ no_field_rejects → f.begins ≡ no_field_rejects
      → Decodes skipped_format a b r
      → Alters one_change exact (after_name f name) values values a b r
  skips exact (Ok u) none rejects begins d = record {
    what = λ v. v;
    read = decoded_ok (after_name f name) d.moves.by (λ some. cc) (sound_by d.sound (λ xs n c r.
        subst (λ named. named name xs (λ v. v) n c) (sym none) (r, refl)));
    is = refl;
  }
  skips exact (Err e) none rejects begins d =
      err_here skipped_format (after_name f name) (λ xs. record {
        none = λ is skipped g n c q fits.
            skipped tt n c (subst (λ named. named name xs g n c) none q).0 fits;
        rejects = λ z ys h. subst (λ at. at name xs a.budget z ys) (sym rejects) h;
        begins = λ z ys h. subst (λ at. at name xs a.budget z ys) (sym begins) h;
      }) (λ owned. refl) (λ takes. refl) (of_exact d)

module _ {T P V E : Type 0} (place : Place T P) (own : List ℕ) (p : Promise T)
    (others : Fields V) {name : List ℕ} (a b : View) where
  -- the field itself
  pub field_ok : {v : T} {first last : P × V} → name ≡ own → last ≡ (place.put v first.0, first.1)
      → Deserializes {E = E} p a b (Ok v)
      → Altered E one_change (after_name (placed_field place own p others) name) first last a b
  field_ok {v = v} same filled d = record {
    what = λ values. (place.put v values.0, values.1);
    read = decoded_ok (after_name (placed_field place own p others) name) d.moves.by (λ some. cc)
        (sound_by d.sound (λ xs n c r. inl (same, v, r, refl)));
    is = filled;
  }

  pub field_err : {e : DecodeError E} → name ≡ own → Deserializes p a b (Err e)
      → DecodesIf (placed_field place own p others).exact
      (after_name (placed_field place own p others) name) a
      b (Err e)
  field_err same d =
      err_here (part_of p) (after_name (placed_field place own p others) name) (λ xs. record {
        none = λ is none change n c q fits. elim q
            [ inl w ↦ none w.1 n c w.2 fits | inr w ↦ absurd (w.0 same) ];
        rejects = λ z ys h. inl (same, h);
        begins = λ z ys h. inl (same, h);
      }) (λ owned. (both p.format.owned others.owned owned).0) (λ takes. refl)
      (exact_less (λ is. (both p.exact others.exact is).0) (tell p (Err _) d))

  pub field_put : {U : Type 0} (r : Result U (DecodeError E)) (first : P × V) (after : P)
      → name ≡ own → Puts place p first.0 after a b r
      → Alters one_change (placed_field place own p others).exact
      (after_name (placed_field place own p others) name) first (after, first.1) a b r
  field_put (Ok u) first after same h = field_ok same (ap (λ o. (o, first.1)) h.1) h.2
  field_put (Err e) first after same h = field_err same h

  -- one of the others
  pub field_below : {U : Type 0} (r : Result U (DecodeError E)) (first last : P × V)
      (below : V) → name ≢ own → last ≡ (first.0, below)
      → Alters one_change others.exact (after_name others name) first.1 below a b r
      → Alters one_change (placed_field place own p others).exact
      (after_name (placed_field place own p others) name)
      first last
      a b r
  field_below (Ok u) first last below not filled h = record {
    what = λ values. (values.0, h.what values.1);
    read = decoded_ok (after_name (placed_field place own p others) name) h.read.moves.by
        (λ some. cc)
        (sound_by h.read.sound (λ xs n c r. inr (not, h.what, r, refl)));
    is = filled ∙ ap (λ v. (first.0, v)) h.is;
  }
  field_below (Err e) first last below not filled h =
      err_here (after_name others name) (after_name (placed_field place own p others) name)
      (λ xs. record {
        none = λ is none change n c q fits. elim q
            [ inl w ↦ absurd (not w.0) | inr w ↦ none w.1 n c w.2 fits ];
        rejects = λ z ys h. inr (not, h);
        begins = λ z ys h. inr (not, h);
      }) (λ owned. (both p.format.owned others.owned owned).1) (λ takes. refl)
      (exact_less (λ is. (both p.exact others.exact is).1) h)

module _ {T P U E : Type 0} (place : Place T P) (p : Promise T) (before after : P)
    (a b : View) where
  pub puts_moves : (r : Result U (DecodeError E)) → Puts place p before after a b r
      → Moves a b r
  puts_moves (Ok u) h = moves_ok h.2.moves
  puts_moves (Err e) h = moves_err h.moves

  pub puts_progress : (r : Result U (DecodeError E)) → Puts place p before after a b r
      → OnOk r (b.bound + 1 ≤ a.bound)
  puts_progress (Ok u) h = h.2.progress
  puts_progress (Err e) h = tt

  pub puts_memory : (r : Result U (DecodeError E)) → Puts place p before after a b r
      → IfErr r (λ e. IsTrue (is_out_of_memory e) → IsTrue p.format.takes_memory)
  puts_memory (Ok u) h = tt
  puts_memory (Err e) h = h.memory

-- ---- which field has a label

module _ {K T P V U E : Type 0} (key : K → Bor (List ℕ)) (place : Place T P) (p : Promise T)
    (others : List (Bor (List ℕ)) → Fields V) (keys : List K) (label : List ℕ)
    (before after : P × V) (a b : View) (r : Result U (DecodeError E)) where
  pub at_first : (d : K) → 1 ≤ length keys
      → Alters one_change
      (p.exact && (others (labels_by key (take (length keys - 1) (drop 1 keys)))).exact)
      (after_name (placed_field place (key (get_or keys 0 d)).now p
      (others (labels_by key (take (length keys - 1) (drop 1 keys))))) label) before after a b r
      → Alters one_change (fields_by place p others (labels_by key keys)).exact
      (after_name (fields_by place p others (labels_by key keys)) label) before after a b r
  at_first d some h = search (rules, keys_split)

  pub at_none : length keys < 1
      → Alters one_change (p.exact && (others []).exact)
      (after_name (unnamed_field place p (others [])) label) before after a b r
      → Alters one_change (fields_by place p others (labels_by key keys)).exact
      (after_name (fields_by place p others (labels_by key keys)) label) before after a b r
  at_none less h = search (rules, keys_none)

-- ---- a pair

module _ {V E : Type 0} (key : FieldKey) (f : Fields V) {a m : View} {label : List ℕ}
    (d : Decodes {E = E} (key_format key) a m (Ok label)) where
  pub entry_alters : {U : Type 0} (r : Result U (DecodeError E)) (b : View) (first last : V)
      → Alters one_change f.exact (after_name f label) first last m b r
      → Alters one_change f.exact (field_pair key f) first last a b r
  entry_alters (Ok u) b first last h = record {
    what = h.what;
    read = exactly_ok (entry_then key f.named f.rejects f.begins (SameChange f.same) f.owned d
        (Ok h.what) (of_exact {exact = f.exact} h.read));
    is = h.is;
  }
  entry_alters (Err e) b first last h =
      entry_then key f.named f.rejects f.begins (SameChange f.same) f.owned d (Err e) h

-- the key was rejected
pub entry_rejected : {V E : Type 0} (key : FieldKey) (f : Fields V) {a m : View}
    {e : DecodeError E} → Decodes (key_format key) a m (Err e)
    → DecodesIf f.exact (field_pair key f) a m (Err e)
entry_rejected key f d = key_err key f.named f.rejects f.begins (SameChange f.same) f.owned d

-- ---- pairs, one after another

changed_last : {V : Type 0} (values : V) (changes : List (V → V)) (change : V → V)
    → after_changes values (changes ++ change ∷ []) ≡ change (after_changes values changes)
changed_last values [] change = refl
changed_last values (g ∷ changes) change = changed_last (g values) changes change

module _ {V E : Type 0} (key : FieldKey) (f : Fields V) where
  made_more : (first : V) {m b : View} {middle last : V} (changes : List (V → V))
      → middle ≡ after_changes first changes → (t : Altered E one_change (field_pair key f) middle
      last m b)
      → last ≡ after_changes first (changes ++ t.what ∷ [])
  made_more first changes is t = t.is ∙ (ap t.what is ∙ sym (changed_last first changes t.what))

module _ {V : Type 0} (key : FieldKey) (f : Fields V) where
  -- so many pairs
  pub record Definite (i : ℕ) (a m : View) (first last : V) : Type 0 where
    pub changes : List (V → V)
    pub begun : Begun (field_pair key f) i a m changes
    pub is : last ≡ after_changes first changes

  pub definite_more : {E : Type 0} {i : ℕ} {a m b : View} {first middle last : V}
      → Definite i a m first middle → Altered E one_change (field_pair key f) middle last m b
      → Definite (i + 1) a b first last
  definite_more {first = first} h t = record {
    changes = h.changes ++ t.what ∷ [];
    begun = count_more (field_pair key f) h.begun t.read.moves.by t.read.sound refl;
    is = made_more key f first h.changes h.is t;
  }

  pub definite_done : {E : Type 0} {i count : ℕ} {a m : View} {first last : V}
      → Definite i a m first last → i ≡ count
      → Altered E all_changes (count_of in_list (field_pair key f) count) first last a m
  definite_done h all = search (rules, count_done)

  -- pairs, with a break in the place of none of them
  pub record Unended (a m : View) (first last : V) : Type 0 where
    pub changes : List (V → V)
    pub opened : Opened (field_pair key f) a m changes
    pub is : last ≡ after_changes first changes

  pub unended_more : {E : Type 0} {a l m b : View} {first middle last : V}
      → Unended a l first middle → Stands l m → Altered E one_change (field_pair key f) middle last
      m b
      → Unended a b first last
  unended_more {first = first} h s t = record {
    changes = h.changes ++ t.what ∷ [];
    opened = indefinite_more (field_pair key f) refl h.opened s t.read.moves.by t.read.sound refl;
    is = made_more key f first h.changes h.is t;
  }

  pub unended_done : {E : Type 0} (name : List ℕ) {ended : Bool} {a l b : View} {first last : V}
      → ended ≡ true → Unended a l first last → Runs {E = E} break_at l b (Ok ended)
      → Altered E all_changes (indefinite_of in_list name (field_pair key f)) first last a b
  unended_done name is h q = search (rules, indefinite_done)

-- ---- the head, and the step

module _ {W V U E : Type 0} (makes : W → V → V) (exact : Bool) (before after : V) where
  pub alters_after : (part whole : Format W) {a m : View} (b : View)
      (r : Result U (DecodeError E))
      → Leads exact part whole a m → Alters makes exact part before after m b r
      → Alters makes exact whole before after a b r
  alters_after part whole b (Ok u) l h = record {
    what = h.what;
    read = exactly_ok (part_then part whole (Ok h.what) l (of_exact h.read));
    is = h.is;
  }
  alters_after part whole b (Err e) l d = part_then part whole (Err e) l d

  pub alters_under : (s : Format W) (name : List ℕ) {a b c d : View}
      (r : Result U (DecodeError E))
      → StepsIn a.budget b.budget true → KeepsAllButBudget a b → KeepsAllButBudget c d
      → d.budget ≡ step_back c.budget → Alters makes exact s before after b c r
      → Alters makes exact (stepped_format name s) before after a d r
  alters_under s name (Ok u) takes inward outward gives h = record {
    what = h.what;
    read = exactly_ok (under_if s {exact = exact} name takes inward outward (Ok h.what) gives
        (of_exact h.read));
    is = h.is;
  }
  alters_under s name (Err e) takes inward outward gives d =
      under_if s name takes inward outward (Err e) gives d

-- ---- the values

-- what was there before any pair
pub from_first : {V E : Type 0} (key : FieldKey) (f : Fields V) {before after : V} {a b : View}
    → before ≡ f.first
    → Altered E all_changes (field_pairs key f) before after a b
    → Altered E all_changes (field_pairs key f) f.first after a b
from_first {E = E} key f {after = after} {a = a} {b = b} is =
    subst (λ (first : _). Altered E all_changes (field_pairs key f) first after a b) is

module _ {V W E : Type 0} (values : W → V) (key : FieldKey) (f : Fields V) {a b : View} where
  pub filled_ok : {w : W} → Altered E all_changes (field_pairs key f) f.first (values w) a b
      → Decodes {E = E} (struct_of values key f).format a b (Ok w)
  filled_ok h = search (rules, decoded_ok, sound_by)

  pub filled_err : {e : DecodeError E} → DecodesIf f.exact (field_pairs key f) a b (Err e)
      → DecodesIf f.exact (struct_of values key f).format a b (Err e)
  filled_err =
      err_here (field_pairs key f) (struct_of values key f).format (λ xs. record {
        none = λ is none w n c q fits. none q.0 n c q.1 fits;
        rejects = λ z ys h. h;
        begins = λ z ys h. h;
      }) (λ o. o) (λ takes. refl)

  pub struct_ok : {w : W} → Altered E all_changes (field_pairs key f) f.first (values w) a b
      → Deserializes {E = E} (struct_of values key f) a b (Ok w)
  struct_ok h = promised (struct_of values key f) (of_exact (filled_ok h))

  pub struct_err : {e : DecodeError E} → DecodesIf f.exact (field_pairs key f) a b (Err e)
      → Deserializes (struct_of values key f) a b (Err e)
  struct_err d = promised (struct_of values key f) (filled_err d)
