-- Where a struct may want memory, by its fields and their keys.
use Rattle.std.proofs.Common.{◌≡◌, ◌-◌, ◌≤◌, ℕ, ℤ, List, length, take, drop, Result, Ok, Err}
use Rattle.std.proofs.Common.{Bool, true, false, IsTrue, inl, inr, ap, rules}
use Rattle.std.specs.Prelude.{◌||◌, IfErr}
use denote.Ref.{Bor}
use Rattle.cbor4ii_rw.specs.View.{View}
use Rattle.cbor4ii_rw.specs.declared.error.DecodeError.{DecodeError}
use Rattle.cbor4ii_items.specs.InputError.{is_out_of_memory}
use Rattle.cbor4ii_items.specs.Laws.Pairs.{or_left, or_right}
use Rattle.cbor4ii.specs.FieldKey.{labels_by}
use Rattle.cbor4ii.specs.Keys.{AnyView, TextComes, WantsByKeys, as_key}
use Rattle.cbor4ii.specs.Places.{Place}
use Rattle.cbor4ii.specs.Structs.{Fields, fields_by}
use Rattle.cbor4ii.specs.Typed.{Promise, answer_of, not_exact}
use Rattle.cbor4ii.specs.declared.serde.de.error.DecodeError.{DecodeError as TypedError}
use Rattle.cbor4ii.proofs.Keying.{Comes}
use Rattle.cbor4ii.proofs.Labels.{keys_split}

-- a text comes
pub comes_here : {a m : View} → Comes true a m → TextComes a
comes_here h xs known = (0, (h.at xs known).1)

-- a key may want memory anywhere
pub wants_anywhere : {V E : Type 0} (a : View) (r : Result V (DecodeError E))
    → WantsByKeys AnyView false a r
wants_anywhere a (Ok v) = tt
wants_anywhere a (Err e) = λ out. inr tt

module _ (may : View → Type 0) where
  module _ {V E : Type 0} where
    -- what takes the memory of a part, or none
    pub wants_as : (a : View) (part whole : Bool) (r : Result V (DecodeError E))
        → (IsTrue part → IsTrue whole)
        → IfErr r (λ e. IsTrue (is_out_of_memory e) → IsTrue part) → WantsByKeys may whole a r
    wants_as a part whole (Ok v) more memory = tt
    wants_as a part whole (Err e) more memory = λ out. inl (more (memory out))

    pub wants_more : (a : View) (part whole : Bool) (r : Result V (DecodeError E))
        → (IsTrue part → IsTrue whole) → WantsByKeys may part a r → WantsByKeys may whole a r
    wants_more a part whole (Ok v) more wants = tt
    wants_more a part whole (Err e) more wants = λ out. elim (wants out)
        [ inl t ↦ inl (more t) | inr c ↦ inr c ]

  pub wants_never : {E : Type 0} (V : Type 0) (a : View) (takes : Bool) (e : DecodeError E)
      → is_out_of_memory e ≡ false → WantsByKeys {V = V} may takes a (Err e)
  wants_never V a takes e never = λ out. (let yes : is_out_of_memory e ≡ true = out in cc)

  -- after something was read, or under a step that was taken
  pub wants_after : {V E : Type 0} (a m : View) (takes : Bool) (r : Result V (DecodeError E))
      → (may m → may a) → WantsByKeys may takes m r → WantsByKeys may takes a r
  wants_after a m takes (Ok v) before wants = tt
  wants_after a m takes (Err e) before wants = λ out. elim (wants out)
      [ inl t ↦ inl t | inr c ↦ inr (before c) ]

  -- ---- the fields after the first

  module _ {K T P V : Type 0} (label : K → Bor (List ℕ)) (place : Place T P) (p : Promise T)
      (others : List (Bor (List ℕ)) → Fields V) (keys : List K) where
    at_split : (d : K) → 1 ≤ length keys
        → (fields_by place p others (labels_by label keys)).takes_memory
        ≡ (p.format.takes_memory
        || (others (labels_by label (take (length keys - 1) (drop 1 keys)))).takes_memory)
    at_split d some =
        ap (λ labels. (fields_by place p others labels).takes_memory) (keys_split label keys d some)

    module _ {U E : Type 0} (a : View) (r : Result U (DecodeError E)) (d : K)
        (some : 1 ≤ length keys) where
      pub wants_first : IfErr r (λ e. IsTrue (is_out_of_memory e) → IsTrue p.format.takes_memory)
          → WantsByKeys may (fields_by place p others (labels_by label keys)).takes_memory a r
      wants_first memory = search (rules, wants_as, at_split, or_left)

      pub wants_below : WantsByKeys may
          (others (labels_by label (take (length keys - 1) (drop 1 keys)))).takes_memory a r
          → WantsByKeys may (fields_by place p others (labels_by label keys)).takes_memory a r
      wants_below wants = search (rules, wants_more, at_split, or_right)

pub wants_integer : {E : Type 0} (a : View) (r : Result ℤ (TypedError E))
    → IfErr (answer_of r) (λ e. IsTrue (is_out_of_memory e) → IsTrue false)
    → WantsByKeys TextComes false a (answer_of (as_key r))
wants_integer a (Ok v) memory = tt
wants_integer a (Err e) memory = λ out. not_exact (memory out)
