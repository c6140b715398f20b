-- Bytes that a store rejects.
use Rattle.std.proofs.Common.{◌≡◌, ℕ, ◌⊎◌, inl, inr, List, length, Some, Result, Ok, Err}
use Rattle.std.proofs.Common.{refl, sym, subst, IsTrue}
use Rattle.std.specs.Prelude.{IfErr}
use Rattle.std.specs.Result.{IsErrAnd}
use Rattle.std.specs.declared.string.ParseError.{Infallible}
use Rattle.cbor4ii_rw.specs.Input.{limit}
use Rattle.cbor4ii_rw.specs.declared.error.DecodeError.{DecodeError}
use Rattle.cbor4ii_rw.specs.declared.error.DecodeError.TheVariants as error
use Rattle.cbor4ii_rw.specs.declared.error.WholeError.{WholeError}
use Rattle.cbor4ii_rw.specs.declared.error.WholeError.TheVariants.{Decode, Trailing}
use Rattle.cbor4ii_items.specs.Decoding.{Format, NoneRead}
use Rattle.cbor4ii_items.specs.Whole.{DecodesWhole, IsWhole, NoneIsWhole}
use Rattle.cbor4ii_tree.specs.declared.value.Value.{Value}
use Rattle.cbor4ii_examples.specs.Store.{NotStored}

module _ {V : Type 0} (format : Format V) (bytes : List ℕ) where
  -- no reading that fits begins the bytes, so none takes all of them
  none : NoneRead format.reads bytes (Some limit) → NoneIsWhole format.reads bytes
  none h v w = h v (length bytes) w.0 w.1 w.2

  -- memory was refused, or no value is the whole
  only : (owned : IsTrue format.owned) (e : WholeError (DecodeError Infallible))
      → DecodesWhole {E = Infallible} format bytes (Err e)
      → (e ≡ Decode error.OutOfMemory) ⊎ NoneIsWhole format.reads bytes
  only owned (Trailing left) d = inr d.trailing.1
  only owned (Decode error.OutOfMemory) d = inl refl
  only owned (Decode (error.Read e)) d = elim e [ ]
  only owned (Decode (error.Mismatch name found)) d = inr (none (d.rejects.complete (inl owned)))
  only owned (Decode (error.Unsupported name found)) d = inr (none (d.rejects.complete (inl owned)))
  only owned (Decode (error.Eof name expect)) d = inr (none (d.rejects.complete (inl owned)))
  only owned (Decode (error.RequireLength name found)) d =
      inr (none (d.rejects.complete (inl owned)))
  only owned (Decode (error.RequireBorrowed name)) d = inr (none (d.rejects.complete (inl owned)))
  only owned (Decode (error.RequireUtf8 name)) d = inr (none (d.rejects.complete (inl owned)))
  only owned (Decode (error.LengthOverflow name found)) d =
      inr (none (d.rejects.complete (inl owned)))
  only owned (Decode (error.CastOverflow name)) d = inr (none (d.rejects.complete (inl owned)))
  only owned (Decode (error.ArithmeticOverflow name ty)) d =
      inr (none (d.rejects.complete (inl owned)))
  only owned (Decode (error.DepthOverflow name)) d = inr (none (d.rejects.complete (inl owned)))
  only owned (Decode (error.Custom name num)) d = inr (none (d.rejects.complete (inl owned)))
  only owned (Decode (error.NotCanonical name)) d = inr (none (d.rejects.complete (inl owned)))

  as_value : (Is : List ℕ → Value → Type 0) (of : Value → V)
      → ((v : Value) → Is bytes v → IsWhole format.reads bytes (of v))
      → (e : WholeError (DecodeError Infallible))
      → (e ≡ Decode error.OutOfMemory) ⊎ NoneIsWhole format.reads bytes
      → (e ≡ Decode error.OutOfMemory) ⊎ ((v : Value) → Is bytes v → ⊥)
  as_value Is of to e (inl memory) = inl memory
  as_value Is of to e (inr whole) = inr (λ v is. whole (of v) (to v is))

  -- there was no memory for what is written
  pub no_room : (Is : List ℕ → Value → Type 0) → IsTrue format.takes_memory
      → NotStored format Is bytes (Decode error.OutOfMemory)
  no_room Is takes = record {
    only = inl refl;
    whole = record {
      accepts = tt;
      trailing = tt;
      rejects = record {
        memory = λ is. takes;
        complete = λ sure. tt;
        rejects = λ sure. tt;
        begins = tt;
      };
    };
  }

  -- an error of `decode_whole` is one of the store
  not_stored : (Is : List ℕ → Value → Type 0) (of : Value → V)
      → ((v : Value) → Is bytes v → IsWhole format.reads bytes (of v)) → IsTrue format.owned
      → (e : WholeError (DecodeError Infallible)) → DecodesWhole {E = Infallible} format bytes (Err e)
      → NotStored format Is bytes e
  not_stored Is of to owned e d =
      record { only = as_value Is of to e (only owned e d); whole = d }

  pub handed_on : {W : Type 0} (Is : List ℕ → Value → Type 0) (of : Value → V)
      → ((v : Value) → Is bytes v → IsWhole format.reads bytes (of v)) → IsTrue format.owned
      → (e : WholeError (DecodeError Infallible)) → DecodesWhole {E = Infallible} format bytes (Err e)
      → (r : Result W (WholeError (DecodeError Infallible))) → IsErrAnd r (λ x. x ≡ e)
      → IfErr r (NotStored format Is bytes)
  handed_on Is of to owned e d (Ok w) is = tt
  handed_on Is of to owned e d (Err x) is =
      subst (NotStored format Is bytes) (sym is) (not_stored Is of to owned e d)
