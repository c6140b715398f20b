-- A payload is sealed, or it is not.
use Rattle.std.proofs.Common.{◌≡◌, ℕ, ◌^◌, ◌<◌, List, [], ◌++◌, length, Result, Ok, Err, sym, ap, ◌∙◌}
use Rattle.std.proofs.Common.{subst}
use Rattle.std.proofs.Math.Seq.{take-length}
use Rattle.std.specs.Prelude.{IfOk, MatchResult}
use Rattle.cbor4ii_items.specs.Whole.{IsWhole}
use Rattle.cbor4ii_tree.specs.Calls.PlainRaw.{plain_raw_content, plain_raw_format}
use Rattle.cbor4ii_tree.specs.declared.plain_raw.PlainRawValue.{PlainRawValue}
use Rattle.cbor4ii_ser.specs.Item.{Encoding, encoded, rejected, IsEncodedAnd}
use Rattle.cbor4ii_ser.specs.Item.{one_then}
use Rattle.cbor4ii_ser.specs.Serializing.{SaysWhy}
use Rattle.cbor4ii_ser.specs.declared.error.EncodeError.{EncodeError}
use Rattle.cbor4ii_ser.specs.declared.error.EncodeError.TheVariants.{Core, Custom}
use Rattle.cbor4ii_examples.specs.Envelope.{Signatures, Sealed, envelope_encoding}

-- what an empty buffer holds after an item
pub written : (item : Encoding) (held bytes : List ℕ) → held ≡ []
    → IsEncodedAnd item (λ xs. bytes ≡ held ++ xs) → item ≡ encoded bytes
written (encoded xs) held bytes none h =
    ap encoded (sym (h ∙ ap (λ start. start ++ xs) none))
written (rejected xs words) held bytes none h = absurd h

-- a payload's bytes are those that were read
pub content : (payload : List ℕ) (plain : PlainRawValue)
    → IsWhole plain_raw_format.reads payload plain → plain_raw_content plain ≡ payload
content payload plain read = read.1.1.1 ∙ take-length payload

-- both are made
abbrev pub SameOk : {T : Type 0} (D : Type 0) → T → T → Type 0
SameOk {T} D v x =
    let a : Result T D = Ok v in
    let b : Result T D = Ok x in
    a ≡ b

-- what is made where another error stands for that of a call is what the call made
pub ok_of : {T E : Type 0} (D : Type 0) (r : Result T E) (v : T) (P : T → Type 0)
    → MatchResult r (SameOk D v) (λ e. ⊥) → IfOk r P → P v
ok_of D (Ok x) v P same h = let is : x ≡ v = cc in subst P is h
ok_of D (Err e) v P same h = absurd same

pub is_sealed : (signed : Signatures) (key own : ℕ) (item : Encoding) (payload : List ℕ)
    (plain : PlainRawValue) (message signature held bytes : List ℕ) → item ≡ encoded payload
    → IsWhole plain_raw_format.reads payload plain → message ≡ plain_raw_content plain
    → signed key signature message → length signature < 2 ^ 64 → own ≡ key → held ≡ signature
    → envelope_encoding own held (plain_raw_content plain) ≡ encoded bytes
    → Sealed signed key item bytes
is_sealed signed key own item payload plain message signature held bytes is read same right few named
    lent all = record {
      payload = payload;
      item_is = is;
      plain = plain;
      accepted = read;
      signature = signature;
      is_signed = subst (signed key signature) (same ∙ content payload plain read) right;
      few = few;
      encoding = subst (λ xs. envelope_encoding key signature xs ≡ encoded bytes)
          (content payload plain read)
          (subst (λ xs. envelope_encoding key xs (plain_raw_content plain) ≡ encoded bytes) lent
          (subst (λ k. envelope_encoding k held (plain_raw_content plain) ≡ encoded bytes) named
          all));
    }

-- an envelope is never rejected in words
pub not_enveloped : {E : Type 0} (item : Encoding) (key : ℕ) (signature payload : List ℕ)
    (why : EncodeError E) → SaysWhy (envelope_encoding key signature payload) why
    → SaysWhy item why
unfolding one_then
not_enveloped item key signature payload (Core error) h = tt
not_enveloped item key signature payload (Custom text) h = absurd h
