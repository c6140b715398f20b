-- What is sealed is opened.
use Rattle.std.proofs.Common.{◌≡◌, ℕ, ◌^◌, ◌<◌, ◌≤◌, List, [], ◌++◌, length, codes}
use Rattle.std.proofs.Common.{false, refl, sym, ap, ◌∙◌, subst, lit≤, arith}
use Rattle.std.proofs.lemmas.List.{append-nil}
use Rattle.std.proofs.Math.Seq.{take-length}
use Rattle.std.specs.declared.alloc.Global.{Global}
use denote.Ref.{Bor}
use Rattle.cbor4ii_rw.specs.Input.{limit}
use Rattle.cbor4ii_items.specs.Decoding.{Reads}
use Rattle.cbor4ii_items.specs.Head.{four}
use Rattle.cbor4ii_items.specs.Lent.{lent_bytes}
use Rattle.cbor4ii_items.specs.Numbers.{shortest_head}
use Rattle.cbor4ii_items.specs.ReadBack.{ReadsBack}
use Rattle.cbor4ii_items.specs.Strings.{definite_string}
use Rattle.cbor4ii_items.specs.Whole.{IsWhole}
use Rattle.cbor4ii_items.specs.Laws.Arguments.{zero_small, argument_lawful}
use Rattle.cbor4ii_items.specs.Laws.LeavesBack.{lent_back}
use Rattle.cbor4ii_items.specs.Laws.NumbersBack.{argument_back}
use Rattle.cbor4ii_items.specs.declared.types.Bytes.{Bytes}
use Rattle.cbor4ii_tree.specs.Calls.PlainRaw.{plain_raw_content, ReadsPlainRaw}
use Rattle.cbor4ii_tree.specs.Laws.Capturing.{plain_raw_alone, plain_raw_lawful}
use Rattle.cbor4ii_tree.specs.declared.plain_raw.PlainRawValue.{PlainRawValue}
use Rattle.cbor4ii_ser.specs.Item.{Encoding, encoded}
use Rattle.cbor4ii_ser.specs.OneItem.{IsOneItem, canonical}
use Rattle.cbor4ii_ser.specs.Laws.OneItem.{bytes_are_item}
use Rattle.cbor4ii.specs.Borrowed.{unlent_bytes}
use Rattle.cbor4ii.specs.Codec.{Codec, leaf_codec, unsigned_is_one, AreFew, no_facts}
use Rattle.cbor4ii.specs.CodecFields.{struct_codec, with_field_once, no_fields}
use Rattle.cbor4ii.specs.Fields.{no_values}
use Rattle.cbor4ii.specs.ReadBack.{IsReadBack}
use Rattle.cbor4ii.specs.Typed.{Promise, exact_promise, not_exact}
use Rattle.cbor4ii_examples.specs.Envelope.{Signatures, IsOpened, envelope_encoding}
use Rattle.cbor4ii_examples.specs.declared.envelope.Envelope.{Envelope}
use Rattle.cbor4ii_examples.specs.declared.reply.Reply.{Reply}

-- with nothing after it
alone : {V : Type 0} (reads : Reads V) (bytes : List ℕ) (v : V) (cost : ℕ)
    → ReadsBack reads bytes v cost → reads bytes v (length bytes) cost
alone reads bytes v cost back =
    subst (λ xs. reads xs v (length bytes) cost) (append-nil bytes) (back [])

-- an item that is read back is read as a whole
whole : {V : Type 0} (reads : Reads V) (item : Encoding) (bytes : List ℕ) (v : V) (cost : ℕ)
    → item ≡ encoded bytes → IsReadBack reads item v cost → cost ≤ limit → IsWhole reads bytes v
whole reads item bytes v cost is back few =
    (cost, alone reads bytes v cost (subst (λ o. IsReadBack reads o v cost) is back), few)

module _ (payload : List ℕ) (plain : PlainRawValue) (cost : ℕ)
    (read : ReadsPlainRaw payload plain (length payload) cost)
    (one : IsOneItem canonical (encoded payload)) where
  pub content : plain_raw_content plain ≡ payload
  content = read.1.1 ∙ take-length payload

  pub payload_back : ReadsBack ReadsPlainRaw payload plain cost
  payload_back rest =
      subst (λ xs. ReadsPlainRaw (xs ++ rest) plain (length payload) cost) (take-length payload)
      (plain_raw_alone payload rest plain (length payload) cost read)

  -- this payload alone
  abbrev pub payload_codec : Codec PlainRawValue
  payload_codec = record {
    promise = exact_promise refl plain_raw_lawful;
    encoding = λ v. encoded (plain_raw_content v);
    stands = λ v. v ≡ plain;
    cost = λ v. cost;
    facts = no_facts;
    back = λ hold alloc v is.
        subst (λ w. ReadsBack ReadsPlainRaw (plain_raw_content w) w cost) (sym is)
        (subst (λ xs. ReadsBack ReadsPlainRaw xs plain cost) (sym content) payload_back);
    one = λ hold v is. subst (λ w. IsOneItem canonical (encoded (plain_raw_content w))) (sym is)
        (subst (λ xs. IsOneItem canonical (encoded xs)) (sym content) one);
  }

  abbrev pub number_codec : Codec ℕ
  number_codec = leaf_codec (exact_promise refl (argument_lawful (codes "u32") 0 4 zero_small))
      (λ v. encoded (shortest_head 0 v)) (λ v. v < 2 ^ 32) (argument_back 0 four)
      (unsigned_is_one (2 ^ 32) (lit≤ tt))

  abbrev pub signature_codec : Codec (Bytes (Bor (List ℕ)))
  signature_codec = leaf_codec unlent_bytes (λ v. encoded (definite_string 2 v.0.now))
      (λ v. AreFew v.0.now) (λ v h. lent_back lent_bytes v h 2 false not_exact)
      (λ v. bytes_are_item canonical v.0.now)

  abbrev pub envelope_codec : Codec Envelope
  envelope_codec = struct_codec (λ e. (e.key, (e.signature, (e.payload, no_values))))
      (λ values. record { key = values.0; signature = values.1.0; payload = values.1.1.0 }) (λ e. refl)
      (with_field_once (codes "key") (codes "an envelope has one key") number_codec
      (with_field_once (codes "signature") (codes "an envelope has one signature") signature_codec
      (with_field_once (codes "payload") (codes "an envelope has one payload") payload_codec
      no_fields refl) refl) refl) refl

  -- the envelope of this payload, by what it holds
  abbrev pub envelope_of : ℕ → List ℕ → Envelope
  envelope_of key signature = record {
    key = key;
    signature = record { 0 = record { ref_ptr = (0, 0); now = signature } };
    payload = plain;
  }

  envelope_whole : (alloc : Global) (key : ℕ) (signature bytes : List ℕ) → key < 2 ^ 32
      → AreFew signature → cost < limit → envelope_encoding key signature payload ≡ encoded bytes
      → IsWhole envelope_codec.promise.format.reads bytes (envelope_of key signature)
  envelope_whole alloc key signature bytes small few room is =
      let e = envelope_of key signature in
      whole envelope_codec.promise.format.reads (envelope_codec.encoding e) bytes e
      (envelope_codec.cost e)
      (ap (envelope_encoding key signature) content ∙ is)
      (envelope_codec.back tt alloc e (small, (few, (refl, tt))))
      (omega (arith, room))

  pub sealed_is_opened : (replies : Promise Reply) (alloc : Global) (verified : Signatures)
      (key : ℕ) (signature bytes : List ℕ) (item : Encoding) (reply : Reply) (steps : ℕ)
      → key < 2 ^ 32 → AreFew signature → cost < limit
      → envelope_encoding key signature payload ≡ encoded bytes → verified key signature payload
      → item ≡ encoded payload → IsReadBack replies.format.reads item reply steps → steps ≤ limit
      → IsOpened envelope_codec.promise replies verified bytes reply
  sealed_is_opened replies alloc verified key signature bytes item reply steps small few room is
      right of back fits = record {
        envelope = envelope_of key signature;
        read = envelope_whole alloc key signature bytes small few room is;
        is_signed = subst (verified key signature) (sym content) right;
        payload = subst (λ xs. IsWhole replies.format.reads xs reply) (sym content)
            (whole replies.format.reads item payload reply steps of back fits);
      }
