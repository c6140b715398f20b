-- A signed payload: what is sealed, and what is opened.
use Rattle.std.specs.Prelude.{◌≡◌, ◌<◌, ◌^◌, ℕ, List, [], ◌∷◌, length, codes, Err}
use Rattle.std.specs.declared.string.ParseError.{Infallible}
use Rattle.cbor4ii_items.specs.Numbers.{shortest_head}
use Rattle.cbor4ii_items.specs.Strings.{definite_string}
use Rattle.cbor4ii_items.specs.Whole.{IsWhole, DecodesWhole}
use Rattle.cbor4ii_tree.specs.Calls.PlainRaw.{plain_raw_content, plain_raw_format}
use Rattle.cbor4ii_tree.specs.declared.plain_raw.PlainRawValue.{PlainRawValue}
use Rattle.cbor4ii_ser.specs.Item.{Encoding, encoded, field, struct_encoding}
use Rattle.cbor4ii_ser.specs.Serializing.{SaysWhy}
use Rattle.cbor4ii.specs.First.{FirstWhole}
use Rattle.cbor4ii.specs.Typed.{Promise}
use Rattle.cbor4ii_examples.specs.declared.envelope.Envelope.{Envelope}
use Rattle.cbor4ii_examples.specs.declared.envelope.OpenError.{OpenError}
use Rattle.cbor4ii_examples.specs.declared.envelope.OpenError.TheVariants as open_error
use Rattle.cbor4ii_examples.specs.declared.envelope.SealError.{SealError}
use Rattle.cbor4ii_examples.specs.declared.envelope.SealError.TheVariants as seal_error
use Rattle.cbor4ii_examples.specs.declared.reply.Reply.{Reply}

-- which bytes are a signature over a message, by the number of the key
abbrev pub Signatures : Type 1
Signatures = ℕ → List ℕ → List ℕ → Type 0

-- ---- sealed

-- the item of an envelope, of its key's number, its signature and its payload's item
abbrev pub envelope_encoding : ℕ → List ℕ → List ℕ → Encoding
envelope_encoding key signature payload = struct_encoding
    (field (codes "key") (encoded (shortest_head 0 key))
    ∷ field (codes "signature") (encoded (definite_string 2 signature))
    ∷ field (codes "payload") (encoded payload) ∷ [])

-- The value of this item was sealed in these bytes, under the key with this number.
pub record Sealed (signed : Signatures) (key : ℕ) (item : Encoding) (bytes : List ℕ) : Type 0 where
  pub payload : List ℕ
  -- the payload is the value's item, and one that `Value` accepts
  pub item_is : item ≡ encoded payload
  pub plain : PlainRawValue
  pub accepted : IsWhole plain_raw_format.reads payload plain
  -- its bytes are what was signed
  pub signature : List ℕ
  pub is_signed : signed key signature payload
  pub few : length signature < 2 ^ 64
  -- the bytes are the envelope's
  pub encoding : envelope_encoding key signature payload ≡ encoded bytes

-- It, or its envelope, was not written; or its item is none that `Value` accepts; or there was no
-- memory for the signature over it.
-- Why the value of this item was not sealed.
abbrev pub NotSealed : Encoding → SealError → Type 0
NotSealed item (seal_error.Encode why) = SaysWhy item why
NotSealed item (seal_error.Payload why) = (payload : List ℕ) × (item ≡ encoded payload) ×
    DecodesWhole {V = PlainRawValue} plain_raw_format payload (Err why)
NotSealed item seal_error.OutOfMemory = (payload : List ℕ) × (item ≡ encoded payload) ×
    ((plain : PlainRawValue) × IsWhole plain_raw_format.reads payload plain)

-- ---- opened

-- The whole input is an envelope.
abbrev pub IsEnvelope : Promise Envelope → List ℕ → Envelope → Type 0
IsEnvelope envelopes input e = IsWhole envelopes.format.reads input e

-- The envelope's signature is one over its payload's bytes.
abbrev pub IsSigned : Signatures → Envelope → Type 0
IsSigned signed e = signed e.key e.signature.0.now (plain_raw_content e.payload)

-- The input is an envelope that is signed, and its payload, as a whole, is this reply.
pub record IsOpened (envelopes : Promise Envelope) (replies : Promise Reply) (signed : Signatures)
    (input : List ℕ) (reply : Reply) : Type 0 where
  pub envelope : Envelope
  pub read : IsEnvelope envelopes input envelope
  pub is_signed : IsSigned signed envelope
  pub payload : IsWhole replies.format.reads (plain_raw_content envelope.payload) reply

-- Why nothing was opened: no envelope, none that is signed, or a signed payload that is no reply.
abbrev pub NotOpened : Promise Envelope → Promise Reply → Signatures → List ℕ → OpenError → Type 0
NotOpened envelopes replies signed input (open_error.Envelope why) =
    FirstWhole {E = Infallible} envelopes input (Err why)
NotOpened envelopes replies signed input open_error.NotSigned =
    (e : Envelope) × IsEnvelope envelopes input e × (IsSigned signed e → ⊥)
NotOpened envelopes replies signed input (open_error.Payload why) =
    (e : Envelope) × IsEnvelope envelopes input e × IsSigned signed e ×
    FirstWhole {E = Infallible} replies (plain_raw_content e.payload) (Err why)
