-- What calls promise together of a typed value.
use Rattle.std.proofs.Common.{◌+◌, ◌≤◌, Result, Ok, Err, IsTrue, rules}
use Rattle.cbor4ii_rw.specs.View.{View}
use Rattle.cbor4ii_rw.specs.declared.error.DecodeError.{DecodeError}
use Rattle.cbor4ii_rw.specs.declared.error.DecodeError.TheVariants.{OutOfMemory}
use Rattle.cbor4ii_items.specs.Decoding.{Sound, Decodes, DecodesIf}
use Rattle.cbor4ii_items.specs.Moves.{Kept}
use Rattle.cbor4ii_items.specs.Laws.Calls.{ok as decoded_ok, out_of_memory as decoded_out, of_exact}
use Rattle.cbor4ii.specs.Typed.{Promise, Deserializes, typed_format}
use Rattle.cbor4ii.specs.TypedParts.{part_of}
use Rattle.cbor4ii.proofs.Beginnings.{said_left}

-- all that is decoded so is promised
pub promised : {V E : Type 0} (p : Promise V) {a b : View} {r : Result V (DecodeError E)}
    → DecodesIf p.exact p.format a b r → Deserializes p a b r
promised p d = search rules

-- and of an exact type all is reported
pub whole : {V E : Type 0} {p : Promise V} {a b : View} {r : Result V (DecodeError E)}
    → IsTrue p.exact → IsTrue p.known → Deserializes p a b r
    → Decodes (typed_format p.format.reads p.format.same p.format.begins p.format.owned
    p.format.takes_memory) a b r
whole is reports d = search rules

module _ {V E : Type 0} (p : Promise V) {a b : View} where
  pub ok : {v : V} → Kept a b → b.bound + 1 ≤ a.bound → Sound p.format.reads a b v
      → Deserializes {E = E} p a b (Ok v)
  ok kept progress sound =
      promised p (of_exact (decoded_ok p.format kept (λ some. progress) sound))

  pub out_of_memory : IsTrue p.format.takes_memory → Kept a b
      → Deserializes {E = E} p a b (Err OutOfMemory)
  out_of_memory takes kept = promised p (of_exact (decoded_out p.format takes kept))

-- a part of a container
pub tell : {V E : Type 0} (p : Promise V) {a b : View} (r : Result V (DecodeError E))
    → Deserializes p a b r → DecodesIf p.exact (part_of p) a b r
tell p (Ok v) d =
    of_exact (decoded_ok (part_of p) d.moves.by (λ some. d.progress) d.sound)
tell p (Err e) d = search (rules, said_left)
