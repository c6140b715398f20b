-- The head of a tag, and the value that it tags.
use Rattle.std.proofs.Common.{rules}
use Rattle.std.proofs.Common.{◌≡◌, ℕ, inl, inr, List, drop, Result, Ok, Err, refl, ap, subst, arith}
use Rattle.std.specs.Prelude.{codes}
use denote.Ref.{Bor}
use Rattle.cbor4ii_rw.specs.View.{View}
use Rattle.cbor4ii_rw.specs.declared.error.DecodeError.{DecodeError}
use Rattle.cbor4ii_rw.specs.declared.error.DecodeError.TheVariants.{Custom}
use Rattle.cbor4ii_items.specs.Decoding.{Decodes, DecodesIf}
use Rattle.cbor4ii_items.specs.Numbers.{ReadsArgument, argument_format}
use Rattle.cbor4ii_items.specs.Sequences.{pair_format}
use Rattle.cbor4ii_items.specs.Laws.Calls.{ok, err, of_exact, decodes_exactly}
use Rattle.cbor4ii_items.specs.Laws.Calls.{exactly_ok}
use Rattle.cbor4ii_items.specs.Laws.Calls.{by_ok, by_err_if}
use Rattle.cbor4ii_items.specs.Laws.Heads.{head_one}
use Rattle.cbor4ii_items.specs.Laws.Pairs.{pair_ok, key_err, value_err}
use Rattle.cbor4ii.specs.Tagged.{RejectsTagHead, tag_head, tag_head_lawful, after_tag}
use Rattle.cbor4ii.specs.Tagged.{tagged_format}
use Rattle.cbor4ii.specs.Typed.{Promise, Deserializes, in_words, no_number}
use Rattle.cbor4ii.specs.TypedParts.{part_of}
use Rattle.cbor4ii.proofs.Promised.{tell}
use Rattle.cbor4ii.proofs.Forms.{sound_by, err_here}

-- ---- the head

pub tag_found : {E : Type 0} {number found : ℕ} {a m : View} → found ≡ number
    → Decodes {E = E} (argument_format (codes "tag") 6 8) a m (Ok found)
    → Decodes {E = E} (tag_head number) a m (Ok tt)
tag_found {number = number} same d =
    ok (tag_head number) d.moves.by d.progress
    (sound_by d.sound (λ xs n c r. subst (λ k. ReadsArgument 6 8 xs k n c) same r))

pub tag_other : {E : Type 0} {number found : ℕ} {words : Bor (List ℕ)} {a m : View}
    → words.now ≡ codes "expected another tag" → (found ≡ number → ⊥)
    → Decodes {E = E} (argument_format (codes "tag") 6 8) a m (Ok found)
    → Decodes {E = E} (tag_head number) a m (Err (Custom words no_number))
tag_other {number = number} {found = found} {words = words} {a = a} named not d =
    err (tag_head number) (record { by = d.moves.by; depth = λ none. refl }) (λ out. cc)
    (λ xs known. (
    let p = d.sound.at xs known in
    let stop : RejectsTagHead number xs a.budget (in_words words.now) (drop p.count xs) =
    inr (record {
      found = found;
      size = p.count;
      head = p.read.0;
      other = not;
      rejected = ap in_words named;
      left = refl;
    }) in (
      drop p.count xs,
      p.left,
      record {
        none = λ is v n c r fits.
            not (head_one 6 8 xs found number p.count n (omega arith) p.read.0 r.0).1;
        rejects = stop;
        begins = stop;
      },
    )))

pub tag_missing : {E : Type 0} {number : ℕ} {a m : View} {e : DecodeError E}
    → Decodes (argument_format (codes "tag") 6 8) a m (Err e)
    → Decodes (tag_head number) a m (Err e)
tag_missing {number = number} {a = a} d =
    decodes_exactly (err_here (argument_format (codes "tag") 6 8) (tag_head number) (λ xs. record {
      none = λ is none v n c r fits. none number n c r fits;
      rejects = λ z ys h. inl h;
      begins = λ z ys h. inl h;
    }) (λ owned. owned) (λ takes. takes) (of_exact d))

-- ---- the value

module _ {V E : Type 0} (number : ℕ) (p : Promise V) {a m : View} where
  pub tagged_after : {b : View} (r : Result V (DecodeError E))
      → Decodes {E = E} (tag_head number) a m (Ok tt) → Deserializes p m b r
      → DecodesIf p.exact (tagged_format number (part_of p)) a b r
  tagged_after (Ok v) d t =
      let both = pair_format (tag_head number) (part_of p) in
      of_exact (by_ok after_tag both refl
      (pair_ok (tag_head number) (part_of p) d (exactly_ok (tell p (Ok v) t))))
  tagged_after (Err e) d t = search (rules, by_err_if, value_err, tag_head_lawful, tell)

  pub untagged : {e : DecodeError E} → Decodes (tag_head number) a m (Err e)
      → DecodesIf p.exact (tagged_format number (part_of p)) a m (Err e)
  untagged d = search (rules, by_err_if, key_err, of_exact)
