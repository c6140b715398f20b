-- What a call answers that makes a value of another one.
use Rattle.std.proofs.Common.{◌≡◌, inl, inr, ℕ, List, drop, Result, Ok, Err, refl, subst, rules}
use denote.Ref.{Bor}
use Rattle.cbor4ii_rw.specs.View.{View}
use Rattle.cbor4ii_rw.specs.declared.error.DecodeError.{DecodeError}
use Rattle.cbor4ii_rw.specs.declared.error.DecodeError.TheVariants.{Custom}
use Rattle.cbor4ii_items.specs.Decoding.{RejectsAt, Rejects}
use Rattle.cbor4ii_items.specs.Laws.Answering.{complete_as}
use Rattle.cbor4ii_items.specs.Laws.Steps.{moves_err}
use Rattle.cbor4ii.specs.Made.{RejectsMade, made_from, made_or_rejected, made_rejects}
use Rattle.cbor4ii.specs.Made.{made_begins}
use Rattle.cbor4ii.specs.Presence.{SameFate}
use Rattle.cbor4ii.specs.Typed.{Promise, Deserializes, no_number, not_exact}
use Rattle.cbor4ii.proofs.Promised.{ok}
use Rattle.cbor4ii.proofs.Stopped.{stopped_as}
use Rattle.cbor4ii.proofs.Forms.{sound_by}

module _ {V W E : Type 0} (p : Promise V) {a b : View} where
  -- it was made
  pub from_ok : {v : V} {w : W} (gives : V → W → Type 0) → gives v w
      → Deserializes {E = E} p a b (Ok v) → Deserializes {E = E} (made_from gives p) a b (Ok w)
  from_ok {v = v} gives made d = search (rules, ok, sound_by)

  pub from_err : {e : DecodeError E} (gives : V → W → Type 0) → Deserializes p a b (Err e)
      → Deserializes (made_from gives p) a b (Err e)
  from_err gives d = record {
    moves = moves_err d.moves;
    progress = tt;
    memory = d.memory;
    sound = tt;
    complete = λ is sure. complete_as p.format.reads _
        (λ xs budget none w n c q. none q.part n c q.read) (d.complete is sure);
    rejects = d.rejects;
    begins = d.begins;
  }

  -- the same where it may be rejected in words
  pub made_ok : {v : V} {w : W} (value : V → Result W (List ℕ)) → value v ≡ Ok w
      → Deserializes {E = E} p a b (Ok v)
      → Deserializes {E = E} (made_or_rejected value p) a b (Ok w)
  made_ok {v = v} value made d = search (rules, ok, sound_by)

  pub made_err : {e : DecodeError E} (value : V → Result W (List ℕ)) → Deserializes p a b (Err e)
      → Deserializes (made_or_rejected value p) a b (Err e)
  made_err value d = record {
    moves = moves_err d.moves;
    progress = tt;
    memory = d.memory;
    sound = tt;
    complete = λ is sure. complete_as p.format.reads _
        (λ xs budget none w n c q. none q.part n c q.read) (d.complete is sure);
    rejects = λ is sure.
        stopped_as p.format.rejects (made_rejects p.format value) (λ xs budget z ys. inl)
        (d.rejects is sure);
    begins = λ reports.
        stopped_as p.format.begins (made_begins p.format value) (λ xs budget z ys. inl)
        (d.begins reports);
  }

  -- a value is whole, and nothing is made of it
  whole_unmade : (rejects : RejectsAt) {v : V} {words : Bor (List ℕ)}
      (value : V → Result W (List ℕ)) → value v ≡ Err words.now
      → Deserializes {E = E} p a b (Ok v)
      → Rejects {E = E} (RejectsMade rejects p.format.reads value) a b (Custom words no_number)
  whole_unmade rejects {v = v} {words = words} value none d = record {
    at = λ xs known. let q = d.sound.at xs known in (
      drop q.count xs,
      q.left,
      inr (record {
        part = v;
        count = q.count;
        cost = q.cost;
        read = q.read;
        fits = q.fits;
        words = words.now;
        unmade = none;
        is = refl;
        left = refl;
      }),
    );
  }

  -- it was rejected then
  pub unmade : {v : V} {words : Bor (List ℕ)} (value : V → Result W (List ℕ))
      → ((v w : V) → p.format.same v w → SameFate (value v) (value w))
      → value v ≡ Err words.now → Deserializes {E = E} p a b (Ok v)
      → Deserializes {E = E} (made_or_rejected value p) a b (Err (Custom words no_number))
  unmade {v = v} {words = words} value fate none d = record {
    moves = record { by = d.moves.by; depth = λ e. refl };
    progress = tt;
    memory = λ out. not_exact out;
    sound = tt;
    complete = λ is sure. record {
      at = λ xs known w n c r fits.
          let q = d.sound.at xs known in
          let e = (p.lawful is).one xs v r.part q.count n q.cost c q.read r.read in
          subst (λ (o : Result W (List ℕ)). SameFate o (Ok w)) none
          (subst (λ (o : Result W (List ℕ)). SameFate (value v) o) r.made (fate v r.part e.2));
    };
    rejects = λ is sure. whole_unmade p.format.rejects value none d;
    begins = λ reports. whole_unmade p.format.begins value none d;
  }
