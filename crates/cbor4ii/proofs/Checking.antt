-- What a call answers that makes a value of another one by a test.
use Rattle.std.proofs.Common.{◌≡◌, inl, inr, ℕ, List, drop, Option, Some, Ok, Err, Bool}
use Rattle.std.proofs.Common.{IsTrue, true, false, refl, rules}
use Rattle.std.specs.Prelude.{◌||◌}
use denote.Ref.{Bor}
use Rattle.cbor4ii_rw.specs.View.{View}
use Rattle.cbor4ii_rw.specs.declared.error.DecodeError.{DecodeError}
use Rattle.cbor4ii_rw.specs.declared.error.DecodeError.TheVariants.{Custom, OutOfMemory}
use Rattle.cbor4ii_items.specs.Decoding.{RejectsAt, Rejects}
use Rattle.cbor4ii_items.specs.Laws.Answering.{complete_as}
use Rattle.cbor4ii_items.specs.Laws.Steps.{moves_err}
use Rattle.cbor4ii.specs.Checked.{IsMade, RejectsChecked, checked_from}
use Rattle.cbor4ii.specs.Typed.{Promise, Deserializes, no_number, not_exact}
use Rattle.cbor4ii.proofs.Promised.{ok, out_of_memory}
use Rattle.cbor4ii.proofs.Stopped.{stopped_as}
use Rattle.cbor4ii.proofs.Forms.{sound_by}

or_left : (a b : Bool) → IsTrue a → IsTrue (a || b)
or_left true b h = refl
or_left false b h = not_exact h

or_right : (a b : Bool) → IsTrue b → IsTrue (a || b)
or_right true b h = refl
or_right false b h = h

module _ {V W E : Type 0} (p : Promise V) (words : V → Option (List ℕ)) (makes : V → W → Type 0)
    (takes_memory : Bool) {a b : View} where
  -- the test passed
  pub checked_ok : {v : V} {w : W} → IsMade words makes v w → Deserializes {E = E} p a b (Ok v)
      → Deserializes {E = E} (checked_from words makes takes_memory p) a b (Ok w)
  checked_ok {v = v} made d = search (rules, ok, sound_by)

  -- there was no value
  pub checked_err : {e : DecodeError E} → Deserializes p a b (Err e)
      → Deserializes (checked_from words makes takes_memory p) a b (Err e)
  checked_err d = record {
    moves = moves_err d.moves;
    progress = tt;
    memory = λ out. or_left p.format.takes_memory takes_memory (d.memory out);
    sound = tt;
    complete = λ is sure. complete_as p.format.reads _
        (λ xs budget none w n c q. none q.part n c q.read) (d.complete is sure);
    rejects = λ is sure.
        stopped_as p.format.rejects (RejectsChecked p.format.rejects p.format.reads words)
        (λ xs budget z ys. inl) (d.rejects is sure);
    begins = λ reports.
        stopped_as p.format.begins (RejectsChecked p.format.begins p.format.reads words)
        (λ xs budget z ys. inl) (d.begins reports);
  }

  -- there was no memory for what is made of it
  pub checked_memory : {v : V} → IsTrue takes_memory → Deserializes {E = E} p a b (Ok v)
      → Deserializes {E = E} (checked_from words makes takes_memory p) a b (Err OutOfMemory)
  checked_memory takes d = search (rules, out_of_memory, or_right)

  -- a value is whole, and its words reject it
  whole_unmade : (rejects : RejectsAt) {v : V} {text : Bor (List ℕ)} → words v ≡ Some text.now
      → Deserializes {E = E} p a b (Ok v)
      → Rejects {E = E} (RejectsChecked rejects p.format.reads words) a b (Custom text no_number)
  whole_unmade rejects {v = v} {text = text} none d = record {
    at = λ xs known. let q = d.sound.at xs known in (
      drop q.count xs,
      q.left,
      inr (record {
        part = v;
        count = q.count;
        cost = q.cost;
        read = q.read;
        fits = q.fits;
        text = text.now;
        unmade = none;
        is = refl;
        left = refl;
      }),
    );
  }

  -- the test rejected it
  pub unchecked : {v : V} {text : Bor (List ℕ)}
      → ((v w : V) → p.format.same v w → words v ≡ words w) → words v ≡ Some text.now
      → Deserializes {E = E} p a b (Ok v)
      → Deserializes {E = E} (checked_from words makes takes_memory p) a b
      (Err (Custom text no_number))
  unchecked {v = v} fate none d = record {
    moves = record { by = d.moves.by; depth = λ e. refl };
    progress = tt;
    memory = λ out. not_exact out;
    sound = tt;
    complete = λ is sure. record {
      at = λ xs known w n c r fits.
          let q = d.sound.at xs known in
          let e = (p.lawful is).one xs v r.part q.count n q.cost c q.read r.read in
          let same = fate v r.part e.2 in
          let passes = r.made.passes in
          cc;
    };
    rejects = λ is sure. whole_unmade p.format.rejects none d;
    begins = λ reports. whole_unmade p.format.begins none d;
  }
