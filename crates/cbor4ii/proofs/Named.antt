-- A key, and what follows it.
use Rattle.std.proofs.Common.{◌+◌, inl, inr, ℕ, List, drop, Result, Ok, Err, Bool, max, refl}
use Rattle.std.proofs.Common.{arith, rules}
use Rattle.cbor4ii_rw.specs.View.{View}
use Rattle.cbor4ii_rw.specs.declared.error.DecodeError.{DecodeError}
use Rattle.cbor4ii_items.specs.Decoding.{Reads, NoneRead, Decodes, DecodesIf}
use Rattle.cbor4ii_items.specs.Laws.Calls.{ok_after, err_after, of_exact, exactly_ok}
use Rattle.cbor4ii_items.specs.Laws.Prefixes.{drop_more}
use Rattle.cbor4ii_items.specs.Laws.Pairs.{less_max_left, less_max_right}
use Rattle.cbor4ii_items.specs.Laws.SequenceParts.{fits_less, fits_max}
use Rattle.cbor4ii.specs.FieldKey.{FieldKey, key_format}
use Rattle.cbor4ii.specs.Fields.{RejectsNamed, named_part, keyed_pair}
use Rattle.cbor4ii.proofs.Forms.{err_here}

module _ {W E : Type 0} (key : FieldKey) (named : List ℕ → Reads W)
    (rejects begins : RejectsNamed) (same : W → W → Type 0) (owned : Bool) {a m : View} where
  pub key_err : {exact : Bool} {e : DecodeError E} → Decodes (key_format key) a m (Err e)
      → DecodesIf exact (keyed_pair key named rejects begins same owned) a m (Err e)
  key_err d =
      err_here (key_format key) (keyed_pair key named rejects begins same owned) (λ xs. record {
        none = λ is none g n c q fits. none q.0 q.1.key_size q.1.key_cost q.1.key
            (fits_less q.1.key_cost c a.budget
            (less_max_left c q.1.key_cost q.1.value_cost q.1.cost) fits);
        rejects = λ z ys. inl;
        begins = λ z ys. inl;
      }) (λ owned. refl) (λ takes. takes) (of_exact d)

  module _ {label : List ℕ} (d : Decodes {E = E} (key_format key) a m (Ok label)) where
    no_value : (xs : List ℕ) (i k : ℕ) → key.reads xs label i k
        → NoneRead (named label) (drop i xs) a.budget
        → NoneRead (keyed_pair key named rejects begins same owned).reads xs a.budget
    no_value xs i k read none g n c q fits = search (rules, fits_less, less_max_right)

    pub entry_then : {exact : Bool} {b : View} (r : Result W (DecodeError E))
        → DecodesIf exact (named_part named rejects begins same owned label) m b r
        → DecodesIf exact (keyed_pair key named rejects begins same owned) a b r
    entry_then {b = b} (Ok w) h = of_exact (
        ok_after (named_part named rejects begins same owned label)
        (keyed_pair key named rejects begins same owned) d.moves.by (λ xs known.
        let p = d.sound.at xs known in (
          drop p.count xs,
          p.left,
          λ n c r fits. record {
            count = p.count + n;
            cost = max p.cost c;
            read = (
              label,
              record {
                key_size = p.count;
                key_cost = p.cost;
                key = p.read;
                value_size = n;
                value_cost = c;
                value = r;
                size = refl;
                cost = refl;
              },
            );
            fits = fits_max p.cost c a.budget p.fits fits;
            left = drop_more n p.count xs;
          },
        )) (λ some. omega (arith, d.progress refl, h.moves.by.bound)) (exactly_ok h))
    entry_then (Err e) h =
        err_after (named_part named rejects begins same owned label)
        (keyed_pair key named rejects begins same owned) d.moves.by (λ xs known.
        let p = d.sound.at xs known in (
          drop p.count xs,
          p.left,
          record {
            none = λ is. no_value xs p.count p.cost p.read;
            rejects = λ z ys h. inr (record {
              label = label;
              size = p.count;
              cost = p.cost;
              whole = p.read;
              fits = p.fits;
              stop = h;
            });
            begins = λ z ys h. inr (record {
              label = label;
              size = p.count;
              cost = p.cost;
              whole = p.read;
              fits = p.fits;
              stop = h;
            });
          },
        )) (λ o. o) (λ takes. refl) h
