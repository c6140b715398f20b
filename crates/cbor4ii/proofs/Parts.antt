-- A vector of the parts that were read, and what is built of them.
use Rattle.std.proofs.Common.{◌≡◌, ℕ, List, Bool, Result, Ok, Err, refl, rules}
use Rattle.std.specs.declared.alloc.Global.{Global}
use Rattle.std.specs.declared.cmp.Ordering.{Ordering}
use Rattle.std.specs.declared.vec.Vec.{Vec}
use Rattle.cbor4ii_rw.specs.View.{View}
use Rattle.cbor4ii_rw.specs.declared.error.DecodeError.{DecodeError as CoreError}
use Rattle.cbor4ii_items.specs.Decoding.{Format, Decodes, DecodesIf}
use Rattle.cbor4ii_items.specs.Laws.Answering.{complete_as}
use Rattle.cbor4ii_items.specs.Laws.Calls.{ok, by_ok, by_err_if, of_exact, exactly_ok}
use Rattle.cbor4ii_items.specs.Laws.Steps.{moves_err}
use Rattle.cbor4ii_items.specs.Sequences.{in_list, in_vector}
use Rattle.cbor4ii.specs.declared.serde.de.error.DecodeError.{DecodeError}
use Rattle.cbor4ii.specs.Built.{built_pairs, built_map}
use Rattle.cbor4ii.specs.Sequence.{sequence_of}
use Rattle.cbor4ii.specs.Typed.{answer_of, parts_answer}
use Rattle.cbor4ii.proofs.Forms.{sound_by}

pub vector_of : {P E : Type 0} {exact : Bool} (step name : List ℕ) (major : ℕ) (s : Format P)
    {a b : View} (r : Result (Vec P Global) (DecodeError E))
    → DecodesIf exact (sequence_of in_list step name major s) a b (parts_answer r)
    → DecodesIf exact (sequence_of in_vector step name major s) a b (answer_of r)
vector_of step name major s (Ok v) d =
    of_exact (by_ok in_vector (sequence_of in_list step name major s) refl (exactly_ok d))
vector_of step name major s (Err e) d =
    by_err_if in_vector (sequence_of in_list step name major s) d

module _ {K V M E : Type 0} (entries : M → List (K × V)) (cmp : K → K → Ordering)
    (s : Format (List (K × V))) {exact : Bool} {a b : View} where
  pub map_ok : {m : M} {ps : List (K × V)} → entries m ≡ built_pairs cmp ps
      → DecodesIf {E = E} exact s a b (Ok ps) → Decodes {E = E} (built_map entries cmp s) a b (Ok m)
  map_ok {ps = ps} is d = search (rules, ok, sound_by)

  pub map_err : {e : CoreError E} → DecodesIf exact s a b (Err e)
      → DecodesIf exact (built_map entries cmp s) a b (Err e)
  map_err d = record {
    moves = moves_err d.moves;
    progress = λ some. tt;
    memory = λ out. refl;
    sound = tt;
    complete = λ is sure. complete_as s.reads (built_map entries cmp s).reads
        (λ xs budget none m n c r fits. none r.0 n c r.1 fits) (d.complete is sure);
    rejects = d.rejects;
    begins = d.begins;
  }
