use Rattle.std.proofs.lemmas.Result.{err_from_is_err_and}
use Rattle.std.proofs.Common.{◌≡◌, List, [], ◌∷◌, ◌++◌, refl, rules}
use Rattle.std.specs.declared.cmp.Ordering.{Ordering}
use Rattle.std.specs.BTreeMap.{insert_entry}
use Rattle.cbor4ii.specs.Built.{put_all}
use Rattle.cbor4ii.proofs.serde.de.maps.put_all.Goals as goal

put-last : {K V : Type 0} (cmp : K → K → Ordering) (es ps : List (K × V)) (p : K × V)
    → put_all cmp es (ps ++ p ∷ []) ≡ insert_entry cmp (put_all cmp es ps) p.0 p.1
put-last cmp es [] p = refl
put-last cmp es (q ∷ qs) p = put-last cmp (insert_entry cmp es q.0 q.1) qs p

pub loop-key-preserved : goal.loop-key-preserved
loop-key-preserved g c = search (rules, put-last)

pub returns-in_err-put : goal.returns-in_err-put
returns-in_err-put g c =
    rw (err_from_is_err_and c.from_residual.result c.from_residual.ensures.1).1 tt
