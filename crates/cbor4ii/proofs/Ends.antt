-- A call that takes a break or leaves another byte, as what the program does.
use Rattle.std.proofs.Common.{◌≡◌, ℕ, List, [], ◌∷◌, drop, take, Option, Some, None, Result}
use Rattle.std.proofs.Common.{Ok, Err, Bool, true, false, refl, ap, ◌∙◌, IfSome, IfOk, IfErr, eqb}
use Rattle.std.proofs.Common.{eq-eqb}
use Rattle.cbor4ii_rw.specs.View.{View}
use Rattle.cbor4ii_rw.specs.declared.error.DecodeError.{DecodeError}
use Rattle.cbor4ii_items.specs.Head.{break}
use Rattle.cbor4ii_items.specs.InputError.{InputError, input_error_of}
use Rattle.cbor4ii_items.specs.Moves.{Moves}
use Rattle.cbor4ii_items.specs.Reading.{Runs}
use Rattle.cbor4ii_items.specs.ReadStrings.{break_at}
use Rattle.cbor4ii_items.specs.Strings.{ReadsBreak, RejectsBreak}
use Rattle.cbor4ii_items.specs.Decoding.{Sound, Rejects}
use Rattle.cbor4ii_items.specs.Laws.ReaderFails.{stays}

yes_is : (xs : List ℕ) → take 1 xs ≡ break ∷ [] → break_at xs ≡ Ok (true, drop 1 xs)
yes_is [] e = cc
yes_is (b ∷ bs) e =
    let is : b ≡ break = cc in let t : eqb b break ≡ true = eq-eqb b break is in rw t refl

end_is : (xs : List ℕ) (budget : Option ℕ) (z : InputError) (rest : List ℕ)
    → RejectsBreak xs budget z rest → break_at xs ≡ Err (z, rest)
end_is [] budget z rest h = let f = h.1 in let g = h.2 in cc
end_is (b ∷ bs) budget z rest h = let e = h.0 in cc

err_is : (o : Option InputError) (xs : List ℕ) (budget left : Option ℕ) (known : Option (List ℕ))
    → IfSome o (λ z. (ys : List ℕ) × (known ≡ Some ys) × RejectsBreak xs budget z ys)
    → IfSome o (λ z. (ys : List ℕ) × (known ≡ Some ys) × (break_at xs ≡ Err (z, ys)))
err_is None xs budget left known h = tt
err_is (Some z) xs budget left known h = (h.0, h.1, end_is xs budget z h.0 h.2)

-- a call that says all of a break runs as the program does
pub break_runs : {E : Type 0} {a b : View} (r : Result Bool (DecodeError E)) → Moves a b r
    → IfOk r (Sound ReadsBreak a b) → IfErr r (Rejects RejectsBreak a b) → Runs break_at a b r
break_runs (Ok true) m s t = record {
  moves = m;
  answers = λ xs known. (let p = s.at xs known in
      (drop 1 xs, p.left ∙ ap (λ n. Some (drop n xs)) p.read.1, yes_is xs p.read.0));
}
break_runs (Ok false) m s t = record {
  moves = m;
  answers = λ xs known. (let p = s.at xs known in
      (xs, p.left ∙ ap (λ n. Some (drop n xs)) p.read.2, stays xs p.read.0 p.read.1));
}
break_runs {a = a} {b = b} (Err e) m s t = record {
  moves = m;
  answers = λ xs known. err_is (input_error_of e) xs a.budget b.budget b.known (t.at xs known);
}
