-- Values in an array, a map or an option, written by what is written for a part of each.
--
-- A type that holds values of its own kind says by a fold what is written for it, with what is
-- written for each value inside in that value's place. `values_inside` is what joins the two.
use Rattle.std.proofs.Common.{◌≡◌, ◌⊎◌, inl, inr, List, [], ◌∷◌, length, map, Option, None, Some}
use Rattle.std.proofs.Common.{refl, ap, rules}
use Rattle.std.proofs.lemmas.List.{length-map}
use Rattle.cbor4ii_items.specs.Numbers.{shortest_head}
use Rattle.cbor4ii_ser.specs.Item.{Encoding, encoded, one_then, each_encoding, array_encoding}
use Rattle.cbor4ii_ser.specs.Item.{map_encoding, option_encoding}

each_mapped : {U V : Type 0} (f : U → V) (item : V → Encoding) (us : List U)
    → each_encoding item (map f us) ≡ each_encoding (λ u. item (f u)) us
each_mapped f item [] = refl
each_mapped f item (u ∷ us) = ap (one_then (item (f u))) (each_mapped f item us)

-- the values of an array
pub array_mapped : {U V : Type 0} (f : U → V) (item : V → Encoding) (us : List U)
    → array_encoding item (map f us) ≡ array_encoding (λ u. item (f u)) us
array_mapped f item us = search (rules, length-map, each_mapped)

-- the pairs of a map
pub map_mapped : {K V L U : Type 0} (f : K × V → L × U) (key : L → Encoding) (value : U → Encoding)
    (es : List (K × V)) → map_encoding key value (map f es)
    ≡ one_then (encoded (shortest_head 5 (length es)))
    (each_encoding (λ e. one_then (key (f e).0) (value (f e).1)) es)
map_mapped f key value es = search (rules, length-map, each_mapped)

-- the value that an option holds
pub option_cases : {V : Type 0} (item : V → Encoding) (o : Option V)
    → ((o ≡ None) × (option_encoding item o ≡ encoded (0xf6 ∷ [])))
    ⊎ ((v : V) × (o ≡ Some v) × (option_encoding item o ≡ item v))
option_cases item None = inl (refl, refl)
option_cases item (Some v) = inr (v, refl, refl)

-- what a recursive type's `serialize` names by `using`, beside `the_lemmas` of the type
pub ruleset values_inside = (array_mapped, map_mapped, option_cases)
