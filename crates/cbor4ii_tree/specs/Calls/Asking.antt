-- Where reading a value asks for memory: for the content of a string, for the place of the value of
-- a tag, and for the places of the items of an array or of the keys and values of a map.
use Rattle.std.specs.Prelude.{◌≡◌, ◌≤◌, ◌/◌, ◌⊎◌, ℕ, List, ◌∷◌, ◌++◌, Option, Some, None, Bool}
use Rattle.std.specs.Prelude.{true, false, IfErr, IsTrue, Result}
use Rattle.cbor4ii_rw.specs.{View.{IfKnown, View}, declared.error.DecodeError.DecodeError}
use Rattle.cbor4ii_rw.specs.declared.error.WholeError.{WholeError}
use Rattle.cbor4ii_items.specs.Head.{Width, HeadFits, head, indefinite_head}
use Rattle.cbor4ii_items.specs.{InputError.is_out_of_memory, Whole.IfDecode}
use Rattle.cbor4ii_tree.specs.Basis.Tree.{Tree, Trees, Plain, count, bytes_all}
use Rattle.cbor4ii_tree.specs.Calls.CanonicalRejects.{ShortestAt}
use Rattle.cbor4ii_tree.specs.{Calls.CanonicalShape.CanonicalShape, Calls.Rejections.Each}

-- ---- heads

-- a head of this major type with this argument, and what follows it: the shortest one, or any
abbrev pub HeadAt : Bool → ℕ → ℕ → List ℕ → List ℕ → Type 0
HeadAt true major n xs ys = ShortestAt major n xs ys
HeadAt false major n xs ys = (w : Width) × HeadFits w n × (xs ≡ head major n w ++ ys)

-- the head of an array or a map whose length is indefinite
abbrev pub IndefiniteAt : Bool → ℕ → List ℕ → List ℕ → Type 0
IndefiniteAt canonical major xs ys = (canonical ≡ false) × (xs ≡ indefinite_head major ∷ ys)

-- the head that says how many parts are to follow, none where its length is indefinite
abbrev pub LengthAt : Bool → ℕ → Option ℕ → List ℕ → List ℕ → Type 0
LengthAt canonical major (Some n) xs ys = HeadAt canonical major n xs ys
LengthAt canonical major None xs ys = IndefiniteAt canonical major xs ys

-- ---- where a value asks

-- where in a value memory is asked for, and for what
pub data AskPlace : Type 0 where
  -- for the content of a string
  content : AskPlace
  -- for the place of a tag's value, which was read
  boxed : AskPlace
  -- in a tag's value
  in_tag : AskPlace → AskPlace
  -- for places, after so many values of an array or a map
  grown : ℕ → AskPlace
  -- in the value after so many
  inside : ℕ → AskPlace → AskPlace

-- an encoding that is read
abbrev pub IsRead : Bool → Tree → Type 0
IsRead canonical t = Plain t × (canonical ≡ true → CanonicalShape t)

-- the encodings of so many values, one after another
abbrev pub Values : Bool → ℕ → List ℕ → List ℕ → Type 0
Values canonical n xs ys =
    (ts : Trees) × (count ts ≡ n) × Each (IsRead canonical) ts × (xs ≡ bytes_all ts ++ ys)

-- a string begins with this byte
abbrev pub BeginsString : ℕ → Type 0
BeginsString first = (first / 32 ≡ 2) ⊎ (first / 32 ≡ 3)

-- With a length that is not 0 it is at any time, and with an indefinite one after each value.
-- After so many values of an array or a map places are asked for.
abbrev pub Grows : Option ℕ → ℕ → Type 0
Grows (Some n) k = 1 ≤ n
Grows None k = 1 ≤ k

-- the head of an array or a map, of this length
abbrev pub BeginsParts : Bool → Option ℕ → List ℕ → List ℕ → Type 0
BeginsParts canonical o xs ys =
    (major : ℕ) × ((major ≡ 4) ⊎ (major ≡ 5)) × LengthAt canonical major o xs ys

-- memory is asked for at this place, by the bytes before and those that are left
abbrev pub AsksAt : Bool → AskPlace → List ℕ → List ℕ → Type 0
AsksAt canonical content xs ys = (b : ℕ) × (bs : List ℕ) × (xs ≡ b ∷ bs) × BeginsString b
AsksAt canonical boxed xs ys =
    (n : ℕ) × (zs : List ℕ) × HeadAt canonical 6 n xs zs × Values canonical 1 zs ys
AsksAt canonical (in_tag p) xs ys =
    (n : ℕ) × (zs : List ℕ) × HeadAt canonical 6 n xs zs × AsksAt canonical p zs ys
AsksAt canonical (grown k) xs ys = (o : Option ℕ) × (zs : List ℕ)
    × BeginsParts canonical o xs zs × Grows o k × Values canonical k zs ys
AsksAt canonical (inside k p) xs ys = (o : Option ℕ) × (zs : List ℕ) × (us : List ℕ)
    × BeginsParts canonical o xs zs × Values canonical k zs us × AsksAt canonical p us ys

-- memory is asked for in a value
abbrev pub InValue : Bool → List ℕ → List ℕ → Type 0
InValue canonical xs ys = (p : AskPlace) × AsksAt canonical p xs ys

-- memory is asked for in the known bytes, where `inside` says
pub record Asks (inside : List ℕ → List ℕ → Type 0) (old new : View) : Type 0 where
  -- by the bytes before, and those that are left where a growth is refused
  pub at : IfKnown old.known (λ xs. IfKnown new.known (λ ys. inside xs ys))

-- ---- the calls that ask

-- where a call asks for memory: by the views before it, and where a growth is refused
abbrev pub Asking : Type 1
Asking = View → View → Type 0

-- a call asks for no memory
abbrev pub Never : Asking
Never old new = ⊥

-- no growth is refused but where the call asks for memory
abbrev pub WantsOnly : {V E : Type 0} → Asking → View → View → Result V (DecodeError E) → Type 0
WantsOnly asks old new answer = IfErr answer (λ e. IsTrue (is_out_of_memory e) → asks old new)

-- no growth is refused but where the value that begins the slice asks for memory
abbrev pub WantsOnlyWhole : {V E : Type 0} → Bool → List ℕ
    → Result V (WholeError (DecodeError E)) → Type 0
WantsOnlyWhole canonical bytes answer = IfErr answer (λ e. IfDecode e (λ f.
    IsTrue (is_out_of_memory f) → (rest : List ℕ) × InValue canonical bytes rest))
