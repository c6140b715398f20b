-- What the parts of reading a string that is encoded in one way accept.
use Rattle.std.specs.{Prelude.{ℕ, List, ◌++◌, length, string_bytes}, declared.alloc.Global.Global}
use Rattle.std.specs.declared.string.String.{String}
use Rattle.cbor4ii_tree.specs.{Inner.Does.Accepting, Basis.Cost.Budget}
use Rattle.cbor4ii_tree.specs.Calls.CanonicalRejects.{ShortestAt}

-- a shortest head of the content's length, the content, and what follows it
abbrev pub StringAt : ℕ → List ℕ → List ℕ → List ℕ → Type 0
StringAt major content xs ys = ShortestAt major (length content) xs (content ++ ys)

abbrev pub TextAt : Budget → Accepting (String Global)
TextAt budget xs v ys = StringAt 3 (string_bytes v) xs ys
