-- Reading a value and skipping an item, as one program on lists: the tree that the bytes have, or
-- the error.
use Rattle.std.specs.Prelude.{ℕ, zero, suc, List, [], ◌∷◌, length, Bool, true, false, Ok, Err}
use Rattle.std.specs.{Prelude.if◌then◌else◌, Str.is_utf8}
use Rattle.cbor4ii_items.specs.{Head.Width, Initial.{Kind, text_string, precision_bytes, Initial}}
use Rattle.cbor4ii_items.specs.Initial.{starts_int, bad_int, starts_string, starts_chunks}
use Rattle.cbor4ii_items.specs.Initial.{bad_string, starts_array, starts_indefinite_array}
use Rattle.cbor4ii_items.specs.Initial.{bad_array, starts_map, starts_indefinite_map, bad_map}
use Rattle.cbor4ii_items.specs.Initial.{starts_tag, bad_tag, starts_simple, starts_bits}
use Rattle.cbor4ii_items.specs.Initial.{other_simple, initial}
use Rattle.cbor4ii_tree.specs.Basis.{Cost.{Budget, step_in}, InputError.{eof, mismatch}}
use Rattle.cbor4ii_tree.specs.Basis.InputError.{unsupported, require_utf8, Small, kind_name}
use Rattle.cbor4ii_tree.specs.Basis.{InputError.{tag_name, break_name}, Tree.{Tree, int, string}}
use Rattle.cbor4ii_tree.specs.Basis.Tree.{chunked, array, array_indefinite, map_of, map_indefinite}
use Rattle.cbor4ii_tree.specs.Basis.Tree.{tagged, simple, bits, joined_chunks}
use Rattle.cbor4ii_tree.specs.Calls.{ItemRejects.{Profile, same_kind, no_chunk}, Parse.Parser}
use Rattle.cbor4ii_tree.specs.Calls.Parse.{◌>>=◌, prefix_at, number_of_width, parse_argument}
use Rattle.cbor4ii_tree.specs.Calls.Parse.{argument_of_width, inside_step, trees_at, pairs_at}
use Rattle.cbor4ii_tree.specs.Calls.Parse.{indefinite_trees_at, indefinite_pairs_at}

-- a string, whose text is tested for UTF-8 where strings are tested
abbrev pub tested_string : Bool → Kind → List ℕ → Tree → Parser Tree
tested_string true text_string content t rest =
    if is_utf8 content then Ok (t, rest) else Err (require_utf8 (kind_name text_string), rest)
tested_string _ _ content t rest = Ok (t, rest)

abbrev pub string_tree_at : List ℕ → Width → ℕ → Parser (List ℕ)
string_tree_at name w b bs = argument_of_width name w b bs >>= λ n. prefix_at name n.0 n.1

abbrev pub chunk_tree_by : Kind → Initial → ℕ → Parser Tree
chunk_tree_by k (starts_string j w) b bs =
    if same_kind j k then (string_tree_at (kind_name k) w b bs >>= λ q. Ok (string k w q.0, q.1))
    else Err (mismatch (kind_name k) b, bs)
chunk_tree_by k (starts_chunks j) b bs = Err (no_chunk (same_kind j k) k b, bs)
chunk_tree_by k _ b bs = Err (mismatch (kind_name k) b, bs)

-- a chunk: a string of the kind, under a step, or any item
abbrev pub chunk_tree_at : Bool → Kind → Budget → Parser Tree → Parser Tree
chunk_tree_at true k budget item [] = Err (eof break_name (Small 1), [])
chunk_tree_at true k budget item (b ∷ bs) =
    inside_step (kind_name k) (step_in budget) (b ∷ bs) (λ inner. chunk_tree_by k (initial b) b bs)
chunk_tree_at false k budget item bs = item bs

-- an item after its initial byte b, which says what begins, under the budget that is left
abbrev pub item_by : Profile → (Budget → Parser Tree) → Budget → Initial → ℕ → Parser Tree
item_by p item budget (starts_int s w) b bs =
    parse_argument p.asks (p.of_int s) w b bs >>= λ n. Ok (int s n.0 w, n.1)
item_by p item budget (bad_int s) b bs = Err (mismatch (p.of_int s) b, p.leaves b bs)
item_by p item budget (starts_string k w) b bs =
    string_tree_at (p.of_string k) w b bs >>= λ q. tested_string p.tests k q.0 (string k w q.0) q.1
item_by p item budget (starts_chunks k) b bs =
    indefinite_trees_at (chunk_tree_at p.tests k budget (item budget)) (suc (length bs)) bs
    >>= λ q. tested_string p.tests k (joined_chunks q.0) (chunked k q.0) q.1
item_by p item budget (bad_string k) b bs = Err (mismatch (p.of_string k) b, bs)
item_by p item budget (starts_array w) b bs =
    inside_step p.of_array (p.inside budget) (b ∷ bs) (λ inner. argument_of_width p.of_array w b bs
    >>= λ n. trees_at (item inner) n.0 n.1 >>= λ q. Ok (array w q.0, q.1))
item_by p item budget starts_indefinite_array b bs =
    inside_step p.of_array (p.inside budget) (b ∷ bs)
    (λ inner. indefinite_trees_at (item inner) (suc (length bs)) bs >>= λ q. Ok
    (array_indefinite q.0, q.1))
item_by p item budget bad_array b bs =
    inside_step p.of_array (p.inside budget) (b ∷ bs) (λ inner. Err (mismatch p.of_array b, bs))
item_by p item budget (starts_map w) b bs =
    inside_step p.of_map (p.inside budget) (b ∷ bs) (λ inner. argument_of_width p.of_map w b bs
    >>= λ n. pairs_at (item inner) n.0 n.1 >>= λ q. Ok (map_of w q.0, q.1))
item_by p item budget starts_indefinite_map b bs =
    inside_step p.of_map (p.inside budget) (b ∷ bs)
    (λ inner. indefinite_pairs_at (item inner) (suc (length bs)) bs >>= λ q. Ok
    (map_indefinite q.0, q.1))
item_by p item budget bad_map b bs =
    inside_step p.of_map (p.inside budget) (b ∷ bs) (λ inner. Err (mismatch p.of_map b, bs))
item_by p item budget (starts_tag w) b bs =
    argument_of_width tag_name w b bs
    >>= λ n. item budget n.1 >>= λ q. Ok (tagged n.0 w q.0, q.1)
item_by p item budget bad_tag b bs = Err (mismatch tag_name b, bs)
item_by p item budget (starts_simple s) b bs = Ok (simple s, bs)
item_by p item budget (starts_bits f) b bs =
    number_of_width p.asks (p.of_float f) (precision_bytes f) bs >>= λ n. Ok (bits f n.0, n.1)
item_by p item budget other_simple b bs = Err (unsupported p.of_item b, b ∷ bs)

abbrev pub item_from : Profile → (Budget → Parser Tree) → Budget → Parser Tree
item_from p item budget [] = Err (eof p.of_item (Small 1), [])
item_from p item budget (b ∷ bs) = item_by p item budget (initial b) b bs

-- The number bounds how deep items nest: more than the count of the bytes is enough.
-- The tree at the beginning of the bytes, within a bound on how deep items nest.
unfoldable pub item_within : Profile → ℕ → Budget → Parser Tree
item_within p zero budget bs = Err (eof p.of_item (Small 1), [])
item_within p (suc n) budget bs =
    inside_step p.of_item (step_in budget) bs (λ inner. item_from p (item_within p n) inner bs)

-- the tree at the beginning of the input, and the rest
abbrev pub item_at : Profile → Budget → Parser Tree
item_at p budget bs = item_within p (suc (length bs)) budget bs
