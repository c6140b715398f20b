-- The initial bytes of trees.
use Rattle.std.proofs.Common.{◌≡◌, ℕ, ◌+◌, ◌*◌, ◌<◌, ◌≤◌, List, ◌∷◌, length, refl, ap, ◌∙◌, arith}
use Rattle.cbor4ii_items.specs.{Head.{Width, HeadFits, additional, indefinite_head}, Initial.Sign}
use Rattle.cbor4ii_items.specs.Initial.{unsigned, negative, sign_major, Kind, byte_string}
use Rattle.cbor4ii_items.specs.Initial.{text_string, kind_major, Simple, simple_false, simple_byte}
use Rattle.cbor4ii_items.specs.Initial.{Precision, half, precision_byte, starts_int, starts_string}
use Rattle.cbor4ii_items.specs.Initial.{starts_chunks, starts_array, starts_indefinite_array}
use Rattle.cbor4ii_items.specs.Initial.{starts_map, starts_indefinite_map, starts_tag}
use Rattle.cbor4ii_items.specs.Initial.{starts_simple, starts_bits, initial, int_by_info}
use Rattle.cbor4ii_items.specs.Initial.{string_by_info, array_by_info, map_by_info, tag_by_info}
use Rattle.cbor4ii_tree.specs.Basis.Tree.{Tree, int, string, chunked, array, array_indefinite}
use Rattle.cbor4ii_tree.specs.Basis.Tree.{map_of, map_indefinite, tagged, simple, bits, count}
use Rattle.cbor4ii_tree.specs.{Basis.Tree.{pair_count, bytes, Loose}, Laws.Numbers.additional-lt}
use Rattle.cbor4ii_tree.specs.Laws.Numbers.{info-additional, initial-head}

pub initial_int : (s : Sign) (n : ℕ) (w : Width) → HeadFits w n
    → initial (32 * sign_major s + additional w n) ≡ starts_int s w
initial_int unsigned n w h =
    initial-head 0 n w h ∙ ap (int_by_info unsigned) (info-additional n w h)
initial_int negative n w h =
    initial-head 1 n w h ∙ ap (int_by_info negative) (info-additional n w h)

pub initial_string : (k : Kind) (n : ℕ) (w : Width) → HeadFits w n
    → initial (32 * kind_major k + additional w n) ≡ starts_string k w
initial_string byte_string n w h =
    initial-head 2 n w h ∙ ap (string_by_info byte_string) (info-additional n w h)
initial_string text_string n w h =
    initial-head 3 n w h ∙ ap (string_by_info text_string) (info-additional n w h)

pub initial_array : (n : ℕ) (w : Width) → HeadFits w n
    → initial (32 * 4 + additional w n) ≡ starts_array w
initial_array n w h = initial-head 4 n w h ∙ ap array_by_info (info-additional n w h)

pub initial_map : (n : ℕ) (w : Width) → HeadFits w n
    → initial (32 * 5 + additional w n) ≡ starts_map w
initial_map n w h = initial-head 5 n w h ∙ ap map_by_info (info-additional n w h)

pub initial_tag : (n : ℕ) (w : Width) → HeadFits w n
    → initial (32 * 6 + additional w n) ≡ starts_tag w
initial_tag n w h = initial-head 6 n w h ∙ ap tag_by_info (info-additional n w h)

pub initial_chunks : (k : Kind) → initial (indefinite_head (kind_major k)) ≡ starts_chunks k
unfolding initial
initial_chunks byte_string = refl
initial_chunks text_string = refl

pub initial_simple : (s : Simple) → initial (simple_byte s) ≡ starts_simple s
unfolding initial
initial_simple simple_false = refl
initial_simple _ = refl

pub initial_bits : (p : Precision) → initial (precision_byte p) ≡ starts_bits p
unfolding initial
initial_bits half = refl
initial_bits _ = refl

pub initial_indefinite_array : initial (indefinite_head 4) ≡ starts_indefinite_array
unfolding initial
initial_indefinite_array = refl

pub initial_indefinite_map : initial (indefinite_head 5) ≡ starts_indefinite_map
unfolding initial
initial_indefinite_map = refl

-- ---- the first byte of a tree is no break

abbrev pub BeginsNoBreak : List ℕ → Type 0
BeginsNoBreak bs = (b : ℕ) × (rest : List ℕ) × (bs ≡ b ∷ rest) × (b < 255)

pub head_below : (major n : ℕ) (w : Width) → major < 7 → HeadFits w n
    → 32 * major + additional w n < 255
head_below major n w m h = omega (arith, additional-lt n w h)

pub kind_below : (k : Kind) → kind_major k < 7
kind_below byte_string = omega arith
kind_below text_string = omega arith

pub sign_below : (s : Sign) → sign_major s < 7
sign_below unsigned = omega arith
sign_below negative = omega arith

simple_below : (s : Simple) → simple_byte s < 255
simple_below simple_false = omega arith
simple_below _ = omega arith

precision_below : (p : Precision) → precision_byte p < 255
precision_below half = omega arith
precision_below _ = omega arith

pub begins : (t : Tree) → Loose t → BeginsNoBreak (bytes t)
begins (int s n w) l = (_, _, refl, head_below (sign_major s) n w (sign_below s) l)
begins (string k w content) l =
    (_, _, refl, head_below (kind_major k) (length content) w (kind_below k) l)
begins (chunked k ts) l = (_, _, refl, omega (arith, kind_below k))
begins (array w ts) l = (_, _, refl, head_below 4 (count ts) w (omega arith) l.0)
begins (array_indefinite ts) l = (_, _, refl, omega arith)
begins (map_of w ps) l = (_, _, refl, head_below 5 (pair_count ps) w (omega arith) l.0)
begins (map_indefinite ps) l = (_, _, refl, omega arith)
begins (tagged n w t) l = (_, _, refl, head_below 6 n w (omega arith) l.0)
begins (simple s) l = (_, _, refl, simple_below s)
begins (bits p n) l = (_, _, refl, precision_below p)

-- ---- lengths

pub length-bytes-pos : (t : Tree) → 1 ≤ length (bytes t)
length-bytes-pos (int s n w) = omega arith
length-bytes-pos _ = omega arith
