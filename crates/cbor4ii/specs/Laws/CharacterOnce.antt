-- A text of one character is rejected with one error.
use Rattle.std.proofs.Common.{◌≡◌, drop, true, sym, ap, ◌∙◌}
use Rattle.std.specs.Prelude.{codes}
use Rattle.std.specs.Char.{encode_utf8}
use Rattle.cbor4ii_items.specs.NeverBoth.{NeverBoth}
use Rattle.cbor4ii_items.specs.OneError.{OneError, RejectsOnce}
use Rattle.cbor4ii_items.specs.Laws.StringErrors.{text_error}
use Rattle.cbor4ii_items.specs.Laws.Strings.{string_one, three_small}
use Rattle.cbor4ii_items.specs.Laws.StringsApart.{text_apart}
use Rattle.cbor4ii.specs.Character.{ReadsChar, RejectsChar, no_text, not_one}
use Rattle.cbor4ii.specs.Typed.{typed_format}

char_apart : NeverBoth ReadsChar RejectsChar
char_apart xs budget e x (no_text s) v n c p fits =
    text_apart (codes "str") xs budget e x s (encode_utf8 v) n c p fits
char_apart xs budget e x (not_one text m d q suits other f g) v n c p fits =
    other v (string_one 3 xs text (encode_utf8 v) m n d c three_small q.0 p.0).2

char_error : OneError RejectsChar
char_error xs budget e f x y (no_text s) (no_text t) =
    text_error (codes "str") xs budget e f x y s t
char_error xs budget e f x y (no_text s) (not_one w m d q suits o i j) =
    absurd (text_apart (codes "str") xs budget e x s w m d q suits)
char_error xs budget e f x y (not_one v n c p fits o g h) (no_text t) =
    absurd (text_apart (codes "str") xs budget f y t v n c p fits)
char_error xs budget e f x y (not_one v n c p fits o g h) (not_one w m d q suits r i j) =
    let same = string_one 3 xs v w n m c d three_small p.0 q.0 in
    (g ∙ sym i, h ∙ (ap (λ k. drop k xs) same.0 ∙ sym j))

pub char_once : RejectsOnce (typed_format ReadsChar (λ v w. v ≡ w) RejectsChar true true)
char_once = record { apart = char_apart; one_error = char_error }
