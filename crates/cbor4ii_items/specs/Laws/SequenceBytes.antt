-- Items, written one after another.
use Rattle.std.proofs.Common.{◌≡◌, ℕ, ◌+◌, ◌<◌, List, [], ◌∷◌, ◌++◌, length, get_or, take, drop}
use Rattle.std.proofs.Common.{Option, Ok, Err, Bool, refl, sym, ap, ◌∙◌, append_assoc, subst, rules}
use Rattle.std.proofs.lemmas.List.{append-nil, take_more, take-append-drop}
use Rattle.std.proofs.Math.Seq.{take-length}
use Rattle.cbor4ii_rw.specs.Writer.{Output, Appends}
use Rattle.cbor4ii_items.specs.Writing.{Writes}
use Rattle.cbor4ii_items.specs.SequenceBytes.{items_bytes}
use Rattle.cbor4ii_items.specs.Laws.Written.{appends_then, writes_then, writes_err, writes_as}

-- calls that wrote the bytes
writes_done : {E : Type 0} {whole : Bool} {xs : List ℕ} {a b : Output}
    → Appends xs a.written b.written → b.failures ≡ a.failures
    → Writes {T = Unit {0}} {E = E} whole xs a b (Ok tt)
writes_done p q = record { appends = p; counts = q; failed = tt; prefix = λ whole. tt }

module _ {V : Type 0} (bytes : V → List ℕ) (vs : List V) where
  items-append : (us ws : List V)
      → items_bytes bytes (us ++ ws) ≡ items_bytes bytes us ++ items_bytes bytes ws
  items-append [] ws = refl
  items-append (u ∷ us) ws = search (rules, append_assoc, (items-append us ws))

  -- one more item
  items-more : (i : ℕ) (v : V) → i < length vs → v ≡ get_or vs i v
      → items_bytes bytes (take (i + 1) vs) ≡ items_bytes bytes (take i vs) ++ bytes v
  items-more i v h is =
      ap (items_bytes bytes) (take_more vs i v h)
      ∙ (items-append (take i vs) (get_or vs i v ∷ []) ∙ ap (λ zs. items_bytes bytes (take i vs)
      ++ zs) (append-nil (bytes (get_or vs i v)) ∙ ap bytes (sym is)))

  -- an item after the others
  pub items_then : (i : ℕ) (v : V) (a m b : Option (List ℕ)) → i < length vs → v ≡ get_or vs i v
      → Appends (items_bytes bytes (take i vs)) a m → Appends (bytes v) m b
      → Appends (items_bytes bytes (take (i + 1) vs)) a b
  items_then i v a m b h is p q =
      subst (λ zs. Appends zs a b) (sym (items-more i v h is))
      (appends_then (items_bytes bytes (take i vs)) (bytes v) a m b p q)

  -- where an item fails, there are no others
  pub items_err : {U E : Type 0} {whole : Bool} (i : ℕ) (v : V) {a m b : Output} {e : E}
      → i < length vs → v ≡ get_or vs i v
      → Appends (items_bytes bytes (take i vs)) a.written m.written → m.failures ≡ a.failures
      → Writes {T = Unit {0}} whole (bytes v) m b (Err e)
      → Writes {T = U} whole (items_bytes bytes vs) a b (Err e)
  items_err i v {e = e} h is p q w =
      let before = items_bytes bytes (take i vs) in
      let trailing = items_bytes bytes (drop (i + 1) vs) in
      let parts : (before ++ bytes v) ++ trailing ≡ items_bytes bytes vs =
      ap (λ zs. zs ++ trailing) (sym (items-more i v h is))
      ∙ (sym (items-append (take (i + 1) vs) (drop (i + 1) vs))
      ∙ ap (items_bytes bytes) (take-append-drop (i + 1) vs)) in
      writes_as (Err e) parts (writes_err trailing (writes_then (Err e) (writes_done p q) w))

  -- all items
  pub items_all : {E : Type 0} {whole : Bool} (i : ℕ) {a b : Output} → i ≡ length vs
      → Appends (items_bytes bytes (take i vs)) a.written b.written → b.failures ≡ a.failures
      → Writes {T = Unit {0}} {E = E} whole (items_bytes bytes vs) a b (Ok tt)
  items_all i e p q = search (rules, writes_as, take-length, writes_done)
