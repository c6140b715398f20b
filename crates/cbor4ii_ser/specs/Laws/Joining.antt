-- One part of an item after another.
use Rattle.std.proofs.Common.{◌≡◌, ℕ, ◌+◌, ◌<◌, get_or, drop, List, [], ◌∷◌, ◌++◌, length, take}
use Rattle.std.proofs.Common.{Option, Some, Result, Ok, Err, Bool, refl, sym, ap, ◌∙◌, append_assoc}
use Rattle.std.proofs.Common.{subst}
use Rattle.std.specs.Result.{IsErrAnd}
use Rattle.std.proofs.lemmas.Result.{err_from_is_err_and}
use Rattle.std.proofs.lemmas.List.{append-nil, take_more, take-append-drop}
use Rattle.cbor4ii_rw.specs.Reader.{Failed}
use Rattle.cbor4ii_rw.specs.Writer.{Output, Appends}
use Rattle.cbor4ii_items.specs.Laws.Written.{appends_then, starts_then, starts_more}
use Rattle.cbor4ii_ser.specs.declared.error.EncodeError.{EncodeError}
use Rattle.cbor4ii_ser.specs.declared.error.EncodeError.TheVariants.{Core, Custom}
use Rattle.cbor4ii_items.specs.Writing.{AppendsPrefix}
use Rattle.cbor4ii_ser.specs.Item.{Encoding, encoded, rejected, bytes_written, one_then}
use Rattle.cbor4ii_ser.specs.Item.{each_encoding}
use Rattle.cbor4ii_ser.specs.Serializing.{Serializes, Blames}

pub followed_assoc : (a b c : Encoding) → one_then (one_then a b) c ≡ one_then a (one_then b c)
unfolding one_then
followed_assoc (rejected xs words) b c = refl
followed_assoc (encoded xs) (rejected ys words) c = refl
followed_assoc (encoded xs) (encoded ys) (rejected zs words) =
    ap (λ (bytes : List ℕ). rejected bytes words) (append_assoc xs ys zs)
followed_assoc (encoded xs) (encoded ys) (encoded zs) = ap encoded (append_assoc xs ys zs)

nil_followed : (a : Encoding) → one_then (encoded []) a ≡ a
unfolding one_then
nil_followed (rejected xs words) = refl
nil_followed (encoded xs) = refl

pub followed_nil : (a : Encoding) → one_then a (encoded []) ≡ a
unfolding one_then
followed_nil (rejected xs words) = refl
followed_nil (encoded xs) = ap encoded (append-nil xs)

pub followed_both : (xs ys : List ℕ) (b : Encoding)
    → one_then (encoded (xs ++ ys)) b ≡ one_then (encoded xs) (one_then (encoded ys) b)
unfolding one_then
followed_both xs ys (rejected zs words) =
    ap (λ (bytes : List ℕ). rejected bytes words) (append_assoc xs ys zs)
followed_both xs ys (encoded zs) = ap encoded (append_assoc xs ys zs)

begins_then : (xs : List ℕ) (b : Encoding) (old mid new : Option (List ℕ)) → Appends xs old mid
    → AppendsPrefix (bytes_written b) mid new
    → AppendsPrefix (bytes_written (one_then (encoded xs) b)) old new
unfolding one_then
begins_then xs (rejected ys words) old mid new p q held known =
    let f = q (held ++ xs) (p held known) in
    (xs ++ f.0, starts_then xs ys f.0 f.1, f.2 ∙ ap Some (append_assoc held xs f.0))
begins_then xs (encoded ys) old mid new p q held known =
    let f = q (held ++ xs) (p held known) in
    (xs ++ f.0, starts_then xs ys f.0 f.1, f.2 ∙ ap Some (append_assoc held xs f.0))

begins_more : (a b : Encoding) (old new : Option (List ℕ)) → AppendsPrefix (bytes_written a) old new
    → AppendsPrefix (bytes_written (one_then a b)) old new
unfolding one_then
begins_more (rejected xs words) b old new p held known = p held known
begins_more (encoded xs) (rejected ys words) old new p held known =
    let f = p held known in (f.0, starts_more xs ys f.0 f.1, f.2)
begins_more (encoded xs) (encoded ys) old new p held known =
    let f = p held known in (f.0, starts_more xs ys f.0 f.1, f.2)

blames_more : {E : Type 0} (a b : Encoding) (old new : Output) (e : EncodeError E)
    → Blames a old new e → Blames (one_then a b) old new e
unfolding one_then
blames_more a b old new (Core error) p = p
blames_more (rejected xs words) b old new (Custom text) p = p
blames_more (encoded xs) b old new (Custom text) p = absurd p.0

blames_then : {E : Type 0} (xs : List ℕ) (b : Encoding) (old mid new : Output) (e : EncodeError E)
    → Appends xs old.written mid.written → mid.failures ≡ old.failures → Blames b mid new e
    → Blames (one_then (encoded xs) b) old new e
unfolding one_then
blames_then xs b old mid new (Core error) first is p = subst (λ n. Failed n new.failures) is p
blames_then xs (encoded ys) old mid new (Custom text) first is p = absurd p.0
blames_then xs (rejected ys words) old mid new (Custom text) first is p =
    ((appends_then xs ys old.written mid.written new.written first p.0.0, p.0.1), p.1 ∙ is)

-- where one part fails, there is no other
pub serializes_err : {T U E : Type 0} {whole : Bool} (a b : Encoding) {old new : Output}
    {e : EncodeError E} → Serializes {T = T} whole a old new (Err e)
    → Serializes {T = U} whole (one_then a b) old new (Err e)
serializes_err a b {old = old} {new = new} {e = e} p = record {
  appends = tt;
  counts = tt;
  failed = blames_more a b old new e p.failed;
  prefix = λ whole. begins_more a b old.written new.written (p.prefix whole);
}

-- what a `?` answers there
pub serializes_out : {T U E : Type 0} {whole : Bool} {a : Encoding} (b : Encoding)
    {old new : Output} {e : EncodeError E} {answer : Result U (EncodeError E)}
    → IsErrAnd answer (λ y. y ≡ e) → Serializes {T = T} whole a old new (Err e)
    → Serializes {T = U} whole (one_then a b) old new answer
serializes_out {whole = whole} {a = a} b {old = old} {new = new} {answer = answer} is p =
    let found = err_from_is_err_and answer is in
    rw (found.1, found.2) (serializes_err a b p)

-- one part, and then another
pub serializes_then : {T U E : Type 0} {whole : Bool} (a b : Encoding) {old mid new : Output}
    {t : T} (r : Result U (EncodeError E)) → Serializes {E = E} whole a old mid (Ok t)
    → Serializes whole b mid new r → Serializes whole (one_then a b) old new r
unfolding one_then
serializes_then (rejected xs words) b r p q = absurd p.appends
serializes_then (encoded xs) (rejected ys words) {old = old} {mid = mid} {new = new} (Ok u) p q =
    absurd q.appends
serializes_then (encoded xs) (encoded ys) {old = old} {mid = mid} {new = new} (Ok u) p q = record {
  appends = appends_then xs ys old.written mid.written new.written p.appends q.appends;
  counts = q.counts ∙ p.counts;
  failed = tt;
  prefix = λ whole. tt;
}
serializes_then (encoded xs) b {old = old} {mid = mid} {new = new} (Err e) p q = record {
  appends = tt;
  counts = tt;
  failed = blames_then xs b old mid new e p.appends p.counts q.failed;
  prefix = λ whole. begins_then xs b old.written mid.written new.written p.appends (q.prefix whole);
}

-- the same, where many parts follow one another
infixr 5 ◌⨾◌
pub ◌⨾◌ : {T U E : Type 0} {whole : Bool} {a b : Encoding} {old mid new : Output} {t : T}
    {r : Result U (EncodeError E)} → Serializes {E = E} whole a old mid (Ok t)
    → Serializes whole b mid new r → Serializes whole (one_then a b) old new r
p ⨾ q = serializes_then _ _ _ p q

pub serializes_as : {T E : Type 0} {whole : Bool} {a b : Encoding} {old new : Output}
    (r : Result T (EncodeError E)) → a ≡ b → Serializes whole a old new r
    → Serializes whole b old new r
serializes_as {whole = whole} {old = old} {new = new} r is p =
    subst (λ z. Serializes whole z old new r) is p

pub serializes_at : {T E : Type 0} {whole : Bool} {a : Encoding} {old mid new : Output}
    {r : Result T (EncodeError E)} → Serializes whole a old mid r → new ≡ mid
    → Serializes whole a old new r
serializes_at {whole = whole} {a = a} {old = old} {r = r} p is =
    subst (λ z. Serializes whole a old z r) (sym is) p

-- nothing was written yet
pub serializes_nil : {E : Type 0} {whole : Bool} (old : Output)
    → Serializes {T = Unit {0}} {E = E} whole (encoded []) old old (Ok tt)
serializes_nil old = record {
  appends = λ held known. known ∙ ap Some (sym (append-nil held));
  counts = refl;
  failed = tt;
  prefix = λ whole. tt;
}

module _ {V : Type 0} (item : V → Encoding) where
  pub items_append : (us ws : List V)
      → each_encoding item (us ++ ws) ≡ one_then (each_encoding item us) (each_encoding item ws)
  items_append [] ws = sym (nil_followed (each_encoding item ws))
  items_append (u ∷ us) ws =
      ap (one_then (item u)) (items_append us ws)
      ∙ sym (followed_assoc (item u) (each_encoding item us) (each_encoding item ws))

  -- those before a value, it, and those after it
  pub items_turn : (us : List V) (v : V) (ws : List V) → one_then (each_encoding item us)
      (one_then (item v) (each_encoding item ws)) ≡ each_encoding item (us ++ (v ∷ ws))
  items_turn us v ws = sym (items_append us (v ∷ ws))

  -- one more item
  pub items_push : (us : List V) (v : V)
      → one_then (each_encoding item us) (item v) ≡ each_encoding item (us ++ (v ∷ []))
  items_push us v =
      sym (items_append us (v ∷ []) ∙ ap (one_then (each_encoding item us)) (followed_nil (item v)))

module _ {V : Type 0} (item : V → Encoding) (vs : List V) where
  -- one more item
  pub items_more : (i : ℕ) (v : V) → i < length vs → v ≡ get_or vs i v
      → one_then (each_encoding item (take i vs)) (item v) ≡ each_encoding item (take (i + 1) vs)
  items_more i v h is =
      sym (ap (each_encoding item) (take_more vs i v h)
      ∙ (items_append item (take i vs) (get_or vs i v ∷ [])
      ∙ ap (one_then (each_encoding item (take i vs)))
      (followed_nil (item (get_or vs i v)) ∙ ap item (sym is))))

  -- those after it
  pub items_after : (i : ℕ) (v : V) → i < length vs → v ≡ get_or vs i v
      → one_then (one_then (each_encoding item (take i vs)) (item v))
      (each_encoding item (drop (i + 1) vs)) ≡ each_encoding item vs
  items_after i v h is =
      ap (λ z. one_then z (each_encoding item (drop (i + 1) vs))) (items_more i v h is)
      ∙ (sym (items_append item (take (i + 1) vs) (drop (i + 1) vs))
      ∙ ap (each_encoding item) (take-append-drop (i + 1) vs))

-- ---- of calls whose item is never missing

pub serializes_both : {T U E : Type 0} {whole : Bool} {xs ys : List ℕ} {old mid new : Output}
    {t : T} (r : Result U (EncodeError E)) → Serializes {E = E} whole (encoded xs) old mid (Ok t)
    → Serializes whole (encoded ys) mid new r → Serializes whole (encoded (xs ++ ys)) old new r
unfolding one_then
serializes_both {xs = xs} {ys = ys} r p q = serializes_then (encoded xs) (encoded ys) r p q

pub serializes_both_err : {T U E : Type 0} {whole : Bool} {xs : List ℕ} (ys : List ℕ)
    {old new : Output} {e : EncodeError E} → Serializes {T = T} whole (encoded xs) old new (Err e)
    → Serializes {T = U} whole (encoded (xs ++ ys)) old new (Err e)
unfolding one_then
serializes_both_err {xs = xs} ys p = serializes_err (encoded xs) (encoded ys) p

-- the last of several parts
pub serializes_last : {T E : Type 0} {whole : Bool} {a : Encoding} {old new : Output}
    (r : Result T (EncodeError E)) → Serializes whole a old new r
    → Serializes whole (one_then a (encoded [])) old new r
serializes_last {a = a} r p = serializes_as r (sym (followed_nil a)) p
