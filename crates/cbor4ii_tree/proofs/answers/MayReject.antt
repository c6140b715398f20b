-- No other error comes than an end of the input, which leaves nothing, a want of steps, or one
-- that nothing mends.
use Rattle.std.proofs.Common.{◌≡◌, ℕ, zero, suc, inl, inr, List, [], ◌∷◌, length, Option, Some}
use Rattle.std.proofs.Common.{None, Bool, true, false, sym, subst, rules}
use Rattle.cbor4ii_items.specs.{Head.Width, Initial.{Kind, byte_string, text_string, kind_major}}
use Rattle.cbor4ii_items.specs.Initial.{Initial, starts_int, starts_string, starts_chunks}
use Rattle.cbor4ii_items.specs.Initial.{starts_array, starts_indefinite_array, bad_array}
use Rattle.cbor4ii_items.specs.Initial.{starts_map, starts_indefinite_map, bad_map, starts_tag}
use Rattle.cbor4ii_items.specs.Initial.{starts_simple, starts_bits, initial}
use Rattle.cbor4ii_tree.specs.Basis.{Cost.{Budget, step_in}, InputError.{InputError, Len, eof}}
use Rattle.cbor4ii_tree.specs.Basis.InputError.{MayReject, IsEof, IsFinal, IsDepthOverflow}
use Rattle.cbor4ii_tree.specs.Basis.{InputError.{depth_overflow, tag_name}, Tree.Tree}
use Rattle.cbor4ii_tree.specs.Calls.ItemRejects.{Profile, NoUtf8Joined, ChunkRejectsBy}
use Rattle.cbor4ii_tree.specs.Calls.ItemRejects.{RejectsChunkBy, RejectsBy, RejectsFrom}
use Rattle.cbor4ii_tree.specs.Calls.{ItemRejects.{RejectsWithin, ItemRejects}, Rejections.Rejection}
use Rattle.cbor4ii_tree.specs.Calls.Rejections.{Missing, AtHead, RejectsAtStep}
use Rattle.cbor4ii_tree.specs.Calls.Rejections.{NoBreak, IndefiniteItems, IndefinitePairs}
use Rattle.cbor4ii_tree.proofs.parts.Rejecting.{either}

-- the error is one of these, and an end of the input leaves nothing
abbrev Says : InputError → List ℕ → Type 0
Says e rest = MayReject e × (IsEof e → rest ≡ [])

abbrev Known : Rejection → Type 0
Known rejects = (bs : List ℕ) (e : InputError) (rest : List ℕ) → rejects bs e rest → Says e rest

ended : (name : List ℕ) (expect : Len) (e : InputError) (rest : List ℕ) → e ≡ eof name expect
    → rest ≡ [] → Says e rest
ended name expect e rest is left = (subst MayReject (sym is) (inl tt), λ h. left)

-- an error that nothing mends is neither an end of the input nor a want of steps
pub final_only : (e : InputError) → IsFinal e → (¬ (IsEof e)) × (¬ (IsDepthOverflow e))
final_only (eof name n) h = absurd h
final_only (depth_overflow name) h = absurd h
final_only _ h = ((λ y. y), (λ y. y))

final : (f e : InputError) (rest : List ℕ) → e ≡ f → IsFinal f → Says e rest
final f e rest is h = search (rules, inr, final_only)

at_head_known : (name : List ℕ) (major : ℕ) (w : Width) (b : ℕ) (then : ℕ → Rejection)
    → ((n : ℕ) → Known (then n)) → Known (AtHead name major w b then)
at_head_known name major w b then k bs e rest (inl x) = ended _ _ e rest x.1.0 x.1.1
at_head_known name major w b then k bs e rest (inr x) = k x.argument x.after e rest x.rejected

cut_known : (name : List ℕ) (k : Kind) (w : Width) (b : ℕ)
    → Known (AtHead name (kind_major k) w b (Missing name))
cut_known name k w b = search (rules, at_head_known)

stepped_known : (name : List ℕ) (step : Option Budget) (here : List ℕ)
    (s : Budget → InputError → List ℕ → Type 0) (e : InputError) (rest : List ℕ)
    → ((inner : Budget) → s inner e rest → Says e rest) → RejectsAtStep name step here s e rest
    → Says e rest
stepped_known name None here s e rest k x =
    (subst MayReject (sym x.0) (inr (inl tt)), λ q. absurd (subst IsEof x.0 q))
stepped_known name (Some inner) here s e rest k x = k inner x

no_break_known : (s : Rejection) → Known s → Known (NoBreak s)
no_break_known s k [] e rest x = ended _ _ e rest x.0 x.1
no_break_known s k (b ∷ bs) e rest x = k (b ∷ bs) e rest x.1

items_known : (W : Tree → Type 0) (s : Rejection) → Known s → Known (IndefiniteItems W s)
items_known W s k bs e rest x = no_break_known s k x.after e rest x.rejected

pairs_known : (W : Tree → Type 0) (s : Rejection) → Known s → Known (IndefinitePairs W s)
pairs_known W s k bs e rest x = search (rules, inl, no_break_known, inr)

chunk_by_known : (k : Kind) (i : Initial) (a : ℕ) → Known (ChunkRejectsBy k i a)
chunk_by_known byte_string (starts_string byte_string v) a bs e rest x =
    cut_known _ byte_string v a bs e rest x
chunk_by_known text_string (starts_string text_string v) a bs e rest x =
    cut_known _ text_string v a bs e rest x
chunk_by_known byte_string (starts_chunks byte_string) a bs e rest x = final _ e rest x.0 tt
chunk_by_known text_string (starts_chunks text_string) a bs e rest x = final _ e rest x.0 tt
chunk_by_known byte_string (starts_chunks text_string) a bs e rest x = final _ e rest x.0 tt
chunk_by_known text_string (starts_chunks byte_string) a bs e rest x = final _ e rest x.0 tt
chunk_by_known k i a bs e rest x = final _ e rest x.0 tt

chunk_known : (tests : Bool) (k : Kind) (b : Budget) (s : Rejection) → Known s
    → Known (RejectsChunkBy tests k b s)
chunk_known false k b s g bs e rest x = g bs e rest x
chunk_known true k b s g [] e rest x = ended _ _ e rest x.0 x.1
chunk_known true k b s g (a ∷ bs) e rest x = search (rules, stepped_known, chunk_by_known)

module _ (p : Profile) where
  module _ (b : Budget) (s : Budget → Rejection) (k : (c : Budget) → Known (s c)) where
    by_known : (i : Initial) (a : ℕ) → Known (RejectsBy p s b i a)
    by_known (starts_int sg v) a bs e rest x = ended _ _ e rest x.1.0 x.1.1
    by_known (starts_string kd v) a bs e rest x =
        either p.tests (cut_known _ kd v a bs e rest) (λ t y. final _ e rest y.rejected.err tt) x
    by_known (starts_chunks kd) a bs e rest x =
        search (rules, either, NoUtf8Joined, items_known, chunk_known, final)
    by_known (starts_array v) a bs e rest x = search (rules, stepped_known, at_head_known)
    by_known starts_indefinite_array a bs e rest x = search (rules, stepped_known, items_known)
    by_known bad_array a bs e rest x =
        stepped_known _ (p.inside b) (a ∷ bs) _ e rest (λ c z. final _ e rest z.0 tt) x
    by_known (starts_map v) a bs e rest x = search (rules, stepped_known, at_head_known)
    by_known starts_indefinite_map a bs e rest x = search (rules, stepped_known, pairs_known)
    by_known bad_map a bs e rest x =
        stepped_known _ (p.inside b) (a ∷ bs) _ e rest (λ c z. final _ e rest z.0 tt) x
    by_known (starts_tag v) a bs e rest x =
        at_head_known tag_name 6 v a (λ n. s b) (λ n. k b) bs e rest x
    by_known (starts_simple v) a bs e rest x = absurd x
    by_known (starts_bits q) a bs e rest x = ended _ _ e rest x.1.0 x.1.1
    by_known _ a bs e rest x = final _ e rest x.0 tt

    from_known : Known (RejectsFrom p s b)
    from_known [] e rest x = ended _ _ e rest x.0 x.1
    from_known (a ∷ bs) e rest x = by_known (initial a) a bs e rest x

  known : (n : ℕ) (b : Budget) → Known (RejectsWithin p n b)
  known zero b bs e rest x = absurd x
  known (suc n) b bs e rest x =
      stepped_known _ (step_in b) bs _ e rest
      (λ c y. from_known c (RejectsWithin p n) (known n) bs e rest y) x

  pub may_reject : (input : List ℕ) (budget : Budget) (e : InputError) (rest : List ℕ)
      → ItemRejects p input budget e rest → MayReject e
  may_reject input budget e rest s = (known (suc (length input)) budget input e rest s).0

  -- of any numbers
  pub leaves_nothing : (input : List ℕ) (budget : Budget) (e : InputError) (rest : List ℕ)
      → IsEof e → ItemRejects p input budget e rest → rest ≡ []
  leaves_nothing input budget e rest h s =
      (known (suc (length input)) budget input e rest s).1 h
