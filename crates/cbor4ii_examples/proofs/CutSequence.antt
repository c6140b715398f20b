-- The next value of a sequence: an item that is cut.
use Rattle.std.proofs.Common.{◌≡◌, ℕ, List, [], drop, take, Option, None, Some, Ok}
use Rattle.std.proofs.Common.{Err, Result, refl, sym, IfSome, inl, subst, rules}
use Rattle.std.proofs.lemmas.List.{take-append-drop}
use Rattle.cbor4ii_rw.specs.View.{View}
use Rattle.cbor4ii_rw.specs.declared.error.DecodeError.{DecodeError}
use Rattle.cbor4ii_items.specs.Budget.{CostFits}
use Rattle.cbor4ii_items.specs.Decoding.{Decodes}
use Rattle.cbor4ii_items.specs.Head.{IsBytes}
use Rattle.cbor4ii_items.specs.InputError.{InputError, eof, input_error_of}
use Rattle.cbor4ii_items.specs.ItemOrEnd.{item_or_end, RejectsItemOrEnd}
use Rattle.cbor4ii_tree.specs.Basis.Encodings.{AtMostOne, DecodesTo, Encodes, IsProperPrefix}
use Rattle.cbor4ii_tree.specs.Basis.InputError.{IsEof, Len}
use Rattle.cbor4ii_tree.specs.Basis.Item.{Item}
use Rattle.cbor4ii_tree.specs.Calls.Promises.{value_format}
use Rattle.cbor4ii_tree.specs.Calls.ReadingRejects.{ReadingRejects}
use Rattle.cbor4ii_tree.specs.Basis.View.{view}
use Rattle.cbor4ii_tree.specs.declared.value.Value.{Value}
use Rattle.cbor4ii_examples.specs.Sequence.{CutIsEof}

-- an error of the bytes is the one that the law says
one_error : (xs : List ℕ) (budget : Option ℕ) (left : Option (List ℕ)) (name : List ℕ)
    (expect : Len) → AtMostOne (DecodesTo xs budget) (ReadingRejects xs budget)
    → ReadingRejects xs budget (eof name expect) [] → (o : Option InputError)
    → IfSome o (λ z. (ys : List ℕ) × (left ≡ Some ys)
    × RejectsItemOrEnd ReadingRejects xs budget z ys) → IfSome o IsEof
one_error xs budget left name expect one is None h = tt
one_error xs budget left name expect one is (Some z) h =
    subst IsEof (one.one_rejected (eof name expect) z [] h.0 is h.2.1).0 tt

pub cut_is_eof : {E : Type 0} (a b : View) (r : Result (Option Value) (DecodeError E))
    → ((xs : List ℕ) (budget : Option ℕ)
    → AtMostOne (DecodesTo xs budget) (ReadingRejects xs budget))
    → ((encoding : List ℕ) (v : Item) (steps : ℕ) (xs : List ℕ) (budget : Option ℕ)
    → Encodes encoding v steps → CostFits steps budget → IsProperPrefix xs encoding → IsBytes xs
    → (name : List ℕ) × (expect : Len) × ReadingRejects xs budget (eof name expect) [])
    → Decodes (item_or_end value_format) a b r → CutIsEof a r
cut_is_eof a b (Ok None) one prefix d = search rules
cut_is_eof a b (Ok (Some w)) one prefix d =
    λ xs known encoding v steps bytes some e fits is.
    let t = d.sound.at xs known in
    let q = prefix encoding v steps xs a.budget e fits is bytes in
    (one xs a.budget).not_both (view w) (drop t.count xs) (eof q.0 q.1) [] (record {
      encoding = take t.count xs;
      steps = t.cost;
      encodes = t.read.1.encodes;
      fits = t.fits;
      begins = sym (take-append-drop t.count xs);
    }) q.2
cut_is_eof a b (Err e) one prefix d =
    λ xs known encoding v steps bytes some f fits is.
    let q = prefix encoding v steps xs a.budget f fits is bytes in
    one_error xs a.budget b.known q.0 q.1 (one xs a.budget) q.2 (input_error_of e)
    ((d.rejects (inl refl)).at xs known)
