-- A station is read in one way, from its own bytes alone.
use Rattle.std.proofs.Common.{◌≡◌, ℕ, List, [], ◌∷◌, ◌++◌, take, Bool, true, false, refl, sym, ◌∙◌}
use Rattle.std.proofs.Common.{subst, arith, rules}
use Rattle.cbor4ii_items.specs.Head.{break, indefinite_head}
use Rattle.cbor4ii_items.specs.Laws.Heads.{head_one, head_read, head_alone}
use Rattle.cbor4ii_items.specs.Numbers.{ReadsUnsigned}
use Rattle.cbor4ii_items.specs.Laws.Arguments.{argument_one, argument_within, argument_alone}
use Rattle.cbor4ii_items.specs.Laws.Arguments.{zero_small}
use Rattle.cbor4ii_items.specs.Strings.{ReadsTextAs, text_content}
use Rattle.cbor4ii_items.specs.Laws.Strings.{head_not_indefinite, text_one, text_within, text_alone}
use Rattle.cbor4ii_items.specs.Laws.Containers.{first_kept}
use Rattle.cbor4ii_items.specs.Laws.Sequences.{one_byte}
use Rattle.cbor4ii_examples.specs.declared.station.Station.{Station}
use Rattle.cbor4ii_examples.specs.Then.{InOneWay, Within, Positive, Alone, Carries, then_one}
use Rattle.cbor4ii_examples.specs.Then.{then_within, then_positive, then_alone}
use Rattle.cbor4ii_examples.specs.Station.{ReadsOpening, ReadsEnd, AfterNumber, AfterOpening}
use Rattle.cbor4ii_examples.specs.Station.{station_format, ReadsAfterNumber, ReadsAfterOpening}
use Rattle.cbor4ii_examples.specs.Station.{ReadsStation, SameStation}
use Rattle.cbor4ii_items.specs.Decoding.{IsLawful}

-- ---- the opening

pub opening_one : InOneWay ReadsOpening (λ v w. v ≡ w)
opening_one xs false false n m c d p q =
    ((head_one 4 8 xs 2 2 n m (omega arith) p.0 q.0).0, p.1 ∙ sym q.1, refl)
opening_one xs false true n m c d p q = absurd (head_not_indefinite 4 xs 2 n (omega arith) p.0 q.0)
opening_one xs true false n m c d p q = absurd (head_not_indefinite 4 xs 2 m (omega arith) q.0 p.0)
opening_one xs true true n m c d p q = (p.1 ∙ sym q.1, p.2 ∙ sym q.2, refl)

byte_alone : (b n : ℕ) (xs ys : List ℕ) → take 1 xs ≡ b ∷ [] → n ≡ 1
    → take 1 (take n xs ++ ys) ≡ b ∷ []
byte_alone b n xs ys e one =
    first_kept n xs ys (omega (arith, one)) (omega (arith, one, one_byte xs b e)) ∙ e

opening_within : Within ReadsOpening
opening_within xs false n c p = (head_read [] 4 8 xs 2 n (omega arith) p.0).1
opening_within xs true n c p = omega (arith, p.1, one_byte xs (indefinite_head 4) p.0)

opening_positive : Positive ReadsOpening
opening_positive xs false n c p = (head_read [] 4 8 xs 2 n (omega arith) p.0).2
opening_positive xs true n c p = omega (arith, p.1)

opening_alone : Alone ReadsOpening
opening_alone xs ys false n c p = (head_alone 4 8 xs ys 2 n p.0, p.1)
opening_alone xs ys true n c p = (byte_alone (indefinite_head 4) n xs ys p.0 p.1, p.1, p.2)

-- ---- the end

end_one : (indefinite : Bool) → InOneWay (ReadsEnd indefinite) (λ v w. Unit {0})
end_one false xs v w n m c d p q = (p.0 ∙ sym q.0, p.1 ∙ sym q.1, tt)
end_one true xs v w n m c d p q = (p.1 ∙ sym q.1, p.2 ∙ sym q.2, tt)

end_within : (indefinite : Bool) → Within (ReadsEnd indefinite)
end_within false xs v n c p = omega (arith, p.0)
end_within true xs v n c p = omega (arith, p.1, one_byte xs break p.0)

end_alone : (indefinite : Bool) → Alone (ReadsEnd indefinite)
end_alone false xs ys v n c p = p
end_alone true xs ys v n c p = (byte_alone break n xs ys p.0 p.1, p.1, p.2)

-- ---- one part after another

abbrev pub SameNamed : AfterNumber → AfterNumber → Type 0
SameNamed v w = (text_content v.0 ≡ text_content w.0) × Unit {0}

abbrev pub SameNumbered : AfterOpening → AfterOpening → Type 0
SameNumbered v w = (v.0 ≡ w.0) × SameNamed v.1 w.1

named_one : (indefinite : Bool) (id : ℕ) → InOneWay (ReadsAfterNumber indefinite id) SameNamed
named_one indefinite id =
    then_one (ReadsTextAs text_content) (λ name. ReadsEnd indefinite)
    (λ v w. text_content v ≡ text_content w) (λ v w. Unit {0}) (λ a b xs v n c e h. h)
    (text_one text_content) (λ name. end_one indefinite)

numbered_one : (indefinite : Bool) → InOneWay (ReadsAfterOpening indefinite) SameNumbered
numbered_one indefinite =
    then_one (ReadsUnsigned 8) (ReadsAfterNumber indefinite) (λ v w. v ≡ w) SameNamed
    (λ a b xs v n c e h. subst (λ id. ReadsAfterNumber indefinite id xs v n c) e h)
    (argument_one 0 8 zero_small) (named_one indefinite)

named_within : (indefinite : Bool) (id : ℕ) → Within (ReadsAfterNumber indefinite id)
named_within indefinite id = search (rules, then_within, text_within, end_within)

numbered_within : (indefinite : Bool) → Within (ReadsAfterOpening indefinite)
numbered_within indefinite =
    search (rules, then_within, argument_within, zero_small, named_within)

named_alone : (indefinite : Bool) (id : ℕ) → Alone (ReadsAfterNumber indefinite id)
named_alone indefinite id = search (rules, then_alone, text_within, text_alone, end_alone)

numbered_alone : (indefinite : Bool) → Alone (ReadsAfterOpening indefinite)
numbered_alone indefinite =
    search (rules, then_alone, argument_within, zero_small, argument_alone, named_alone)

-- what is read after an opening is read after the same opening
pub opening_carries : Carries (λ a b. a ≡ b) ReadsAfterOpening
opening_carries a b xs v n c e h = subst (λ indefinite. ReadsAfterOpening indefinite xs v n c) e h

-- ---- a station

abbrev station_parts : Bool → Station → Bool × AfterOpening
station_parts indefinite v = (indefinite, (v.id, (v.name, tt)))

pub station_one : InOneWay ReadsStation SameStation
station_one xs v w n m c d p q =
    let whole = then_one ReadsOpening ReadsAfterOpening (λ a b. a ≡ b) SameNumbered opening_carries
    opening_one numbered_one in
    let r = whole xs (station_parts p.0 v) (station_parts q.0 w) n m c d p.1 q.1 in
    (r.0, r.1, (r.2.1.0, r.2.1.1.0))

pub station_within : Within ReadsStation
station_within xs v n c p = search (rules, then_within, opening_within, numbered_within)

pub station_positive : Positive ReadsStation
station_positive xs v n c p =
    then_positive ReadsOpening ReadsAfterOpening opening_positive xs (station_parts p.0 v) n c p.1

pub station_alone : Alone ReadsStation
station_alone xs ys v n c p =
    let whole =
    then_alone ReadsOpening ReadsAfterOpening opening_within opening_alone numbered_alone in
    (p.0, whole xs ys (station_parts p.0 v) n c p.1)

pub station_lawful : IsLawful station_format
station_lawful = search (rules, station_one, station_within, station_positive, station_alone)
