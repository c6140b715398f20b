-- An input that is a row of items as a whole.
use Rattle.std.proofs.Common.{◌≡◌, ℕ, ◌≤◌, List, [], ◌∷◌, ◌++◌, length, decimal, Option, Ok}
use Rattle.std.proofs.Common.{Err, refl, sym, ap, ◌∙◌, subst, arith}
use Rattle.cbor4ii_rw.specs.View.{View, IfKnown}
use Rattle.cbor4ii_rw.specs.Writer.{Appends}
use Rattle.cbor4ii_items.specs.Head.{head, shortest_width}
use Rattle.cbor4ii_tree.specs.Basis.Tree.{Tree, bytes}
use Rattle.cbor4ii_tree.specs.Basis.Meaning.{value}
use Rattle.cbor4ii_tree.specs.Basis.Canonical.{canonical_encoding}
use Rattle.cbor4ii_tree.specs.Laws.Ignoring.{one_encoding}
use Rattle.cbor4ii_tree.specs.Laws.Initials.{length-bytes-pos}
use Rattle.cbor4ii_tool.specs.Integer.{IntegerHead, shortest_encoding}
use Rattle.cbor4ii_tool.specs.Item.{Converts, BeginsItem, IsRow, together}
use Rattle.cbor4ii_tool.specs.Run.{FaultAt, RunsOver, ConvertsWhole, IsExcused}
use Rattle.cbor4ii_tool.specs.Fault.{Outcome}
use Rattle.cbor4ii_tool.specs.declared.command.Command.{Command}
use Rattle.cbor4ii_tool.specs.declared.command.Command.TheVariants.{Ints, Canon, Lens, Strict}
use Rattle.cbor4ii_tool.specs.declared.fault.Kind.{Kind}
use Rattle.cbor4ii_tool.specs.declared.fault.Kind.TheVariants.{Read, OutOfMemory, Write}
use Rattle.cbor4ii_tool.proofs.Integers.{one_head}

same_argument : (p q : IntegerHead) → p.major ≡ q.major → p.argument ≡ q.argument
    → shortest_encoding p ≡ shortest_encoding q
same_argument p q major argument = λ i. head (major i) (argument i) (shortest_width (argument i))

-- at most one item begins an input, and for it one text is written
one_item : (command : Command) (budget : Option ℕ) (input text rest other left : List ℕ)
    → Converts command budget input text rest → Converts command budget input other left
    → (text ≡ other) × (rest ≡ left)
one_item Ints budget input text rest other left (p, P, e, s) (q, Q, f, t) =
    let same = one_head p q P Q rest left (sym e ∙ f) in
    (s ∙ (same_argument p q same.0 same.1 ∙ sym t), same.2)
one_item Canon budget input text rest other left (v, P, s) (w, Q, t) =
    let p = P.encodes in
    let q = Q.encodes in
    let whole : bytes p.of_tree ++ rest ≡ bytes q.of_tree ++ left =
    ap (λ xs. xs ++ rest) p.bytes_are
    ∙ (sym P.begins ∙ (Q.begins ∙ ap (λ xs. xs ++ left) (sym q.bytes_are))) in
    let same = one_encoding p.of_tree q.of_tree rest left p.plain.0 q.plain.0 whole in
    let value_is : v ≡ w = sym p.value_is ∙ (ap value same.0 ∙ q.value_is) in
    (s ∙ (ap canonical_encoding value_is ∙ sym t), same.1)
one_item Strict budget input text rest other left (v, P, s) (w, Q, t) =
    let p = P.encodes in
    let q = Q.encodes in
    let whole : bytes p.of_tree ++ rest ≡ bytes q.of_tree ++ left =
    ap (λ xs. xs ++ rest) p.bytes_are
    ∙ (sym P.begins ∙ (Q.begins ∙ ap (λ xs. xs ++ left) (sym q.bytes_are))) in
    let same = one_encoding p.of_tree q.of_tree rest left p.canonical.0.0 q.canonical.0.0 whole in
    let value_is : v ≡ w = sym p.value_is ∙ (ap value same.0 ∙ q.value_is) in
    (s ∙ (ap canonical_encoding value_is ∙ sym t), same.1)
one_item Lens budget input text rest other left (t, P, s) (u, Q, r) =
    let same = one_encoding t u rest left P.loose Q.loose (sym P.begins ∙ Q.begins) in
    (s ∙ (ap (λ (t : Tree). decimal (length (bytes t)) ++ 10 ∷ []) same.0 ∙ sym r), same.1)

nothing_is : (prefix rest : List ℕ) → 1 ≤ length prefix → [] ≡ prefix ++ rest → ⊥
nothing_is (x ∷ xs) rest some e = cc
nothing_is [] rest some e = absurd (omega (arith, some))

-- an item takes a byte
none_of_nothing : (command : Command) (budget : Option ℕ) (text rest : List ℕ)
    → Converts command budget [] text rest → ⊥
none_of_nothing Ints budget text rest (p, P, e, s) = cc
none_of_nothing Canon budget text rest (v, P, s) =
    nothing_is P.encoding rest
    (subst (λ (xs : List ℕ). 1 ≤ length xs) P.encodes.bytes_are
    (length-bytes-pos P.encodes.of_tree))
    P.begins
none_of_nothing Strict budget text rest (v, P, s) =
    nothing_is P.encoding rest
    (subst (λ (xs : List ℕ). 1 ≤ length xs) P.encodes.bytes_are
    (length-bytes-pos P.encodes.of_tree))
    P.begins
none_of_nothing Lens budget text rest (t, P, s) =
    nothing_is (bytes t) rest (length-bytes-pos t) P.begins

-- a row that cannot go on is the one that is the whole input
only_row : (command : Command) (budget : Option ℕ) (texts others : List (List ℕ))
    (input rest : List ℕ) → IsRow command budget texts input rest
    → IsRow command budget others input [] → ¬ (BeginsItem command budget rest)
    → (rest ≡ []) × (texts ≡ others)
only_row command budget [] [] input rest row whole none = (sym row ∙ whole, refl)
only_row command budget [] (o ∷ os) input rest row whole none =
    absurd (none (
      o,
      whole.0,
      subst (λ (xs : List ℕ). Converts command budget xs o whole.0) row whole.1,
    ))
only_row command budget (t ∷ ts) [] input rest row whole none =
    absurd (none_of_nothing command budget t row.0
    (subst (λ (xs : List ℕ). Converts command budget xs t row.0) whole row.1))
only_row command budget (t ∷ ts) (o ∷ os) input rest row whole none =
    let same = one_item command budget input t row.0 o whole.0 row.1 whole.1 in
    let others = only_row command budget ts os row.0 rest row.2
    (subst (λ (xs : List ℕ). IsRow command budget os xs []) (sym same.1) whole.2) none in
    (others.0, λ i. same.0 i ∷ others.1 i)

excused : (command : Command) (at : ℕ) (kind : Kind) (texts others : List (List ℕ))
    (input rest : List ℕ) (old new : View) (held holds : Option (List ℕ))
    → IsRow command old.budget texts input rest → IsRow command old.budget others input []
    → FaultAt command texts input rest old new held holds at kind → IsExcused kind
excused command at Read texts others input rest old new held holds row whole fault = tt
excused command at Write texts others input rest old new held holds row whole fault = tt
excused command at OutOfMemory texts others input rest old new held holds row whole fault = tt
excused command at _ texts others input rest old new held holds row whole fault =
    absurd (fault.2 (only_row command old.budget texts others input rest row whole fault.4).0)

none_at_end : (command : Command) (budget : Option ℕ) (rest : List ℕ) → rest ≡ []
    → ¬ (BeginsItem command budget rest)
none_at_end command budget rest end (text, left, item) =
    none_of_nothing command budget text left
    (subst (λ (xs : List ℕ). Converts command budget xs text left) end item)

completes : (command : Command) (input : List ℕ) (old new : View) (held holds : Option (List ℕ))
    (outcome : Outcome) → RunsOver command input old new held holds outcome
    → ConvertsWhole command old.budget input held holds outcome
completes command input old new held holds (Ok _) runs others whole =
    let same = only_row command old.budget runs.texts others input runs.rest runs.row whole
    (none_at_end command old.budget runs.rest runs.ok.0) in
    subst (λ (texts : List (List ℕ)). Appends (together texts) held holds) same.1 runs.ok.1
completes command input old new held holds (Err fault) runs others whole =
    excused command fault.at fault.kind runs.texts others input runs.rest old new held holds
    runs.row whole runs.err

pub complete : (command : Command) (old new : View) (held holds : Option (List ℕ))
    (outcome : Outcome) → IfKnown old.known (λ input. RunsOver command input old new held holds
    outcome)
    → IfKnown old.known (λ input. ConvertsWhole command old.budget input held holds outcome)
complete command old new held holds outcome runs input is =
    completes command input old new held holds outcome (runs input is)
