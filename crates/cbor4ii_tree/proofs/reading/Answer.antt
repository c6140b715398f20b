-- Reading a value has one answer for each input and budget.
use Rattle.std.proofs.Common.{◌≡◌, ℕ, inl, inr, List, ◌++◌, Ok, Err, refl, ap, ◌∙◌, rules}
use Rattle.cbor4ii_items.specs.Head.{IsBytes}
use Rattle.cbor4ii_tree.specs.Basis.{Cost.Budget, Encodings.{DecodesTo, SomeAnswer, AtMostOne}}
use Rattle.cbor4ii_tree.specs.Basis.{InputError.InputError, Item.Item, Meaning.value, Tree.Tree}
use Rattle.cbor4ii_tree.specs.{Basis.Tree.bytes, Calls.Read.{parse_value, read_tree}}
use Rattle.cbor4ii_tree.specs.Calls.ReadingRejects.{Readable, ReadingRejects, reading_profile}
use Rattle.cbor4ii_tree.specs.Laws.Binds.{answer_parts, bind_ok, bind_err, then_err, no_err}
use Rattle.cbor4ii_tree.proofs.answers.Answers.{some_answer_of, at_most_one_of}
use Rattle.cbor4ii_tree.proofs.profile.Answer.{Takes, at_from_takes, takes_from_at, at_from_rejects}
use Rattle.cbor4ii_tree.proofs.profile.Answer.{rejects_from_at, reading_laws}

-- what decodes has a tree
pub tree_of : {input : List ℕ} {budget : Budget} {v : Item} {rest : List ℕ}
    → DecodesTo input budget v rest
    → (t : Tree) × Takes reading_profile input budget t rest × (value t ≡ v)
tree_of {rest = rest} r = search rules

-- what begins with the bytes of a plain tree that fits decodes to its value
pub decodes_tree : (t : Tree) (budget : Budget) (input : List ℕ) (v : Item) (rest : List ℕ)
    → Readable budget t → value t ≡ v → input ≡ bytes t ++ rest → DecodesTo input budget v rest
decodes_tree t budget input v rest w same begins = search rules

pub read_from_Reads : (input : List ℕ) (budget : Budget) (v : Item) (rest : List ℕ)
    → DecodesTo input budget v rest → parse_value budget input ≡ Ok (v, rest)
read_from_Reads input budget v rest r =
    let t = tree_of r in
    rw (at_from_takes reading_laws input budget t.0 rest t.1)
    (ap (λ w. Ok (w, rest)) t.2)

pub Reads_from_read : (input : List ℕ) (budget : Budget) (v : Item) (rest : List ℕ) → IsBytes input
    → parse_value budget input ≡ Ok (v, rest) → DecodesTo input budget v rest
Reads_from_read input budget v rest h e =
    let x = bind_ok (read_tree budget input) (λ p. Ok (value p.0, p.1)) (v, rest) e in
    let took = takes_from_at reading_laws input budget x.0.0 x.0.1 h x.1 in
    let same = answer_parts (Ok (value x.0.0, x.0.1)) (value x.0.0) v x.0.1 rest refl x.2 in
    decodes_tree x.0.0 budget input v rest took.0 same.0
    (took.1 ∙ ap (λ y. bytes x.0.0 ++ y) same.1)

pub read_from_Rejects : (input : List ℕ) (budget : Budget) (e : InputError) (rest : List ℕ)
    → ReadingRejects input budget e rest → parse_value budget input ≡ Err (e, rest)
read_from_Rejects input budget e rest s = search (rules, then_err, at_from_rejects, reading_laws)

pub Rejects_from_read : (input : List ℕ) (budget : Budget) (e : InputError) (rest : List ℕ)
    → IsBytes input → parse_value budget input ≡ Err (e, rest) → ReadingRejects input budget e rest
Rejects_from_read input budget e rest h x =
    search (rules, bind_err, inl, rejects_from_at, reading_laws, inr, no_err)

pub some_reading : (input : List ℕ) (budget : Budget) → IsBytes input
    → SomeAnswer (DecodesTo input budget) (ReadingRejects input budget)
some_reading input budget h =
    some_answer_of (parse_value budget input) _ _ (λ v x. Reads_from_read input budget v x h)
    (λ e x. Rejects_from_read input budget e x h)

-- of any numbers
pub one_reading : (input : List ℕ) (budget : Budget)
    → AtMostOne (DecodesTo input budget) (ReadingRejects input budget)
one_reading input budget =
    at_most_one_of (parse_value budget input) _ _ (read_from_Reads input budget)
    (read_from_Rejects input budget)

-- what is accepted does not fail, of any numbers
pub not_both : (input : List ℕ) (budget : Budget) (v : Item) (x : List ℕ) (e : InputError)
    (y : List ℕ) → DecodesTo input budget v x → ReadingRejects input budget e y → ⊥
not_both input budget = (one_reading input budget).not_both
