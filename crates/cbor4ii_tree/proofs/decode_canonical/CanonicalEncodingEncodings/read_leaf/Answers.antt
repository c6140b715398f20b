use Rattle.std.proofs.{lemmas.Str.IsUtf8-string_bytes, Common.{true, inl, inr, ◌/◌, ◌≡◌, arith}}
use Rattle.std.proofs.Common.{drop}
use Rattle.cbor4ii_items.specs.{Initial.{unsigned, negative, byte_string}, Shortest.ReadsShortest}
use Rattle.cbor4ii_items.specs.Shortest.{ReadsShortestString, RejectsShortest}
use Rattle.cbor4ii_items.specs.Shortest.{RejectsShortestString}
use Rattle.cbor4ii_tree.specs.{Inner.CanonicalCalls.TextAt}
use Rattle.cbor4ii_tree.specs.Calls.CanonicalRejects.{CanonicalTextRejects}
use Rattle.cbor4ii_tree.specs.{Basis.InputError.{sign_name, kind_name}, declared.value.Value.Bytes}
use Rattle.cbor4ii_tree.proofs.canonical.Once.{string_of, bytes_exact, text_exact}
use Rattle.cbor4ii_tree.proofs.skip_calls.Doing.{does_ok, reached_as, reached_by, still_rejected}
use Rattle.cbor4ii_tree.proofs.values.Heads.{at_major, head_at, leaf_read, leaf_rejected}
use Rattle.cbor4ii_tree.proofs.values.Heads.{negative_reads, unsigned_reads}
use Rattle.cbor4ii_tree.proofs.values.Sequences.{passed, passed_memory, no_want}
use Rattle.cbor4ii_tree.proofs.values.InRange.{text_encoding}
use Rattle.cbor4ii_tree.proofs.decode_canonical.CanonicalEncodingEncodings.read_leaf.Goals as goal

pub returns-in_err-canonical_head-in-0-clause-does :
    goal.returns-in_err-canonical_head-in-0-clause-does
returns-in_err-canonical_head-in-0-clause-does g c =
    passed _ c.from_residual.ensures.1 (leaf_rejected true c.args.first (RejectsShortest (sign_name
    unsigned) 0) (λ bs z rest h. at_major _ _ _ _ _ _ c.in-0.is h)
    c.in_err-canonical_head-in-0.ensures.moves c.in_err-canonical_head-in-0.ensures.begins)

pub returns-in_err-number-in-1-clause-does : goal.returns-in_err-number-in-1-clause-does
returns-in_err-number-in-1-clause-does g c =
    passed _ c.from_residual-in_err-number-in-1.ensures.1 (leaf_rejected true c.args.first
    (RejectsShortest (sign_name negative) 1)
    (λ bs z rest h. at_major 1 (g.S.Source.view c.args.reader.now).budget c.args.first bs z rest
    c.in-1.is h) c.in_err-number-in-1.ensures.moves c.in_err-number-in-1.ensures.begins)

pub returns-in_err-canonical_buf-in-2-clause-does :
    goal.returns-in_err-canonical_buf-in-2-clause-does
returns-in_err-canonical_buf-in-2-clause-does g c =
    passed _ c.from_residual-in_err-canonical_buf-in-2.ensures.1 (leaf_rejected true c.args.first
    (RejectsShortestString (kind_name byte_string) 2)
    (λ bs z rest h. at_major 2 (g.S.Source.view c.args.reader.now).budget c.args.first bs z rest
    c.in-2.is h) c.in_err-canonical_buf-in-2.ensures.moves
    c.in_err-canonical_buf-in-2.ensures.begins)

pub returns-in_err-read_text-in_default-clause-does :
    goal.returns-in_err-read_text-in_default-clause-does
returns-in_err-read_text-in_default-clause-does g c =
    let budget = (g.S.Source.view c.args.reader.now).budget in
    let major : c.args.first / 32 ≡ 3 = omega (arith, c.requires.major, c.in_default) in
    passed _ c.from_residual-in_err-read_text-in_default.ensures.1 (still_rejected _ _
    (CanonicalTextRejects budget) _ (λ xs z rest h bs is. rw is (at_major 3 _ _ _ _ _ major (rw (←
    is) h))) c.in_err-read_text-in_default.ensures.does)

pub returns-in_ok-canonical_head-in-0-clause-does :
    goal.returns-in_ok-canonical_head-in-0-clause-does
returns-in_ok-canonical_head-in-0-clause-does g c =
    leaf_read true (ReadsShortest 0) _ (λ xs n k _ r. unsigned_reads true
    (g.S.Source.view c.args.reader.now).budget c.in_ok-canonical_head-in-0.field-0 xs (drop n xs)
    (head_at true 0 c.in_ok-canonical_head-in-0.field-0 xs n r.0 (λ e. r.1)))
    c.in_ok-canonical_head-in-0.ensures.moves c.in_ok-canonical_head-in-0.ensures.sound

pub returns-in_ok-number-in-1-clause-does : goal.returns-in_ok-number-in-1-clause-does
returns-in_ok-number-in-1-clause-does g c =
    leaf_read true (ReadsShortest 1) _ (λ xs n k _ r. negative_reads true
    (g.S.Source.view c.args.reader.now).budget c.in_ok-number-in-1.number xs (drop n xs)
    (head_at true 1 c.in_ok-number-in-1.number xs n r.0 (λ e. r.1)))
    c.in_ok-number-in-1.ensures.moves c.in_ok-number-in-1.ensures.sound

pub returns-in_ok-canonical_buf-in-2-clause-does : goal.returns-in_ok-canonical_buf-in-2-clause-does
returns-in_ok-canonical_buf-in-2-clause-does g c =
    let v = c.in_ok-canonical_buf-in-2.field-0 in
    leaf_read true (ReadsShortestString 2) (Bytes v) (λ xs n k _ r. bytes_exact (g.S.Source.view
    c.args.reader.now).budget v xs (drop n xs) (string_of 2 v.items xs n k r))
    c.in_ok-canonical_buf-in-2.ensures.moves c.in_ok-canonical_buf-in-2.ensures.sound

pub returns-in_ok-read_text-in_default-clause-does :
    goal.returns-in_ok-read_text-in_default-clause-does
returns-in_ok-read_text-in_default-clause-does g c =
    let budget = (g.S.Source.view c.args.reader.now).budget in
    let v = c.in_ok-read_text-in_default.field-0 in
    does_ok _ _ (reached_as (λ xs ys. TextAt budget xs v ys) _ (λ xs ys h. text_exact budget v xs ys
    (IsUtf8-string_bytes v) h) (reached_by c.in_ok-read_text-in_default.ensures.does))

pub returns-in_ok-read_text-in_default-clause-item :
    goal.returns-in_ok-read_text-in_default-clause-item
returns-in_ok-read_text-in_default-clause-item g c =
    text_encoding c.in_ok-read_text-in_default.field-0

pub returns-in_err-canonical_head-in-0-clause-memory :
    goal.returns-in_err-canonical_head-in-0-clause-memory
returns-in_err-canonical_head-in-0-clause-memory g c =
    passed_memory _ _ c.from_residual.ensures.1 (λ want. absurd (no_want
    c.in_err-canonical_head-in-0.ensures.memory want))

pub returns-in_err-number-in-1-clause-memory :
    goal.returns-in_err-number-in-1-clause-memory
returns-in_err-number-in-1-clause-memory g c =
    passed_memory _ _ c.from_residual-in_err-number-in-1.ensures.1 (λ want. absurd (no_want
    c.in_err-number-in-1.ensures.memory want))

pub returns-in_err-canonical_buf-in-2-clause-memory :
    goal.returns-in_err-canonical_buf-in-2-clause-memory
returns-in_err-canonical_buf-in-2-clause-memory g c =
    passed_memory _ _ c.from_residual-in_err-canonical_buf-in-2.ensures.1 (λ want. inl c.in-2.is)

pub returns-in_err-read_text-in_default-clause-memory :
    goal.returns-in_err-read_text-in_default-clause-memory
returns-in_err-read_text-in_default-clause-memory g c =
    passed_memory _ _ c.from_residual-in_err-read_text-in_default.ensures.1 (λ want. inr (omega
    (arith, c.requires.major, c.in_default)))
