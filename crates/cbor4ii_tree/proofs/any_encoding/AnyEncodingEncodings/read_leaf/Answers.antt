use Rattle.std.proofs.Common.{false, inl, inr, ◌/◌, ◌≡◌, arith, drop}
use Rattle.cbor4ii_items.specs.Initial.{unsigned, negative, byte_string, text_string}
use Rattle.cbor4ii_items.specs.Numbers.{ReadsUnsigned, RejectsUnsigned, ReadsNegative}
use Rattle.cbor4ii_items.specs.{Numbers.RejectsNegative, Strings.{ReadsAs, ReadsTextAs}}
use Rattle.cbor4ii_items.specs.Strings.{RejectsString, RejectsText, bytes_content, text_content}
use Rattle.cbor4ii_tree.specs.{Basis.InputError.{sign_name, kind_name}, declared.value.Value.Bytes}
use Rattle.cbor4ii_tree.specs.declared.value.Value.{Text}
use Rattle.cbor4ii_tree.proofs.{values.InRange.text_encoding, values.Heads.string_rejects}
use Rattle.cbor4ii_tree.proofs.values.Heads.{text_rejects, bytes_reads, text_reads, int_rejects}
use Rattle.cbor4ii_tree.proofs.values.Heads.{leaf_read, leaf_rejected, negative_reads}
use Rattle.cbor4ii_tree.proofs.{values.Heads.{unsigned_reads, head_at}, values.Sequences.passed}
use Rattle.cbor4ii_tree.proofs.values.Sequences.{passed_memory, no_want}
use Rattle.cbor4ii_tree.proofs.any_encoding.AnyEncodingEncodings.read_leaf.Goals as goal

pub returns-in_err-decode-in-0-clause-does : goal.returns-in_err-decode-in-0-clause-does
returns-in_err-decode-in-0-clause-does g c =
    passed _ c.from_residual.ensures.1 (leaf_rejected false c.args.first (RejectsUnsigned (sign_name
    unsigned) 8)
    (λ bs z rest h. int_rejects (g.S.Source.view c.args.reader.now).budget unsigned c.args.first bs
    z rest c.in-0.is h) c.in_err-decode-in-0.ensures.moves c.in_err-decode-in-0.ensures.begins)

pub returns-in_err-number-in-1-clause-does : goal.returns-in_err-number-in-1-clause-does
returns-in_err-number-in-1-clause-does g c =
    passed _ c.from_residual-in_err-number-in-1.ensures.1 (leaf_rejected false c.args.first
    (RejectsNegative (sign_name negative) 8)
    (λ bs z rest h. int_rejects (g.S.Source.view c.args.reader.now).budget negative c.args.first bs
    z rest c.in-1.is h) c.in_err-number-in-1.ensures.moves c.in_err-number-in-1.ensures.begins)

pub returns-in_err-decode-in-2-clause-does : goal.returns-in_err-decode-in-2-clause-does
returns-in_err-decode-in-2-clause-does g c =
    passed _ c.from_residual-in_err-decode-in-2.ensures.1 (leaf_rejected false c.args.first
    (RejectsString (kind_name byte_string) 2) (λ bs
    z rest h. string_rejects (g.S.Source.view c.args.reader.now).budget byte_string c.args.first bs
    z rest c.in-2.is h) c.in_err-decode-in-2.ensures.moves c.in_err-decode-in-2.ensures.begins)

pub returns-in_err-decode-in_default-clause-does : goal.returns-in_err-decode-in_default-clause-does
returns-in_err-decode-in_default-clause-does g c =
    let major : c.args.first / 32 ≡ 3 = omega (arith, c.requires.major, c.in_default) in
    passed _ c.from_residual-in_err-decode-in_default.ensures.1 (leaf_rejected false c.args.first
    (RejectsText (kind_name text_string))
    (λ bs z rest h. text_rejects (g.S.Source.view c.args.reader.now).budget c.args.first bs z rest
    major h) c.in_err-decode-in_default.ensures.moves c.in_err-decode-in_default.ensures.begins)

pub returns-in_ok-decode-in-0-clause-does : goal.returns-in_ok-decode-in-0-clause-does
returns-in_ok-decode-in-0-clause-does g c =
    leaf_read false (ReadsUnsigned 8) _ (λ xs n k _ r. unsigned_reads false
    (g.S.Source.view c.args.reader.now).budget c.in_ok-decode-in-0.field-0 xs (drop n xs)
    (head_at false 0 c.in_ok-decode-in-0.field-0 xs n r.0 (λ e. cc)))
    c.in_ok-decode-in-0.ensures.moves c.in_ok-decode-in-0.ensures.sound

pub returns-in_ok-number-in-1-clause-does : goal.returns-in_ok-number-in-1-clause-does
returns-in_ok-number-in-1-clause-does g c =
    leaf_read false (ReadsNegative 8) _ (λ xs n k _ r. negative_reads false
    (g.S.Source.view c.args.reader.now).budget c.in_ok-number-in-1.number.0 xs (drop n xs)
    (head_at false 1 c.in_ok-number-in-1.number.0 xs n r.0 (λ e. cc)))
    c.in_ok-number-in-1.ensures.moves c.in_ok-number-in-1.ensures.sound

pub returns-in_ok-decode-in-2-clause-does : goal.returns-in_ok-decode-in-2-clause-does
returns-in_ok-decode-in-2-clause-does g c =
    leaf_read false (ReadsAs 2 bytes_content) (Bytes c.in_ok-decode-in-2.field-0.0) (λ xs n k fits
    r. bytes_reads (g.S.Source.view c.args.reader.now).budget c.in_ok-decode-in-2.field-0.0 xs n k
    fits r) c.in_ok-decode-in-2.ensures.moves c.in_ok-decode-in-2.ensures.sound

pub returns-in_ok-decode-in_default-clause-does : goal.returns-in_ok-decode-in_default-clause-does
returns-in_ok-decode-in_default-clause-does g c =
    leaf_read false (ReadsTextAs text_content) (Text c.in_ok-decode-in_default.field-0)
    (λ xs n k fits r. text_reads (g.S.Source.view c.args.reader.now).budget
    c.in_ok-decode-in_default.field-0 xs n k fits r.0 r.1)
    c.in_ok-decode-in_default.ensures.moves c.in_ok-decode-in_default.ensures.sound

pub returns-in_ok-decode-in_default-clause-item : goal.returns-in_ok-decode-in_default-clause-item
returns-in_ok-decode-in_default-clause-item g c = text_encoding c.in_ok-decode-in_default.field-0

pub returns-in_err-decode-in-0-clause-memory :
    goal.returns-in_err-decode-in-0-clause-memory
returns-in_err-decode-in-0-clause-memory g c =
    passed_memory _ _ c.from_residual.ensures.1 (λ want. absurd (no_want
    c.in_err-decode-in-0.ensures.memory want))

pub returns-in_err-number-in-1-clause-memory :
    goal.returns-in_err-number-in-1-clause-memory
returns-in_err-number-in-1-clause-memory g c =
    passed_memory _ _ c.from_residual-in_err-number-in-1.ensures.1 (λ want. absurd (no_want
    c.in_err-number-in-1.ensures.memory want))

pub returns-in_err-decode-in-2-clause-memory :
    goal.returns-in_err-decode-in-2-clause-memory
returns-in_err-decode-in-2-clause-memory g c =
    passed_memory _ _ c.from_residual-in_err-decode-in-2.ensures.1 (λ want. inl c.in-2.is)

pub returns-in_err-decode-in_default-clause-memory :
    goal.returns-in_err-decode-in_default-clause-memory
returns-in_err-decode-in_default-clause-memory g c =
    passed_memory _ _ c.from_residual-in_err-decode-in_default.ensures.1 (λ want. inr (omega (
      arith,
      c.requires.major,
      c.in_default,
    )))
