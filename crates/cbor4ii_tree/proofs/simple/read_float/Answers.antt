use Rattle.std.proofs.Common.{rules}
use Rattle.std.proofs.{Common.{arith, refl, w8}, Math.Facts.Fits-lt-pow}
use Rattle.cbor4ii_items.specs.Initial.{half, single, double}
use Rattle.cbor4ii_tree.proofs.values.Heads.{float_read, float_rejected, no_value, view-F16}
use Rattle.cbor4ii_tree.proofs.{values.Heads.{view-F32, view-F64}, values.Sequences.passed}
use Rattle.cbor4ii_tree.proofs.values.Sequences.{not_wanted, passed_memory, no_want}
use Rattle.cbor4ii_tree.proofs.simple.read_float.Goals as goal

-- where encodings are free

pub returns-in_ok-decode-in-249-clause-does : goal.returns-in_ok-decode-in-249-clause-does
returns-in_ok-decode-in-249-clause-does g c canonical =
    float_read _ _ (λ v. v.0) _ (view-F16 _) c.in_ok-decode-in-249.ensures.moves
    c.in_ok-decode-in-249.ensures.sound

pub returns-in_ok-decode-in-250-clause-does : goal.returns-in_ok-decode-in-250-clause-does
returns-in_ok-decode-in-250-clause-does g c canonical =
    float_read _ _ (λ v. v.0) _ (view-F32 _) c.in_ok-decode-in-250.ensures.moves
    c.in_ok-decode-in-250.ensures.sound

pub returns-in_ok-decode-in-251-clause-does : goal.returns-in_ok-decode-in-251-clause-does
returns-in_ok-decode-in-251-clause-does g c canonical =
    float_read _ _ (λ v. v.0) _ (view-F64 _) c.in_ok-decode-in-251.ensures.moves
    c.in_ok-decode-in-251.ensures.sound

pub returns-in_err-decode-in-249-clause-does : goal.returns-in_err-decode-in-249-clause-does
returns-in_err-decode-in-249-clause-does g c canonical =
    passed _ c.from_residual.ensures.1 (float_rejected canonical half c.args.first c.in-249.is
    c.in_err-decode-in-249.ensures.moves c.in_err-decode-in-249.ensures.begins)

pub returns-in_err-decode-in-250-clause-does : goal.returns-in_err-decode-in-250-clause-does
returns-in_err-decode-in-250-clause-does g c canonical =
    passed _ c.from_residual-in_err-decode-in-250.ensures.1 (float_rejected canonical single
    c.args.first c.in-250.is
    c.in_err-decode-in-250.ensures.moves c.in_err-decode-in-250.ensures.begins)

pub returns-in_err-decode-in-251-clause-does : goal.returns-in_err-decode-in-251-clause-does
returns-in_err-decode-in-251-clause-does g c canonical =
    passed _ c.from_residual-in_err-decode-in-251.ensures.1 (float_rejected canonical double
    c.args.first c.in-251.is
    c.in_err-decode-in-251.ensures.moves c.in_err-decode-in-251.ensures.begins)

pub returns-in_default-clause-does : goal.returns-in_default-clause-does
returns-in_default-clause-does g c canonical =
    no_value canonical c.args.first c.requires.major (Fits-lt-pow {w = w8} c.ranges.first)
    c.requires.other
    (λ h. omega (arith, h)) (λ h. omega (arith, h)) (λ h. omega (arith, h)) refl refl refl

pub returns-in_err-decode-in-249-clause-memory : goal.returns-in_err-decode-in-249-clause-memory
returns-in_err-decode-in-249-clause-memory g c =
    passed_memory _ _ c.from_residual.ensures.1 (no_want c.in_err-decode-in-249.ensures.memory)

pub returns-in_err-decode-in-250-clause-memory : goal.returns-in_err-decode-in-250-clause-memory
returns-in_err-decode-in-250-clause-memory g c = search (rules, passed_memory, no_want)

pub returns-in_err-decode-in-251-clause-memory : goal.returns-in_err-decode-in-251-clause-memory
returns-in_err-decode-in-251-clause-memory g c = search (rules, passed_memory, no_want)

pub returns-in_default-clause-memory : goal.returns-in_default-clause-memory
returns-in_default-clause-memory g c = not_wanted
