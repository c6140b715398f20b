use Rattle.std.proofs.{Common.sym, lemmas.Result.err_from_is_err_and}
use Rattle.cbor4ii_tree.proofs.canonical.Once.{canonical_ok, canonical_err, canonical_only}
use Rattle.cbor4ii_tree.proofs.canonical.Once.{canonical_all, takes_encoding, canonical_every}
use Rattle.cbor4ii_tree.proofs.canonical.Once.{canonical_prefix, canonical_exact, rejected_all}
use Rattle.cbor4ii_tree.proofs.canonical.Once.{rejected_every, rejected_prefix, rejected_eof}
use Rattle.cbor4ii_tree.proofs.canonical.Once.{rejected_depth, rejected_never, rejected_others}
use Rattle.cbor4ii_tree.proofs.canonical.Once.{rejected_value, rejected_exact}
use Rattle.cbor4ii_tree.proofs.decode_canonical.CanonicalDecode.decode.Goals as goal

pub returns : goal.returns
returns g c =
    let given = rw (sym c.in_ok-whole.ensures) at c.read_outermost-value.ensures in
    let does = given.does in
    record {
      decodes = canonical_ok does given.gains;
      only = canonical_only does;
      all = canonical_all does;
      encoding = takes_encoding does;
      every = canonical_every does;
      prefix = canonical_prefix does;
      eof = λ xs known. tt;
      depth = λ xs known. tt;
      never = λ xs known. tt;
      others = λ xs known. tt;
      exact = canonical_exact does;
      value = λ xs known. tt;
      asks = given.memory;
    }

pub returns-in_err-whole : goal.returns-in_err-whole
returns-in_err-whole g c =
    let p = err_from_is_err_and c.from_residual.result c.from_residual.ensures.1 in
    let given = rw (sym c.in_err-whole.ensures) at c.read_outermost-value.ensures in
    let does = given.does in
    rw (p.1, p.2) (record {
      decodes = canonical_err does;
      only = λ xs known. tt;
      all = rejected_all does;
      encoding = λ xs known. tt;
      every = rejected_every does;
      prefix = rejected_prefix does;
      eof = rejected_eof does;
      depth = rejected_depth does;
      never = rejected_never does;
      others = rejected_others does;
      exact = rejected_exact does;
      value = rejected_value does;
      asks = given.memory;
    })
