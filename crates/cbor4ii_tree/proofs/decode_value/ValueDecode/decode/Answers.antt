use Rattle.cbor4ii_tree.proofs.answers.Promises.{only_reads, all_reads, prefix_reads, eof_reads}
use Rattle.cbor4ii_tree.proofs.answers.Promises.{depth_reads, final_reads, others_reads, size_reads}
use Rattle.cbor4ii_tree.proofs.answers.Promises.{exact_reads, skips_reads, canonical_reads}
use Rattle.cbor4ii_tree.proofs.{answers.Promises.value_decodes, values.Sequences.gives_fall}
use Rattle.cbor4ii_tree.proofs.decode_value.ValueDecode.decode.Goals as goal

pub returns : goal.returns
returns g c =
    let given = c.read_outermost-value.ensures in
    let does = given.does in
    rw c.whole.ensures (record {
      decodes = value_decodes _ does (gives_fall given);
      only = only_reads _ does;
      all = all_reads _ does;
      prefix = prefix_reads _ does;
      eof = eof_reads _ does;
      depth = depth_reads _ does;
      never = final_reads _ does;
      others = others_reads _ does;
      size = size_reads _ does;
      exact = exact_reads _ does;
      skips = skips_reads _ does;
      asks = given.memory;
      item = given.ranged;
      canonical = canonical_reads _ does given.ranged;
    })
