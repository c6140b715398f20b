use Rattle.std.proofs.{Common.{◌≡◌, [], Some, ◌∙◌, sym}, lemmas.List.append-nil}
use Rattle.cbor4ii_rw.specs.Input.{limit}
use Rattle.cbor4ii_tree.specs.{Basis.Canonical.canonical_encoding, Laws.WholeInputs.value_is_whole}
use Rattle.cbor4ii_tree.specs.{Laws.WholeInputs.canonical_is_whole, Basis.View.view}
use Rattle.cbor4ii_tree.proofs.encodings.CanonicalShape.{equal_iff_bytes, reads_canonically_iff}
use Rattle.cbor4ii_tree.proofs.laws.whole_inputs_are_encodings.Goals as goal

pub returns : goal.returns
returns c = record {
  value = value_is_whole;
  canonical = λ xs v.
      let iff = reads_canonically_iff xs (Some limit) (view v.0) [] in
      let whole = canonical_is_whole xs v in
      let ends = append-nil (canonical_encoding (view v.0)) in (
        λ w. let d = iff.0 (whole.0 w) in (d.0, d.1, d.2 ∙ ends),
        λ w. whole.1 (iff.1 (w.0, w.1, w.2 ∙ sym ends)),
      );
  equal = λ s t v w a b.
      let p = (canonical_is_whole s v).0 a in
      let q = (canonical_is_whole t w).0 b in
      let same = equal_iff_bytes p.encoding q.encoding (view v.0) (view w.0) p.steps q.steps
      p.encodes q.encodes in
      let left : s ≡ p.encoding = p.begins ∙ append-nil p.encoding in
      let right : t ≡ q.encoding = q.begins ∙ append-nil q.encoding in
      (λ e. left ∙ same.0 e ∙ sym right, λ e. same.1 (sym left ∙ e ∙ right));
}
