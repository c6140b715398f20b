use Rattle.std.proofs.Common.{true, false, IsTrue}
use Rattle.cbor4ii_items.specs.Lent.{lent_str, lent_bytes, lent_unchecked}
use Rattle.cbor4ii_items.specs.Strings.{text_content}
use Rattle.cbor4ii_items.specs.Laws.LeavesBack.{string_back, text_back, lent_back}
use Rattle.cbor4ii_items.proofs.laws.strings_are_read_back.Goals as goal

pub returns : goal.returns
returns g c = record {
  bytes = λ v h. lent_back lent_bytes v h 2 false (λ (f : IsTrue false). absurd (cc));
  unchecked = λ v h. lent_back lent_unchecked v h 3 false (λ (f : IsTrue false). absurd (cc));
  text = λ v h utf8. lent_back lent_str v h 3 true (λ _. utf8);
  owned_text = text_back text_content;
  content = λ major content v h. string_back content v h major;
  utf8_content = text_back;
}
