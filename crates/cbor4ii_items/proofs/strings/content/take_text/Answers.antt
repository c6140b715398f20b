use Rattle.std.proofs.Common.{ℕ, refl, ap, sym}
use Rattle.std.specs.declared.vec.Vec.{Vec}
use Rattle.std.specs.declared.alloc.Global.{Global}
use Rattle.std.proofs.lemmas.Str.{IsUtf8-had}
use Rattle.cbor4ii_items.proofs.Passed.{decodes_passed}
use Rattle.cbor4ii_items.specs.Strings.{text_content}
use Rattle.cbor4ii_items.proofs.StringAnswers.{text_ok, text_err, utf8_err}
use Rattle.cbor4ii_items.proofs.strings.content.take_text.Goals as goal

pub returns-in_err-lone_string : goal.returns-in_err-lone_string
returns-in_err-lone_string g c =
    decodes_passed _ c.from_residual.ensures.1 (text_err c.args.name.now text_content
    c.in_err-lone_string.ensures)

pub returns-in-Ok : goal.returns-in-Ok
returns-in-Ok g c =
    text_ok c.args.name.now text_content (ap (λ (v : Vec ℕ Global). v.items) (sym
    c.in-Ok.ensures.ok))
    (IsUtf8-had c.in-Ok.text.bytes.items c.in-Ok.text.ok) c.in_ok-lone_string.ensures

pub returns : goal.returns
returns g c =
    utf8_err c.args.name.now text_content refl (λ u. let f = c.in-Err.ensures.succeeds u in cc)
    c.in_ok-lone_string.ensures
