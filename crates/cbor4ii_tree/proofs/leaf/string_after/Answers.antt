use Rattle.std.proofs.{lemmas.List.take_rest, lemmas.Str.IsUtf8-string_bytes, Common.{◌∙◌, sym, ap}}
use Rattle.std.proofs.Common.{arith, take, string_bytes}
use Rattle.cbor4ii_items.specs.Initial.{byte_string, text_string}
use Rattle.cbor4ii_tree.proofs.values.InRange.{bytes_item_is, text_encoding}
use Rattle.cbor4ii_tree.proofs.values.Heads.{string_ahead, fresh_shown, view-Bytes, view-Text}
use Rattle.cbor4ii_tree.proofs.leaf.string_after.Goals as goal

pub returns-in-Ok : goal.returns-in-Ok
returns-in-Ok c =
    string_ahead _ _ _ _ (omega arith) (fresh_shown _ c.type_inv.trailing) c.requires.argument
    byte_string _ _ c.in-Ok.bytes.items (omega arith) (omega arith) (omega arith)
    (c.in-Ok.ensures.items ∙ ap (take c.args.number) (take_rest c.args.trailing.now c.args.size)) tt
    (sym (view-Bytes _)) (bytes_item_is _)

pub returns-in-Ok-from_str : goal.returns-in-Ok-from_str
returns-in-Ok-from_str c =
    string_ahead _ _ _ _ (omega arith) (fresh_shown _ c.type_inv.trailing) c.requires.argument
    text_string _ _ (string_bytes c.in-Ok-from_str.text) (omega arith) (omega arith) (omega arith)
    (c.in-Ok-from_str.ensures.ok ∙ c.in-Ok-from_utf8.ensures.cases.0 ∙ ap (take c.args.number)
    (take_rest c.args.trailing.now c.args.size))
    (IsUtf8-string_bytes c.in-Ok-from_str.text) (sym (view-Text _)) (text_encoding _)
