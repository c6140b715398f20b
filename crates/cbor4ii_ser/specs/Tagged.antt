-- What is written for a tagged value, and that it is one item.
use Rattle.std.proofs.Common.{ℕ, ◌<◌, ◌^◌, ◌++◌, ap}
use Rattle.cbor4ii_items.specs.Head.{shortest_width}
use Rattle.cbor4ii_items.specs.Numbers.{shortest_head}
use Rattle.cbor4ii_tree.specs.Basis.Tree.{tagged}
use Rattle.cbor4ii_ser.specs.Item.{Encoding, encoded, rejected, one_then}
use Rattle.cbor4ii_ser.specs.OneItem.{Form, IsOneItem}
use Rattle.cbor4ii_ser.specs.Laws.OneItem.{tag_formed}

-- the head of a tag, and the item that it tags (RFC 8949 section 3.4)
abbrev pub tagged_encoding : ℕ → Encoding → Encoding
tagged_encoding number item = one_then (encoded (shortest_head 6 number)) item

-- a tag before an item is an item
pub tagged_is_item : (form : Form) (number : ℕ) (item : Encoding) → number < 2 ^ 64
    → IsOneItem form item → IsOneItem form (tagged_encoding number item)
unfolding one_then
tagged_is_item form number (rejected bytes words) small one = tt
tagged_is_item form number (encoded bytes) small one = record {
  of_tree = tagged number (shortest_width number) one.of_tree;
  formed = tag_formed form number one.of_tree small one.formed;
  bytes_are = ap (λ zs. shortest_head 6 number ++ zs) one.bytes_are;
}
