use Rattle.std.proofs.Common.{refl}
use Rattle.std.specs.Cow.{IsOwnedStr}
use Rattle.std.specs.Prelude.{codes}
use Rattle.cbor4ii_items.specs.Cow.{cow_text}
use Rattle.cbor4ii_items.specs.Decoding.{leaf_format, taking_memory}
use Rattle.cbor4ii_items.specs.Strings.{ReadsText, RejectsText}
use Rattle.cbor4ii.proofs.Handed.{copied}
use Rattle.cbor4ii.proofs.serde.de.strings.Deserializer+IoReader+R.deserialize_str.Goals as goal

pub returns-clause-item : goal.returns-clause-item
returns-clause-item g c =
    copied (taking_memory (leaf_format ReadsText (RejectsText (codes "str")))) cow_text cow_text
    IsOwnedStr refl (λ w. (w, refl)) c.take_item-found.result c.copied_text.result
    c.copied_text.ensures c.take_item-found.ensures
