use Rattle.std.proofs.Common.{refl}
use Rattle.cbor4ii_items.proofs.Passed.{decodes_passed}
use Rattle.cbor4ii_items.proofs.Containers.{tag_head_err, tag_ok, tag_err}
use Rattle.cbor4ii_items.proofs.tag.TagDecode.decode.Goals as goal

pub returns-in_err-number : goal.returns-in_err-number
returns-in_err-number g c =
    decodes_passed _ c.from_residual.ensures.1 (tag_head_err g.T.Decodable.format
    c.in_err-number.ensures.decodes)

pub returns-in-Ok : goal.returns-in-Ok
returns-in-Ok g c =
    tag_ok g.T.Decodable.format c.in_ok-number.ensures.decodes refl refl c.in-Ok.ensures

pub returns-in-Err : goal.returns-in-Err
returns-in-Err g c =
    tag_err g.T.Decodable.format c.in_ok-number.ensures.decodes c.in-Err.ensures
