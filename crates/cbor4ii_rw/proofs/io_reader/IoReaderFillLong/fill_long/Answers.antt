use Rattle.std.proofs.Common.{refl}
use Rattle.cbor4ii_rw.proofs.LentNone.{end_of_input, lends_none}
use Rattle.cbor4ii_rw.proofs.io_reader.IoReaderFillLong.fill_long.Goals as goal

pub returns-in-Some-empty-clause-fills : goal.returns-in-Some-empty-clause-fills
returns-in-Some-empty-clause-fills g c =
    end_of_input c.look.result c.in-Some-empty.field-0 c.in-Some-empty.is
    c.look.follows.holds-at-none c.in-Some-empty.ensures.prefix c.in-Some-empty.len_below refl

pub returns-in-Some-clause-none : goal.returns-in-Some-clause-none
returns-in-Some-clause-none g c =
    lends_none c.look.result c.in-Some.field-0 c.in-Some.is c.look.follows.holds-at-none
    c.in-Some.ensures.prefix c.in-Some.len_at_least refl
