-- `CowSlice<u8>` as the logic sees it: its row, and the row's laws.
use base.Fml.{Lft}
use denote.Builtin.{u8}
use denote.Param.Laws.{Laws}
use denote.RattleType.{RattleType}
use mir.Syntax.{erased}
use Rattle.std.specs.contracts.alloc.Global as Global
use Rattle.std.specs.contracts.impls.GlobalAllocator.TheImpl.{ghosts}
use Rattle.std.proofs.alloc.Global.TheLaws as GlobalLaws
use Rattle.std.specs.contracts.borrow.CowSlice as CowSlice
use Rattle.std.proofs.borrow.CowSlice.TheLaws as CowSliceLaws
use Rattle.cbor4ii_items.specs.Laws.Forward.{byte_laws}

abbrev pub slice_row : Lft → RattleType
slice_row κ = CowSlice.the_row (record { mir = erased; lft = κ }) u8 Global.the_row ghosts

pub slice_laws : (κ : Lft) → Laws (slice_row κ)
slice_laws κ =
    CowSliceLaws.the_row_laws (record { mir = erased; lft = κ }) u8 Global.the_row ghosts byte_laws
    GlobalLaws.the_row_laws
