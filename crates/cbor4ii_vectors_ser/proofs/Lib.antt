-- A text of no piece.
pub mod NoPieces
