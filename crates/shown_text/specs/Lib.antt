pub mod Printable
pub mod Html
pub mod Pieces
