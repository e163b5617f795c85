pub mod Entries
pub mod Passing
pub mod Pieces
pub mod Printed
