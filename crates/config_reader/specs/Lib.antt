pub mod Among
pub mod ConfigOf
pub mod Room
