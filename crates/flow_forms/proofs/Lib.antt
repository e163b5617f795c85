pub mod Records
pub mod Values
pub mod NoFloats
pub mod Listed
