pub mod Replying
pub mod Doing
pub mod Breaking
pub mod Taking
pub mod Telling
pub mod Alone
pub mod Exact
mod Lefts
mod DigitTables
mod DigitBlocks
mod DigitLanes
