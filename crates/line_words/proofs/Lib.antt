mod Looking
mod Rows
mod Gone
mod Told
pub mod Aloud
pub mod States
