pub mod KeyLemmas
pub mod Readings
