pub mod FaultsOf
pub mod Labels
pub mod ReadTables
pub mod Room
