pub mod LookedOn
pub mod Seeing
