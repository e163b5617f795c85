pub mod Crossing
mod FirstTimes
mod Refused
mod AnyOfMapped
mod DueMore
