mod AnyRight
mod Comes
mod NeverComes
mod Placed
