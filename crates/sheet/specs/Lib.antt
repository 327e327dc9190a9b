pub mod Sheet
pub mod Writing
pub mod Comparing
pub mod CircuitSheet
