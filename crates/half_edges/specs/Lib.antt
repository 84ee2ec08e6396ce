pub mod Halves
pub mod Cycles
