pub mod Rationals
pub mod WholeNumbers
