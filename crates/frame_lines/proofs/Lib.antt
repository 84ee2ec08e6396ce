pub mod Zeros
pub mod Agree
