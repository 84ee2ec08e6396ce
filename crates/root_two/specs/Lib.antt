pub mod Descent
pub mod Roots
pub mod Quotients
