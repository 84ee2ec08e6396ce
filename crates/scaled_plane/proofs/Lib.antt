pub mod DrawnSizes
pub mod After
pub mod Multiples
pub mod Denominators
pub mod Widths
pub mod Conjugates
pub mod Quotients
