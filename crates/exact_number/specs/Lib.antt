pub mod WideForms
pub mod Scaling
pub mod Sizes
