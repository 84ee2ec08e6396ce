pub mod Touching
pub mod Stretches
mod Drawing
