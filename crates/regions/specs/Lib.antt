pub mod Faces
pub mod Triangle
