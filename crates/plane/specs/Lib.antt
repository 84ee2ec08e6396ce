pub mod Points
pub mod Lines
pub mod Segments
pub mod Directions
