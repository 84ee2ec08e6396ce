pub mod Parents
pub mod Inherits
pub mod Effects
pub mod Answers
pub mod Counts
