pub mod ExactParts
pub mod Answered
pub mod NegatedForms
pub mod WholeSizes
pub mod Scaled
pub mod WholeFits
