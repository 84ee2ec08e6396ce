pub mod Found
pub mod Spans
pub mod Letters
pub mod Covers
