pub mod Kept
pub mod Faults
pub mod Repaired
pub mod Cutting
pub mod Narrow
