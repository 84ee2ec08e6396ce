pub mod Changes
pub mod Paths
