pub mod Classes
pub mod Complete
pub mod Leads
pub mod Places
pub mod Prints
pub mod Readings
pub mod SmallKinds
pub mod Short
