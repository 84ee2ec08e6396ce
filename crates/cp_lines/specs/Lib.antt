pub mod CpText
pub mod FaultText
pub mod Machine
pub mod Place
pub mod Print
pub mod Reads
pub mod Short
