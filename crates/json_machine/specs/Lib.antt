pub mod WordScan
pub mod Machine
pub mod Due
