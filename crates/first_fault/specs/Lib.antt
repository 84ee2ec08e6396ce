pub mod FirstFault
pub mod Machine
