pub mod First
pub mod Judging
pub mod Rankings
