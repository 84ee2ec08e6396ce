pub mod Zero
pub mod Lines
