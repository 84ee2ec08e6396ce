pub mod Sheets
pub mod Known
