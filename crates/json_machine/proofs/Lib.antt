pub mod Words
pub mod Signs
pub mod Keys
pub mod Leads
pub mod Runs
pub mod Dues
pub mod Decided
