pub mod Descents
pub mod DescentsOfThree
pub mod Signs
pub mod Forms
pub mod Numbers
pub mod Quotients
