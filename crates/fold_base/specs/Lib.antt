pub mod formers
pub mod Outside
pub mod Pieces
pub mod Plan
pub mod Memory
pub mod Calm
pub mod Letter
pub mod Streams
