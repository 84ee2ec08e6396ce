pub mod Causes
pub mod Feeds
pub mod Kept
pub mod KeyPlaces
pub mod Opened
pub mod Readings
pub mod Scalars
pub mod Within
