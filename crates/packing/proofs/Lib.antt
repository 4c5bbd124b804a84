pub mod Below
pub mod Positional
pub mod Trips
pub mod KeyTrips
pub mod Filling
pub mod Entries
pub mod Streams
pub mod Takes
