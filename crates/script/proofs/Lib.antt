pub mod Writing
pub mod Listing
pub mod Returning
pub mod Parting
pub mod Restoring
