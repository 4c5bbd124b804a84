pub mod Secrets
pub mod Wraps
pub mod Exact
pub mod Joins
pub mod Trims
pub mod Buffers
pub mod Laws
