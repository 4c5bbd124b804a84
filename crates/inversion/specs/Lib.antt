pub mod Places
pub mod Leading
pub mod Division
pub mod Euclid
pub mod Inverse
