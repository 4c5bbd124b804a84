pub mod Octets
pub mod Rings
pub mod Inverses
pub mod Keys
pub mod Wrappings
