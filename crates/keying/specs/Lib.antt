pub mod KeyLaw
pub mod Keys
pub mod Told
pub mod Drafts
pub mod Keying
