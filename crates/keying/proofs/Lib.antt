pub mod Inverting
pub mod KeyLaws
pub mod Residual
pub mod Tellings
pub mod TiedKeys
