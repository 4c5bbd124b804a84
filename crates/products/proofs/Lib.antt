pub mod Embeddings
pub mod Fronts
pub mod Obeying
pub mod Reducing
