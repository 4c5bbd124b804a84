pub mod Packings
pub mod Returning
pub mod SealAnswers
pub mod Wrappings
