pub mod Digits
pub mod Answers
pub mod Reading
pub mod Laws
