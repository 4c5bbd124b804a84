pub mod Books
pub mod Replies
pub mod Lines
pub mod Checks
pub mod Changes
pub mod Views
