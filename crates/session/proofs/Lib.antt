pub mod Answered
pub mod Arms
pub mod Asking
pub mod Breaks
pub mod Promising
pub mod Replies
pub mod Speaking
pub mod Understood
