pub mod Asking
pub mod Widths
