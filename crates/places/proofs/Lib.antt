pub mod BookLaws
pub mod Outgoing
pub mod RowParts
