pub mod Drafts
pub mod Refusals
pub mod Requests
pub mod Rows
pub mod Slots
