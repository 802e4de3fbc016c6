pub mod Laws
pub mod Lines
pub mod Orders
pub mod Requests
pub mod Rules
pub mod Transcripts
