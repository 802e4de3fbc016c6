pub mod AllRecords
pub mod FirstRecord
pub mod OneAnswer
pub mod OneMore
pub mod Outputs
pub mod Steps
