pub mod Answers
pub mod Contents
pub mod Phases
pub mod Progress
pub mod Reading
pub mod Records
pub mod Texts
pub mod Writing
