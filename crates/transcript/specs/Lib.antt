pub mod Counts
pub mod Events
pub mod Pieces
pub mod Progress
pub mod Transcript
pub mod Work
