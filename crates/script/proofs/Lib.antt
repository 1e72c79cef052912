pub mod Cells
pub mod Digits
pub mod Plays
pub mod Scores
pub mod Written
