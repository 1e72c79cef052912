pub mod AllYes
pub mod ScoreLines
pub mod SameRefusals
pub mod Sums
