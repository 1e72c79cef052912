pub mod Limits
pub mod Questions
pub mod Did
pub mod Ranges
pub mod Sums
pub mod TextLines
