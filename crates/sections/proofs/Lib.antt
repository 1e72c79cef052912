pub mod Ranges
pub mod Gains
pub mod Entries
pub mod ImpScale
