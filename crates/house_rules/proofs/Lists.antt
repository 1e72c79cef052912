pub mod Slips
pub mod Puts
pub mod Figures
pub mod Sums
pub mod Totals
pub mod TextLines
