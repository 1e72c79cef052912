pub mod Colours
pub mod Names
pub mod House
pub mod Changes
