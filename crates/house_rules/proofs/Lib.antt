pub mod Invariant
pub mod Lists
pub mod Calls
pub mod Statements
