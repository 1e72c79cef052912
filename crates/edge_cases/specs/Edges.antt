pub mod Make
pub mod Enter
pub mod Post
pub mod Take
pub mod OpenTurn
pub mod Gather
pub mod ReportClose
pub mod File
