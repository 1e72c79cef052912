pub mod Calls
pub mod Houses
pub mod Said
pub mod Edges
pub mod RefusalsAtTheirEdges
pub mod ThirdWorkedHistory
