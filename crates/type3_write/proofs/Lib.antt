-- Laws that the code of the Type 3 writer needs.
pub mod Writing
