-- Views of the walk's code: how its structs are read as the definitions have them, and what its functions ask of each other.
pub mod Table
pub mod Areas
pub mod Counted
pub mod Search
pub mod Specimens
pub mod Walks
pub mod Passing
pub mod Finding
