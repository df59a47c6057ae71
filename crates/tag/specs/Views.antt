-- Views of the code that every type of tag shares. They state what its functions promise each other.
pub mod Held
pub mod Judging
pub mod Picked
