-- What follows from the laws for every type of tag.
pub mod Held
pub mod Cutting
