-- Views of the code of Type 6 tags.
pub mod Container
pub mod Space
pub mod Kept
