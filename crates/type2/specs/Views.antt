-- Views of the code of Type 2 tags.
pub mod Container
pub mod Kept
pub mod Reading
