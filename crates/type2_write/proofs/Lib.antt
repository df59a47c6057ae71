-- Laws of the writer of Type 2 tags.
pub mod Shutting
pub mod Preparing
