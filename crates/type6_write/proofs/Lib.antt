-- Laws of the writer of Type 6 tags.
pub mod Laying
pub mod Preparing
