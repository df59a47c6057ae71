-- Views of the code that writes records.
pub mod Sizes
pub mod Laying
