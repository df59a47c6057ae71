-- Laws of the writer of lists.
pub mod Laying
pub mod Guarding
pub mod Plans
pub mod Picking
pub mod Ends
