-- Laws about records, and what the code needs of them. Nothing here states a rule.
pub mod Sound
pub mod Turns
pub mod Tables
pub mod Bits
pub mod Testing
pub mod Placing
pub mod Reaching
pub mod Filling
pub mod HeaderForms
pub mod HeaderBack
pub mod HeaderLeast
pub mod ListBack
pub mod Least
pub mod Written
pub mod Theorems
pub mod Specimens
