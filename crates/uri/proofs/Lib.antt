-- Laws about URIs and their prefixes, and what the code needs of them. Nothing here states a rule.
pub mod Choosing
pub mod Expanding
pub mod Distinct
pub mod Theorems
pub mod Specimens
pub mod Table
