-- Laws about the definitions of `tlv`, and what the code needs of them. Nothing here states a rule.
pub mod Locality
pub mod Sizes
pub mod Fuel
pub mod Skipping
pub mod Counted
pub mod Ends
pub mod Tests
pub mod Usable
pub mod Rising
pub mod PassedValues
pub mod Turns
pub mod Steps
pub mod SkipTable
pub mod Finding
pub mod Specimens
pub mod Nested
