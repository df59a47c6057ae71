-- Laws that laying the list of a Type 3 tag needs.
pub mod Cutting
pub mod MessageBlocks
pub mod Comparing
pub mod AttributeInformation
pub mod Laying
pub mod Dealing
pub mod StoredBlocks
pub mod ListBytes
