-- The definitions that every type of tag shares. Read them in this order.
pub mod Bytes
pub mod Refusals
pub mod Checks
pub mod Version
pub mod Reading
pub mod Stores
pub mod Plan
pub mod TagType
pub mod Judge
pub mod Model
pub mod Cuts
pub mod Answers
pub mod PublicContracts
pub mod Views
