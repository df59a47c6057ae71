-- The proofs of the demands.
pub mod Demand3
pub mod Capacity
pub mod Demand2
pub mod TooLong
pub mod TooSmall
pub mod LeftOut
pub mod Codecs
pub mod Answered
pub mod ByContract
pub mod CodecsOfCode
pub mod Code2
pub mod Theorems
pub mod Witness
