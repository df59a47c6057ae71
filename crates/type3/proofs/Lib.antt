-- Laws about the definitions of `type3`, and what the code needs of them. Nothing here states a rule.
pub mod Codec
pub mod Message
pub mod Update
pub mod Shown
pub mod Laws
pub mod Between
pub mod Summing
pub mod Reading
pub mod Deciding
pub mod Holding
pub mod Keeping
