-- Laws about the definitions of `type6`, and what the code needs of them. Nothing here states a rule.
pub mod Message
pub mod Shown
pub mod Update
pub mod Codec
pub mod Laws
pub mod Counts
pub mod Reading
pub mod Deciding
pub mod Keeping
pub mod Holding
pub mod Encoding
pub mod Modelling
