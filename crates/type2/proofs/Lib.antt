-- Laws about the definitions of `type2`, and what the code needs of them. Nothing here states a rule.
pub mod Memory
pub mod Refusing
pub mod Codec
pub mod Laws
pub mod Encoding
pub mod Reading
pub mod Deciding
pub mod Modelling
pub mod Holding
pub mod Keeping
