-- Type 6 tags. Read the files in this order.
pub mod Container
pub mod Message
pub mod Update
pub mod Codec
pub mod Type6
pub mod CodecContracts
pub mod Views
