-- The definitions of Type 2 tags. Read the files in this order.
pub mod Memory
pub mod Codec
pub mod Type2
pub mod CodecContracts
pub mod Views
