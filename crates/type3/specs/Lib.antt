-- The definitions of Type 3 tags. Read them in this order.
pub mod AttributeInformation
pub mod Message
pub mod Update
pub mod Codec
pub mod Type3
pub mod Views
