-- Tags with a TLV area: reading and writing a message there, then views of the code. Read the files in this order.
pub mod Message
pub mod Update
pub mod Tag
pub mod Views
