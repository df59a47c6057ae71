-- The TLV area of a tag: areas, and the walk to the message TLV. Read the files in this order.
pub mod Areas
pub mod Walk
pub mod Views
