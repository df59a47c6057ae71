-- Views of the code that works on the usable bytes of a TLV area.
pub mod Values
